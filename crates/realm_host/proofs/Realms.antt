-- Proofs that the attributes of a build's realm are those read at the realm's RD.
use Rattle.std.proofs.Common.{◌≡◌, ℕ, ◌<◌, length, Option, Some, None, refl, sym, ap, ◌∙◌, subst}
use Rattle.std.specs.Prelude.{option_map, option_and_then, unwrap_or}
use Rattle.std.proofs.lemmas.Option.{same_Some}
use Rattle.realm_model.specs.Machine.{Machine, Cell, RealmRow, Seen, cell_at}
use Rattle.realm_model.specs.World.{World, realm_of}
use Rattle.realm_model.specs.Running.{next_number}
use Rattle.realm_model.proofs.Reached.{sized_reached}
use Rattle.realm_model.proofs.RealmOf.{IsAt, IsAt-realm_of}
use Rattle.rmi_monitor.specs.Attributes.{RealmAttributes}
use Rattle.rmi_monitor.specs.View.{MonitorView, attributes_of}
use Rattle.realm_model.specs.Places.{rd_of}
use Rattle.host_ledger.specs.View.{HostView, world_of}
use Rattle.realm_host.specs.Host.{IsWhole}
use Rattle.realm_host.specs.Readings.{row_of}

-- the realm that `row_of` gives for a build is the one that the machine keeps at the granule of the build's RD
pub row_at_rd : (world : World) (build rd : ℕ) → rd_of build world ≡ Some rd → row_of world build ≡ (cell_at world.machine rd).descriptor
row_at_rd world build rd is = at (realm_of build world) (IsAt-realm_of build world) is
  where
    at : (o : Option Seen) → IsAt world.machine o → option_map (λ (s : Seen). s.number) o ≡ Some rd
        → option_and_then (λ (s : Seen). s.cell.descriptor) o ≡ (cell_at world.machine rd).descriptor
    at None there e = cc
    at (Some s) there e =
        sym (ap (λ (c : Cell). c.descriptor) there) ∙ ap (λ (n : ℕ). (cell_at world.machine n).descriptor) (same_Some _ _ e)

no_row_by_rd : (world : World) (build : ℕ) → rd_of build world ≡ None → row_of world build ≡ None
no_row_by_rd world build is = at (realm_of build world) is
  where
    at : (o : Option Seen) → option_map (λ (s : Seen). s.number) o ≡ None → option_and_then (λ (s : Seen). s.cell.descriptor) o ≡ None
    at None e = refl
    at (Some s) e = cc

-- `next_number` of a build's realm is the next REC's number in the realm that `row_of` gives, or 0 if the build has no
-- realm
pub next_is : (world : World) (build : ℕ) → next_number (realm_of build world) ≡ unwrap_or (option_map (λ (realm : RealmRow). realm.next) (row_of world build)) 0
next_is world build = at (realm_of build world)
  where
    by_row : (d : Option RealmRow) → elim d [ Some realm ↦ realm.next | None ↦ 0 ] ≡ unwrap_or (option_map (λ (realm : RealmRow). realm.next) d) 0
    by_row None = refl
    by_row (Some realm) = refl

    at : (o : Option Seen) → next_number o ≡ unwrap_or (option_map (λ (realm : RealmRow). realm.next) (option_and_then (λ (rd : Seen). rd.cell.descriptor) o)) 0
    at None = refl
    at (Some rd) = by_row rd.cell.descriptor

module _ (ledger : HostView) (monitor : MonitorView) (whole : IsWhole ledger monitor) (now : HostView) (view_is : ledger ≡ now) where
  pub long : length monitor.machine ≡ ledger.limits.pages
  long = ap length whole.mirror.machine ∙ (sized_reached ledger.limits ledger.history (world_of ledger) whole.mirror.world_is).machine

  -- a granule below the host's `limits.pages` is inside the RMM's machine
  pub inside : (granule : ℕ) → granule < now.limits.pages → granule < length monitor.machine
  inside granule below = subst (λ n. granule < n) (sym long) (subst (λ (h : HostView). granule < h.limits.pages) (sym view_is) below)

  module _ (build : ℕ) where
    pub rd_inside : (rd : ℕ) → rd < ledger.limits.pages → rd < length monitor.machine
    rd_inside rd below = subst (λ n. rd < n) (sym long) below

    pub there_is : (rd : ℕ) (told : Option RealmAttributes) → Some rd ≡ rd_of build (world_of ledger) → told ≡ option_map attributes_of (cell_at monitor.machine rd).descriptor
        → told ≡ option_map attributes_of (row_of (world_of now) build)
    there_is rd told rd_is is =
        is ∙ ap (λ (m : Machine). option_map attributes_of (cell_at m rd).descriptor) whole.mirror.machine
        ∙ ap (option_map attributes_of) (sym (row_at_rd (world_of ledger) build rd (sym rd_is)))
        ∙ ap (λ (h : HostView). option_map attributes_of (row_of (world_of h) build)) view_is

    pub none_by_rd : None ≡ rd_of build (world_of ledger) → None ≡ option_map attributes_of (row_of (world_of now) build)
    none_by_rd none =
        sym (ap (option_map attributes_of) (no_row_by_rd (world_of ledger) build (sym none)))
        ∙ ap (λ (h : HostView). option_map attributes_of (row_of (world_of h) build)) view_is

    pub none_there : realm_of build (world_of ledger) ≡ None → None ≡ option_map attributes_of (row_of (world_of now) build)
    none_there none = none_by_rd (sym (ap (option_map (λ (rd : Seen). rd.number)) none))
