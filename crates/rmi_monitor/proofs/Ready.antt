-- The proof that an operation that meets both requirements on a build's command (`IsAsked`, `HasFewEvents`) can be
-- performed.
use Rattle.std.proofs.Common.{◌≡◌, ℕ, ◌<◌, Bool, List, [], ◌∷◌, length, Option, Some, None, refl, sym, ap, ◌∙◌, subst, arith}
use Rattle.std.specs.Prelude.{option_map, slice_get}
use Rattle.std.specs.List.{All}
use Rattle.std.proofs.lemmas.Option.{slice_get_within}
use Rattle.std.proofs.lemmas.List.Elements.{All-nil, All-cons, All-head, All-tail}
use Rattle.page_arena.specs.Page.{is_free}
use Rattle.realm_model.specs.declared.act.Act.{Act}
use Rattle.realm_model.specs.declared.act.Act.TheVariants.{Rec}
use Rattle.realm_model.specs.declared.act.Event.{Event}
use Rattle.realm_model.specs.declared.states.GranuleState.TheVariants.{Rec as InRec}
use Rattle.realm_model.specs.Machine.{Limits, Machine, RecRow, Cell, Seen, cell_at}
use Rattle.realm_model.specs.Act.{named}
use Rattle.realm_model.specs.Ownership.{granules_of_rec}
use Rattle.realm_model.specs.Roles.{AsRec, target}
use Rattle.realm_model.specs.World.{World, realm_of}
use Rattle.realm_model.specs.History.{acts_of}
use Rattle.realm_model.proofs.Leases.{leased}
use Rattle.realm_model.proofs.Reachable.{reachable_worlds}
use Rattle.realm_model.proofs.RealmNumbers.{rec_numbers_are_bounded}
use Rattle.realm_model.proofs.RealmOf.{IsAt, IsAt-realm_of, IsHeld, IsHeld-realm_of}
use Rattle.rmi_monitor.specs.View.{MonitorView, IsTaken, IsRec}
use Rattle.realm_model.specs.declared.act.RealmAndRec.{RealmAndRec}
use Rattle.rmi_monitor.specs.Performing.{realm_on, HasNextNumber, IsNumberReady, IsRecReadyAt, IsTakenAt}
use Rattle.realm_model.specs.Places.{rec_named, rec_granule, IsRecOf, rd_of}
use Rattle.rmi_monitor.specs.Mirror.{IsMirror, HasFewEvents, AskedIsReady}
use Rattle.rmi_monitor.proofs.Flags.{taken_flag}
use Rattle.rmi_monitor.proofs.OnRecs.{is_rec}
use Rattle.rmi_monitor.proofs.Forward.{realm_seen}

module _ (limits : Limits) (history : List Event) (world : World) (monitor : MonitorView) (mirror : IsMirror limits history world monitor) (build : ℕ) where
  -- a granule that the build leases is inside the machine, and not free
  taken : (granule : ℕ) → slice_get world.leases granule ≡ Some (Some build) → IsTaken monitor granule
  taken granule lease =
      let sound = reachable_worlds limits history world mirror.world_is in
      let within = slice_get_within world.leases granule (Some build) lease in
      let long : length monitor.machine ≡ length world.machine = ap length mirror.machine in
      record {
        inside = omega (arith, sound.cells, sound.leases, long, within);
        taken = ap (λ (flags : List Bool). is_free flags granule) mirror.free ∙ taken_flag world.leases granule build lease;
      }

  pub all_taken : (gs : List ℕ) → All (λ g. slice_get world.leases g ≡ Some (Some build)) gs → All (IsTaken monitor) gs
  all_taken [] all = All-nil (IsTaken monitor)
  all_taken (g ∷ gs) all =
      All-cons (IsTaken monitor) g gs (taken g (All-head (λ g. slice_get world.leases g ≡ Some (Some build)) g gs all))
      (all_taken gs (All-tail (λ g. slice_get world.leases g ≡ Some (Some build)) g gs all))

  -- the lease of a REC's granule is the same as that of the realm's RD
  rec_lease : (rd number granule : ℕ) → IsRec monitor.machine rd number granule → slice_get world.leases granule ≡ slice_get world.leases rd
  rec_lease rd number granule is =
      let sound = reachable_worlds limits history world mirror.world_is in
      let there : (cell_at world.machine rd).descriptor ≡ Some is.realm = ap (λ (m : Machine). (cell_at m rd).descriptor) (sym mirror.machine) ∙ is.there in
      let named_so : target is.realm (AsRec number) ≡ Some (granule, InRec) =
      ap (λ (o : Option RecRow). option_map (λ (rec : ℕ × List ℕ). (rec.0, InRec)) (option_map granules_of_rec o)) is.numbered ∙ (λ i. Some (is.is i, InRec)) in
      (sound.names rd is.realm there (AsRec number) granule InRec named_so).2

  -- if the build leases the RD of a realm, the granule of a REC of this realm is not free
  rec_taken : (realm : Option Seen) → IsHeld build world.leases realm → (number : ℕ) (rec : Option ℕ)
      → rec ≡ rec_granule (realm_on monitor (option_map (λ (rd : Seen). rd.number) realm)) number → IsTakenAt monitor rec
  rec_taken realm held number None is = tt
  rec_taken None held number (Some granule) is = cc
  rec_taken (Some rd) held number (Some granule) is =
      taken granule (rec_lease rd.number number granule (is_rec monitor rd.number number granule is) ∙ leased (Some build) world.leases rd.number held)

  pub rec_ready : (number rec : Option ℕ) → IsRecOf (realm_of build world) number rec → IsRecReadyAt monitor (rd_of build world) number rec
  rec_ready None rec is = tt
  rec_ready (Some number) rec is =
      let seen_so = is ∙ ap (λ o. rec_granule o number) (sym (realm_seen limits history world monitor mirror build)) in
      record { is = seen_so; taken = rec_taken (realm_of build world) (IsHeld-realm_of build world) number rec seen_so }

  realm_taken_at : (realm : Option Seen) → IsHeld build world.leases realm → IsTakenAt monitor (option_map (λ (rd : Seen). rd.number) realm)
  realm_taken_at None held = tt
  realm_taken_at (Some rd) held = taken rd.number (leased (Some build) world.leases rd.number held)

  pub realm_taken : IsTakenAt monitor (rd_of build world)
  realm_taken = realm_taken_at (realm_of build world) (IsHeld-realm_of build world)

  -- a realm has a number for one more REC, if its build has fewer than 65,535 events
  next_number_at : length (acts_of build history) < 65535 → (realm : Option Seen) → realm_of build world ≡ realm → IsAt world.machine realm
      → HasNextNumber monitor (option_map (λ (rd : Seen). rd.number) realm)
  next_number_at few None is at = tt
  next_number_at few (Some rd) is at = λ realm there.
      let row : rd.cell.descriptor ≡ Some realm = ap (λ (c : Cell). c.descriptor) (sym at) ∙ ap (λ (m : Machine). (cell_at m rd.number).descriptor) (sym mirror.machine) ∙ there in
      let most = rec_numbers_are_bounded limits history world build mirror.legal mirror.world_is rd realm is row in
      omega arith

  pub number_ready : (act : Act) → HasFewEvents history build act → IsNumberReady monitor (rd_of build world) act
  number_ready (Rec granule auxiliaries number) few = next_number_at few (realm_of build world) refl (IsAt-realm_of build world)
  number_ready _ few = tt

pub asked_is_ready : (limits : Limits) (history : List Event) (world : World) (monitor : MonitorView) (build : ℕ) (act : Act) (place : RealmAndRec)
    → AskedIsReady limits history world monitor build act place
asked_is_ready limits history world monitor build act place mirror at asked few = record {
  command = asked.command;
  granules = all_taken limits history world monitor mirror build (named act) asked.granules;
  realm = subst (IsTakenAt monitor) (sym at.realm) (realm_taken limits history world monitor mirror build);
  number = subst (λ o. IsNumberReady monitor o act) (sym at.realm) (number_ready limits history world monitor mirror build act few);
  rec = subst (λ o. IsRecReadyAt monitor o (rec_named act) place.rec) (sym at.realm) (rec_ready limits history world monitor mirror build (rec_named act) place.rec at.rec);
}
