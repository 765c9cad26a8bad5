-- Proofs that the host's tests of a recorded event decide whether the values in the event agree with the machine, and
-- whether the build leases the event's granules.
use Rattle.std.proofs.Common.{◌≡◌, ℕ, ◌<◌, ◌≤◌, Bool, true, false, List, [], length, Option, Some, None, Ok, Err, refl, sym, ap, ◌∙◌, subst, arith}
use Rattle.std.specs.Prelude.{◌&&◌, nat_eq, nat_lt, if◌then◌else◌, slice_index, option_map, option_and_then, is_none, is_some, not}
use Rattle.std.specs.Bool.{OnFalse}
use Rattle.std.specs.List.{list_all}
use Rattle.std.specs.Option.{option_eq}
use Rattle.std.proofs.lemmas.Bool.{ltb-true}
use Rattle.std.proofs.lemmas.Option.{slice_get_past}
use Rattle.std.proofs.lemmas.List.Elements.{All-head}
use Rattle.arrayvec.specs.declared.array_vec.ArrayVec.{ArrayVec}
use Rattle.granule_addr.specs.declared.width.Root.{Root}
use Rattle.realm_model.specs.declared.act.Act.{Act}
use Rattle.realm_model.specs.declared.act.Act.TheVariants.{Take, UnTake, Fill, Peek, Delegate, Undelegate, Realm, UnRealm, Rtt, UnRtt, Data, Unknown, UnData, Rec, UnRec}
use Rattle.realm_model.specs.declared.rmi.Rmi.{Rmi}
use Rattle.realm_model.specs.Machine.{Machine, RealmRow, Seen, seen, cell_at}
use Rattle.realm_model.specs.Act.{is_command, named, is_reverse}
use Rattle.realm_model.specs.Update.{Outcome}
use Rattle.realm_model.specs.Outcome.{outcome_of, fits}
use Rattle.realm_model.specs.Command.Granule.{host_peek}
use Rattle.realm_model.specs.Step.{named_cells, outcome_in}
use Rattle.realm_model.specs.World.{same_lease, is_leased_to, realm_of}
use Rattle.realm_model.specs.Undoing.{by}
use Rattle.realm_model.proofs.Booleans.{true_false}
use Rattle.realm_model.proofs.Leases.{all_leased}
use Rattle.realm_model.proofs.Reached.{sized_reached}
use Rattle.realm_model.proofs.StepSays.{step_is}
use Rattle.rmi_monitor.specs.Attributes.{RealmAttributes}
use Rattle.rmi_monitor.specs.View.{MonitorView, IsTaken, Answers, seen_in, attributes_of}
use Rattle.realm_model.specs.Places.{rd_of}
use Rattle.rmi_monitor.proofs.Ready.{all_taken}
use Rattle.host_ledger.specs.View.{HostView, world_of}
use Rattle.realm_host.specs.Acting.{IsNoStep}
use Rattle.realm_host.specs.Host.{IsWhole}
use Rattle.realm_host.specs.Readings.{row_of}

-- ---- builds

pub build_there : (inside host : HostView) (build : ℕ) → inside ≡ host → true ≡ nat_lt build inside.limits.builds → build < host.limits.builds
build_there inside host build same there = ltb-true build host.limits.builds (subst (λ (h : HostView). nat_lt build h.limits.builds ≡ true) same (sym there))

-- ---- leases

-- if a number is not that of a granule, it is at least the machine's number of granules, which is at most 4,096
none_of_number : (number pages : ℕ) → pages ≤ 4096 → None ≡ (if nat_lt number 4096 && nat_lt number pages then Some number else None) → pages ≤ number
none_of_number number pages few none = search (arith, none, few)

module _ (ledger : HostView) (monitor : MonitorView) (whole : IsWhole ledger monitor) (now : HostView) (view_is : ledger ≡ now) (build : ℕ) where
  long : length monitor.machine ≡ length (world_of ledger).leases
  long =
      let sized = sized_reached ledger.limits ledger.history (world_of ledger) whole.mirror.world_is in
      ap length whole.mirror.machine ∙ sized.machine ∙ sym sized.leases

  -- the build leases no granule that the machine does not have
  pub none_leased : (number pages : ℕ) → pages ≡ length monitor.machine → pages ≤ 4096 → None ≡ (if nat_lt number 4096 && nat_lt number pages then Some number else None)
      → false ≡ is_leased_to (Some build) (world_of now).leases number
  none_leased number pages pages_is few none =
      let past : length (world_of ledger).leases ≤ number = subst (λ n. n ≤ number) (pages_is ∙ long) (none_of_number number pages few none) in
      ap (λ o. option_eq same_lease o (Some (Some build))) (sym (slice_get_past (world_of ledger).leases number past))
      ∙ ap (λ (h : HostView). is_leased_to (Some build) (world_of h).leases number) view_is

  -- the granule that a Peek reads is in the machine, and is not free, if the build leases it
  pub peeked_taken : (act : Act) (granule offset byte : ℕ) → act ≡ Peek granule offset byte → list_all (is_leased_to (Some build) (world_of now).leases) (named act) ≡ true → IsTaken monitor granule
  unfolding named
  peeked_taken act granule offset byte is leased =
      let there : list_all (is_leased_to (Some build) (world_of ledger).leases) (named (Peek granule offset byte)) ≡ true =
      ap (λ (a : Act). list_all (is_leased_to (Some build) (world_of ledger).leases) (named a)) (sym is)
      ∙ ap (λ (h : HostView). list_all (is_leased_to (Some build) (world_of h).leases) (named act)) view_is ∙ leased in
      let granules = all_leased (Some build) (world_of ledger).leases (named (Peek granule offset byte)) there in
      All-head (IsTaken monitor) granule []
      (all_taken ledger.limits ledger.history (world_of ledger) monitor whole.mirror build (named (Peek granule offset byte)) granules)

-- ---- the values in an operation

-- the values in the operation, such as the byte of a Peek, agree with the machine and the build's realm
abbrev says : HostView → ℕ → Act → Bool
says host build act = fits act (realm_of build (world_of host)) (named_cells (world_of host) act)

-- an operation whose values do not agree with the machine is not possible in the host's world
pub no_step : (host : HostView) (build : ℕ) (act : Act) (answer : Bool) → answer ≡ says host build act → OnFalse answer (IsNoStep host build act)
no_step host build act true is = search
no_step host build act false is =
    λ next stepped. absurd (true_false _ (step_is host.limits (world_of host) next (by build act) stepped).fitting (sym is))

alone : (b : Bool) → b && true ≡ b
alone true = refl
alone false = refl

module _ (ledger : HostView) (monitor : MonitorView) (whole : IsWhole ledger monitor) (now : HostView) (view_is : ledger ≡ now) (build : ℕ) (act : Act) where
  machine_is : monitor.machine ≡ (world_of now).machine
  machine_is = whole.mirror.machine ∙ ap (λ (h : HostView). (world_of h).machine) view_is

  -- the values of a Peek agree with the machine exactly if its byte is the one that is read
  pub byte_said : (granule offset byte found : ℕ) → act ≡ Peek granule offset byte → found ≡ slice_index (cell_at monitor.machine granule).bytes offset → nat_eq found byte ≡ says now build act
  unfolding fits named
  byte_said granule offset byte found is read =
      ap (λ n. nat_eq n byte) (read ∙ ap (λ (m : Machine). slice_index (cell_at m granule).bytes offset) machine_is)
      ∙ sym (alone _) ∙ ap (λ (a : Act). says now build a) (sym is)

  -- a Peek is not possible in the host's world if the RMM refuses to read the byte
  pub no_read : (granule offset byte : ℕ) (rmi : Rmi) → act ≡ Peek granule offset byte → Answers {A = ℕ} (Err rmi) (host_peek (seen_in monitor granule)) → IsNoStep now build act
  unfolding outcome_of named
  no_read granule offset byte rmi is refused next stepped =
      let done = step_is now.limits (world_of now) next (by build act) stepped in
      let peeked : host_peek (seen (world_of now).machine granule) ≡ Ok done.updates =
      ap (λ (a : Act). outcome_in now.limits (world_of now) (by build a)) (sym is) ∙ done.outcome in
      let here : host_peek (seen_in monitor granule) ≡ Ok done.updates = ap (λ (m : Machine). host_peek (seen m granule)) machine_is ∙ peeked in
      subst (λ (o : Outcome). Answers {A = ℕ} (Err rmi) o) here refused

  -- the values of a Realm operation agree with the machine exactly if the build has no realm
  pub none_said : (rd : ℕ) (root : Root) (vmid : ℕ) (told : Option ℕ) (answer : Bool) → act ≡ Realm rd root vmid → told ≡ rd_of build (world_of ledger)
      → is_some told ≡ not answer → answer ≡ says now build act
  unfolding fits
  none_said rd root vmid told answer is told_is answered =
      answer_is told answer answered ∙ ap is_none told_is ∙ by_rd (realm_of build (world_of ledger))
      ∙ ap (λ (h : HostView). is_none (realm_of build (world_of h))) view_is ∙ ap (λ (a : Act). says now build a) (sym is)
    where
      answer_is : (o : Option ℕ) (b : Bool) → is_some o ≡ not b → b ≡ is_none o
      answer_is None true e = refl
      answer_is None false e = cc
      answer_is (Some rd) true e = cc
      answer_is (Some rd) false e = refl

      by_rd : (o : Option Seen) → is_none (option_map (λ (s : Seen). s.number) o) ≡ is_none o
      by_rd None = refl
      by_rd (Some s) = refl

-- there is a realm, and its next REC has the given number
abbrev is_next : ℕ → Option RealmAttributes → Bool
is_next number None = false
is_next number (Some realm) = nat_eq number realm.next

module _ (now : HostView) (build : ℕ) (act : Act) (granule : ℕ) (auxiliaries : ArrayVec ℕ 16 (Unit {0})) (number : ℕ) (is : act ≡ Rec granule auxiliaries number) where
  by_row : (d : Option RealmRow) → is_next number (option_map attributes_of d) ≡ elim d [ Some realm ↦ nat_eq number realm.next | None ↦ false ]
  by_row None = refl
  by_row (Some realm) = refl

  by_realm : (o : Option Seen) (cells : List Seen) → is_next number (option_map attributes_of (option_and_then (λ (s : Seen). s.cell.descriptor) o)) ≡ fits (Rec granule auxiliaries number) o cells
  unfolding fits
  by_realm None cells = refl
  by_realm (Some rd) cells = by_row rd.cell.descriptor

  -- the values of a Rec operation agree with the machine exactly if its number is that of the realm's next REC
  pub number_said : (told : Option RealmAttributes) → told ≡ option_map attributes_of (row_of (world_of now) build) → is_next number told ≡ says now build act
  number_said told told_is =
      ap (is_next number) told_is ∙ by_realm (realm_of build (world_of now)) (named_cells (world_of now) (Rec granule auxiliaries number))
      ∙ ap (λ (a : Act). says now build a) (sym is)

-- the values of a command always agree with the machine, unless the command is a reverse, a Peek, a Realm or a Rec
module _ (act : Act) (forward : is_reverse act ≡ false) (command : is_command act ≡ true)
    (not_peek : (granule offset byte : ℕ) → act ≡ Peek granule offset byte → ⊥)
    (not_realm : (rd : ℕ) (root : Root) (vmid : ℕ) → act ≡ Realm rd root vmid → ⊥)
    (not_rec : (granule : ℕ) (auxiliaries : ArrayVec ℕ 16 (Unit {0})) (number : ℕ) → act ≡ Rec granule auxiliaries number → ⊥) where
  fits_as : (a : Act) → act ≡ a → (realm : Option Seen) (cells : List Seen) → fits a realm cells ≡ true
  unfolding fits is_reverse
  fits_as (UnTake order first) is realm cells = absurd (true_false _ (ap is_reverse is) forward)
  fits_as (Undelegate granule) is realm cells = absurd (true_false _ (ap is_reverse is) forward)
  fits_as (UnRealm rd root vmid) is realm cells = absurd (true_false _ (ap is_reverse is) forward)
  fits_as (UnRtt granule ipa level) is realm cells = absurd (true_false _ (ap is_reverse is) forward)
  fits_as (UnData granule ipa) is realm cells = absurd (true_false _ (ap is_reverse is) forward)
  fits_as (UnRec granule auxiliaries number) is realm cells = absurd (true_false _ (ap is_reverse is) forward)
  fits_as (Peek granule offset byte) is realm cells = absurd (not_peek granule offset byte is)
  fits_as (Realm rd root vmid) is realm cells = absurd (not_realm rd root vmid is)
  fits_as (Rec granule auxiliaries number) is realm cells = absurd (not_rec granule auxiliaries number is)
  fits_as _ is realm cells = refl

  pub fits_else : (realm : Option Seen) (cells : List Seen) → fits act realm cells ≡ true
  fits_else realm cells = fits_as act refl realm cells

  -- a command that is no reverse, Peek, Realm or Rec names no granule, unless it is a Fill, Delegate, Rtt, Data or
  -- Unknown
  module _ (not_fill : (granule value : ℕ) → act ≡ Fill granule value → ⊥) (not_delegate : (granule : ℕ) → act ≡ Delegate granule → ⊥)
      (not_rtt : (granule ipa level : ℕ) → act ≡ Rtt granule ipa level → ⊥) (not_data : (granule ipa source : ℕ) → act ≡ Data granule ipa source → ⊥)
      (not_unknown : (granule ipa : ℕ) → act ≡ Unknown granule ipa → ⊥) where
    named_as : (a : Act) → act ≡ a → named a ≡ []
    unfolding named is_reverse
    named_as (Take order first) is = absurd (true_false _ command (ap is_command is))
    named_as (UnTake order first) is = absurd (true_false _ (ap is_reverse is) forward)
    named_as (Undelegate granule) is = absurd (true_false _ (ap is_reverse is) forward)
    named_as (UnRealm rd root vmid) is = absurd (true_false _ (ap is_reverse is) forward)
    named_as (UnRtt granule ipa level) is = absurd (true_false _ (ap is_reverse is) forward)
    named_as (UnData granule ipa) is = absurd (true_false _ (ap is_reverse is) forward)
    named_as (UnRec granule auxiliaries number) is = absurd (true_false _ (ap is_reverse is) forward)
    named_as (Peek granule offset byte) is = absurd (not_peek granule offset byte is)
    named_as (Realm rd root vmid) is = absurd (not_realm rd root vmid is)
    named_as (Rec granule auxiliaries number) is = absurd (not_rec granule auxiliaries number is)
    named_as (Fill granule value) is = absurd (not_fill granule value is)
    named_as (Delegate granule) is = absurd (not_delegate granule is)
    named_as (Rtt granule ipa level) is = absurd (not_rtt granule ipa level is)
    named_as (Data granule ipa source) is = absurd (not_data granule ipa source is)
    named_as (Unknown granule ipa) is = absurd (not_unknown granule ipa is)
    named_as _ is = refl

    pub none_named : named act ≡ []
    none_named = named_as act refl
