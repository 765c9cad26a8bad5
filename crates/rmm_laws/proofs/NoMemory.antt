-- Proofs that a guest access to a protected address without memory gets an SEA or causes an exit, and writes nothing.
-- An address is without memory if its RIPAS is not RAM, or if its walk ends at an entry that is not live.
use Rattle.std.proofs.Common.{◌≡◌, ℕ, ◌+◌, ◌^◌, ◌⊎◌, Bool, true, false, Err, refl, ap, ◌∙◌, ⊎_elim}
use Rattle.std.specs.Prelude.{not, if◌then◌else◌}
use Rattle.std.proofs.lemmas.Bool.{cond-false, cond-true, lt-ltb}
use Rattle.rmm_model.specs.declared.access.AccessSize.{AccessSize}
use Rattle.rmm_model.specs.declared.entry.RmmRttEntry.{RmmRttEntry}
use Rattle.rmm_model.specs.declared.entry.RmmRttEntry.TheVariants.{Unassigned, Assigned, Table, UnassignedNs, AssignedNs}
use Rattle.rmm_model.specs.declared.realm.RmmRealm.{RmmRealm}
use Rattle.rmm_model.specs.declared.realm.RttWalk.{RttWalk}
use Rattle.rmm_model.specs.declared.rec.LastExit.TheVariants.{Other}
use Rattle.rmm_model.specs.declared.step.GuestStep.TheVariants.{Write, Read, Fetch}
use Rattle.rmm_model.specs.declared.step.StepOutcome.{StepOutcome}
use Rattle.rmm_model.specs.declared.step.StepOutcome.TheVariants.{Result as IsResult, Exit as IsExit}
use Rattle.rmm_model.specs.declared.step.StepResult.TheVariants.{Sea}
use Rattle.rmm_model.specs.Access.{low_bytes}
use Rattle.rmm_model.specs.Entry.{is_live, is_ram, ripas_in}
use Rattle.rmm_model.specs.Machine.{Machine}
use Rattle.rmm_model.specs.Realm.{is_in_space, is_protected}
use Rattle.rmm_model.specs.Step.{abort, access, after_write, fetched, is_empty, is_memory, protected_access, read_outcome, tried}
use Rattle.rmm_model.specs.Walk.{entry_at, walk}
use Rattle.rmm_model.specs.Command.RecEnter.{step_outcome, after_step}
use Rattle.rmm_laws.specs.Ripas.{IsWithoutMemory, outcome_without_memory}
use Rattle.rmm_laws.proofs.Mappings.{protected_within}

no_memory : (e : RmmRttEntry) → is_ram (ripas_in e) ≡ false → is_memory e ≡ false
no_memory (Assigned ripas address) none = none
no_memory (Unassigned ripas) none = refl
no_memory (Table address) none = refl
no_memory UnassignedNs none = refl
no_memory (AssignedNs desc) none = refl

dead_memory : (e : RmmRttEntry) → is_live e ≡ false → is_memory e ≡ false
dead_memory (Unassigned ripas) dead = refl
dead_memory UnassignedNs dead = refl
dead_memory (Table address) dead = refl
dead_memory (AssignedNs desc) dead = refl
dead_memory (Assigned ripas address) dead = absurd (cc)

refused : (m : Machine) (class : ℕ) (e : RmmRttEntry) (level ipa : ℕ) → (is_ram (ripas_in e) ≡ false) ⊎ (is_live e ≡ false)
    → protected_access m class e level ipa ≡ Err (if is_empty (ripas_in e) then IsResult Sea else IsExit (abort (class + 4 + level) ipa) Other)
refused m class e level ipa none = cond-false (is_memory e) _ _ (⊎_elim (no_memory e) (dead_memory e) none)

module _ (m : Machine) (realm : RmmRealm) (ipa : ℕ) (none : IsWithoutMemory m realm ipa) where
  no_access : (writes : Bool) (size : AccessSize) (value : ℕ) → access m realm ipa writes size value ≡ Err (outcome_without_memory m realm 0x90000000 ipa)
  unfolding access
  no_access writes size value =
      let found : RttWalk = walk m realm ipa 3 in
      let within : not (is_in_space realm ipa) ≡ false = ap not (lt-ltb ipa (2 ^ realm.s2sz) (protected_within realm ipa none.0)) in
      cond-false (not (is_in_space realm ipa)) _ _ within ∙ cond-true (is_protected realm ipa) _ _ none.0 ∙ refused m 0x90000000 (entry_at m found ipa) found.level ipa none.1

  no_fetch : fetched m realm ipa ≡ Err (outcome_without_memory m realm 0x80000000 ipa)
  unfolding fetched
  no_fetch =
      let found : RttWalk = walk m realm ipa 3 in
      cond-true (is_protected realm ipa) _ _ none.0 ∙ refused m 0x80000000 (entry_at m found ipa) found.level ipa none.1

  pub read_without_memory : (g flags : ℕ) (size : AccessSize) → step_outcome m realm g flags (Read ipa size) ≡ outcome_without_memory m realm 0x90000000 ipa
  unfolding step_outcome
  read_without_memory g flags size = ap (read_outcome m ipa size) (no_access false size 0)

  pub write_without_memory : (g flags value : ℕ) (size : AccessSize) (outcome : StepOutcome)
      → (step_outcome m realm g flags (Write ipa value size) ≡ outcome_without_memory m realm 0x90000000 ipa) × (after_step m realm g (Write ipa value size) outcome ≡ m)
  unfolding step_outcome after_step
  write_without_memory g flags value size outcome =
      (ap tried (no_access true size (low_bytes size value)), ap (after_write m ipa size value) (no_access true size (low_bytes size value)))

  pub fetch_without_memory : (g flags : ℕ) → step_outcome m realm g flags (Fetch ipa) ≡ outcome_without_memory m realm 0x80000000 ipa
  unfolding step_outcome
  fetch_without_memory g flags = ap tried no_fetch
