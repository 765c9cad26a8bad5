-- A proof that a guest step that writes keeps the bytes at all protected addresses, except those of the page that it
-- writes.
use Rattle.std.proofs.Common.{◌≡◌, ◌≢◌, ℕ, ◌/◌, ◌==◌, ◌⊎◌, true, false, List, length, Option, Some, None, Ok, refl, sym, ap, subst, ◌∙◌, ⊎_elim}
use Rattle.std.proofs.lemmas.Bool.{cases_Bool, cases_eq, cond-true, eq-eqb}
use Rattle.rmm_model.specs.declared.access.AccessSize.{AccessSize}
use Rattle.rmm_model.specs.declared.granule.RmmGranule.{RmmGranule}
use Rattle.rmm_model.specs.declared.granule.RmmGranuleState.TheVariants.{Undelegated, Data, Rd, Rec as IsRec}
use Rattle.rmm_model.specs.declared.realm.RmmRealm.{RmmRealm}
use Rattle.rmm_model.specs.declared.step.GuestStep.{GuestStep}
use Rattle.rmm_model.specs.declared.step.GuestStep.TheVariants.{Write}
use Rattle.rmm_model.specs.declared.step.StepOutcome.{StepOutcome}
use Rattle.rmm_model.specs.Access.{low_bytes}
use Rattle.rmm_model.specs.Granule.{of_realm}
use Rattle.rmm_model.specs.Guest.{rec_in, first_step}
use Rattle.rmm_model.specs.Machine.{Machine, granule_at, page_in, number_of}
use Rattle.rmm_model.specs.Realm.{is_protected}
use Rattle.rmm_model.specs.Step.{access}
use Rattle.rmm_model.specs.Command.RecEnter.{step_outcome, after_step, after_first_step}
use Rattle.rmm_laws.specs.Apart.{IsSameAt}
use Rattle.rmm_laws.specs.Location.{Location, location_at, content_of, content_at, IsLocationGiven, KeepsLocations}
use Rattle.rmm_laws.specs.Proper.{IsProperRun}
use Rattle.rmm_laws.proofs.Accesses.{accessed}
use Rattle.rmm_laws.proofs.Aside.{plain_of, written_apart}
use Rattle.rmm_laws.proofs.Contents.{leads_to_data}
use Rattle.rmm_laws.proofs.Guests.{step_then}
use Rattle.rmm_laws.proofs.GuestWrites.{lower_apart}
use Rattle.rmm_laws.proofs.HostAccesses.{upper_apart}
use Rattle.rmm_laws.proofs.LocationTables.{going_locations}
use Rattle.rmm_laws.proofs.Performing.{performed_for}
use Rattle.rmm_laws.proofs.RunContents.{by_passed, not_rec}
use Rattle.rmm_laws.proofs.Writes.{number-same}

module _ (m : Machine) (g flags rd other ipa value x : ℕ) (size : AccessSize) (realm its : RmmRealm) (run : IsProperRun m g) (owned : (granule_at m g).owner ≡ Some rd) (is : (granule_at m rd).state ≡ Rd realm)
    (also : (granule_at m other).state ≡ Rd its) (step : first_step m g ≡ Write ipa value size) (lower : is_protected its x ≡ true)
    (apart : (b : Location) → location_at m its x ≡ Some b → (h : ℕ) → access m realm ipa true size (low_bytes size value) ≡ Ok h → number_of m b.address ≢ h)
    (some : (rec_in m g).step_count ≢ 0) where
  abbrev n : Machine
  n = after_first_step m g flags

  abbrev outcome : StepOutcome
  outcome = step_outcome m realm g flags (first_step m g)

  -- a granule that is neither the REC nor reached by the write stays as it was
  beside : (h : ℕ) → h ≢ g → ((k : ℕ) → access m realm ipa true size (low_bytes size value) ≡ Ok k → h ≢ k) → IsSameAt m (after_first_step m g flags) h
  unfolding after_step
  beside h not_g not_written =
      subst (λ (k : Machine). IsSameAt m k h) (sym (performed_for m rd g flags realm owned is some).1)
      (by_passed m h g not_g (after_step m realm g (first_step m g) outcome) outcome
      (subst (λ (s : GuestStep). IsSameAt m (after_step m realm g s outcome) h) (sym step) (written_apart m ipa value h size (access m realm ipa true size (low_bytes size value)) not_written)))

  still : (granule_at (after_first_step m g flags) other).state ≡ Rd its
  still =
      ap (λ (r : RmmGranule). r.state)
      (beside other
      (λ same. (let rec_is : (granule_at m g).state ≡ IsRec run.1 = run.2 in let states : (granule_at m other).state ≡ (granule_at m g).state = ap (λ (y : ℕ). (granule_at m y).state) same in cc))
      (λ k reaches here.
      let states : (granule_at m other).state ≡ (granule_at m k).state = ap (λ (y : ℕ). (granule_at m y).state) here in
      ⊎_elim
      (λ (ours : granule_at m k ≡ of_realm rd Data). (let state : (granule_at m k).state ≡ Data = ap (λ (r : RmmGranule). r.state) ours in cc))
      (λ (host : (granule_at m k).state ≡ Undelegated). cc)
      (plain_of m run.0.linked rd realm is ipa k (access m realm ipa true size (low_bytes size value)) reaches (accessed m run.0.linked rd realm is ipa true size (low_bytes size value))))).0
      ∙ also

  like : (n.settings ≡ m.settings) × (length n.granules ≡ length m.granules)
  like = step_then m g run (λ (k : Machine). (k.settings ≡ m.settings) × (length k.granules ≡ length m.granules)) (λ w k going. (going.touches.settings, going.touches.count)) flags

  same_place : location_at n its x ≡ location_at m its x
  same_place =
      ⊎_elim
      (λ (same : location_at n its x ≡ location_at m its x). same)
      (λ (never : IsLocationGiven m None other x (location_at m its x) (location_at n its x)). absurd never)
      (step_then m g run (KeepsLocations m None) (λ w k going. going_locations m run.0 w g k going) flags other x its its also still lower)

  same_by : (o : Option Location) → location_at m its x ≡ o → content_of n o ≡ content_of m o
  same_by None there = refl
  same_by (Some b) there =
      let h : ℕ = number_of m b.address in
      let state : (granule_at m h).state ≡ Data = ap (λ (r : RmmGranule). r.state) (leads_to_data m run.0 other its also x lower b there) in
      let kept : page_in n h ≡ page_in m h = (beside h (not_rec m g run h state) (apart b there)).1 in
      ap (λ (k : ℕ). Some (page_in n k)) (number-same m n like.0 like.1 b.address) ∙ ap (λ (p : List ℕ). Some p) kept

  stepped : content_at n its x ≡ content_at m its x
  stepped = ap (content_of n) same_place ∙ same_by (location_at m its x) refl

-- a step that writes leaves the bytes at a protected address unchanged, unless it writes at a protected address of the
-- same realm and page
pub step_written : (m : Machine) (rd other g flags ipa value x : ℕ) (size : AccessSize) (realm its : RmmRealm) → IsProperRun m g → (granule_at m g).owner ≡ Some rd → (granule_at m rd).state ≡ Rd realm → (granule_at m other).state ≡ Rd its
    → first_step m g ≡ Write ipa value size → is_protected its x ≡ true → (is_protected realm ipa ≡ false) ⊎ ((other ≢ rd) ⊎ (x / 4096 ≢ ipa / 4096)) → content_at (after_first_step m g flags) its x ≡ content_at m its x
unfolding after_first_step
step_written m rd other g flags ipa value x size realm its run owned is also step lower apart =
    ⊎_elim
    (λ (none : (rec_in m g).step_count ≡ 0). ap (λ (k : Machine). content_at k its x) (cond-true ((rec_in m g).step_count == 0) m _ (eq-eqb (rec_in m g).step_count 0 none)))
    (λ (some : (rec_in m g).step_count ≢ 0).
    stepped m g flags rd other ipa value x size realm its run owned is also step lower
    (⊎_elim
    (λ (lower_too : is_protected realm ipa ≡ true).
    ⊎_elim
    (λ (upper : is_protected realm ipa ≡ false). upper_apart m other ipa value x size realm its run.0 also upper lower)
    (λ (far : (other ≢ rd) ⊎ (x / 4096 ≢ ipa / 4096)). lower_apart m run.0 rd other ipa value x size realm its is also lower_too lower far)
    apart)
    (λ (upper : is_protected realm ipa ≡ false). upper_apart m other ipa value x size realm its run.0 also upper lower)
    (cases_Bool (is_protected realm ipa)))
    some)
    (cases_eq (rec_in m g).step_count 0)
