-- Proofs that a single write keeps each realm and its fixed attributes, if it replaces no RD, or replaces one by an RD
-- with the same fixed attributes.
use Rattle.std.proofs.Common.{◌≡◌, ◌≢◌, ℕ, ◌<◌, false, length, refl, sym, ap, ◌∙◌, ⊎_elim}
use Rattle.std.proofs.lemmas.Bool.{cases_eq, both_ways}
use Rattle.rmm_model.specs.declared.granule.RmmGranule.{RmmGranule}
use Rattle.rmm_model.specs.declared.granule.RmmGranuleState.TheVariants.{Rd}
use Rattle.rmm_model.specs.declared.realm.RmmRealm.{RmmRealm}
use Rattle.rmm_model.specs.Granule.{of_no_realm}
use Rattle.rmm_model.specs.Machine.{Machine, granule_at, with_granule}
use Rattle.rmm_laws.specs.Owner.{is_rd}
use Rattle.rmm_laws.specs.State.{fixed, IsLasting}
use Rattle.rmm_laws.proofs.States.{same_realm}
use Rattle.rmm_laws.proofs.Writes.{granule_at-same, granule_at-other, taken_inside}

-- each realm still exists, with the same fixed attributes
abbrev pub Lasts : Machine → Machine → Type 0
Lasts m n = (g : ℕ) (realm : RmmRealm) → (granule_at m g).state ≡ Rd realm → IsLasting n g realm

pub lasts_all : (m : Machine) → Lasts m m
lasts_all m g realm is = (realm, is, refl)

-- writing a granule that was no RD keeps each realm
pub lasts_plain : (m k : Machine) (x : ℕ) (kept : RmmGranule) → is_rd (granule_at k x).state ≡ false → Lasts m k → Lasts m (with_granule k x kept)
lasts_plain m k x kept plain lasts g realm is =
    let old = lasts g realm is in
    let other : g ≢ x = λ same. both_ways (is_rd (granule_at k x).state) plain (ap (λ (y : ℕ). is_rd (granule_at k y).state) (sym same) ∙ ap is_rd old.1) in
    (old.0, ap (λ (r : RmmGranule). r.state) (granule_at-other k x g kept other) ∙ old.1, old.2)

-- replacing an RD's realm by one with the same fixed attributes keeps each realm
pub lasts_realm : (m k : Machine) (x : ℕ) (old new : RmmRealm) → (granule_at k x).state ≡ Rd old → fixed new ≡ fixed old → Lasts m k → Lasts m (with_granule k x (of_no_realm (Rd new)))
lasts_realm m k x old new is same lasts g realm was =
    let before = lasts g realm was in
    ⊎_elim
    (λ (here : g ≡ x).
    let it : before.0 ≡ old = same_realm (sym before.1 ∙ ap (λ (y : ℕ). (granule_at k y).state) here ∙ is) in
    let within : x < length k.granules = taken_inside k x (λ none. cc) in (
      new,
      ap (λ (y : ℕ). (granule_at (with_granule k x (of_no_realm (Rd new))) y).state) here ∙ ap (λ (r : RmmGranule). r.state) (granule_at-same k x (of_no_realm (Rd new)) within),
      same ∙ sym (ap fixed it) ∙ before.2,
    ))
    (λ (other : g ≢ x). (before.0, ap (λ (r : RmmGranule). r.state) (granule_at-other k x g (of_no_realm (Rd new)) other) ∙ before.1, before.2))
    (cases_eq g x)
