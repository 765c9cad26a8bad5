-- Proofs that a single write keeps the states and RIMs of realms, unless it writes another state or RIM.
use Rattle.std.proofs.Common.{◌≡◌, ◌≢◌, ℕ, ◌<◌, ◌⊎◌, inl, inr, false, length, Some, refl, sym, ap, subst, ◌∙◌, ⊎_elim}
use Rattle.std.proofs.lemmas.Bool.{cases_eq, both_ways}
use Rattle.std.proofs.lemmas.List.{length-set}
use Rattle.rmm_model.specs.declared.granule.RmmGranule.{RmmGranule}
use Rattle.rmm_model.specs.declared.granule.RmmGranuleState.TheVariants.{Rd}
use Rattle.rmm_model.specs.declared.realm.RmmRealm.{RmmRealm}
use Rattle.rmm_model.specs.Granule.{of_no_realm, realm_of}
use Rattle.rmm_model.specs.Machine.{Machine, granule_at, with_granule}
use Rattle.rmm_laws.specs.Owner.{is_rd}
use Rattle.rmm_laws.proofs.Writes.{granule_at-same, granule_at-other, taken_inside}

pub same_realm : {a b : RmmRealm} → Rd a ≡ Rd b → a ≡ b
same_realm {a} {b} same = let both : Some a ≡ Some b = ap realm_of same in cc

-- after a granule is written, each RD is that granule, or was the RD of the same realm before
pub write_back : (k : Machine) (x g : ℕ) (kept : RmmGranule) (realm : RmmRealm) → (granule_at (with_granule k x kept) g).state ≡ Rd realm → ((g ≡ x) × (kept.state ≡ Rd realm)) ⊎ ((granule_at k g).state ≡ Rd realm)
write_back k x g kept realm is =
    let n : Machine = with_granule k x kept in
    ⊎_elim
    (λ (here : g ≡ x).
    let there : (granule_at n x).state ≡ Rd realm = subst (λ (y : ℕ). (granule_at n y).state ≡ Rd realm) here is in
    let within : x < length k.granules = subst (λ (c : ℕ). x < c) (length-set k.granules x kept) (taken_inside n x (λ free. cc)) in
    inl (here, sym (ap (λ (r : RmmGranule). r.state) (granule_at-same k x kept within)) ∙ there))
    (λ (other : g ≢ x). inr (sym (ap (λ (r : RmmGranule). r.state) (granule_at-other k x g kept other)) ∙ is))
    (cases_eq g x)

-- the granule was the RD of a realm with the given realm's state and RIM
abbrev pub IsAsBefore : Machine → ℕ → RmmRealm → Type 0
IsAsBefore m g realm = (old : RmmRealm) × ((granule_at m g).state ≡ Rd old) × (old.state ≡ realm.state) × (old.rim ≡ realm.rim)

-- each realm has the state and the RIM that it had before
abbrev pub Stay : Machine → Machine → Type 0
Stay m n = (g : ℕ) (realm : RmmRealm) → (granule_at n g).state ≡ Rd realm → IsAsBefore m g realm

pub stay_all : (m : Machine) → Stay m m
stay_all m g realm is = (realm, is, refl, refl)

-- writing a granule that is no RD after the write keeps `Stay`
pub stay_plain : (m k : Machine) (x : ℕ) (kept : RmmGranule) → is_rd kept.state ≡ false → Stay m k → Stay m (with_granule k x kept)
stay_plain m k x kept plain stay g realm is =
    ⊎_elim
    (λ (written : (g ≡ x) × (kept.state ≡ Rd realm)). absurd (both_ways (is_rd kept.state) plain (ap is_rd written.1)))
    (λ (before : (granule_at k g).state ≡ Rd realm). stay g realm before)
    (write_back k x g kept realm is)

-- replacing an RD's realm by one with the same state and RIM keeps `Stay`
pub stay_realm : (m k : Machine) (x : ℕ) (realm other : RmmRealm) → other.state ≡ realm.state → other.rim ≡ realm.rim → Stay m k → (granule_at m x).state ≡ Rd realm → Stay m (with_granule k x (of_no_realm (Rd other)))
stay_realm m k x realm other same rim stay was g new is =
    ⊎_elim
    (λ (written : (g ≡ x) × (Rd other ≡ Rd new)).
    let it : other ≡ new = same_realm written.1 in
    (realm, ap (λ (y : ℕ). (granule_at m y).state) written.0 ∙ was, sym same ∙ ap (λ (r : RmmRealm). r.state) it, sym rim ∙ ap (λ (r : RmmRealm). r.rim) it))
    (λ (before : (granule_at k g).state ≡ Rd new). stay g new before)
    (write_back k x g (of_no_realm (Rd other)) new is)
