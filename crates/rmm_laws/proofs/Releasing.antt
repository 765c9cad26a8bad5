-- Proofs that a single write of a state other than UNDELEGATED makes no granule UNDELEGATED.
use Rattle.std.proofs.Common.{◌≡◌, ◌≢◌, ℕ, ◌<◌, ◌≤◌, false, length, sym, ap, subst, ◌∙◌, ⊎_elim}
use Rattle.std.proofs.lemmas.Bool.{cases_eq, cases_lt, both_ways}
use Rattle.std.proofs.lemmas.List.{get_or_past}
use Rattle.rmm_model.specs.declared.granule.RmmGranule.{RmmGranule}
use Rattle.rmm_model.specs.declared.granule.RmmGranuleState.TheVariants.{Undelegated}
use Rattle.rmm_model.specs.Granule.{of_no_realm, is_undelegated}
use Rattle.rmm_model.specs.Machine.{Machine, granule_at, with_granule}
use Rattle.rmm_laws.proofs.Writes.{granule_at-same, granule_at-other}

-- writing a state other than UNDELEGATED makes no granule UNDELEGATED
free_back : (k : Machine) (x g : ℕ) (kept : RmmGranule) → is_undelegated kept.state ≡ false → (granule_at (with_granule k x kept) g).state ≡ Undelegated → (granule_at k g).state ≡ Undelegated
free_back k x g kept taken is =
    let n : Machine = with_granule k x kept in
    ⊎_elim
    (λ (here : g ≡ x).
    let there : (granule_at n x).state ≡ Undelegated = subst (λ (y : ℕ). (granule_at n y).state ≡ Undelegated) here is in
    ⊎_elim
    (λ (lt : x < length k.granules). absurd (both_ways (is_undelegated kept.state) taken (ap is_undelegated (sym (ap (λ (r : RmmGranule). r.state) (granule_at-same k x kept lt)) ∙ there))))
    (λ (past : length k.granules ≤ x). ap (λ (y : ℕ). (granule_at k y).state) here ∙ ap (λ (r : RmmGranule). r.state) (get_or_past k.granules x (of_no_realm Undelegated) past))
    (cases_lt x (length k.granules)))
    (λ (other : g ≢ x). sym (ap (λ (r : RmmGranule). r.state) (granule_at-other k x g kept other)) ∙ is)
    (cases_eq g x)

-- each granule that is UNDELEGATED in the second machine is UNDELEGATED in the first
abbrev pub Held : Machine → Machine → Type 0
Held m n = (g : ℕ) → (granule_at n g).state ≡ Undelegated → (granule_at m g).state ≡ Undelegated

pub held_all : (m : Machine) → Held m m
held_all m g is = is

pub held_granule : (m k : Machine) (x : ℕ) (kept : RmmGranule) → is_undelegated kept.state ≡ false → Held m k → Held m (with_granule k x kept)
held_granule m k x kept taken held g is = held g (free_back k x g kept taken is)
