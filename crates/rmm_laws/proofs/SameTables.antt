-- Proofs that a single write outside all granules of a kind, such as tables, leaves all granules of that kind
-- unchanged.
use Rattle.std.proofs.Common.{◌≡◌, ◌≢◌, ℕ, ◌<◌, List, refl, ap, subst, sym, ◌∙◌, ⊎_elim}
use Rattle.std.specs.Prelude.{IfSome, Some}
use Rattle.rmm_model.specs.declared.granule.RmmGranule.{RmmGranule}
use Rattle.rmm_model.specs.declared.granule.RmmGranuleState.{RmmGranuleState}
use Rattle.rmm_model.specs.declared.granule.RmmGranuleState.TheVariants.{Rtt}
use Rattle.rmm_model.specs.Granule.{realm_of}
use Rattle.rmm_model.specs.Machine.{Machine, granule_at, page_in, with_granule, with_page}
use Rattle.rmm_model.specs.Realm.{IsServed}
use Rattle.rmm_model.specs.Rec.{aux_of}
use Rattle.rmm_model.specs.Walk.{granule_named}
use Rattle.rmm_laws.specs.Apart.{IsSameAt}
use Rattle.rmm_laws.proofs.Wiping.{IsWiped, first_named}
use Rattle.rmm_laws.proofs.Writes.{granule_at-other, page_in-other}

-- each granule whose state satisfies `P` is as it was
abbrev pub KeepsSome : (RmmGranuleState → Type 0) → Machine → Machine → Type 0
KeepsSome P m n = (g : ℕ) → P (granule_at m g).state → IsSameAt m n g

-- each table is as it was
abbrev pub KeepsTables : Machine → Machine → Type 0
KeepsTables m n = KeepsSome (λ s. s ≡ Rtt) m n

pub tables_all : (m : Machine) → KeepsTables m m
tables_all m g is = (refl, refl)

module _ (P : RmmGranuleState → Type 0) where
  -- a change of one granule whose state does not satisfy `P` keeps `KeepsSome`
  some_but : (m k n : Machine) (x : ℕ) → (P (granule_at k x).state → ⊥) → KeepsSome P m k → ((g : ℕ) → g ≢ x → IsSameAt k n g) → KeepsSome P m n
  some_but m k n x plain kept same g is =
      let old = kept g is in
      let other : g ≢ x = λ here. plain (subst (λ (y : ℕ). P (granule_at k y).state) here (subst P (sym (ap (λ (r : RmmGranule). r.state) old.0)) is)) in
      let now = same g other in
      (now.0 ∙ old.0, now.1 ∙ old.1)

  pub some_granule : (m k : Machine) (x : ℕ) (kept : RmmGranule) → (P (granule_at k x).state → ⊥) → KeepsSome P m k → KeepsSome P m (with_granule k x kept)
  some_granule m k x kept plain before = some_but m k (with_granule k x kept) x plain before (λ g other. (granule_at-other k x g kept other, refl))

  pub some_page : (m k : Machine) (x : ℕ) (page : List ℕ) → (P (granule_at k x).state → ⊥) → KeepsSome P m k → KeepsSome P m (with_page k x page)
  some_page m k x page plain before = some_but m k (with_page k x page) x plain before (λ g other. (refl, page_in-other k x g page other))

  -- a change of a granule whose state in `m` does not satisfy `P` keeps `KeepsSome`
  pub some_old : (m k n : Machine) (x : ℕ) → (P (granule_at m x).state → ⊥) → KeepsSome P m k → ((g : ℕ) → g ≢ x → IsSameAt k n g) → KeepsSome P m n
  some_old m k n x plain kept same g is =
      let old = kept g is in
      let now = same g (λ here. plain (subst (λ (y : ℕ). P (granule_at m y).state) here is)) in
      (now.0 ∙ old.0, now.1 ∙ old.1)

  pub some_both : (m k : Machine) (x : ℕ) (kept : RmmGranule) (page : List ℕ) → (P (granule_at m x).state → ⊥) → KeepsSome P m k → KeepsSome P m (with_page (with_granule k x kept) x page)
  some_both m k x kept page plain before = some_old m k (with_page (with_granule k x kept) x page) x plain before (λ g other. (granule_at-other k x g kept other, page_in-other (with_granule k x kept) x g page other))

  -- wiping auxiliary granules whose states in `o` do not satisfy `P` keeps `KeepsSome`
  pub some_wiped : (o m : Machine) (g : ℕ) (kept : RmmGranule) (served : (n : ℕ) → IfSome (realm_of kept.state) (IsServed n)) (k : ℕ) (n : Machine) → KeepsSome P o m → IsWiped m g kept served k n
      → ((i h : ℕ) → i < k → granule_named m (aux_of (page_in m g) i) ≡ Some h → P (granule_at o h).state → ⊥) → KeepsSome P o n
  some_wiped o m g kept served k n before wiped plain x is =
      ⊎_elim
      (λ (aux : (i : ℕ) × (i < k) × (granule_named m (aux_of (page_in m g) i) ≡ Some x)). absurd (plain aux.0 x aux.1 aux.2 is))
      (λ (none : (i : ℕ) → i < k → granule_named m (aux_of (page_in m g) i) ≢ Some x).
      let same = wiped.other x none in
      let was = before x is in
      (same.0 ∙ was.0, same.1 ∙ was.1))
      (first_named (λ i. granule_named m (aux_of (page_in m g) i)) x k)

abbrev IsTable : RmmGranuleState → Type 0
IsTable s = s ≡ Rtt

pub tables_granule : (m k : Machine) (x : ℕ) (kept : RmmGranule) → ((granule_at k x).state ≡ Rtt → ⊥) → KeepsTables m k → KeepsTables m (with_granule k x kept)
tables_granule m k x kept plain before = some_granule IsTable m k x kept plain before

pub tables_page : (m k : Machine) (x : ℕ) (page : List ℕ) → ((granule_at k x).state ≡ Rtt → ⊥) → KeepsTables m k → KeepsTables m (with_page k x page)
tables_page m k x page plain before = some_page IsTable m k x page plain before
