-- The condition that a call changes only granules of its realm and granules of no realm, with proofs for single writes.
use Rattle.std.proofs.Common.{◌≡◌, ◌≢◌, ℕ, ◌⊎◌, inl, inr, List, length, Option, Some, None, refl, sym, ap, subst, ◌∙◌, ⊎_elim, Bool, true, false}
use Rattle.std.proofs.lemmas.Bool.{cases_eq}
use Rattle.std.proofs.lemmas.List.{length-set}
use Rattle.rmm_model.specs.declared.granule.RmmGranule.{RmmGranule}
use Rattle.rmm_model.specs.declared.granule.RmmGranuleState.{RmmGranuleState}
use Rattle.rmm_model.specs.declared.granule.RmmGranuleState.TheVariants.{Delegated}
use Rattle.rmm_model.specs.Granule.{of_no_realm}
use Rattle.rmm_model.specs.Machine.{Machine, granule_at, with_granule, with_page, with_blank}
use Rattle.rmm_laws.specs.Apart.{IsOfRealm, IsSpare, IsSameAt}
use Rattle.rmm_laws.proofs.Writes.{granule_at-other, page_in-other}

-- a granule is DELEGATED or, if the flag is true, UNDELEGATED, so it belongs to no realm
abbrev pub IsFree : Bool → Machine → ℕ → Type 0
IsFree true m g = IsSpare m g
IsFree false m g = (granule_at m g).state ≡ Delegated

pub free_spare : (host : Bool) (m : Machine) (g : ℕ) → IsFree host m g → IsSpare m g
free_spare true m g free = free
free_spare false m g free = inr free

-- Each granule is as it was, belongs to the realm that a call is on, or belongs to no realm. Settings stay, and so does
-- the number of granules.
pub record Touches (host : Bool) (m n : Machine) (named : Option ℕ) : Type 0 where
  pub settings : n.settings ≡ m.settings
  pub count : length n.granules ≡ length m.granules
  pub each : (g : ℕ) → IsSameAt m n g ⊎ (IsOfRealm m named g ⊎ IsFree host m g)

-- a granule belongs to the realm that a call is on, or to no realm
abbrev pub IsMine : Bool → Machine → Option ℕ → ℕ → Type 0
IsMine host m named g = IsOfRealm m named g ⊎ IsFree host m g

same_of_realm : (o m : Machine) (named : Option ℕ) (h : ℕ) → granule_at m h ≡ granule_at o h → IsOfRealm m named h → IsOfRealm o named h
same_of_realm o m (Some rd) h same (inl is) = inl is
same_of_realm o m (Some rd) h same (inr is) = inr (sym (ap (λ (r : RmmGranule). r.owner) same) ∙ is)
same_of_realm o m None h same is = is

same_mine : (host : Bool) (o m : Machine) (named : Option ℕ) (h : ℕ) → granule_at m h ≡ granule_at o h → IsMine host m named h → IsMine host o named h
same_mine host o m named h same (inl own) = inl (same_of_realm o m named h same own)
same_mine true o m named h same (inr (inl free)) = inr (inl (sym (ap (λ (r : RmmGranule). r.state) same) ∙ free))
same_mine true o m named h same (inr (inr free)) = inr (inr (sym (ap (λ (r : RmmGranule). r.state) same) ∙ free))
same_mine false o m named h same (inr free) = inr (sym (ap (λ (r : RmmGranule). r.state) same) ∙ free)

pub untouched : (host : Bool) (m : Machine) (named : Option ℕ) → Touches host m m named
untouched host m named = record { settings = refl; count = refl; each = λ g. inl (refl, refl) }

-- a change of one granule that the call may touch keeps `Touches`
touched : (host : Bool) (m k n : Machine) (named : Option ℕ) (x : ℕ) → n.settings ≡ k.settings → length n.granules ≡ length k.granules → Touches host m k named → IsMine host m named x → ((g : ℕ) → g ≢ x → IsSameAt k n g)
    → Touches host m n named
touched host m k n named x settings count before mine same = record {
  settings = settings ∙ before.settings;
  count = count ∙ before.count;
  each = λ g. ⊎_elim
      (λ (here : g ≡ x). inr (subst (λ (y : ℕ). IsMine host m named y) (sym here) mine))
      (λ (other : g ≢ x).
      ⊎_elim
      (λ (kept : IsSameAt m k g). (let now = same g other in inl (now.0 ∙ kept.0, now.1 ∙ kept.1)))
      (λ (own : IsMine host m named g). inr own)
      (before.each g))
      (cases_eq g x);
}

pub touch_granule : (host : Bool) (m k : Machine) (named : Option ℕ) (x : ℕ) (kept : RmmGranule) → Touches host m k named → IsMine host m named x → Touches host m (with_granule k x kept) named
touch_granule host m k named x kept before mine = touched host m k (with_granule k x kept) named x refl (length-set k.granules x kept) before mine (λ g other. (granule_at-other k x g kept other, refl))

pub touch_page : (host : Bool) (m k : Machine) (named : Option ℕ) (x : ℕ) (page : List ℕ) → Touches host m k named → IsMine host m named x → Touches host m (with_page k x page) named
touch_page host m k named x page before mine = touched host m k (with_page k x page) named x refl refl before mine (λ g other. (refl, page_in-other k x g page other))

pub touch_blank : (host : Bool) (m k : Machine) (named : Option ℕ) (x : ℕ) (state : RmmGranuleState) → Touches host m k named → IsMine host m named x → Touches host m (with_blank k x state) named
touch_blank host m k named x state before mine = touch_page host m (with_granule k x (of_no_realm state)) named x _ (touch_granule host m k named x (of_no_realm state) before mine) mine

-- a granule that a call may touch after its writes is one that it could touch before, if the writes satisfy `Touches`
pub mine_before : (host : Bool) (o m : Machine) (named : Option ℕ) (h : ℕ) → Touches host o m named → IsMine host m named h → IsMine host o named h
mine_before host o m named h touches mine =
    ⊎_elim
    (λ (same : IsSameAt o m h). same_mine host o m named h same.0 mine)
    (λ (own : IsMine host o named h). own)
    (touches.each h)
