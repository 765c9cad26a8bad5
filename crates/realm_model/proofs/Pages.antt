-- The proof that a build's pages are the granules that the build leases.
use Rattle.std.proofs.Common.{◌≡◌, ◌≢◌, ℕ, zero, suc, ◌^◌, ◌<◌, Bool, true, false, cond, ◌||◌, List, [], ◌∷◌, ◌++◌, get_or, Option, Some, None, refl, sym, ap, ◌∙◌, subst}
use Rattle.std.specs.Prelude.{slice_get, ◌==◌, replicate}
use Rattle.std.specs.Option.{option_eq}
use Rattle.std.specs.List.{flat_map}
use Rattle.std.proofs.lemmas.Bool.{eqb-true, eqb-false}
use Rattle.std.proofs.lemmas.Option.{same_Some, slice_get_within, slice_get-get_or}
use Rattle.std.proofs.lemmas.List.{append-nil}
use Rattle.std.proofs.lemmas.List.Concat.{flat_map-append}
use Rattle.realm_model.specs.declared.act.Act.{Act}
use Rattle.realm_model.specs.declared.act.Act.TheVariants.{Take, UnTake, Delegate, Realm, Rtt, Data, Unknown, Rec}
use Rattle.realm_model.specs.declared.act.Event.{Event}
use Rattle.realm_model.specs.Machine.{Limits}
use Rattle.realm_model.specs.Act.{block, named, reverse_of, is_reverse}
use Rattle.realm_model.specs.World.{World, same_lease, is_leased_to}
use Rattle.realm_model.specs.Step.{step}
use Rattle.realm_model.specs.StepLaw.{leases_after, IsStep}
use Rattle.realm_model.specs.History.{open_entries, pages_held, pages_of, IsInTurn, replay, IsLegal}
use Rattle.realm_model.specs.Pages.{PagesAreLeased}
use Rattle.realm_model.specs.Undoing.{by}
use Rattle.realm_model.proofs.Leases.{lease_same, leased_from, in_leased, leased_all, leased}
use Rattle.realm_model.proofs.Reached.{sized_reached, of_legal, clean_reached}
use Rattle.realm_model.specs.Command.Check.{is_in}
use Rattle.realm_model.proofs.Lists.{is_in_at, in_from_Contains, AllPairs-from_distinct, AllDistinct-append, AllDistinct}
use Rattle.realm_model.proofs.Lists.{Contains-from_in, AllDistinct-range, length-le_distinct, AllDistinct_parts, is_in-append}
use Rattle.realm_model.proofs.Stack.{paired, pushed_other, back, kind, pushed_paired, other}
use Rattle.realm_model.proofs.Growth.{takes_away, TakesAway, open_entries-own, open_entries-other}
use Rattle.realm_model.proofs.StepSays.{step_is}
use Rattle.realm_model.proofs.Clean.{IsClean}
use Rattle.realm_model.proofs.Booleans.{or_none, or_true, true_false}
use Rattle.realm_model.proofs.HiddenSteps.{leased_in_part, part_of-other_step}
use Rattle.realm_model.proofs.SetEach.{slice_get-set_each}
use Rattle.realm_model.proofs.Puts.{is_of_block}

-- ---- a build's pages after an event

pub pages_of-other : (b : ℕ) (history : List Event) (event : Event) → event.build ≢ b → pages_of b (history ++ event ∷ []) ≡ pages_of b history
pages_of-other b history event apart = ap (flat_map pages_held) (open_entries-other b history event apart)

pages_push : (b : ℕ) (history : List Event) (act : Act) → flat_map pages_held (open_entries b history ++ act ∷ []) ≡ pages_of b history ++ pages_held act
pages_push b history act = flat_map-append pages_held (open_entries b history) (act ∷ []) ∙ ap (λ xs. pages_of b history ++ xs) (append-nil (pages_held act))

pub pages_of-take : (b : ℕ) (history : List Event) (order first : ℕ) → pages_of b (history ++ by b (Take order first) ∷ []) ≡ pages_of b history ++ block order first
unfolding reverse_of
pages_of-take b history order first =
    ap (flat_map pages_held) (open_entries-own history (by b (Take order first)) ∙ pushed_paired (open_entries b history) (Take order first) refl)
    ∙ pages_push b history (Take order first)

pages_less : (b : ℕ) (history : List Event) (act : Act) (away : TakesAway b history act) → pages_of b history ≡ pages_of b (history ++ by b act ∷ []) ++ pages_held away.newest
pages_less b history act away = ap (flat_map pages_held) away.open_is ∙ pages_push b (history ++ by b act ∷ []) away.newest

-- if the reverse of an operation is an UnTake, the pages that the operation gives its build are the UnTake's block
held_by_pair : (newest : Act) (order first : ℕ) → reverse_of newest ≡ Some (UnTake order first) → pages_held newest ≡ block order first
unfolding reverse_of
held_by_pair (Take order first) order' first' e = of_same (same_Some _ _ e)
  where
    of_same : ◌≡◌ {A = Act} (UnTake order first) (UnTake order' first') → block order first ≡ block order' first'
    of_same e = let orders : order ≡ order' = cc in let firsts : first ≡ first' = cc in λ i. block (orders i) (firsts i)
held_by_pair (Delegate g) order first e = cc
held_by_pair (Realm rd root v) order first e = cc
held_by_pair (Rtt g ipa level) order first e = cc
held_by_pair (Data g ipa source) order first e = cc
held_by_pair (Unknown g ipa) order first e = cc
held_by_pair (Rec g aux n) order first e = cc
held_by_pair _ order first e = cc

held_by_other : (newest act : Act) → reverse_of newest ≡ Some act → is_of_block act ≡ false → pages_held newest ≡ []
unfolding reverse_of
held_by_other (Take order first) act e k = absurd (true_false (is_of_block act) (ap is_of_block (sym (same_Some _ _ e))) k)
held_by_other _ act e k = refl

pub pages_of-untake : (b : ℕ) (history : List Event) (order first : ℕ) → IsInTurn history (by b (UnTake order first))
    → pages_of b history ≡ pages_of b (history ++ by b (UnTake order first) ∷ []) ++ block order first
unfolding reverse_of is_reverse
pages_of-untake b history order first turn =
    let away = takes_away b history (UnTake order first) refl refl turn in
    pages_less b history (UnTake order first) away ∙ ap (λ xs. pages_of b (history ++ by b (UnTake order first) ∷ []) ++ xs) (held_by_pair away.newest order first away.pairs)

held_by_no_block : (act : Act) → is_of_block act ≡ false → pages_held act ≡ []
held_by_no_block (Take order first) k = cc
held_by_no_block _ k = refl

pub pages_of-same : (b : ℕ) (history : List Event) (act : Act) → is_of_block act ≡ false → IsInTurn history (by b act) → pages_of b (history ++ by b act ∷ []) ≡ pages_of b history
pages_of-same b history act k turn = elim (kind act) [
  | paired p r ↦ ap (flat_map pages_held) (open_entries-own history (by b act) ∙ pushed_paired (open_entries b history) act p)
      ∙ pages_push b history act ∙ ap (λ xs. pages_of b history ++ xs) (held_by_no_block act k) ∙ append-nil (pages_of b history)
  | back p r ↦
      let away = takes_away b history act p r turn in
      sym (pages_less b history act away ∙ ap (λ xs. pages_of b (history ++ by b act ∷ []) ++ xs) (held_by_other away.newest act away.pairs k) ∙ append-nil (pages_of b (history ++ by b act ∷ [])))
  | other p r ↦ ap (flat_map pages_held) (open_entries-own history (by b act) ∙ pushed_other (open_entries b history) act p r)
]

-- ---- a build's pages are the granules that it leases

leases_after_same : (b : ℕ) (act : Act) (leases : List (Option ℕ)) → is_of_block act ≡ false → leases_after b act leases ≡ leases
leases_after_same b (Take order first) leases k = cc
leases_after_same b (UnTake order first) leases k = cc
leases_after_same b _ leases k = refl

abbrev nobody : Option ℕ
nobody = None

abbrev is_of_build : ℕ → Option (Option ℕ) → Bool
is_of_build b o = option_eq same_lease o (Some (Some b))

record Paged (b : ℕ) (history : List Event) (w : World) : Type 0 where
  pub same : (g : ℕ) → is_in g (pages_of b history) ≡ is_leased_to (Some b) w.leases g
  pub distinct : AllDistinct (pages_of b history)

module _ (limits : Limits) (b : ℕ) (history : List Event) (w v : World) (h : Paged b history w) where
  page_leased : (g : ℕ) → is_in g (pages_of b history) ≡ true → slice_get w.leases g ≡ Some (Some b)
  page_leased g e = leased (Some b) w.leases g (sym (h.same g) ∙ e)

  paged_take : (order first : ℕ) → IsStep limits w (by b (Take order first)) v → Paged b (history ++ by b (Take order first) ∷ []) v
  unfolding named
  paged_take order first s =
      let gs = block order first in
      let free : (g : ℕ) → is_in g gs ≡ true → slice_get w.leases g ≡ Some None = in_leased None w.leases gs (leased_all None w.leases gs s.granules) in
      let then : (g : ℕ) → slice_get v.leases g ≡ cond (is_in g gs) (Some (Some b)) (slice_get w.leases g) = λ g.
      ap (λ ls. slice_get ls g) s.leases ∙ slice_get-set_each (Some b) gs w.leases g (λ g e. slice_get_within w.leases g None (free g e)) in
      record {
        same = λ g. ap (is_in g) (pages_of-take b history order first) ∙ is_in-append g (pages_of b history) gs ∙ ap (λ t. t || is_in g gs) (h.same g)
            ∙ by_test (is_in g gs) (slice_get w.leases g) ∙ ap (is_of_build b) (sym (then g));
        distinct = subst AllDistinct (sym (pages_of-take b history order first)) (AllDistinct-append (pages_of b history) gs h.distinct (AllDistinct-range first (2 ^ order))
            (λ k e. elim (is_in k gs) as (λ t. is_in k gs ≡ t → t ≡ false) [ true ↦ λ i. absurd (not_both k (page_leased k e) (free k i)) | false ↦ λ i. refl ] refl));
      }
    where
      by_test : (t : Bool) (o : Option (Option ℕ)) → (is_of_build b o || t) ≡ is_of_build b (cond t (Some (Some b)) o)
      by_test true o = or_true (is_of_build b o) ∙ sym (lease_same (Some b))
      by_test false o = or_none (is_of_build b o)

      not_both : (k : ℕ) → slice_get w.leases k ≡ Some (Some b) → slice_get w.leases k ≡ Some None → ⊥
      not_both k p q = cc

  paged_untake : (order first : ℕ) → IsStep limits w (by b (UnTake order first)) v → IsInTurn history (by b (UnTake order first)) → Paged b (history ++ by b (UnTake order first) ∷ []) v
  unfolding named
  paged_untake order first s turn =
      let gs = block order first in
      let left : List ℕ = pages_of b (history ++ by b (UnTake order first) ∷ []) in
      let was : pages_of b history ≡ left ++ gs = pages_of-untake b history order first turn in
      let held : (g : ℕ) → is_in g gs ≡ true → slice_get w.leases g ≡ Some (Some b) = in_leased (Some b) w.leases gs (leased_all (Some b) w.leases gs s.granules) in
      let then : (g : ℕ) → slice_get v.leases g ≡ cond (is_in g gs) (Some None) (slice_get w.leases g) = λ g.
      ap (λ ls. slice_get ls g) s.leases ∙ slice_get-set_each nobody gs w.leases g (λ g e. slice_get_within w.leases g (Some b) (held g e)) in
      let parts = AllDistinct_parts left gs (subst AllDistinct was h.distinct) in
      record {
        same = λ g. elim (is_in g gs) as (λ t. is_in g gs ≡ t → is_in g left ≡ is_of_build b (cond t (Some None) (slice_get w.leases g))) [
          | true ↦ λ e. parts.1 g e
          | false ↦ λ e. sym (ap (λ t. is_in g left || t) e ∙ or_none (is_in g left)) ∙ sym (is_in-append g left gs) ∙ ap (is_in g) (sym was) ∙ h.same g
        ] refl ∙ ap (is_of_build b) (sym (then g));
        distinct = parts.0;
      }

  paged_same : (act : Act) → is_of_block act ≡ false → IsStep limits w (by b act) v → IsInTurn history (by b act) → Paged b (history ++ by b act ∷ []) v
  paged_same act k s turn = record {
    same = λ g. ap (is_in g) (pages_of-same b history act k turn) ∙ h.same g ∙ ap (λ ls. is_leased_to (Some b) ls g) (sym (s.leases ∙ leases_after_same b act w.leases k));
    distinct = subst AllDistinct (sym (pages_of-same b history act k turn)) h.distinct;
  }

  paged_own : (act : Act) → IsStep limits w (by b act) v → IsInTurn history (by b act) → Paged b (history ++ by b act ∷ []) v
  paged_own (Take order first) s turn = paged_take order first s
  paged_own (UnTake order first) s turn = paged_untake order first s turn
  paged_own act s turn = paged_same act refl s turn

  paged_other : (e : Event) → e.build ≢ b → IsClean w → step limits w e ≡ Some v → Paged b (history ++ e ∷ []) v
  paged_other e apart clean s = record {
    same = λ g. ap (is_in g) (pages_of-other b history e apart) ∙ h.same g ∙ sym (leased_in_part b w g)
        ∙ ap (λ (x : World). is_leased_to (Some b) x.leases g) (sym (part_of-other_step limits b w v e apart clean s)) ∙ leased_in_part b v g;
    distinct = subst AllDistinct (sym (pages_of-other b history e apart)) h.distinct;
  }

paged : (limits : Limits) (b : ℕ) (history : List Event) (w : World) → IsLegal limits history → replay limits history ≡ Some w → Paged b history w
unfolding open_entries
paged limits b history w legal at_w =
    of_legal limits (Paged b) (λ before w v e legal at_w h turn s.
    elim (e.build == b) as (λ t. (e.build == b) ≡ t → Paged b (before ++ e ∷ []) v) [
      | true ↦ λ own.
          let same : e ≡ by b e.act = λ i. record { build = eqb-true e.build b own i; act = e.act } in
          subst (λ d. Paged b (before ++ d ∷ []) v) (sym same)
          (paged_own limits b before w v h e.act (step_is limits w v (by b e.act) (subst (λ d. step limits w d ≡ Some v) same s)) (subst (IsInTurn before) same turn))
      | false ↦ λ other. paged_other limits b before w v h e (eqb-false e.build b other) (clean_reached limits before w at_w) s
    ] refl)
    (record { same = λ g. sym (none_leased g limits.pages); distinct = tt }) history w legal at_w
  where
    none_leased : (g n : ℕ) → is_leased_to (Some b) (replicate n None) g ≡ false
    none_leased g zero = refl
    none_leased zero (suc n) = refl
    none_leased (suc g) (suc n) = none_leased g n

-- a granule is a page of a build exactly if the build leases it
pub is_in-pages_of : (limits : Limits) (b : ℕ) (history : List Event) (w : World) → IsLegal limits history → replay limits history ≡ Some w → (g : ℕ)
    → is_in g (pages_of b history) ≡ is_leased_to (Some b) w.leases g
is_in-pages_of limits b history w legal at_w = (paged limits b history w legal at_w).same

pub pages_are_leased : (limits : Limits) (b : ℕ) (history : List Event) (w : World) → IsLegal limits history → replay limits history ≡ Some w → PagesAreLeased limits history b w
pages_are_leased limits b history w legal at_w =
    let h = paged limits b history w legal at_w in
    let sized = sized_reached limits history w at_w in
    let pages = pages_of b history in
    let below : (k : ℕ) → is_in k pages ≡ true → k < limits.pages = λ k e. subst (λ n. k < n) sized.leases (slice_get_within w.leases k (Some b) (page_leased limits b history w w h k e)) in
    record {
      leased = λ g. (λ c. page_leased limits b history w w h g (in_from_Contains pages g c), λ e. Contains-from_in pages g (h.same g ∙ leased_from (Some b) w.leases g e));
      distinct = AllPairs-from_distinct pages h.distinct;
      inside = λ k d within. below (get_or pages k d) (is_in_at pages k (get_or pages k d) (slice_get-get_or pages k d within));
      count = length-le_distinct pages limits.pages h.distinct below;
      cells = sized.machine;
      leases = sized.leases;
    }
