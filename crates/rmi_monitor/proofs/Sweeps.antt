-- Lemmas about loops that change the granules of a list one after another, and about the granules that remain to be
-- changed.
use Rattle.std.proofs.Common.{◌≡◌, ◌≢◌, ℕ, suc, ◌+◌, ◌<◌, ◌≤◌, Bool, true, false, List, [], ◌∷◌, length, set, get_or, drop, Some, All, IsTrue, sym, ap, ◌∙◌, subst, add-one, arith}
use Rattle.std.proofs.Math.Seq.{drop-cons}
use Rattle.std.proofs.lemmas.Bool.{and_parts}
use Rattle.std.proofs.lemmas.List.{drop_all, length-set, get_or-set_other}
use Rattle.std.proofs.lemmas.Option.{slice_get-get_or}
use Rattle.rtt.specs.Granules.{undelegated}
use Rattle.rtt.specs.declared.granule.Granule.{Granule}
use Rattle.realm_model.specs.Command.Check.{is_apart_from, are_distinct, is_in}
use Rattle.realm_model.specs.declared.states.GranuleState.{GranuleState}
use Rattle.realm_model.specs.StepLaw.{set_each}
use Rattle.realm_model.proofs.Booleans.{not_true, true_false}
use Rattle.realm_model.proofs.Lists.{is_in_at}
use Rattle.rmi_monitor.specs.Places.{IsInState, HasPage}

-- if `is_apart_from granule others` is true, no element of `others` is `granule`
pub apart_at : (granule : ℕ) (others : List ℕ) (k d : ℕ) → is_apart_from granule others ≡ true → k < length others → get_or others k d ≢ granule
apart_at granule others k d apart within same =
    true_false (is_in granule others) (is_in_at others k granule (slice_get-get_or others k d within ∙ ap Some same)) (not_true (is_in granule others) apart)

module _ (all : List ℕ) (i x : ℕ) (within : i < length all) (is : x ≡ get_or all i x) where
  -- the granules that remain at index `i` are the granule `x`, followed by those that remain at the next index
  first : drop i all ≡ x ∷ drop (i + 1) all
  first = drop-cons all i x within ∙ (λ j. sym is j ∷ drop (sym (add-one i) j) all)

  -- the test gives the same result for the granules that remain at index `i` as for all granules
  module _ (test : List ℕ → Bool) (was : test (drop i all) ≡ test all) where
    pub test_rest : test (x ∷ drop (i + 1) all) ≡ test (drop (i + 1) all) → test (drop (i + 1) all) ≡ test all
    test_rest passes = sym passes ∙ ap test (sym first) ∙ was

    pub test_fails : test (x ∷ drop (i + 1) all) ≡ false → false ≡ test all
    test_fails fails = sym fails ∙ ap test (sym first) ∙ was

  pub first_has : (P : ℕ → Type 0) → All P (drop i all) → P x
  first_has P each = subst (λ l. All P l) first each 0 x (omega arith)

  pub rest_has : (P : ℕ → Type 0) → All P (drop i all) → All P (drop (i + 1) all)
  rest_has P each k d lt = subst (λ l. All P l) first each (suc k) d (omega arith)

  pub rest_distinct : IsTrue (are_distinct (drop i all)) → IsTrue (are_distinct (drop (i + 1) all))
  rest_distinct distinct = (and_parts _ _ (subst (λ l. IsTrue (are_distinct l)) first distinct)).1

  -- setting granule `x`, and then the granules that remain after it, gives the same list as setting all granules from
  -- `x` on
  pub set_rest : {X : Type 0} (y : X) (now then : List X) (end : List X) → set_each y (drop i all) now ≡ end → then ≡ set now x y
      → set_each y (drop (i + 1) all) then ≡ end
  unfolding set_each
  set_rest y now then end was made = ap (set_each y (drop (i + 1) all)) made ∙ ap (λ l. set_each y l now) (sym first) ∙ was

  -- if the granules that remain are distinct, those after `x` keep their states when `x` is set
  pub rest_stand : (now then : List Granule) (state : GranuleState) (y : Granule) → All (IsInState now state) (drop i all) → IsTrue (are_distinct (drop i all))
      → then ≡ set now x y → All (IsInState then state) (drop (i + 1) all)
  rest_stand now then state y stand distinct made k d lt =
      let stood : IsInState now state (get_or (drop (i + 1) all) k d) = rest_has (IsInState now state) stand k d lt in
      let apart : is_apart_from x (drop (i + 1) all) ≡ true = (and_parts _ _ (subst (λ l. IsTrue (are_distinct l)) first distinct)).0 in
      subst (λ gs. IsInState gs state (get_or (drop (i + 1) all) k d)) (sym made) (record {
        inside = subst (λ n. get_or (drop (i + 1) all) k d < n) (sym (length-set now x y)) stood.inside;
        is = ap (λ (g : Granule). g.state) (get_or-set_other now x (get_or (drop (i + 1) all) k d) y undelegated (apart_at x (drop (i + 1) all) k d apart lt)) ∙ stood.is;
      })

  pub rest_pages : (now then : List (List ℕ)) (flags flags' : List Bool) (y : List ℕ) → All (HasPage now flags) (drop i all)
      → then ≡ set now x y → flags' ≡ flags → All (HasPage then flags') (drop (i + 1) all)
  rest_pages now then flags flags' y paged made kept k d lt =
      let had : HasPage now flags (get_or (drop (i + 1) all) k d) = rest_has (HasPage now flags) paged k d lt in
      subst (λ fs. HasPage then fs (get_or (drop (i + 1) all) k d)) (sym kept) (record {
        inside = subst (λ n. get_or (drop (i + 1) all) k d < n) (sym (ap length made ∙ length-set now x y)) had.inside;
        taken = had.taken;
      })

-- if no granule remains at index `i`, and `test` agrees on `drop i all` and `all`, then `test` agrees on `[]` and `all`
pub test_ends : (test : List ℕ → Bool) (all : List ℕ) (i : ℕ) → length all ≤ i → test (drop i all) ≡ test all → test [] ≡ test all
test_ends test all i past was = sym (ap test (drop_all i all past)) ∙ was

pub none_left : {X : Type 0} (y : X) (all : List ℕ) (i : ℕ) (now : List X) (end : List X) → length all ≤ i → set_each y (drop i all) now ≡ end → now ≡ end
unfolding set_each
none_left y all i now end past was = sym (ap (λ l. set_each y l now) (drop_all i all past)) ∙ was
