-- Lemmas about the functions `none` to `four`, which make a value from a word's numbers, and about tables that select
-- one of them by the word. A property shown for each word's values holds for every value of the table. A value can be
-- made from operands that were checked before.
use Rattle.std.proofs.Common.{◌≡◌, ℕ, ◌≤◌, List, [], ◌∷◌, cond, leb, ◌&&◌, Bool, true, false, Option, Some, None, option_map, refl, subst, inl, inr}
use Rattle.std.specs.Option.{option_or, option_zip}
use Rattle.std.specs.Str.{bytes_eq}
use Rattle.std.proofs.lemmas.Bool.{cases_Bool, leb-true, and_parts}
use Rattle.std.proofs.lemmas.Slice.Eq.{bytes_eq-Decides}
use Rattle.decimal_text.specs.Rows.{none, one, two, three, four}
use Rattle.decimal_text.proofs.Grammars.{test_from_some}

-- ---- what a row makes

module _ {A : Type 0} (P : List ℕ → A → Type 0) where
  pub none_makes : (made : A) → P [] made → (ns : List ℕ) (value : A) → none made ns ≡ Some value → P ns value
  none_makes made good [] value e = let same : made ≡ value = cc in subst (P []) same good
  none_makes made good (k ∷ ns) value e = absurd (cc)

  pub one_makes : (a : ℕ) (make : ℕ → A) → ((k : ℕ) → k ≤ a → P (k ∷ []) (make k)) → (ns : List ℕ) (value : A) → one a make ns ≡ Some value → P ns value
  one_makes a make good [] value e = absurd (cc)
  one_makes a make good (k ∷ []) value e =
      let (test, same) = test_from_some (leb k a) (make k) value e in
      subst (P (k ∷ [])) same (good k (leb-true k a test))
  one_makes a make good (k ∷ l ∷ ns) value e = absurd (cc)

  pub two_makes : (a b : ℕ) (make : ℕ → ℕ → A) → ((k l : ℕ) → k ≤ a → l ≤ b → P (k ∷ l ∷ []) (make k l)) → (ns : List ℕ) (value : A) → two a b make ns ≡ Some value → P ns value
  two_makes a b make good [] value e = absurd (cc)
  two_makes a b make good (k ∷ []) value e = absurd (cc)
  two_makes a b make good (k ∷ l ∷ []) value e =
      let (test, same) = test_from_some (leb k a && leb l b) (make k l) value e in
      let all = and_parts (leb k a) (leb l b) test in
      subst (P (k ∷ l ∷ [])) same (good k l (leb-true k a all.0) (leb-true l b all.1))
  two_makes a b make good (k ∷ l ∷ m ∷ ns) value e = absurd (cc)

  pub three_makes : (a b c : ℕ) (make : ℕ → ℕ → ℕ → A) → ((k l m : ℕ) → k ≤ a → l ≤ b → m ≤ c → P (k ∷ l ∷ m ∷ []) (make k l m)) → (ns : List ℕ) (value : A) → three a b c make ns ≡ Some value
      → P ns value
  three_makes a b c make good [] value e = absurd (cc)
  three_makes a b c make good (k ∷ []) value e = absurd (cc)
  three_makes a b c make good (k ∷ l ∷ []) value e = absurd (cc)
  three_makes a b c make good (k ∷ l ∷ m ∷ []) value e =
      let (test, same) = test_from_some (leb k a && leb l b && leb m c) (make k l m) value e in
      let all = and_parts (leb k a && leb l b) (leb m c) test in
      let front = and_parts (leb k a) (leb l b) all.0 in
      subst (P (k ∷ l ∷ m ∷ [])) same (good k l m (leb-true k a front.0) (leb-true l b front.1) (leb-true m c all.1))
  three_makes a b c make good (k ∷ l ∷ m ∷ n ∷ ns) value e = absurd (cc)

  pub four_makes : (a b c d : ℕ) (make : ℕ → ℕ → ℕ → ℕ → A) → ((k l m n : ℕ) → k ≤ a → l ≤ b → m ≤ c → n ≤ d → P (k ∷ l ∷ m ∷ n ∷ []) (make k l m n)) → (ns : List ℕ) (value : A)
      → four a b c d make ns ≡ Some value → P ns value
  four_makes a b c d make good [] value e = absurd (cc)
  four_makes a b c d make good (k ∷ []) value e = absurd (cc)
  four_makes a b c d make good (k ∷ l ∷ []) value e = absurd (cc)
  four_makes a b c d make good (k ∷ l ∷ m ∷ []) value e = absurd (cc)
  four_makes a b c d make good (k ∷ l ∷ m ∷ n ∷ []) value e =
      let (test, same) = test_from_some (leb k a && leb l b && leb m c && leb n d) (make k l m n) value e in
      let all = and_parts (leb k a && leb l b && leb m c) (leb n d) test in
      let front = and_parts (leb k a && leb l b) (leb m c) all.0 in
      let first = and_parts (leb k a) (leb l b) front.0 in
      subst (P (k ∷ l ∷ m ∷ n ∷ [])) same (good k l m n (leb-true k a first.0) (leb-true l b first.1) (leb-true m c front.1) (leb-true n d all.1))
  four_makes a b c d make good (k ∷ l ∷ m ∷ n ∷ o ∷ ns) value e = absurd (cc)

-- ---- what a row makes of the operands that were found

pub zip_tests : {A B : Type 0} (s t : Bool) (x : A) (y : B) → option_zip (cond s (Some x) None) (cond t (Some y) None) ≡ cond (s && t) (Some (x, y)) None
zip_tests true true x y = refl
zip_tests true false x y = refl
zip_tests false t x y = refl

module _ {A B : Type 0} (f : A → B) where
  map_test : (t : Bool) (x : A) → option_map f (cond t (Some x) None) ≡ cond t (Some (f x)) None
  map_test true x = refl
  map_test false x = refl

  pub one_mapped : (a : ℕ) (make : ℕ → A) (ns : List ℕ) (found : Option A) → found ≡ one a make ns → option_map f found ≡ one a (λ k. f (make k)) ns
  one_mapped a make [] found e = rw e refl
  one_mapped a make (k ∷ []) found e = rw e (map_test (leb k a) (make k))
  one_mapped a make (k ∷ l ∷ ns) found e = rw e refl

  pub two_mapped : (a b : ℕ) (make : ℕ → ℕ → A) (ns : List ℕ) (found : Option A) → found ≡ two a b make ns → option_map f found ≡ two a b (λ k l. f (make k l)) ns
  two_mapped a b make [] found e = rw e refl
  two_mapped a b make (k ∷ []) found e = rw e refl
  two_mapped a b make (k ∷ l ∷ []) found e = rw e (map_test (leb k a && leb l b) (make k l))
  two_mapped a b make (k ∷ l ∷ m ∷ ns) found e = rw e refl

  pub three_mapped : (a b c : ℕ) (make : ℕ → ℕ → ℕ → A) (ns : List ℕ) (found : Option A) → found ≡ three a b c make ns
      → option_map f found ≡ three a b c (λ k l m. f (make k l m)) ns
  three_mapped a b c make [] found e = rw e refl
  three_mapped a b c make (k ∷ []) found e = rw e refl
  three_mapped a b c make (k ∷ l ∷ []) found e = rw e refl
  three_mapped a b c make (k ∷ l ∷ m ∷ []) found e = rw e (map_test (leb k a && leb l b && leb m c) (make k l m))
  three_mapped a b c make (k ∷ l ∷ m ∷ n ∷ ns) found e = rw e refl

  pub four_mapped : (a b c d : ℕ) (make : ℕ → ℕ → ℕ → ℕ → A) (ns : List ℕ) (found : Option A) → found ≡ four a b c d make ns
      → option_map f found ≡ four a b c d (λ k l m n. f (make k l m n)) ns
  four_mapped a b c d make [] found e = rw e refl
  four_mapped a b c d make (k ∷ []) found e = rw e refl
  four_mapped a b c d make (k ∷ l ∷ []) found e = rw e refl
  four_mapped a b c d make (k ∷ l ∷ m ∷ []) found e = rw e refl
  four_mapped a b c d make (k ∷ l ∷ m ∷ n ∷ []) found e = rw e (map_test (leb k a && leb l b && leb m c && leb n d) (make k l m n))
  four_mapped a b c d make (k ∷ l ∷ m ∷ n ∷ o ∷ ns) found e = rw e refl

-- if `found` is the operands read from a list of one to four numbers, `make` of `found` is the value made from the list
module _ {B : Type 0} where
  pub one_made : (a : ℕ) (make : ℕ → B) (ns : List ℕ) (found : Option ℕ) → found ≡ one a (λ k. k) ns → option_map make found ≡ one a make ns
  one_made a make ns found e = one_mapped make a (λ k. k) ns found e

  pub two_made : (a b : ℕ) (make : ℕ → ℕ → B) (ns : List ℕ) (found : Option (ℕ × ℕ)) → found ≡ two a b (λ k l. (k, l)) ns
      → option_map (λ it. make it.0 it.1) found ≡ two a b make ns
  two_made a b make ns found e = two_mapped (λ it. make it.0 it.1) a b (λ k l. (k, l)) ns found e

  pub three_made : (a b c : ℕ) (make : ℕ → ℕ → ℕ → B) (ns : List ℕ) (found : Option (ℕ × ℕ × ℕ)) → found ≡ three a b c (λ k l m. (k, l, m)) ns
      → option_map (λ it. make it.0 it.1 it.2) found ≡ three a b c make ns
  three_made a b c make ns found e = three_mapped (λ it. make it.0 it.1 it.2) a b c (λ k l m. (k, l, m)) ns found e

  pub four_made : (a b c d : ℕ) (make : ℕ → ℕ → ℕ → ℕ → B) (ns : List ℕ) (found : Option (ℕ × ℕ × ℕ × ℕ)) → found ≡ four a b c d (λ k l m n. (k, l, m, n)) ns
      → option_map (λ it. make it.0 it.1 it.2 it.3) found ≡ four a b c d make ns
  four_made a b c d make ns found e = four_mapped (λ it. make it.0 it.1 it.2 it.3) a b c d (λ k l m n. (k, l, m, n)) ns found e

-- ---- the row of this word, or a later row

module _ {A : Type 0} (P : List ℕ → List ℕ → A → Type 0) (word ns : List ℕ) (value : A) where
  pub choose : (here : List ℕ) (row : List ℕ → Option A) (other : Option A) → ((ms : List ℕ) (made : A) → row ms ≡ Some made → P here ms made) → (other ≡ Some value → P word ns value)
      → cond (bytes_eq word here) (row ns) other ≡ Some value → P word ns value
  choose here row other makes go_on e =
      elim (cases_Bool (bytes_eq word here)) [
        | inl test ↦
            let same : word ≡ here = (bytes_eq-Decides word here).0 test in
            rw same (makes ns value (rw test at e))
        | inr test ↦ go_on (rw test at e)
      ]

  -- a value found in one of two groups of words has the property, if the values of each group have it
  pub either : (first other : Option A) → (first ≡ Some value → P word ns value) → (other ≡ Some value → P word ns value) → option_or first other ≡ Some value → P word ns value
  either None other here go_on e = go_on e
  either (Some made) other here go_on e = here e

  -- a value found in one of five groups of words has the property, if the values of each group have it
  pub among_five : (a b c d e : Option A) → (a ≡ Some value → P word ns value) → (b ≡ Some value → P word ns value) → (c ≡ Some value → P word ns value)
      → (d ≡ Some value → P word ns value) → (e ≡ Some value → P word ns value) → option_or a (option_or b (option_or c (option_or d e))) ≡ Some value → P word ns value
  among_five a b c d e in_a in_b in_c in_d in_e =
      either a (option_or b (option_or c (option_or d e))) in_a (either b (option_or c (option_or d e)) in_b (either c (option_or d e) in_c (either d e in_d in_e)))
