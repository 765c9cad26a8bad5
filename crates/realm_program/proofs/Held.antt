-- Lemmas about finding the granule of a build's page by going through the pages of the build's open operations.
use Rattle.std.proofs.Common.{Bool, true, false, subst, ◌≡◌, ℕ, zero, suc, ◌+◌, ◌^◌, ◌<◌, List, [], ◌∷◌, ◌++◌, length}
use Rattle.std.proofs.Common.{map, drop, get_or, Option, Some, None, refl, sym, ap, ◌∙◌, arith, length-append}
use Rattle.std.specs.Prelude.{slice_get, option_and_then, nat_lt, ◌&&◌, if◌then◌else◌}
use Rattle.std.specs.List.{flat_map, range_with_len}
use Rattle.std.proofs.lemmas.List.{drop_more}
use Rattle.std.proofs.lemmas.List.FromFn.{length-range_with_len, get_or-range_with_len}
use Rattle.std.proofs.lemmas.Option.{slice_get-get_or, same_Some}
use Rattle.realm_model.specs.declared.act.Act.{Act}
use Rattle.realm_model.specs.declared.act.Act.TheVariants.{Take}
use Rattle.realm_model.specs.Act.{block}
use Rattle.realm_model.specs.History.{pages_held}
use Rattle.realm_program.specs.Fitting.{granule_of_number}

-- ---- a page of one list after another

slice_get-append_left : {A : Type 0} (xs ys : List A) (k : ℕ) → k < length xs → slice_get (xs ++ ys) k ≡ slice_get xs k
slice_get-append_left [] ys k inside = absurd (omega arith)
slice_get-append_left (x ∷ xs) ys zero inside = refl
slice_get-append_left (x ∷ xs) ys (suc k) inside = slice_get-append_left xs ys k (omega arith)

slice_get-append_right : {A : Type 0} (xs ys : List A) (k j : ℕ) → length xs + j ≡ k → slice_get (xs ++ ys) k ≡ slice_get ys j
slice_get-append_right [] ys k j e = ap (slice_get ys) (let same : k ≡ j = omega arith in same)
slice_get-append_right (x ∷ xs) ys zero j e = absurd (omega arith)
slice_get-append_right (x ∷ xs) ys (suc k) j e = slice_get-append_right xs ys k j (omega arith)

-- the number at index `place` of a range of consecutive numbers is the first number plus `place`
pub slice_get-range_with_len : (first count place : ℕ) → place < count → slice_get (range_with_len first count) place ≡ Some (first + place)
slice_get-range_with_len first count place inside =
    let long = length-range_with_len first count in
    slice_get-get_or (range_with_len first count) place 0 (omega arith) ∙ ap (λ n. Some n) (get_or-range_with_len first count place 0 inside)

-- ---- the pages of the acts that are left

module _ (opened : List Act) (i : ℕ) (act : Act) (inside : i < length opened) (is : act ≡ get_or opened i act) where
  left_pages : flat_map pages_held (drop i opened) ≡ pages_held act ++ flat_map pages_held (drop (i + 1) opened)
  left_pages =
      ap (flat_map pages_held) (drop_more opened i act inside)
      ∙ ap (λ (a : Act). pages_held a ++ flat_map pages_held (drop (i + 1) opened)) (sym is)

  pub granule_here : (left : ℕ) → left < length (pages_held act) → granule_of_number (flat_map pages_held (drop i opened)) left ≡ granule_of_number (pages_held act) left
  granule_here left here =
      ap (λ pages. granule_of_number pages left) left_pages
      ∙ ap (option_and_then _) (slice_get-append_left (pages_held act) (flat_map pages_held (drop (i + 1) opened)) left here)

  pub granule_later : (left less : ℕ) → length (pages_held act) + less ≡ left
      → granule_of_number (flat_map pages_held (drop i opened)) left ≡ granule_of_number (flat_map pages_held (drop (i + 1) opened)) less
  granule_later left less e =
      ap (λ pages. granule_of_number pages left) left_pages
      ∙ ap (option_and_then _) (slice_get-append_right (pages_held act) (flat_map pages_held (drop (i + 1) opened)) left less e)

  pub length_left : length (flat_map pages_held (drop i opened)) ≡ length (pages_held act) + length (flat_map pages_held (drop (i + 1) opened))
  length_left = ap length left_pages ∙ length-append (pages_held act) (flat_map pages_held (drop (i + 1) opened))

-- ---- lists of granules

-- if one of the pages has no granule, no list has the granules of all the pages
pub no_granule : (f : ℕ → Option ℕ) (numbers granules : List ℕ) (i d : ℕ) → i < length numbers → f (get_or numbers i d) ≡ None → map f numbers ≡ map (λ granule. Some granule) granules → ⊥
no_granule f [] granules i d inside none e = absurd (omega arith)
no_granule f (n ∷ ns) [] i d inside none e = cc
no_granule f (n ∷ ns) (g ∷ gs) zero d inside none e =
    let head : f n ≡ Some g = cc in
    let no : None ≡ Some g = sym none ∙ head in
    cc
no_granule f (n ∷ ns) (g ∷ gs) (suc i) d inside none e =
    let tail : map f ns ≡ map (λ granule. Some granule) gs = cc in
    no_granule f ns gs i d (omega arith) none tail

-- if two lists are equal once `Some` is put around each element, they are equal
pub same_granules : (xs ys : List ℕ) → map (λ granule. Some granule) xs ≡ map (λ granule. Some granule) ys → xs ≡ ys
same_granules [] [] e = refl
same_granules [] (y ∷ ys) e = cc
same_granules (x ∷ xs) [] e = cc
same_granules (x ∷ xs) (y ∷ ys) e =
    let head : Some x ≡ Some y = cc in
    let tail : map (λ granule. Some granule) xs ≡ map (λ granule. Some granule) ys = cc in
    (λ i. same_Some x y head i ∷ same_granules xs ys tail i)

-- if `place` is an index in the list of a block's granules, `place` is below 2^order
pub place_below : (order place first : ℕ) → place < length (block order first) → place < 2 ^ order
place_below order place first inside = let long = length-range_with_len first (2 ^ order) in omega arith

-- the granule of page `place` of a taken block is the block's first granule plus `place`, or none if the sum is not
-- below 4,096
pub granule_of_number-block : (act : Act) (order first place number : ℕ) (made : Option ℕ) → act ≡ Take order first → number ≡ first → place < length (pages_held act)
    → made ≡ (if nat_lt (number + place) 4096 && nat_lt (number + place) 4096 then Some (number + place) else None) → made ≡ granule_of_number (pages_held act) place
granule_of_number-block act order first place number made is same inside made_is =
    let there : place < 2 ^ order = place_below order place first (subst (λ (a : Act). place < length (pages_held a)) is inside) in
    made_is
    ∙ twice (nat_lt (number + place) 4096) (number + place)
    ∙ ap (λ n. if nat_lt (n + place) 4096 then Some (n + place) else None) same
    ∙ sym (ap (λ o. option_and_then (λ n. if nat_lt n 4096 then Some n else None) o) (slice_get-range_with_len first (2 ^ order) place there))
    ∙ sym (ap (λ (a : Act). granule_of_number (pages_held a) place) is)
  where
    twice : (test : Bool) (n : ℕ) → (if test && test then Some n else None) ≡ (if test then Some n else None)
    twice true n = refl
    twice false n = refl
