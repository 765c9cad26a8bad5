-- Lemmas about collecting the granules of pages: each page adds one granule, and there is no list if some page has no
-- granule.
use Rattle.std.proofs.Common.{◌≡◌, ℕ, ◌+◌, List, [], ◌∷◌, ◌++◌, length}
use Rattle.std.proofs.Common.{map, Option, Some, refl, sym, ap, ◌∙◌, length-append, append_assoc}
use Rattle.std.proofs.lemmas.List.{map-append, length-map}
use Rattle.realm_program.specs.Fitting.{granule_of_number, ArePushed, HaveNoGranules}

module _ (pages : List ℕ) where
  -- `ArePushed` still holds if one more page is added to the page numbers, and the granule of that page to the end of
  -- the list
  pub pushed_more : (numbers before now after : List ℕ) (number granule : ℕ) → ArePushed pages numbers before now
      → granule_of_number pages number ≡ Some granule → after ≡ now ++ granule ∷ [] → ArePushed pages (numbers ++ number ∷ []) before after
  pushed_more numbers before now after number granule pushed is after_is = (
    pushed.0 ++ granule ∷ [],
    (
      map-append (granule_of_number pages) numbers (number ∷ [])
          ∙ (λ i. pushed.1.0 i ++ is i ∷ [])
          ∙ sym (map-append (λ g. Some g) pushed.0 (granule ∷ [])),
      after_is ∙ ap (λ xs. xs ++ granule ∷ []) pushed.1.1 ∙ append_assoc before pushed.0 (granule ∷ []),
    ),
  )

  -- the list grows by one granule for each page
  pub pushed_count : (numbers before after : List ℕ) → ArePushed pages numbers before after → length after ≡ length before + length numbers
  pushed_count numbers before after pushed =
      ap length pushed.1.1
      ∙ length-append before pushed.0
      ∙ ap (λ n. length before + n) (sym (length-map pushed.0 (λ g. Some g)) ∙ sym (ap length pushed.1.0) ∙ length-map numbers (granule_of_number pages))

-- ---- pages of which one has no granule

parts : {A : Type 0} (f : ℕ → Option A) (xs ys : List ℕ) (all : List A) → map f (xs ++ ys) ≡ map (λ a. Some a) all
    → (front : List A) × ((back : List A) × ((map f xs ≡ map (λ a. Some a) front) × (map f ys ≡ map (λ a. Some a) back)))
parts f [] ys all e = ([], (all, (refl, e)))
parts f (x ∷ xs) ys [] e = cc
parts f (x ∷ xs) ys (a ∷ all) e =
    let head : f x ≡ Some a = cc in
    let tail : map f (xs ++ ys) ≡ map (λ a. Some a) all = cc in
    let rest = parts f xs ys all tail in
    (a ∷ rest.0, (rest.1.0, ((λ i. head i ∷ rest.1.1.0 i), rest.1.1.1)))

module _ (pages first second : List ℕ) where
  pub none_of_first : HaveNoGranules pages first → HaveNoGranules pages (first ++ second)
  none_of_first none all e = let split = parts (granule_of_number pages) first second all e in none split.0 split.1.1.0

  pub none_of_second : HaveNoGranules pages second → HaveNoGranules pages (first ++ second)
  none_of_second none all e = let split = parts (granule_of_number pages) first second all e in none split.1.0 split.1.1.1
