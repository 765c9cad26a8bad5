-- Lemmas for loops that append items to a list, number by number, level by level, or element by element.
use Rattle.std.proofs.Common.{◌≡◌, ℕ, ◌+◌, ◌-◌, ◌<◌, ◌≤◌, List, [], ◌∷◌, ◌++◌, length, take, get_or, sym, ap, ◌∙◌, subst, arith}
use Rattle.std.specs.List.{flat_map, range_with_len, AllZip}
use Rattle.std.proofs.lemmas.List.{flat_map_more, take_more}
use Rattle.std.proofs.lemmas.Slice.Zip.{all_zipped_more}
use Rattle.granule_addr.proofs.Runs.{range_with_len_more}

-- the items for the numbers below `n`, followed by the items for `n`, are those for the numbers below `n + 1`
pub items_more :
    {A : Type 0} (f : ℕ → List A) (n : ℕ) (old mid new : List A)
    → mid ≡ old ++ flat_map f (range_with_len 0 n)
    → new ≡ mid ++ f n
    → new ≡ old ++ flat_map f (range_with_len 0 (n + 1))
items_more f n old mid new so_far more =
    more ∙ ap (λ items. items ++ f n) so_far ∙ flat_map_more f old (range_with_len 0 n) n
    ∙ ap (λ ns. old ++ flat_map f ns) (sym (range_with_len_more 0 n n (omega arith)))

-- the items for the first `i` elements, followed by those for the next element, are those for the first `i + 1`
-- elements
pub elements_more :
    {A B : Type 0} (f : A → List B) (xs : List A) (i : ℕ) (d x : A) (old mid new : List B)
    → i < length xs
    → x ≡ get_or xs i d
    → mid ≡ old ++ flat_map f (take i xs)
    → new ≡ mid ++ f x
    → new ≡ old ++ flat_map f (take (i + 1) xs)
elements_more f xs i d x old mid new below is so_far more =
    more ∙ ap (λ items. items ++ f x) so_far ∙ flat_map_more f old (take i xs) x
    ∙ ap (λ taken. old ++ flat_map f taken) (ap (λ y. take i xs ++ y ∷ []) is ∙ sym (take_more xs i d below))

-- if each element has one item, the items for the first `i` elements and that for the next are those for the first
-- `i + 1`
pub one_element_more :
    {A B : Type 0} (f : A → B) (xs : List A) (i : ℕ) (x : A) (item : B) (old mid new : List B)
    → i < length xs
    → x ≡ get_or xs i x
    → mid ≡ old ++ flat_map (λ a. f a ∷ []) (take i xs)
    → new ≡ mid ++ item ∷ []
    → item ≡ f x
    → new ≡ old ++ flat_map (λ a. f a ∷ []) (take (i + 1) xs)
one_element_more f xs i x item old mid new below is so_far more made =
    elements_more (λ a. f a ∷ []) xs i x x old mid new below is so_far (more ∙ ap (λ it. mid ++ it ∷ []) made)

-- the items of levels 1 to `level - 1`, with those of `level` appended, are the items of levels 1 to `level`
pub levels_more :
    {A : Type 0} (f : ℕ → List A) (level : ℕ) (old mid new : List A)
    → 1 ≤ level
    → mid ≡ old ++ flat_map f (range_with_len 1 (level - 1))
    → new ≡ mid ++ f level
    → new ≡ old ++ flat_map f (range_with_len 1 (level + 1 - 1))
levels_more f level old mid new some so_far more =
    more ∙ ap (λ items. items ++ f level) so_far ∙ flat_map_more f old (range_with_len 1 (level - 1)) level
    ∙ ap (λ ns. old ++ flat_map f ns)
    (sym (range_with_len_more 1 (level - 1) level (omega arith)) ∙ ap (range_with_len 1) (let e : level - 1 + 1 ≡ level + 1 - 1 = omega arith in e))

-- if `R` holds of each number below `n` and its item, and of `n` and an appended item, `R` holds for the numbers below
-- `n + 1`
pub each_more :
    {A : Type 0} (R : ℕ → A → Type 0) (n : ℕ) (old new : List A) (item : A)
    → AllZip R (range_with_len 0 n) old
    → new ≡ old ++ item ∷ []
    → R n item
    → AllZip R (range_with_len 0 (n + 1)) new
each_more R n old new item so_far more is =
    subst (λ ns. AllZip R ns new) (sym (range_with_len_more 0 n n (omega arith)))
    (subst (AllZip R (range_with_len 0 n ++ n ∷ [])) (sym more) (all_zipped_more R (range_with_len 0 n) old n item so_far is))
