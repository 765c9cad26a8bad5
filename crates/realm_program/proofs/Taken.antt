-- Proofs that the elements taken one by one from a list, followed by those left, are always the whole list.
use Rattle.std.proofs.Common.{◌≡◌, ℕ, ◌+◌, List, [], ◌∷◌, ◌++◌, length, sym, ap, ◌∙◌, append_assoc, append-nil, arith}

none_left : {X : Type 0} (taken left : List X) → length left ≡ 0 → taken ++ left ≡ taken
none_left taken [] none = append-nil taken
none_left taken (x ∷ xs) none = absurd (omega arith)

module _ {X : Type 0} (taken left all : List X) (n : ℕ) (are : taken ++ left ≡ all) (count : n ≡ length left) where
  pub taken_more : (x : X) (rest : List X) → left ≡ x ∷ rest → (taken ++ x ∷ []) ++ rest ≡ all
  taken_more x rest next = append_assoc taken (x ∷ []) rest ∙ ap (λ (l : List X). taken ++ l) (sym next) ∙ are

  pub left_less : (x : X) (rest : List X) (m : ℕ) → left ≡ x ∷ rest → m + 1 ≡ n → m ≡ length rest
  left_less x rest m next gone = let short = ap length next in omega arith

  pub taken_all : n ≡ 0 → taken ≡ all
  taken_all none = sym (none_left taken left (sym count ∙ none)) ∙ are
