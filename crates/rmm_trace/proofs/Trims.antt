-- Lemmas on the removal of blanks from the end of a text: a blank last byte is removed, and any other last byte ends
-- the removal.
use Rattle.std.proofs.Common.{◌≡◌, ℕ, zero, suc, ◌-◌, ◌<◌, ◌≤◌, List, [], ◌∷◌, ◌++◌, length, get_or, take, Bool, true, false, cond, refl, sym, ap, ◌∙◌, arith}
use Rattle.std.proofs.Math.Seq.{take-suc}
use Rattle.rmm_trace.specs.Lines.{is_blank, before_trimmed, trimmed}

before_trimmed-more : (b : ℕ) (xs : List ℕ) (c : ℕ) → before_trimmed b (xs ++ c ∷ []) ≡ b ∷ (xs ++ c ∷ [])
before_trimmed-more b [] c = refl
before_trimmed-more b (x ∷ xs) c = refl

trimmed-blank : (xs : List ℕ) (b : ℕ) → is_blank b ≡ true → trimmed (xs ++ b ∷ []) ≡ trimmed xs
trimmed-blank [] b test = ap (λ (t : Bool). cond t [] (b ∷ [])) test
trimmed-blank (x ∷ xs) b test = ap (before_trimmed x) (trimmed-blank xs b test)

trimmed-kept : (xs : List ℕ) (b : ℕ) → is_blank b ≡ false → trimmed (xs ++ b ∷ []) ≡ xs ++ b ∷ []
trimmed-kept [] b test = ap (λ (t : Bool). cond t [] (b ∷ [])) test
trimmed-kept (x ∷ xs) b test = ap (before_trimmed x) (trimmed-kept xs b test) ∙ before_trimmed-more x xs b

-- if the last of the first `end` bytes is blank, trimming removes it
pub trim_more : (text : List ℕ) (end : ℕ) → 0 < end → end ≤ length text → is_blank (get_or text (end - 1) 0) ≡ true → trimmed (take end text) ≡ trimmed (take (end - 1) text)
trim_more text zero some within test = absurd (omega arith)
trim_more text (suc k) some within test =
    let less : suc k - 1 ≡ k = omega arith in
    let blank : is_blank (get_or text k 0) ≡ true = ap (λ j. is_blank (get_or text j 0)) (sym less) ∙ test in
    ap trimmed (take-suc text k 0 (omega arith)) ∙ trimmed-blank (take k text) (get_or text k 0) blank ∙ ap (λ j. trimmed (take j text)) (sym less)

-- if the last of the first `end` bytes is not blank, trimming leaves these bytes unchanged
pub trim_here : (text : List ℕ) (end : ℕ) → 0 < end → end ≤ length text → is_blank (get_or text (end - 1) 0) ≡ false → take end text ≡ trimmed (take end text)
trim_here text zero some within test = absurd (omega arith)
trim_here text (suc k) some within test =
    let less : suc k - 1 ≡ k = omega arith in
    let kept : is_blank (get_or text k 0) ≡ false = ap (λ j. is_blank (get_or text j 0)) (sym less) ∙ test in
    let whole = take-suc text k 0 (omega arith) in
    whole ∙ sym (ap trimmed whole ∙ trimmed-kept (take k text) (get_or text k 0) kept)
