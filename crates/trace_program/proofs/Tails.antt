-- Proofs that a line's question and answer fit within the line, and that the bytes after both are those that `tail_of`
-- gives.
use Rattle.std.proofs.Common.{◌≡◌, ℕ, ◌+◌, ◌≤◌, ◌==◌, Bool, true, false, cond, ◌&&◌, List, [], ◌∷◌, length, drop, codes, refl, arith, length-drop, drop-drop, ap, ◌∙◌}
use Rattle.std.specs.Prelude.{nat_eq, Option, Some, None}
use Rattle.std.specs.List.{starts_with}
use Rattle.std.proofs.lemmas.Bool.{true≢false}
use Rattle.rmm_trace.specs.Cuts.{before_mark}
use Rattle.trace_program.specs.LineText.{tail_of}
use Rattle.rmm_trace.specs.Lines.{is_blank, trimmed, before_trimmed, bare_text, before_answer, answer_in}

before_short : (b : ℕ) (t : List ℕ) → length (before_trimmed b t) ≤ 1 + length t
before_short b [] = elim (is_blank b) as (λ v. length (cond v [] (b ∷ [])) ≤ 1) [ true ↦ omega arith | false ↦ omega arith ]
before_short b (c ∷ bs) = omega arith

trimmed_short : (bs : List ℕ) → length (trimmed bs) ≤ length bs
trimmed_short [] = omega arith
trimmed_short (b ∷ bs) = omega (arith, before_short b (trimmed bs), trimmed_short bs)

mark_short : (mark : ℕ) (bs : List ℕ) → length (before_mark mark bs) ≤ length bs
mark_short mark [] = omega arith
mark_short mark (b ∷ bs) =
    elim (b == mark) as (λ v. length (cond v [] (b ∷ before_mark mark bs)) ≤ length (b ∷ bs)) [
      | true ↦ omega arith
      | false ↦ omega (arith, mark_short mark bs)
    ]

pub bare_short : (line : List ℕ) → length (bare_text line) ≤ length line
bare_short line = omega (arith, trimmed_short (before_mark 35 line), mark_short 35 line)

-- the length of a line's answer with ` = ` before it, or 0 without an answer
abbrev pub answer_length : Option (List ℕ) → ℕ
answer_length (Some answer) = 3 + length answer
answer_length None = 0

-- a conjunction that ends in false is not true
false_end : (v w : Bool) → (v && (w && false)) ≡ true → ⊥
false_end true true e = absurd (cc)
false_end true false e = absurd (cc)
false_end false w e = absurd (cc)

false_soon : (v : Bool) → (v && false) ≡ true → ⊥
false_soon true e = absurd (cc)
false_soon false e = absurd (cc)

sign_length : (bs : List ℕ) → starts_with nat_eq bs (codes " = ") ≡ true → 3 ≤ length bs
sign_length [] is = absurd (cc)
sign_length (a ∷ []) is = absurd (false_soon _ is)
sign_length (a ∷ b ∷ []) is = absurd (false_end _ _ is)
sign_length (a ∷ b ∷ c ∷ bs) is = omega arith

-- a text is as long as its question and its answer, if any, with ` = ` between them
pub cut_length : (t : List ℕ) → length (before_answer t) + answer_length (answer_in t) ≡ length t
cut_length [] = refl
cut_length (b ∷ bs) =
    elim (starts_with nat_eq (b ∷ bs) (codes " = ")) as (λ v. starts_with nat_eq (b ∷ bs) (codes " = ") ≡ v
    → length (cond v [] (b ∷ before_answer bs)) + answer_length (cond v (Some (drop 3 (b ∷ bs))) (answer_in bs)) ≡ length (b ∷ bs)) [
      | true ↦ λ is. omega (arith, sign_length (b ∷ bs) is, length-drop 3 (b ∷ bs))
      | false ↦ λ is. omega (arith, cut_length bs)
    ] refl

-- ---- the end of a line

module _ (line question : List ℕ) (is : question ≡ before_answer (bare_text line)) where
  all : length question + answer_length (answer_in (bare_text line)) ≡ length (bare_text line)
  all = rw is (cut_length (bare_text line))

  pub question_short : length question ≤ length line
  question_short = omega (arith, all, bare_short line)

  pub tail_without : answer_in (bare_text line) ≡ None → drop (length question) line ≡ tail_of line
  unfolding tail_of
  tail_without none = let whole = rw none at all in let same : length question ≡ length (bare_text line) = omega (arith, whole) in rw same refl

  module _ (answer : List ℕ) (has : answer_in (bare_text line) ≡ Some answer) where
    whole : length question + (3 + length answer) ≡ length (bare_text line)
    whole = rw has at all

    pub sign_short : 3 ≤ length (drop (length question) line)
    sign_short = omega (arith, whole, bare_short line, length-drop (length question) line)

    pub answer_short : length answer ≤ length (drop 3 (drop (length question) line))
    answer_short = omega (arith, whole, bare_short line, length-drop (length question) line, length-drop 3 (drop (length question) line))

    pub tail_with : drop (length answer) (drop 3 (drop (length question) line)) ≡ tail_of line
    unfolding tail_of
    tail_with =
        let end : length question + 3 + length answer ≡ length (bare_text line) = omega (arith, whole) in
        ap (drop (length answer)) (drop-drop 3 (length question) line) ∙ drop-drop (length answer) (length question + 3) line ∙ ap (λ k. drop k line) end
