-- Lemmas on the split of a trace line: the question ends at the first ` = `, and the answer is the text after it.
use Rattle.std.proofs.Common.{◌≡◌, ℕ, suc, ◌<◌, ◌+◌, List, [], ◌∷◌, ◌++◌, length, get_or, take, drop, Bool, true, eqb, refl}
use Rattle.std.proofs.Common.{false, cond, nat_eq, codes, Some, sym, ap, ◌∙◌, add-one, append_assoc, append-nil, drop-cons, drop-drop, length-drop, ◌-◌, arith}
use Rattle.std.proofs.Math.Seq.{take-suc}
use Rattle.std.proofs.lemmas.Bool.{eqb-false, ne_eqb}
use Rattle.std.proofs.lemmas.List.{take_all}
use Rattle.std.specs.List.{starts_with}
use Rattle.rmm_trace.specs.Lines.{before_answer, answer_in}

-- a text begins with ` = `, the sign before an answer
abbrev pub begins : List ℕ → Bool
begins text = starts_with nat_eq text (codes " = ")

before_at : (xs : List ℕ) (b : ℕ) (bs : List ℕ) (t : Bool) → xs ≡ b ∷ bs → begins xs ≡ t → before_answer xs ≡ cond t [] (b ∷ before_answer bs)
before_at xs b bs t is test = ap before_answer is ∙ ap (λ (u : Bool). cond u [] (b ∷ before_answer bs)) (sym (ap begins is) ∙ test)

answer_at : (xs : List ℕ) (b : ℕ) (bs : List ℕ) (t : Bool) → xs ≡ b ∷ bs → begins xs ≡ t → answer_in xs ≡ cond t (Some (drop 3 (b ∷ bs))) (answer_in bs)
answer_at xs b bs t is test = ap answer_in is ∙ ap (λ (u : Bool). cond u (Some (drop 3 (b ∷ bs))) (answer_in bs)) (sym (ap begins is) ∙ test)

-- the split of the whole text at ` = ` is the split of the text after its first `at` bytes, with these bytes put in
-- front
pub record NoSign (text : List ℕ) (at : ℕ) : Type 0 where
  pub before : before_answer text ≡ take at text ++ before_answer (drop at text)
  pub answer : answer_in text ≡ answer_in (drop at text)

pub no_sign_more : (text : List ℕ) (at : ℕ) → at < length text → begins (drop at text) ≡ false → NoSign text at → NoSign text (at + 1)
no_sign_more text at within test passed =
    let is = drop-cons text at 0 within in
    let b = get_or text at 0 in
    let bs = drop (suc at) text in
    rw add-one (record {
      before = passed.before ∙ ap (λ t. take at text ++ t) (before_at (drop at text) b bs false is test)
          ∙ sym (append_assoc (take at text) (b ∷ []) (before_answer bs)) ∙ ap (λ t. t ++ before_answer bs) (sym (take-suc text at 0 within));
      answer = passed.answer ∙ answer_at (drop at text) b bs false is test;
    })

pub before_sign_here : (text : List ℕ) (at : ℕ) → at < length text → begins (drop at text) ≡ true → NoSign text at → take at text ≡ before_answer text
before_sign_here text at within test passed =
    let is = drop-cons text at 0 within in
    sym (passed.before ∙ ap (λ t. take at text ++ t) (before_at (drop at text) (get_or text at 0) (drop (suc at) text) true is test) ∙ append-nil (take at text))

pub answer_here : (text : List ℕ) (at : ℕ) → at < length text → begins (drop at text) ≡ true → NoSign text at → Some (drop (at + 3) text) ≡ answer_in text
answer_here text at within test passed =
    let is = drop-cons text at 0 within in
    sym (passed.answer ∙ answer_at (drop at text) (get_or text at 0) (drop (suc at) text) true is test ∙ ap (λ t. Some (drop 3 t)) (sym is) ∙ ap Some (drop-drop 3 at text))

-- the slice of a text from index `at` to its end is the text without its first `at` bytes
pub rest_from : (text : List ℕ) (at : ℕ) → take (length text - at) (drop at text) ≡ drop at text
rest_from text at = take_all (length text - at) (drop at text) (omega (arith, length-drop at text))

-- a text that does not begin with a space does not begin with ` = `
other_byte : (b : ℕ) (bs : List ℕ) → eqb b 32 ≡ false → begins (b ∷ bs) ≡ false
other_byte b bs apart = let other : eqb 32 b ≡ false = ne_eqb 32 b (λ e. eqb-false b 32 apart (sym e)) in rw other refl

pub no_space_no_sign : (text : List ℕ) (at : ℕ) → at < length text → eqb (get_or text at 0) 32 ≡ false → begins (drop at text) ≡ false
no_space_no_sign text at within apart = ap begins (drop-cons text at 0 within) ∙ other_byte (get_or text at 0) (drop (suc at) text) apart
