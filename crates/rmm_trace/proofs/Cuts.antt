-- Lemmas on the split of a text at the byte `mark`: the split is at its first occurrence, and a text without that byte
-- stays whole.
use Rattle.std.proofs.Common.{◌≡◌, ℕ, suc, ◌<◌, ◌≤◌, ◌+◌, List, [], ◌∷◌, ◌++◌, length, get_or, take, drop, Bool, true, false, not, cond, eqb, Some, None, refl, sym, ap, ◌∙◌}
use Rattle.std.proofs.Common.{add-one, append_assoc, append-nil, drop-cons, eq-eqb}
use Rattle.std.proofs.Math.Seq.{take-suc}
use Rattle.std.proofs.Math.ListN.{drop_of_length-le}
use Rattle.std.proofs.lemmas.List.{take_all}
use Rattle.std.specs.List.{list_all}
use Rattle.std.proofs.lemmas.Bool.{and_parts, not-true}
use Rattle.rmm_trace.specs.Cuts.{before_mark, after_mark}

before_cons : (mark : ℕ) (xs : List ℕ) (b : ℕ) (bs : List ℕ) (t : Bool) → xs ≡ b ∷ bs → eqb b mark ≡ t → before_mark mark xs ≡ cond t [] (b ∷ before_mark mark bs)
before_cons mark xs b bs t is test = ap (before_mark mark) is ∙ ap (λ (u : Bool). cond u [] (b ∷ before_mark mark bs)) test

after_cons : (mark : ℕ) (xs : List ℕ) (b : ℕ) (bs : List ℕ) (t : Bool) → xs ≡ b ∷ bs → eqb b mark ≡ t → after_mark mark xs ≡ cond t (Some bs) (after_mark mark bs)
after_cons mark xs b bs t is test = ap (after_mark mark) is ∙ ap (λ (u : Bool). cond u (Some bs) (after_mark mark bs)) test

-- the split of the whole text is the split of the text after its first `at` bytes, with these bytes put in front
pub record Passed (mark : ℕ) (text : List ℕ) (at : ℕ) : Type 0 where
  pub before : before_mark mark text ≡ take at text ++ before_mark mark (drop at text)
  pub after : after_mark mark text ≡ after_mark mark (drop at text)

pub passed_none : (mark : ℕ) (text : List ℕ) → Passed mark text 0
passed_none mark text = record { before = refl; after = refl }

pub passed_more : (mark : ℕ) (text : List ℕ) (at : ℕ) → at < length text → eqb (get_or text at 0) mark ≡ false → Passed mark text at → Passed mark text (at + 1)
passed_more mark text at within test passed =
    let is = drop-cons text at 0 within in
    let b = get_or text at 0 in
    let bs = drop (suc at) text in
    rw add-one (record {
      before = passed.before ∙ ap (λ t. take at text ++ t) (before_cons mark (drop at text) b bs false is test)
          ∙ sym (append_assoc (take at text) (b ∷ []) (before_mark mark bs)) ∙ ap (λ t. t ++ before_mark mark bs) (sym (take-suc text at 0 within));
      after = passed.after ∙ after_cons mark (drop at text) b bs false is test;
    })

pub before_here : (mark : ℕ) (text : List ℕ) (at : ℕ) → at < length text → eqb (get_or text at 0) mark ≡ true → Passed mark text at → take at text ≡ before_mark mark text
before_here mark text at within test passed =
    let is = drop-cons text at 0 within in
    sym (passed.before ∙ ap (λ t. take at text ++ t) (before_cons mark (drop at text) (get_or text at 0) (drop (suc at) text) true is test) ∙ append-nil (take at text))

pub after_here : (mark : ℕ) (text : List ℕ) (at : ℕ) → at < length text → eqb (get_or text at 0) mark ≡ true → Passed mark text at → Some (drop (at + 1) text) ≡ after_mark mark text
after_here mark text at within test passed =
    let is = drop-cons text at 0 within in
    rw add-one (sym (passed.after ∙ after_cons mark (drop at text) (get_or text at 0) (drop (suc at) text) true is test))

pub before_all : (mark : ℕ) (text : List ℕ) (at : ℕ) → length text ≤ at → Passed mark text at → text ≡ before_mark mark text
before_all mark text at past passed =
    let none : drop at text ≡ [] = drop_of_length-le text past in
    sym (passed.before ∙ ap (λ t. take at text ++ before_mark mark t) none ∙ append-nil (take at text) ∙ take_all at text past)

pub after_all : (mark : ℕ) (text : List ℕ) (at : ℕ) → length text ≤ at → Passed mark text at → None ≡ after_mark mark text
after_all mark text at past passed =
    let none : drop at text ≡ [] = drop_of_length-le text past in
    sym (passed.after ∙ ap (after_mark mark) none)

-- ---- texts without the mark

abbrev pub lacks : ℕ → List ℕ → Bool
lacks mark bs = list_all (λ b. not (eqb b mark)) bs

pub lacks-append : (mark : ℕ) (xs ys : List ℕ) → lacks mark xs ≡ true → lacks mark ys ≡ true → lacks mark (xs ++ ys) ≡ true
lacks-append mark [] ys h k = k
lacks-append mark (x ∷ xs) ys h k =
    let parts = and_parts (not (eqb x mark)) (lacks mark xs) h in
    rw (parts.0, lacks-append mark xs ys parts.1 k) refl

pub before_lacking : (mark : ℕ) (xs : List ℕ) → lacks mark xs ≡ true → before_mark mark xs ≡ xs
before_lacking mark [] h = refl
before_lacking mark (x ∷ xs) h =
    let parts = and_parts (not (eqb x mark)) (lacks mark xs) h in
    let apart : eqb x mark ≡ false = not-true (eqb x mark) parts.0 in
    rw apart (ap (λ t. x ∷ t) (before_lacking mark xs parts.1))

pub after_lacking : (mark : ℕ) (xs : List ℕ) → lacks mark xs ≡ true → after_mark mark xs ≡ None
after_lacking mark [] h = refl
after_lacking mark (x ∷ xs) h =
    let parts = and_parts (not (eqb x mark)) (lacks mark xs) h in
    let apart : eqb x mark ≡ false = not-true (eqb x mark) parts.0 in
    rw apart (after_lacking mark xs parts.1)

pub before_at_mark : (mark : ℕ) (xs ys : List ℕ) → lacks mark xs ≡ true → before_mark mark (xs ++ mark ∷ ys) ≡ xs
before_at_mark mark [] ys h = rw (eq-eqb mark mark refl) refl
before_at_mark mark (x ∷ xs) ys h =
    let parts = and_parts (not (eqb x mark)) (lacks mark xs) h in
    let apart : eqb x mark ≡ false = not-true (eqb x mark) parts.0 in
    rw apart (ap (λ t. x ∷ t) (before_at_mark mark xs ys parts.1))

pub after_at_mark : (mark : ℕ) (xs ys : List ℕ) → lacks mark xs ≡ true → after_mark mark (xs ++ mark ∷ ys) ≡ Some ys
after_at_mark mark [] ys h = rw (eq-eqb mark mark refl) refl
after_at_mark mark (x ∷ xs) ys h =
    let parts = and_parts (not (eqb x mark)) (lacks mark xs) h in
    let apart : eqb x mark ≡ false = not-true (eqb x mark) parts.0 in
    rw apart (after_at_mark mark xs ys parts.1)
