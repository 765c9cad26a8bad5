-- Lemmas for the loop that reads the words of a text: each iteration adds one word, or fails at a malformed word or a
-- 65th one.
use Rattle.std.proofs.Common.{◌≡◌, ℕ, zero, suc, ◌+◌, ◌-◌, ◌<◌, ◌≤◌, ◌==◌, List, [], ◌∷◌, ◌++◌, length, true, false, cond, Option, Some, None, option_map, option_and_then, refl, sym, ap, ◌∙◌, arith, append_assoc, length-append}
use Rattle.std.specs.List.{slice_split, onto_first}
use Rattle.rmm_trace.specs.declared.word.TraceWord.{TraceWord}
use Rattle.rmm_trace.specs.Cuts.{before_mark, after_mark}
use Rattle.rmm_trace.specs.Words.{word_in}
use Rattle.rmm_trace.specs.Sentences.{words_in}

-- the texts between the spaces in the rest of a text; no texts if there is no rest
abbrev pub parts_of : Option (List ℕ) → List (List ℕ)
parts_of None = []
parts_of (Some bs) = slice_split (λ b. b == 32) bs

-- the length of the rest of a text plus 1, or 0 if there is no rest
abbrev pub size_of : Option (List ℕ) → ℕ
size_of None = 0
size_of (Some bs) = length bs + 1

-- splitting a text at its spaces gives the text before the first space, and then the texts in the rest after it
pub split_cut : (bs : List ℕ) → slice_split (λ b. b == 32) bs ≡ before_mark 32 bs ∷ parts_of (after_mark 32 bs)
split_cut [] = refl
split_cut (b ∷ bs) = elim (b == 32) as (λ t. cond t ([] ∷ slice_split (λ c. c == 32) bs) (onto_first b (slice_split (λ c. c == 32) bs)) ≡ cond t [] (b ∷ before_mark 32 bs) ∷ parts_of (cond t (Some bs) (after_mark 32 bs))) [
  | true ↦ refl
  | false ↦ ap (onto_first b) (split_cut bs)
]

pub size-after : (bs : List ℕ) → size_of (after_mark 32 bs) ≤ length bs
size-after [] = omega arith
size-after (b ∷ bs) = elim (b == 32) as (λ t. size_of (cond t (Some bs) (after_mark 32 bs)) ≤ suc (length bs)) [
  | true ↦ omega arith
  | false ↦ omega (arith, size-after bs)
]

-- `parts_of rest` is the text of `bs` up to its first space, followed by the parts after that space; `size_of` is
-- smaller after the space
pub record First (rest : Option (List ℕ)) (bs : List ℕ) : Type 0 where
  pub parts : parts_of rest ≡ before_mark 32 bs ∷ parts_of (after_mark 32 bs)
  pub smaller : size_of (after_mark 32 bs) < size_of rest

pub first_of_rest : (rest : Option (List ℕ)) (bs : List ℕ) → rest ≡ Some bs → First rest bs
first_of_rest rest bs is = rw is (record { parts = split_cut bs; smaller = omega (arith, size-after bs) })

-- ---- words found so far

words_first : (most : ℕ) (text : List ℕ) (texts : List (List ℕ)) → 0 < most → words_in most (text ∷ texts) ≡ option_and_then (λ w. option_map (λ ws. w ∷ ws) (words_in (most - 1) texts)) (word_in text)
words_first zero text texts some = absurd (omega arith)
words_first (suc most) text texts some =
    let less : most ≡ suc most - 1 = omega arith in
    ap (λ m. option_and_then (λ w. option_map (λ ws. w ∷ ws) (words_in m texts)) (word_in text)) less

mapped_more : (found : List TraceWord) (w : TraceWord) (o : Option (List TraceWord)) → option_map (λ ws. found ++ ws) (option_map (λ ws. w ∷ ws) o) ≡ option_map (λ ws. (found ++ w ∷ []) ++ ws) o
mapped_more found w None = refl
mapped_more found w (Some ws) = ap Some (sym (append_assoc found (w ∷ []) ws))

-- if the next text spells a word, reading goes on with that word added to those found so far
pub found_more : (all : Option (List TraceWord)) (found : List TraceWord) (rest : Option (List ℕ)) (bs : List ℕ) (w : TraceWord) → length found < 64 → rest ≡ Some bs → Some w ≡ word_in (before_mark 32 bs)
    → all ≡ option_map (λ ws. found ++ ws) (words_in (64 - length found) (parts_of rest))
    → all ≡ option_map (λ ws. (found ++ w ∷ []) ++ ws) (words_in (64 - length (found ++ w ∷ [])) (parts_of (after_mark 32 bs)))
found_more all found rest bs w room is here so_far =
    let first = first_of_rest rest bs is in
    let some : 0 < 64 - length found = omega arith in
    let less : 64 - length found - 1 ≡ 64 - length (found ++ w ∷ []) = rw (length-append found (w ∷ [])) (omega arith) in
    so_far ∙ ap (λ ts. option_map (λ ws. found ++ ws) (words_in (64 - length found) ts)) first.parts
    ∙ ap (option_map (λ ws. found ++ ws)) (words_first (64 - length found) (before_mark 32 bs) (parts_of (after_mark 32 bs)) some
    ∙ ap (option_and_then (λ x. option_map (λ ws. x ∷ ws) (words_in (64 - length found - 1) (parts_of (after_mark 32 bs))))) (sym here))
    ∙ mapped_more found w (words_in (64 - length found - 1) (parts_of (after_mark 32 bs)))
    ∙ ap (λ m. option_map (λ ws. (found ++ w ∷ []) ++ ws) (words_in m (parts_of (after_mark 32 bs)))) less

-- if the next text spells no word, reading fails
pub found_no_word : (all : Option (List TraceWord)) (found : List TraceWord) (rest : Option (List ℕ)) (bs : List ℕ) → length found < 64 → rest ≡ Some bs → None ≡ word_in (before_mark 32 bs)
    → all ≡ option_map (λ ws. found ++ ws) (words_in (64 - length found) (parts_of rest)) → None ≡ all
found_no_word all found rest bs room is here so_far =
    let first = first_of_rest rest bs is in
    let some : 0 < 64 - length found = omega arith in
    sym (so_far ∙ ap (λ ts. option_map (λ ws. found ++ ws) (words_in (64 - length found) ts)) first.parts
    ∙ ap (option_map (λ ws. found ++ ws)) (words_first (64 - length found) (before_mark 32 bs) (parts_of (after_mark 32 bs)) some
    ∙ ap (option_and_then (λ x. option_map (λ ws. x ∷ ws) (words_in (64 - length found - 1) (parts_of (after_mark 32 bs))))) (sym here)))

-- if 64 words are found and another text is left, reading fails
pub found_too_many : (all : Option (List TraceWord)) (found : List TraceWord) (rest : Option (List ℕ)) (bs : List ℕ) → length found ≡ 64 → rest ≡ Some bs
    → all ≡ option_map (λ ws. found ++ ws) (words_in (64 - length found) (parts_of rest)) → None ≡ all
found_too_many all found rest bs full is so_far =
    let first = first_of_rest rest bs is in
    let none : 64 - length found ≡ 0 = omega arith in
    sym (so_far ∙ ap (λ ts. option_map (λ ws. found ++ ws) (words_in (64 - length found) ts)) first.parts
    ∙ ap (λ m. option_map (λ ws. found ++ ws) (words_in m (before_mark 32 bs ∷ parts_of (after_mark 32 bs)))) none)

-- if no text is left, the words found so far are the result
pub found_all : (all : Option (List TraceWord)) (found : List TraceWord) (rest : Option (List ℕ)) → rest ≡ None → all ≡ option_map (λ ws. found ++ ws) (words_in (64 - length found) (parts_of rest)) → Some (found ++ []) ≡ all
found_all all found rest is so_far =
    sym (so_far ∙ ap (λ r. option_map (λ ws. found ++ ws) (words_in (64 - length found) (parts_of r))) is ∙ ap (option_map (λ ws. found ++ ws)) (words_in_none (64 - length found)))
  where
    words_in_none : (most : ℕ) → words_in most [] ≡ Some []
    words_in_none zero = refl
    words_in_none (suc most) = refl
