-- Lemmas on the comparison of answers in a trace: values are compared pair by pair, and the words of an answer are
-- split into parts.
use Rattle.std.proofs.Common.{◌≡◌, ℕ, zero, suc, ◌+◌, ◌<◌, ◌≤◌, max, List, [], ◌∷◌, ◌++◌, length, take, drop, Bool, true, false, cond, ◌&&◌, refl, sym, ap, ◌∙◌, arith, add-one, length-drop}
use Rattle.std.specs.List.{onto_first}
use Rattle.rmm_trace.specs.declared.word.TraceWord.{TraceWord}
use Rattle.rmm_trace.specs.Compare.{first_of, rest_of, is_same_value, are_values, ends_part, parts}

-- ---- values

pub values_step : (xs ys : List TraceWord) → 0 < max (length xs) (length ys) → are_values xs ys ≡ is_same_value (first_of xs) (first_of ys) && are_values (rest_of xs) (rest_of ys)
values_step [] [] some = absurd (omega arith)
values_step [] (y ∷ ys) some = refl
values_step (x ∷ xs) [] some = refl
values_step (x ∷ xs) (y ∷ ys) some = refl

pub rest_smaller : (xs ys : List TraceWord) → 0 < max (length xs) (length ys) → length (rest_of xs) + length (rest_of ys) < length xs + length ys
rest_smaller [] [] some = absurd (omega arith)
rest_smaller [] (y ∷ ys) some = omega arith
rest_smaller (x ∷ xs) [] some = omega arith
rest_smaller (x ∷ xs) (y ∷ ys) some = omega arith

pub values_differ : (xs ys : List TraceWord) (a b : TraceWord) → 0 < max (length xs) (length ys) → a ≡ first_of xs → b ≡ first_of ys → is_same_value a b ≡ false → false ≡ are_values xs ys
values_differ xs ys a b some is_a is_b test =
    let same : is_same_value (first_of xs) (first_of ys) ≡ false = sym (λ i. is_same_value (is_a i) (is_b i)) ∙ test in
    sym (values_step xs ys some ∙ ap (λ (t : Bool). t && are_values (rest_of xs) (rest_of ys)) same)

-- ---- parts

pub split_is : (ws : List TraceWord) (w : TraceWord) (rest : List TraceWord) → 0 < length ws → w ≡ first_of ws → rest ≡ rest_of ws → ws ≡ w ∷ rest
split_is [] w rest some is_first is_rest = absurd (omega arith)
split_is (v ∷ ws) w rest some is_first is_rest = λ i. sym is_first i ∷ sym is_rest i

pub none_left : (ws : List TraceWord) → length ws ≤ 0 → ws ≡ []
none_left [] none = refl
none_left (w ∷ ws) none = absurd (omega arith)

-- the given parts, with the given words in front of the first part
abbrev pub onto_all : List TraceWord → List (List TraceWord) → List (List TraceWord)
onto_all [] ps = ps
onto_all (x ∷ xs) ps = onto_first x (onto_all xs ps)

onto_all-cons : (xs p : List TraceWord) (ps : List (List TraceWord)) → onto_all xs (p ∷ ps) ≡ (xs ++ p) ∷ ps
onto_all-cons [] p ps = refl
onto_all-cons (x ∷ xs) p ps = ap (onto_first x) (onto_all-cons xs p ps)

onto_all-more : (xs : List TraceWord) (w : TraceWord) (ps : List (List TraceWord)) → onto_all (xs ++ w ∷ []) ps ≡ onto_all xs (onto_first w ps)
onto_all-more [] w ps = refl
onto_all-more (x ∷ xs) w ps = ap (onto_first x) (onto_all-more xs w ps)

onto_all-none : (xs : List TraceWord) → 0 < length xs → onto_all xs [] ≡ xs ∷ []
onto_all-none [] some = absurd (omega arith)
onto_all-none (x ∷ []) some = refl
onto_all-none (x ∷ y ∷ xs) some = ap (onto_first x) (onto_all-none (y ∷ xs) (omega arith))

-- the word at index `end` is `w`, and the words after it are `rest`
pub record NextWord (words : List TraceWord) (end : ℕ) (w : TraceWord) (rest : List TraceWord) : Type 0 where
  pub front : take (end + 1) words ≡ take end words ++ w ∷ []
  pub left : rest ≡ drop (end + 1) words
  pub within : end < length words

next_word : (words : List TraceWord) (end : ℕ) (w : TraceWord) (rest : List TraceWord) → drop end words ≡ w ∷ rest → NextWord words end w rest
next_word [] zero w rest e = absurd (cc)
next_word [] (suc end) w rest e = absurd (cc)
next_word (x ∷ words) zero w rest e =
    let same : x ≡ w = cc in
    record { front = ap (λ (v : TraceWord). v ∷ []) same; left = cc; within = omega arith }
next_word (x ∷ words) (suc end) w rest e =
    let more = next_word words end w rest e in
    record { front = rw add-one (ap (λ t. x ∷ t) (rw add-one at more.front)); left = rw add-one (rw add-one at more.left); within = omega (arith, more.within) }

-- the first `end` words belong to the first part of `words`, and the words after them are `left`
pub record InFirst (words : List TraceWord) (end : ℕ) (left : List TraceWord) : Type 0 where
  pub is_left : left ≡ drop end words
  pub in_first : parts words ≡ onto_all (take end words) (parts left)

pub in_first_none : (words : List TraceWord) → InFirst words 0 words
in_first_none words = record { is_left = refl; in_first = refl }

parts-end : (w : TraceWord) (rest : List TraceWord) (t : Bool) → ends_part w rest ≡ t → parts (w ∷ rest) ≡ cond t ((w ∷ []) ∷ parts rest) (onto_first w (parts rest))
parts-end w rest t test = ap (λ (u : Bool). cond u ((w ∷ []) ∷ parts rest) (onto_first w (parts rest))) test

pub in_first_more : (words : List TraceWord) (end : ℕ) (left : List TraceWord) (w : TraceWord) (rest : List TraceWord) → left ≡ w ∷ rest → ends_part w rest ≡ false → InFirst words end left → InFirst words (end + 1) rest
in_first_more words end left w rest is test so_far =
    let next = next_word words end w rest (sym so_far.is_left ∙ is) in
    record {
      is_left = next.left;
      in_first = so_far.in_first ∙ ap (λ ws. onto_all (take end words) (parts ws)) is ∙ ap (onto_all (take end words)) (parts-end w rest false test)
          ∙ sym (onto_all-more (take end words) w (parts rest)) ∙ ap (λ ws. onto_all ws (parts rest)) (sym next.front);
    }

-- if the first `end` words are in the first part of `words`, and the next word `w` ends it, the parts are the first
-- `end + 1` words and those of `rest`
pub first_ends : (words : List TraceWord) (end : ℕ) (left : List TraceWord) (w : TraceWord) (rest : List TraceWord) → left ≡ w ∷ rest → ends_part w rest ≡ true → InFirst words end left
    → parts words ≡ take (end + 1) words ∷ parts rest
first_ends words end left w rest is test so_far =
    let next = next_word words end w rest (sym so_far.is_left ∙ is) in
    so_far.in_first ∙ ap (λ ws. onto_all (take end words) (parts ws)) is ∙ ap (onto_all (take end words)) (parts-end w rest true test)
    ∙ onto_all-cons (take end words) (w ∷ []) (parts rest) ∙ ap (λ ws. ws ∷ parts rest) (sym next.front)

pub rest_is_smaller : (words : List TraceWord) (end : ℕ) (left : List TraceWord) (w : TraceWord) (rest : List TraceWord) → left ≡ w ∷ rest → InFirst words end left → length rest < length words
rest_is_smaller words end left w rest is so_far =
    let next = next_word words end w rest (sym so_far.is_left ∙ is) in
    omega (arith, ap length next.left, length-drop (end + 1) words, next.within)

pub within_words : (words : List TraceWord) (end : ℕ) (left : List TraceWord) (w : TraceWord) (rest : List TraceWord) → left ≡ w ∷ rest → InFirst words end left → end < length words
within_words words end left w rest is so_far = (next_word words end w rest (sym so_far.is_left ∙ is)).within

-- if no word is left after the first `end` words, these are all the words
take_past : (words : List TraceWord) (end : ℕ) → drop end words ≡ [] → take end words ≡ words
take_past [] zero e = refl
take_past [] (suc end) e = refl
take_past (x ∷ words) zero e = absurd (cc)
take_past (x ∷ words) (suc end) e = ap (λ t. x ∷ t) (take_past words end e)

-- if the list `words` is not empty, and no word is left after those of its first part, the first part is the whole list
pub first_is_all : (words : List TraceWord) (end : ℕ) (left : List TraceWord) → 0 < length words → left ≡ [] → InFirst words end left → parts words ≡ words ∷ parts left
first_is_all words end left some is so_far =
    let whole = take_past words end (sym so_far.is_left ∙ is) in
    so_far.in_first ∙ ap (λ ws. onto_all (take end words) (parts ws)) is ∙ ap (λ ws. onto_all ws []) whole ∙ onto_all-none words some
    ∙ ap (λ ws. words ∷ parts ws) (sym is)
