-- Proofs that a printed line of a trace, with or without an answer, is read back unchanged.
use Rattle.std.proofs.Common.{◌≡◌, ℕ, ◌<◌, ◌≤◌, List, [], ◌∷◌, ◌++◌, length, Bool, true, false, not, cond, eqb, ltb, Some, None, option_and_then, codes, nat_eq, refl, sym, ap, ◌∙◌, arith, append-nil}
use Rattle.std.proofs.lemmas.Bool.{and_parts, not-true, eqb-false, le-ltb, ne_eqb}
use Rattle.std.proofs.Math.Bool.{and-false}
use Rattle.std.specs.List.{starts_with, AllByRecursion}
use Rattle.arrayvec.specs.ArrayVec.{ArrayVec}
use Rattle.rmm_trace.specs.declared.word.TraceWord.{TraceWord}
use Rattle.rmm_trace.specs.declared.grammar.Group.{Group}
use Rattle.rmm_trace.specs.declared.grammar.Place.{Place}
use Rattle.rmm_trace.specs.declared.line.LineKind.TheVariants.{Neither}
use Rattle.rmm_trace.specs.Words.{word_text, IsWord}
use Rattle.rmm_trace.specs.Sentences.{spaced, sentence_text, IsSentence}
use Rattle.rmm_trace.specs.Lines.{before_trimmed, trimmed, bare_text, before_answer, answer_in, is_question, as_question, question_in, question_of, without_words, as_line, line_of_question, line_in}
use Rattle.rmm_trace.proofs.Cuts.{lacks, lacks-append, before_lacking}
use Rattle.rmm_trace.proofs.Texts.{is_return, is_space, is_hash, is_sign}
use Rattle.rmm_trace.proofs.Words.{word_lacks, word_some}
use Rattle.rmm_trace.proofs.Sentences.{sentence_back}

-- ---- bytes that no sentence has

spaced_lacks : (mark : ℕ) → ((w : TraceWord) → lacks mark (word_text w) ≡ true) → eqb 32 mark ≡ false → (ws : List TraceWord) → lacks mark (spaced ws) ≡ true
spaced_lacks mark words apart [] = refl
spaced_lacks mark words apart (w ∷ ws) = rw apart (lacks-append mark (word_text w) (spaced ws) (words w) (spaced_lacks mark words apart ws))

sentence_lacks : (mark : ℕ) → ((w : TraceWord) → lacks mark (word_text w) ≡ true) → eqb 32 mark ≡ false → (ws : List TraceWord) → lacks mark (sentence_text ws) ≡ true
sentence_lacks mark words apart [] = refl
sentence_lacks mark words apart (w ∷ ws) = lacks-append mark (word_text w) (spaced ws) (words w) (spaced_lacks mark words apart ws)

lacks_hash : (ws : List TraceWord) → lacks 35 (sentence_text ws) ≡ true
lacks_hash ws = sentence_lacks 35 (λ w. word_lacks 35 is_hash refl refl refl w) refl ws

lacks_sign : (ws : List TraceWord) → lacks 61 (sentence_text ws) ≡ true
lacks_sign ws = sentence_lacks 61 (λ w. word_lacks 61 is_sign refl refl refl w) refl ws

-- ---- no blank ends a sentence

before_trimmed-some : (b : ℕ) (xs : List ℕ) → 0 < length xs → before_trimmed b xs ≡ b ∷ xs
before_trimmed-some b [] some = absurd (omega arith)
before_trimmed-some b (x ∷ xs) some = refl

kept : (b : ℕ) (xs : List ℕ) → eqb b 32 ≡ false → eqb b 13 ≡ false → before_trimmed b xs ≡ b ∷ xs
kept b [] space other = rw (space, other) refl
kept b (x ∷ xs) space other = refl

trimmed_lacking : (xs : List ℕ) → lacks 32 xs ≡ true → lacks 13 xs ≡ true → trimmed xs ≡ xs
trimmed_lacking [] h k = refl
trimmed_lacking (x ∷ xs) h k =
    let space = and_parts (not (eqb x 32)) (lacks 32 xs) h in
    let returned = and_parts (not (eqb x 13)) (lacks 13 xs) k in
    ap (before_trimmed x) (trimmed_lacking xs space.1 returned.1) ∙ kept x xs (not-true (eqb x 32) space.0) (not-true (eqb x 13) returned.0)

some_after : (xs ys : List ℕ) → 0 < length ys → 0 < length (xs ++ ys)
some_after [] ys h = h
some_after (x ∷ xs) ys h = omega arith

trimmed-append : (xs ys : List ℕ) → 0 < length ys → trimmed ys ≡ ys → trimmed (xs ++ ys) ≡ xs ++ ys
trimmed-append [] ys some h = h
trimmed-append (x ∷ xs) ys some h = ap (before_trimmed x) (trimmed-append xs ys some h) ∙ before_trimmed-some x (xs ++ ys) (some_after xs ys some)

some_before : (xs ys : List ℕ) → 0 < length xs → 0 < length (xs ++ ys)
some_before [] ys h = absurd (omega arith)
some_before (x ∷ xs) ys h = omega arith

word_trimmed : (w : TraceWord) → trimmed (word_text w) ≡ word_text w
word_trimmed w = trimmed_lacking (word_text w) (word_lacks 32 is_space refl refl refl w) (word_lacks 13 is_return refl refl refl w)

trimmed-spaced : (t : List ℕ) (ws : List TraceWord) → AllByRecursion (λ w. IsWord w) ws → trimmed t ≡ t → trimmed (t ++ spaced ws) ≡ t ++ spaced ws
trimmed-spaced t [] are h = ap trimmed (append-nil t) ∙ h ∙ sym (append-nil t)
trimmed-spaced t (w ∷ ws) are h =
    let rest = trimmed-spaced (word_text w) ws are.1 (word_trimmed w) in
    let some = some_before (word_text w) (spaced ws) (word_some w are.0) in
    trimmed-append t (32 ∷ (word_text w ++ spaced ws)) (omega arith) (ap (before_trimmed 32) rest ∙ before_trimmed-some 32 (word_text w ++ spaced ws) some)

pub trimmed-sentence : (ws : List TraceWord) → IsSentence ws → trimmed (sentence_text ws) ≡ sentence_text ws
trimmed-sentence [] is = refl
trimmed-sentence (w ∷ ws) is = trimmed-spaced (word_text w) ws is.words.1 (word_trimmed w)

pub some-sentence : (ws : List TraceWord) → IsSentence ws → 0 < length (sentence_text ws)
some-sentence [] is = absurd (omega (arith, is.some))
some-sentence (w ∷ ws) is = some_before (word_text w) (spaced ws) (word_some w is.words.0)

-- ---- the answer's sign

abbrev begins : List ℕ → Bool
begins text = starts_with nat_eq text (codes " = ")

no_sign : (b : ℕ) (rest : List ℕ) (c : ℕ) → eqb c 61 ≡ false → begins (b ∷ c ∷ rest) ≡ false
no_sign b rest c apart =
    let other : eqb 61 c ≡ false = ne_eqb 61 c (λ e. eqb-false c 61 apart (sym e)) in
    rw other (and-false (eqb 32 b))

no_sign_alone : (b : ℕ) → begins (b ∷ []) ≡ false
no_sign_alone b = and-false (eqb 32 b)

-- `before_answer` of a text without `=` is the whole text
pub before_answer-alone : (xs : List ℕ) → lacks 61 xs ≡ true → before_answer xs ≡ xs
before_answer-alone [] h = refl
before_answer-alone (b ∷ []) h = rw (no_sign_alone b) refl
before_answer-alone (b ∷ c ∷ xs) h =
    let rest = (and_parts (not (eqb b 61)) (lacks 61 (c ∷ xs)) h).1 in
    let apart = not-true (eqb c 61) (and_parts (not (eqb c 61)) (lacks 61 xs) rest).0 in
    rw (no_sign b xs c apart) (ap (λ t. b ∷ t) (before_answer-alone (c ∷ xs) rest))

-- if ` = ` and an answer follow a text without `=`, `before_answer` of the whole is that text
pub before_answer-answered : (xs ys : List ℕ) → lacks 61 xs ≡ true → before_answer (xs ++ (codes " = " ++ ys)) ≡ xs
before_answer-answered [] ys h = refl
before_answer-answered (b ∷ []) ys h = rw (no_sign b (61 ∷ 32 ∷ ys) 32 refl) refl
before_answer-answered (b ∷ c ∷ xs) ys h =
    let rest = (and_parts (not (eqb b 61)) (lacks 61 (c ∷ xs)) h).1 in
    let apart = not-true (eqb c 61) (and_parts (not (eqb c 61)) (lacks 61 xs) rest).0 in
    rw (no_sign b (xs ++ (codes " = " ++ ys)) c apart) (ap (λ t. b ∷ t) (before_answer-answered (c ∷ xs) ys rest))

pub answer_in-answered : (xs ys : List ℕ) → lacks 61 xs ≡ true → answer_in (xs ++ (codes " = " ++ ys)) ≡ Some ys
answer_in-answered [] ys h = refl
answer_in-answered (b ∷ []) ys h = rw (no_sign b (61 ∷ 32 ∷ ys) 32 refl) refl
answer_in-answered (b ∷ c ∷ xs) ys h =
    let rest = (and_parts (not (eqb b 61)) (lacks 61 (c ∷ xs)) h).1 in
    let apart = not-true (eqb c 61) (and_parts (not (eqb c 61)) (lacks 61 xs) rest).0 in
    rw (no_sign b (xs ++ (codes " = " ++ ys)) c apart) (answer_in-answered (c ∷ xs) ys rest)

-- ---- lines

question_back : (groups : List Group) (start : Place) (ws : List TraceWord) → IsSentence ws → is_question groups start ws ≡ true → question_in groups start (sentence_text ws) ≡ Some (record { items = ws })
question_back groups start ws is accepted =
    ap (option_and_then (as_question groups start)) (sentence_back ws is) ∙ ap (λ (t : Bool). cond t (Some (record { items = ws })) None) accepted

line_of_some : (groups : List Group) (start : Place) (text : List ℕ) (bytes : ℕ) (question : ArrayVec TraceWord) → 0 < length text → bytes ≤ 65536 → question_in groups start text ≡ Some question
    → line_of_question groups start text bytes ≡ question_of question
line_of_some groups start [] bytes question some short is = absurd (omega arith)
line_of_some groups start (b ∷ bs) bytes question some short is =
    let test : ltb 65536 bytes ≡ false = le-ltb 65536 bytes short in
    ap (λ (t : Bool). cond t (without_words Neither) (as_line (question_in groups start (b ∷ bs)))) test ∙ ap as_line is

pub question_line : (groups : List Group) (start : Place) (ws : List TraceWord) → IsSentence ws → is_question groups start ws ≡ true → length (sentence_text ws) ≤ 65536
    → line_in groups start (sentence_text ws) ≡ question_of (record { items = ws })
question_line groups start ws is accepted short =
    let text = sentence_text ws in
    let bare : bare_text text ≡ text = ap trimmed (before_lacking 35 text (lacks_hash ws)) ∙ trimmed-sentence ws is in
    ap (λ t. line_of_question groups start (before_answer t) (length text)) bare
    ∙ ap (λ t. line_of_question groups start t (length text)) (before_answer-alone text (lacks_sign ws))
    ∙ line_of_some groups start text (length text) (record { items = ws }) (some-sentence ws is) short (question_back groups start ws is accepted)

answered_bare : (ws vs : List TraceWord) → IsSentence vs → bare_text (sentence_text ws ++ (codes " = " ++ sentence_text vs)) ≡ sentence_text ws ++ (codes " = " ++ sentence_text vs)
answered_bare ws vs is_v =
    let text = sentence_text ws ++ (codes " = " ++ sentence_text vs) in
    let end = codes " = " ++ sentence_text vs in
    let hash = lacks-append 35 (sentence_text ws) end (lacks_hash ws) (lacks-append 35 (codes " = ") (sentence_text vs) refl (lacks_hash vs)) in
    let some = some-sentence vs is_v in
    ap trimmed (before_lacking 35 text hash) ∙ trimmed-append (sentence_text ws) end (omega arith) (trimmed-append (codes " = ") (sentence_text vs) some (trimmed-sentence vs is_v))

pub answered_line : (groups : List Group) (start : Place) (ws vs : List TraceWord) → IsSentence ws → IsSentence vs → is_question groups start ws ≡ true
    → length (sentence_text ws ++ (codes " = " ++ sentence_text vs)) ≤ 65536
    → line_in groups start (sentence_text ws ++ (codes " = " ++ sentence_text vs)) ≡ question_of (record { items = ws })
answered_line groups start ws vs is is_v accepted short =
    let text = sentence_text ws ++ (codes " = " ++ sentence_text vs) in
    ap (λ t. line_of_question groups start (before_answer t) (length text)) (answered_bare ws vs is_v)
    ∙ ap (λ t. line_of_question groups start t (length text)) (before_answer-answered (sentence_text ws) (sentence_text vs) (lacks_sign ws))
    ∙ line_of_some groups start (sentence_text ws) (length text) (record { items = ws }) (some-sentence ws is) short (question_back groups start ws is accepted)

pub answer_line : (ws vs : List TraceWord) → IsSentence vs → answer_in (bare_text (sentence_text ws ++ (codes " = " ++ sentence_text vs))) ≡ Some (sentence_text vs)
answer_line ws vs is_v = ap answer_in (answered_bare ws vs is_v) ∙ answer_in-answered (sentence_text ws) (sentence_text vs) (lacks_sign ws)
