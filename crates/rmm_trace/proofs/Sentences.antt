-- Proofs that a valid list of trace words is read back unchanged from its text, and that different valid lists have
-- different texts.
use Rattle.std.proofs.Common.{◌≡◌, ℕ, zero, suc, ◌≤◌, ◌==◌, List, [], ◌∷◌, ◌++◌, length, map, true, false, not, eqb, Some, refl, sym, ap, ◌∙◌, arith}
use Rattle.std.proofs.lemmas.Bool.{and_parts, not-true}
use Rattle.std.specs.List.{slice_split, AllByRecursion}
use Rattle.rmm_trace.specs.declared.word.TraceWord.{TraceWord}
use Rattle.rmm_trace.specs.Words.{word_text, word_in, IsWord}
use Rattle.rmm_trace.specs.Sentences.{spaced, sentence_text, words_in, IsSentence}
use Rattle.rmm_trace.proofs.Cuts.{lacks}
use Rattle.rmm_trace.proofs.Texts.{is_space}
use Rattle.rmm_trace.proofs.Words.{word_back, word_lacks}

word_lacks_space : (w : TraceWord) → lacks 32 (word_text w) ≡ true
word_lacks_space w = word_lacks 32 is_space refl refl refl w

words_none : (most : ℕ) → words_in most [] ≡ Some []
words_none zero = refl
words_none (suc most) = refl

words_back : (most : ℕ) (ws : List TraceWord) → length ws ≤ most → AllByRecursion (λ w. IsWord w) ws → words_in most (map word_text ws) ≡ Some ws
words_back most [] few are = words_none most
words_back zero (w ∷ ws) few are = absurd (omega arith)
words_back (suc most) (w ∷ ws) few are =
    let first : word_in (word_text w) ≡ Some w = word_back w are.0 in
    let rest : words_in most (map word_text ws) ≡ Some ws = words_back most ws (omega arith) are.1 in
    rw (first, rest) refl

split_cons : (b : ℕ) (bs : List ℕ) (t : List ℕ) (rest : List (List ℕ)) → eqb b 32 ≡ false → slice_split (λ c. c == 32) bs ≡ t ∷ rest → slice_split (λ c. c == 32) (b ∷ bs) ≡ (b ∷ t) ∷ rest
split_cons b bs t rest apart h = rw (apart, h) refl

split_spaced : (t : List ℕ) (ws : List TraceWord) → lacks 32 t ≡ true → slice_split (λ b. b == 32) (t ++ spaced ws) ≡ t ∷ map word_text ws
split_spaced [] [] h = refl
split_spaced [] (w ∷ ws) h = ap (λ ts. [] ∷ ts) (split_spaced (word_text w) ws (word_lacks_space w))
split_spaced (b ∷ t) ws h =
    let parts = and_parts (not (eqb b 32)) (lacks 32 t) h in
    split_cons b (t ++ spaced ws) t (map word_text ws) (not-true (eqb b 32) parts.0) (split_spaced t ws parts.1)

pub sentence_back : (ws : List TraceWord) → IsSentence ws → words_in 64 (slice_split (λ b. b == 32) (sentence_text ws)) ≡ Some ws
sentence_back [] is = absurd (omega (arith, is.some))
sentence_back (w ∷ ws) is = ap (words_in 64) (split_spaced (word_text w) ws (word_lacks_space w)) ∙ words_back 64 (w ∷ ws) is.few is.words

pub sentence_injective : (vs ws : List TraceWord) → IsSentence vs → IsSentence ws → sentence_text vs ≡ sentence_text ws → vs ≡ ws
sentence_injective vs ws is_v is_w same =
    let both : Some vs ≡ Some ws = sym (sentence_back vs is_v) ∙ ap (λ t. words_in 64 (slice_split (λ b. b == 32) t)) same ∙ sentence_back ws is_w in
    cc
