-- Proofs that the lines which explain a refusal are its error line, its help line and the lines on passed checks,
-- appended one after another.
use Rattle.std.proofs.Common.{◌≡◌, ℕ, ◌+◌, Bool, true, false, List, [], ◌∷◌, ◌++◌, length, string_bytes, if◌then◌else◌, append_assoc, ap, sym, ◌∙◌}
use Rattle.std.specs.Prelude.{codes}
use Rattle.std.specs.List.{flat_map}
use Rattle.std.proofs.lemmas.Bool.{cond-true, cond-false}
use Rattle.std.proofs.lemmas.List.{append-nil, flat_map_more, length-append}
use Rattle.explain.specs.Words.{message_line, count_line, passed_line, earlier_checks, AppendsWords, AppendsPassed, AreReasonLines}
use Rattle.explain.specs.declared.explained.Explanation.{Explanation}

-- the lines of `count` passed checks, followed by the line of one more, are the lines of `count + 1` passed checks
pub passed_more : (count : ℕ) (old mid new words : List ℕ) → AppendsPassed count old mid → new ≡ mid ++ passed_line words → AppendsPassed (count + 1) old new
passed_more count old mid new words before this = record {
  sentences = before.sentences ++ words ∷ [];
  each = length-append before.sentences (words ∷ []) ∙ ap (λ (n : ℕ). n + 1) before.each;
  appended = this ∙ ap (λ (t : List ℕ). t ++ passed_line words) before.appended ∙ flat_map_more passed_line old before.sentences words;
}

-- `ok:`, the words of a check and a line feed, appended in sequence, are the line of a passed check
pub passed_by_parts : (old begun told new : List ℕ) → begun ≡ old ++ codes "        ok: " → (words : AppendsWords begun told) → new ≡ told ++ 10 ∷ []
    → new ≡ old ++ passed_line words.words
passed_by_parts old begun told new first words last =
    last ∙ ap (λ (t : List ℕ). t ++ 10 ∷ []) words.appended ∙ append_assoc begun words.words (10 ∷ [])
    ∙ ap (λ (t : List ℕ). t ++ (words.words ++ 10 ∷ [])) first ∙ append_assoc old (codes "        ok: ") (words.words ++ 10 ∷ [])

-- if `all` is true, a text with the lines of `n` passed checks appended has the lines of passed checks that are asked
-- for
pub asked_for : (all : Bool) (n count : ℕ) (old new text : List ℕ) → all ≡ true → count ≡ n → text ≡ new → AppendsPassed count old new
    → AppendsPassed (if all then n else 0) old text
asked_for all n count old new text is same_count same passed = record {
  sentences = passed.sentences;
  each = passed.each ∙ same_count ∙ sym (cond-true all n 0 is);
  appended = same ∙ passed.appended;
}

-- if `all` is false, an unchanged text has the lines of passed checks that are asked for, which are none
pub not_asked_for : (all : Bool) (n : ℕ) (old text : List ℕ) → all ≡ false → text ≡ old → AppendsPassed (if all then n else 0) old text
not_asked_for all n old text is same = record {
  sentences = [];
  each = sym (cond-false all n 0 is);
  appended = same ∙ sym (append-nil old);
}

-- the error line, the help line, the count line and the lines of passed checks, in sequence, satisfy `AreReasonLines`
pub reason_by_parts : (reason : Explanation) (all : Bool) (empty one two three new : List ℕ) → empty ≡ []
    → one ≡ empty ++ message_line (codes "error") (string_bytes reason.error)
    → two ≡ one ++ message_line (codes "help") (string_bytes reason.help)
    → three ≡ two ++ count_line (length (earlier_checks reason.checks.items))
    → AppendsPassed (if all then length (earlier_checks reason.checks.items) else 0) three new
    → AreReasonLines reason all new
reason_by_parts reason all empty one two three new none is_one is_two is_three passed =
    let error = message_line (codes "error") (string_bytes reason.error) in
    let help = message_line (codes "help") (string_bytes reason.help) in
    let count = count_line (length (earlier_checks reason.checks.items)) in
    let lines = flat_map passed_line passed.sentences in
    record {
      sentences = passed.sentences;
      each = passed.each;
      whole = passed.appended ∙ ap (λ (t : List ℕ). t ++ lines) is_three ∙ append_assoc two count lines
          ∙ ap (λ (t : List ℕ). t ++ (count ++ lines)) is_two ∙ append_assoc one help (count ++ lines)
          ∙ ap (λ (t : List ℕ). t ++ (help ++ (count ++ lines))) (is_one ∙ ap (λ (t : List ℕ). t ++ error) none);
    }
