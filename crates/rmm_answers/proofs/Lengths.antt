-- A proof that an answer in a trace gets exactly one word longer when a word is appended, with or without a comma.
use Rattle.std.proofs.Common.{◌≡◌, suc, ◌+◌, Bool, true, false, List, [], ◌∷◌, ◌++◌, length, refl, ap, ◌∙◌, length-append}
use Rattle.rmm_trace.specs.declared.word.TraceWord.{TraceWord}
use Rattle.rmm_trace.specs.Answers.{with_comma, listed}

length_comma : (ws : List TraceWord) → length (with_comma ws) ≡ length ws
length_comma [] = refl
length_comma (w ∷ []) = refl
length_comma (w ∷ v ∷ ws) = ap suc (length_comma (v ∷ ws))

length_part : (ws : List TraceWord) (v : TraceWord) → length (with_comma ws ++ v ∷ []) ≡ length ws + 1
length_part ws v = length-append (with_comma ws) (v ∷ []) ∙ ap (λ n. n + 1) (length_comma ws)

pub length_listed : (is_part : Bool) (ws : List TraceWord) (v : TraceWord) → length (listed is_part ws ++ v ∷ []) ≡ length ws + 1
length_listed true ws v = length_part ws v
length_listed false ws v = length-append ws (v ∷ [])
