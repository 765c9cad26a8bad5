-- Lemmas on the operand at an index of a list of trace words: the value of the word there, or 0 past the end.
use Rattle.std.proofs.Common.{◌≡◌, ℕ, zero, suc, ◌<◌, ◌≤◌, List, [], ◌∷◌, length, get_or, refl, arith}
use Rattle.rmm_trace.specs.declared.word.TraceWord.{TraceWord}
use Rattle.rmm_trace.specs.Access.{number_at, operand_at}

pub operand_here : (ws : List TraceWord) (place : ℕ) (d : TraceWord) (round : ℕ) → place < length ws → number_at (get_or ws place d) round ≡ operand_at ws place round
operand_here [] place d round within = absurd (omega arith)
operand_here (w ∷ ws) zero d round within = refl
operand_here (w ∷ ws) (suc place) d round within = operand_here ws place d round (omega arith)

pub no_operand : (ws : List TraceWord) (place round : ℕ) → length ws ≤ place → 0 ≡ operand_at ws place round
no_operand [] place round past = refl
no_operand (w ∷ ws) zero round past = absurd (omega arith)
no_operand (w ∷ ws) (suc place) round past = no_operand ws place round (omega arith)
