use Rattle.rmm_trace.proofs.Signs.{NoSign}
use Rattle.rmm_trace.proofs.line.cut_sign.Given as goal

abbrev pub invariant-loop-at : goal.invariant-loop-at
invariant-loop-at l = NoSign l.text l.at
