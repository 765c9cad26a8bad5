use Rattle.rmm_trace.proofs.Cuts.{Passed}
use Rattle.rmm_trace.proofs.cut.cut_at.Given as goal

abbrev pub invariant-loop-at : goal.invariant-loop-at
invariant-loop-at l = Passed l.mark l.text l.at
