use Rattle.std.proofs.Common.{◌≡◌, ◌+◌}
use Rattle.rmm_answers.specs.Rounds.{filled, more_fills}
use Rattle.rmm_answers.proofs.rounds.fill_rounds.Given as goal

abbrev pub invariant-rounds : goal.invariant-rounds
invariant-rounds g l = record {
  goes_on : more_fills l.left l.operands l.round (l.is_done, l.rmm) ≡ more_fills l.more l.operands 0 (filled l.operands 0 l.fn.rmm);
  count : l.round + l.left ≡ l.more;
}

abbrev pub decreases-rounds : goal.decreases-rounds
decreases-rounds g l = l.left
