use Rattle.std.proofs.Common.{◌≡◌, ◌+◌}
use Rattle.rmm_answers.specs.Rounds.{asked, more_rounds}
use Rattle.rmm_model.specs.Call.{rmi}
use Rattle.rmm_answers.proofs.rounds.perform_rounds.Given as goal

abbrev pub invariant-rounds : goal.invariant-rounds
invariant-rounds g l = record {
  goes_on : more_rounds l.left l.call l.round (l.after, l.rmm) ≡ more_rounds l.more l.call 0 (rmi (asked l.call 0) l.fn.rmm);
  count : l.round + l.left ≡ l.more;
}

abbrev pub decreases-rounds : goal.decreases-rounds
decreases-rounds g l = l.left
