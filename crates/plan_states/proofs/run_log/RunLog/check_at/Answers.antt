use Rattle.std.proofs.Common.{◌∙◌}
use Rattle.plan_states.proofs.run_log.RunLog.check_at.Goals as goal

pub returns-clause-ok : goal.returns-clause-ok
returns-clause-ok c = record {
  it = c.if-not-has_snapshot.ensures.it;
  is_there = c.if-not-has_snapshot.ensures.is_there;
  of_host = c.in_ok-snapshot.ensures.of_host;
  builds = λ build less. c.if-not-has_snapshot.ensures.same build less ∙ c.in_ok-snapshot.ensures.builds build less;
}
