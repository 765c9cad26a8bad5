use Rattle.plan_states.proofs.run_log.RunLog.run_to.Goals as goal

pub returns-clause-ok : goal.returns-clause-ok
returns-clause-ok c = record {
  it = c.in_ok-check_at.ensures.ok.it;
  is_there = c.in_ok-check_at.ensures.ok.is_there;
  shown = record {
    schedule = c.args.schedule.now;
    reached = c.in_ok-running.ensures.ok;
    of_host = c.in_ok-check_at.ensures.ok.of_host;
    builds = c.in_ok-check_at.ensures.ok.builds;
  };
}
