use Rattle.std.proofs.Common.{◌≡◌, length, ◌∙◌}
use Rattle.plan_states.proofs.RunLogs.{last_number}
use Rattle.plan_states.proofs.run_log.RunLog.number_of.Goals as goal

pub returns-in_default-clause-number : goal.returns-in_default-clause-number
returns-in_default-clause-number c =
    let long : c.len-number.result ≡ length c.args.self.now.snapshots.items = c.len-number.ensures ∙ c.args.self.now.snapshots.ok.0 in
    last_number c.args.self.now.snapshots.items c.push.new.items.items c.args.snapshot c.len-number.result long c.in_ok-push.ensures
