use Rattle.std.proofs.Common.{[], ◌∷◌, ◌++◌, ap, ◌∙◌}
use Rattle.realm_plan.specs.PlanView.{plan_view}
use Rattle.plan_states.proofs.RunLogs.{booted_log}
use Rattle.plan_states.proofs.run_log.RunLog.boot.Goals as goal

pub returns-clause-ok : goal.returns-clause-ok
returns-clause-ok c = λ ends held maps.
    booted_log (plan_view c.args.plan.now) ends held maps (record { snapshots = c.push.new.items; turns = c.new.result }) c.in_ok-first.first
    c.in_ok-first.ensures.ok (c.in_ok-push.ensures ∙ ap (λ l. l ++ c.in_ok-first.first ∷ []) c.new-snapshots.ensures.items) c.new.ensures.items
