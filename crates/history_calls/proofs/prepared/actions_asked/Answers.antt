use Rattle.std.proofs.Common.{◌≡◌, Some, None, ap, sym, subst, ◌∙◌}
use Rattle.host_commands.specs.Acts.{act_of}
use Rattle.host_commands.specs.Checks.{AreFound, checks_of, first_that_holds}
use Rattle.host_ledger.specs.Summary.{summary_of}
use Rattle.host_ledger.specs.View.{HostView}
use Rattle.history_calls.proofs.Asked.{asked_passed}
use Rattle.history_calls.proofs.prepared.actions_asked.Goals as goal

pub returns : goal.returns
returns g c =
    asked_passed c.args.frame c.args.host.now c.args.build c.args.run c.args.cmd.now c.in_ok-granules.granules.items c.act_of-act.result c.actions_of_act.result
    (ap (λ (h : HostView). first_that_holds (checks_of (summary_of h) c.args.build c.args.cmd.now)) (sym c.ledger.ensures) ∙ c.in_ok-granules.ensures.none)
    (subst (λ (h : HostView). AreFound (summary_of h) c.args.build c.args.cmd.now c.in_ok-granules.granules.items) c.ledger.ensures c.in_ok-granules.ensures.granules)
    (c.act_of-act.ensures.act ∙ ap (act_of c.args.cmd.now c.in_ok-granules.granules.items) c.allocated.ensures) c.actions_of_act.ensures

pub actions_of_act-requires-clause-passed : goal.actions_of_act-requires-clause-passed
actions_of_act-requires-clause-passed g c =
    ap (λ (h : HostView). first_that_holds (checks_of (summary_of h) c.args.build c.args.cmd.now)) (sym c.ledger.ensures) ∙ c.in_ok-granules.ensures.none
