use Rattle.std.proofs.Common.{◌≡◌, ℕ, List, ap, sym, subst, ◌∙◌}
use Rattle.host_commands.specs.Acts.{act_of}
use Rattle.host_commands.specs.Checks.{AreFound, checks_of, first_that_holds}
use Rattle.host_ledger.specs.Summary.{summary_of}
use Rattle.host_ledger.specs.View.{HostView}
use Rattle.history_calls.specs.Refused.{model_refusal}
use Rattle.history_calls.proofs.Refused.{own, of_model}
use Rattle.history_calls.proofs.refusal.refusal_of_command.Goals as goal

pub returns-in-Err : goal.returns-in-Err
returns-in-Err g c =
    own c.args.host.now c.args.build c.args.cmd.now c.in-Err.refusal
    (ap (λ (h : HostView). first_that_holds (checks_of (summary_of h) c.args.build c.args.cmd.now)) (sym c.ledger.ensures) ∙ c.in-Err.ensures.refusal)

pub model_refusal-requires : goal.model_refusal-requires
model_refusal-requires g c =
    ap (λ (h : HostView). first_that_holds (checks_of (summary_of h) c.args.build c.args.cmd.now)) (sym c.ledger.ensures) ∙ c.in-Ok.ensures.none

pub returns : goal.returns
returns g c =
    of_model c.args.host.now c.args.build c.args.cmd.now c.history-history.ensures.legal c.in-Ok.granules.items c.act_of-act.result c.model_refusal.result
    (ap (λ (h : HostView). first_that_holds (checks_of (summary_of h) c.args.build c.args.cmd.now)) (sym c.ledger.ensures) ∙ c.in-Ok.ensures.none)
    (subst (λ (h : HostView). AreFound (summary_of h) c.args.build c.args.cmd.now c.in-Ok.granules.items) c.ledger.ensures c.in-Ok.ensures.granules)
    (c.act_of-act.ensures.act ∙ ap (act_of c.args.cmd.now c.in-Ok.granules.items) c.allocated.ensures)
    (c.model_refusal.ensures
    ∙ ap (λ (gs : List ℕ). model_refusal c.args.host.now c.args.build gs c.args.cmd.now c.act_of-act.result) c.as_slice.ensures.value)
