use Rattle.std.proofs.Common.{[]}
use Rattle.realm_plan.specs.PlanView.{plan_view}
use Rattle.realm_program.specs.Replay.{opening_host}
use Rattle.plan_replay.proofs.Settings.{fresh_like-run}
use Rattle.run_json.proofs.Turns.{reported_run}
use Rattle.view_program.proofs.plan_page.page_data.Goals as goal

pub worlds_without-requires : goal.worlds_without-requires
worlds_without-requires c =
    let plan = plan_view c.args.plan.now in
    let ran = reported_run plan (opening_host plan) c.in_ok-document.ledger c.in_ok-document.document.turns.items c.in_ok-document.ensures.turns_are in
    fresh_like-run plan (opening_host plan) c.in_ok-document.ledger [] ran.0 ran.1
