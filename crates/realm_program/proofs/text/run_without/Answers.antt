use Rattle.std.proofs.Common.{◌<◌, ◌∙◌, sym, subst}
use Rattle.std.proofs.lemmas.List.{length-map}
use Rattle.std.proofs.lemmas.Result.{IfOk-weaker}
use Rattle.plan_replay.proofs.Settings.{fresh_like-run}
use Rattle.realm_plan.specs.PlanView.{plan_view}
use Rattle.realm_program.specs.Replay.{opening_host}
use Rattle.realm_program.proofs.text.run_without.Goals as goal

pub map_without-requires : goal.map_without-requires
map_without-requires c =
    let plan = plan_view c.args.plan.now in
    let played = c.in_ok-ledger.ensures in
    fresh_like-run plan (opening_host plan) c.in_ok-ledger.ledger _ _ played.run

pub returns : goal.returns
returns c =
    let played = c.in_ok-ledger.ensures in
    let builds = c.args.plan.now.builds in
    IfOk-weaker c.map_without.result _ _
    (λ text is. record {
      of_plan = subst (λ n. c.args.build < n) (builds.ok.0 ∙ sym (length-map builds.items (λ b. b.items))) c.requires;
      last = c.in_ok-ledger.ledger;
      lines = played.lines;
      run = played.run;
      fresh = is.fresh;
      without = is.without;
      whole = is.whole;
    })
    c.map_without.ensures
