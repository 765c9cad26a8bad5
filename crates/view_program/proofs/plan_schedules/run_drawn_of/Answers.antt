use Rattle.std.proofs.Common.{subst}
use Rattle.std.proofs.lemmas.Result.{IfOk-weaker}
use Rattle.realm_plan.specs.PlanView.{plan_view}
use Rattle.rand_core.specs.Steps.{stream_of, steps_u64_high}
use Rattle.rand_xoshiro.specs.Xoshiro256.{plus_plus}
use Rattle.realm_program.specs.Replay.{opening_host}
use Rattle.view_program.specs.Drawn.{IsSampled}
use Rattle.view_program.proofs.plan_schedules.run_drawn_of.Goals as goal

pub returns : goal.returns
returns g c =
    let plan = plan_view c.args.plan.now in
    IfOk-weaker c.text_of_drawn.result _ _ (λ text is. record {
      totals = c.in_ok-totals.totals;
      sampled = subst (λ state. IsSampled plan (opening_host plan) (stream_of (steps_u64_high plus_plus) state) c.args.count c.in_ok-totals.totals)
          c.seed_from_u64-numbers.ensures c.in_ok-totals.ensures;
      whole = is;
    }) c.text_of_drawn.ensures
