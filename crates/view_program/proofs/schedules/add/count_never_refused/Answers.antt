use Rattle.std.proofs.Common.{◌++◌, not, map, ap, sym, ◌∙◌}
use Rattle.std.specs.Prelude.{nat_eq}
use Rattle.view_program.specs.Tally.{counted}
use Rattle.plan_states.specs.Tallies.{count_of_tally}
use Rattle.view_program.specs.Totals.{is_smooth}
use Rattle.view_program.proofs.Smooth.{those, those_with, those_without}
use Rattle.view_program.proofs.schedules.add.count_never_refused.Goals as goal
use Rattle.view_program.proofs.schedules.add.count_never_refused.Goals.{then-not-is_refused+in_ok-count, else-not-is_refused}

pub loop-build-preserved : goal.loop-build-preserved
loop-build-preserved c = λ seen are.
    elim c.if-not-is_refused.branch [
      | then-not-is_refused+in_ok-count w ↦
          (ap (λ ts. map count_of_tally ts.items) w.tallies-is
          ∙ w.in_ok-count.ensures (seen ++ those (is_smooth c.args.ends.now) c.args.choices.now c.loop-build.build) (c.loop-build.invariant seen are)
          ∙ ap (counted nat_eq) (those_with (is_smooth c.args.ends.now) c.args.choices.now c.loop-build.build seen (ap not (sym c.is_refused.ensures ∙ w.if-not-is_refused.true))))
      | else-not-is_refused w ↦
          (ap (λ ts. map count_of_tally ts.items) w.tallies-is
          ∙ c.loop-build.invariant seen are
          ∙ ap (counted nat_eq) (those_without (is_smooth c.args.ends.now) c.args.choices.now c.loop-build.build seen (ap not (sym c.is_refused.ensures ∙ w.if-not-is_refused.false))))
    ]
