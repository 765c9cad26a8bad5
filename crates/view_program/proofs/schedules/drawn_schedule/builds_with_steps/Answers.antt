use Rattle.std.proofs.Common.{◌≡◌, ◌∙◌, ◌++◌, ◌∷◌, [], ap, arith}
use Rattle.std.specs.Prelude.{filter}
use Rattle.std.specs.List.{range_with_len}
use Rattle.view_program.specs.Drawn.{builds_with_steps}
use Rattle.view_program.proofs.Drawing.{kept_with, kept_without}
use Rattle.view_program.proofs.schedules.drawn_schedule.builds_with_steps.Goals as goal
use Rattle.view_program.proofs.schedules.drawn_schedule.builds_with_steps.Goals.{then-left-build, else-left-build}
use Rattle.view_program.specs.Chosen.{could}

pub loop-build-preserved : goal.loop-build-preserved
loop-build-preserved c =
    elim c.if-left-build.branch [
      | then-left-build w ↦
          ap (λ bs. bs.items) w.builds-is ∙ w.push.ensures.items ∙ ap (λ ns. ns ++ c.loop-build.build ∷ []) c.loop-build.invariant
          ∙ kept_with (could c.args.left.now) c.loop-build.build w.if-left-build.true
      | else-left-build w ↦
          ap (λ bs. bs.items) w.builds-is ∙ c.loop-build.invariant ∙ kept_without (could c.args.left.now) c.loop-build.build w.if-left-build.false
    ]

pub returns : goal.returns
unfolding builds_with_steps
returns c =
    let all : c.loop-build.build ≡ 8 = (let past = c.loop-build-test.false in let most = c.loop-build.auto.build-end in omega arith) in
    c.loop-build.invariant ∙ ap (λ n. filter (could c.args.left.now) (range_with_len 0 n)) all
