use Rattle.std.proofs.Common.{sym, ◌∙◌}
use Rattle.std.proofs.lemmas.List.{take_all, take_more}
use Rattle.realm_plan.proofs.turns.build_ids_of.Goals as goal

pub at-requires : goal.at-requires
at-requires c = c.requires c.loop-build.build-index 0 c.loop-build-test.true

pub loop-build-preserved : goal.loop-build-preserved
loop-build-preserved c =
    let more = take_more c.args.builds.now c.loop-build.build-index 0 c.loop-build-test.true in
    c.in_ok-push.ensures.items ∙ rw (c.at.ensures, c.loop-build.invariant) (sym more)

pub returns : goal.returns
returns c = c.loop-build.invariant ∙ take_all _ _ c.loop-build-test.false
