use Rattle.std.proofs.Common.{[], codes, ◌++◌, get_or, take, refl, ap, sym, ◌∙◌}
use Rattle.std.proofs.Output.{has_written_append, has_written_of_eq}
use Rattle.std.proofs.lemmas.List.{flat_map_more, take_more}
use Rattle.std.specs.Fmt.{decimal}
use Rattle.plan_states.specs.OrderText.{turns_after}
use Rattle.plan_states.proofs.schedule_text.MoreTurnsDisplay.fmt.Goals as goal

pub loop-build-preserved : goal.loop-build-preserved
loop-build-preserved g c = λ plain.
    let builds = c.args.self.now.0.now in
    let i = c.loop-build.build-index in
    let so_far = c.loop-build.invariant plain in
    has_written_of_eq _ _ _ _ _
    (flat_map_more (λ build. codes ", " ++ decimal build) [] (take i builds) (get_or builds i 0) ∙ ap turns_after (sym (take_more builds i 0 c.loop-build-test.true)))
    (has_written_append _ _ _ _ _ _ so_far (c.in_ok-write.ensures.writes so_far.plain refl))
