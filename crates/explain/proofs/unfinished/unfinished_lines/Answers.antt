use Rattle.std.proofs.Common.{List, ℕ, ◌++◌, ◌∷◌, [], take, ap, sym, ◌∙◌}
use Rattle.std.specs.List.{flat_map}
use Rattle.std.proofs.lemmas.List.{flat_map_more, take_more}
use Rattle.explain.specs.Unfinished.{abort_lines}
use Rattle.explain.proofs.unfinished.unfinished_lines.Goals as goal

pub loop-abort-preserved : goal.loop-abort-preserved
loop-abort-preserved c =
    let aborts = c.args.aborts.now in
    let i = c.loop-abort.abort-index in
    let abort = c.abort-item.result in
    c.in_ok-push_abort.ensures ∙ ap (λ (t : List ℕ). t ++ abort_lines abort) c.loop-abort.invariant
    ∙ flat_map_more abort_lines [] (take i aborts) abort
    ∙ ap (flat_map abort_lines) (ap (λ a. take i aborts ++ a ∷ []) c.abort-item.is ∙ sym (take_more aborts i abort c.loop-abort-test.true))
