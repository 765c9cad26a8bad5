use Rattle.std.proofs.Common.{ap, sym, ◌∙◌}
use Rattle.std.specs.Prelude.{nat_lt}
use Rattle.std.proofs.lemmas.Bool.{ltb-true}
use Rattle.schedule_graph.specs.First.{layers_in, path_numbers_in}
use Rattle.schedule_graph.specs.Paths.{shows, count_at}
use Rattle.schedule_graph.proofs.Firsts.{no_first}
use Rattle.schedule_graph.proofs.first.first_with.Goals as goal

pub returns-then-not-has_paths : goal.returns-then-not-has_paths
returns-then-not-has_paths g c = λ are are_with.
    no_first (shows (g.S.LabelProperty.holds_for c.args.property.now)) (layers_in c.args.layers.now) (path_numbers_in c.args.with_it.now) are_with
    (sym (c.has_paths.ensures ∙ ap (λ ns. nat_lt 0 (count_at ns 0)) c.numbers_at.ensures) ∙ c.if-not-has_paths.true)

pub returns : goal.returns
returns g c = λ are are_with.
    c.in_ok-walk.ensures (λ t. t) are are_with
    (ltb-true 0 _ (sym (c.has_paths.ensures ∙ ap (λ ns. nat_lt 0 (count_at ns 0)) c.numbers_at.ensures) ∙ c.if-not-has_paths.false))
