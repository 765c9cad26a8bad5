use Rattle.std.proofs.Common.{◌==◌, length, ap, ◌∙◌}
use Rattle.schedule_graph.specs.Number.{trimmed}
use Rattle.schedule_graph.proofs.Trimmed.{trimmed_none}
use Rattle.schedule_graph.proofs.number.Count.is_zero.Goals as goal

pub returns : goal.returns
returns c =
    c.is_empty.ensures
    ∙ ap (λ ds. length ds == 0) (c.trimmed.ensures ∙ ap trimmed c.deref.ensures.value)
    ∙ trimmed_none c.self.inside.digits.items
    ∙ ap (λ n. n == 0) c.self.view_is
