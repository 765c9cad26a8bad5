use Rattle.std.proofs.Common.{◌==◌, ap, ◌∙◌}
use Rattle.std.specs.Str.{bytes_eq}
use Rattle.schedule_graph.specs.Number.{trimmed}
use Rattle.schedule_graph.proofs.Trimmed.{same_trimmed}
use Rattle.schedule_graph.proofs.number.Count.is_same.Goals as goal

pub returns : goal.returns
returns c =
    c.eq.ensures
    ∙ (λ i. bytes_eq ((c.trimmed.ensures ∙ ap trimmed c.deref.ensures.value) i) ((c.trimmed-2.ensures ∙ ap trimmed c.deref-2.ensures.value) i))
    ∙ same_trimmed c.self.inside.digits.items c.other.inside.digits.items c.self.invariant c.other.invariant
    ∙ (λ i. c.self.view_is i == c.other.view_is i)
