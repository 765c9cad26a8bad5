use Rattle.std.proofs.Common.{◌++◌, [], ◌∷◌, ap, ◌∙◌}
use Rattle.schedule_graph.specs.Number.{number_of}
use Rattle.schedule_graph.proofs.Numbers.{number_of_one}
use Rattle.schedule_graph.proofs.number.Count.one.Goals as goal

pub returns : goal.returns
returns c = ap number_of (c.in_ok-push.ensures.items ∙ ap (λ xs. xs ++ 1 ∷ []) c.new-digits.ensures.items) ∙ number_of_one
