use Rattle.std.proofs.Common.{◌∙◌}
use Rattle.plan_states.specs.Questions.{is_answer_at}
use Rattle.plan_states.specs.Shortest.{first_layer}
use Rattle.plan_states.proofs.shortest.first_answered.Goals as goal

pub returns : goal.returns
returns c =
    c.first_layer.ensures
    ∙ (λ i. first_layer (is_answer_at (c.deref.ensures.value i) (c.deref-2.ensures.value i) c.args.builds c.args.question) (c.deref-3.ensures.value i))
