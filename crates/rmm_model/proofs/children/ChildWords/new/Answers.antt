use Rattle.std.proofs.Common.{◌+◌, ◌*◌, ◌%◌, ◌^◌, ℕ, ap, ◌∙◌}
use Rattle.rmm_model.specs.Entry.{kind_word, descriptor_of}
use Rattle.rmm_model.proofs.ChildEntries.{child_word_of}
use Rattle.rmm_model.proofs.children.ChildWords.new.Goals as goal

pub returns : goal.returns
returns c = λ k.
    ap (λ (n : ℕ). n + (c.descriptor.result + k * c.child_step.result) % 2 ^ 48) c.kind_word.ensures.value
    ∙ ap (λ (n : ℕ). kind_word c.args.parent + (n + k * c.child_step.result) % 2 ^ 48) c.descriptor.ensures
    ∙ ap (λ (n : ℕ). kind_word c.args.parent + (descriptor_of c.args.parent + k * n) % 2 ^ 48) c.child_step.ensures.value
    ∙ child_word_of c.args.parent c.args.level k
