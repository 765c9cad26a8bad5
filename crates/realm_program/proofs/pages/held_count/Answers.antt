use Rattle.std.proofs.Common.{◌^◌, sym, ◌∙◌}
use Rattle.std.proofs.lemmas.List.FromFn.{length-range_with_len}
use Rattle.realm_program.proofs.pages.held_count.Goals as goal

pub returns-in-Take-clause-value : goal.returns-in-Take-clause-value
returns-in-Take-clause-value c = rw c.in-Take.is (c.size.ensures.value ∙ sym (length-range_with_len c.in-Take.first (2 ^ c.in-Take.order)))
