use Rattle.std.proofs.Common.{sym, ◌∙◌}
use Rattle.rmm_trace.proofs.Compared.{values_differ}
use Rattle.rmm_trace.proofs.compare.are_values.Goals as goal

pub returns-then-not-is_same_value : goal.returns-then-not-is_same_value
returns-then-not-is_same_value c =
    values_differ c.values.left.now c.values.right.now _ _ (rw c.max.ensures at c.values-test.true) c.split_word.ensures.first c.split_word-in-values.ensures.first (sym c.if-not-is_same_value.ensures)
    ∙ c.values.invariant
