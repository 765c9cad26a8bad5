use Rattle.std.proofs.Common.{◌≡◌, length}
use Rattle.rmm_answers.specs.Page.{with_fields}
use Rattle.rmm_answers.proofs.page.store_fields.Given as goal

abbrev pub invariant-words : goal.invariant-words
invariant-words g l = with_fields l.fields l.address l.at l.left l.rmm ≡ with_fields l.fields l.address 0 l.fn.words l.fn.rmm

abbrev pub decreases-words : goal.decreases-words
decreases-words g l = length l.left
