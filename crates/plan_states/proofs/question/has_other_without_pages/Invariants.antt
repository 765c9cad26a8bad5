use Rattle.std.proofs.Common.{◌≡◌, ℕ, ◌<◌, false}
use Rattle.plan_states.specs.Questions.{is_other_without_pages}
use Rattle.plan_states.proofs.question.has_other_without_pages.Given as goal

abbrev pub invariant-loop-other : goal.invariant-loop-other
invariant-loop-other l = (other : ℕ) → other < l.other → is_other_without_pages l.build l.held other ≡ false
