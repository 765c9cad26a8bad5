use Rattle.std.proofs.Common.{sym, ap}
use Rattle.std.proofs.lemmas.Option.{slice_get_past}
use Rattle.plan_states.specs.Questions.{is_other_with}
use Rattle.plan_states.proofs.question.is_other_without_pages.Goals as goal

pub returns-in-None : goal.returns-in-None
returns-in-None c = sym (ap (is_other_with c.args.build c.args.other) (slice_get_past c.args.held.now c.args.other c.in-None.ensures.lookup.3))
