use Rattle.std.proofs.Common.{refl, sym, ap, ◌∙◌}
use Rattle.std.proofs.lemmas.Option.{slice_get_past}
use Rattle.plan_states.specs.Whole.{is_end_refused}
use Rattle.plan_states.proofs.RunLogs.{seen_at_place}
use Rattle.plan_states.proofs.whole.is_end_refused.Goals as goal

pub returns-in-Some : goal.returns-in-Some
returns-in-Some c =
    c.is_some.ensures
    ∙ ap is_end_refused (sym (seen_at_place c.args.ends.now c.args.ends.now c.args.number c.in-Some.end.now refl
    c.in-Some.ensures.lookup.3.0 c.in-Some.ensures.lookup.1))

pub returns-in-None : goal.returns-in-None
returns-in-None c = sym (ap is_end_refused (slice_get_past c.args.ends.now c.args.number c.in-None.ensures.lookup.3))
