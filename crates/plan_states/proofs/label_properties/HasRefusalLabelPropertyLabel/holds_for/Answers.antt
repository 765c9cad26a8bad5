use Rattle.std.proofs.Common.{◌&&◌, refl, sym, ap, ◌∙◌}
use Rattle.std.proofs.lemmas.Option.{slice_get_past}
use Rattle.plan_states.specs.LabelProperties.{end_is_refused, is_asked, refuses_asked}
use Rattle.plan_states.proofs.RunLogs.{seen_at_place}
use Rattle.plan_states.proofs.label_properties.HasRefusalLabelPropertyLabel.holds_for.Goals as goal

pub returns-in_default : goal.returns-in_default
returns-in_default c = sym (ap (end_is_refused c.args.self.now.ends.now c.args.self.now.build) c.in_default.is)

pub returns-then-is_some : goal.returns-then-is_some
returns-then-is_some c =
    let ends = c.args.self.now.ends.now in
    let asked = c.args.self.now.build in
    let there = seen_at_place ends ends c.in-Some.number c.in-Some-get.end.now refl c.in-Some-get.ensures.lookup.3.0 c.in-Some-get.ensures.lookup.1 in
    c.is_asked.ensures ∙ ap (λ refused. refused && is_asked asked c.in-Some-get.end.now.build) (sym c.if-is_some.true ∙ c.is_some.ensures)
    ∙ sym (ap (end_is_refused ends asked) c.in-Some.is ∙ ap (refuses_asked asked) there)

pub returns-in-None : goal.returns-in-None
returns-in-None c =
    let ends = c.args.self.now.ends.now in
    sym (ap (end_is_refused ends c.args.self.now.build) c.in-Some.is
    ∙ ap (refuses_asked c.args.self.now.build) (slice_get_past ends c.in-Some.number c.in-None.ensures.lookup.3))
