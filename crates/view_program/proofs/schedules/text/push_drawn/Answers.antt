use Rattle.std.proofs.Common.{◌++◌, string_bytes, ap, ◌∙◌}
use Rattle.std.specs.List.{flat_map}
use Rattle.std.proofs.lemmas.Result.{on_ok_weaker}
use Rattle.realm_plan.specs.PlanView.{plan_view}
use Rattle.plan_states.specs.Lines.{step_outcomes_text}
use Rattle.plan_states.proofs.Joined.{joined}
use Rattle.view_program.specs.Lines.{drawn_line, map_lines}
use Rattle.view_program.proofs.schedules.text.push_drawn.Goals as goal

pub returns : goal.returns
returns c =
    let steps = c.args.totals.now.steps in
    let middle = step_outcomes_text (plan_view c.args.plan.now) steps in
    let maps = flat_map (map_lines steps.schedule_count) c.args.totals.now.maps.items in
    let one = string_bytes c.push_drawn_count.new.text in
    let two = string_bytes c.push_step_outcomes.new.text in
    let three = string_bytes c.push_maps.new.text in
    on_ok_weaker c.push_maps.result (λ shown.
    joined (string_bytes c.args.text.now) (drawn_line steps.schedule_count) (middle ++ maps) one three c.in_ok-push_drawn_count.ensures
    (joined one middle maps two three c.in_ok-push_step_outcomes.ensures
    (shown ∙ ap (λ rows. two ++ flat_map (map_lines steps.schedule_count) rows) c.deref.ensures.value)))
    c.push_maps.ensures
