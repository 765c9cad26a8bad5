use Rattle.std.proofs.Common.{◌++◌, string_bytes}
use Rattle.std.specs.List.{flat_map}
use Rattle.std.proofs.lemmas.Result.{on_ok_weaker}
use Rattle.realm_plan.specs.PlanView.{plan_view}
use Rattle.plan_states.specs.Lines.{schedules_line, step_outcomes_text, map_shown_by}
use Rattle.plan_states.proofs.Joined.{joined}
use Rattle.plan_states.proofs.text.push_outcomes.Goals as goal

pub returns : goal.returns
returns c =
    let steps = c.args.outcomes.now.steps in
    let first = schedules_line steps.schedule_count in
    let middle = step_outcomes_text (plan_view c.args.plan.now) steps in
    let maps = flat_map (map_shown_by steps.schedule_count c.args.maps.now) c.args.outcomes.now.maps.items in
    let one = string_bytes c.push_count.new.text in
    let two = string_bytes c.push_step_outcomes.new.text in
    let three = string_bytes c.push_maps.new.text in
    on_ok_weaker c.push_maps.result
    (λ shown. joined (string_bytes c.args.text.now) first (middle ++ maps) one three c.in_ok-push_count.ensures (joined one middle maps two three c.in_ok-push_step_outcomes.ensures shown))
    (rw c.deref.ensures.value at c.push_maps.ensures)
