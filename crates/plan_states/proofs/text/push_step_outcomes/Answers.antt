use Rattle.std.proofs.Common.{◌++◌, length, string_bytes}
use Rattle.std.specs.List.{flat_map, range_with_len}
use Rattle.std.proofs.lemmas.Result.{on_ok_weaker}
use Rattle.realm_plan.specs.PlanView.{plan_view}
use Rattle.plan_states.specs.Lines.{refusals_line, ends_of_build, never_refused_lines}
use Rattle.plan_states.proofs.Joined.{joined}
use Rattle.plan_states.proofs.Builds.{builds_are}
use Rattle.plan_states.proofs.text.push_step_outcomes.Goals as goal

pub returns : goal.returns
returns c =
    let plan = plan_view c.args.plan.now in
    let outcomes = c.args.outcomes.now in
    let are = builds_are c.args.plan.now c.len-builds.result c.len-builds.ensures in
    let by_refusal = flat_map (refusals_line outcomes.schedule_count) outcomes.by_refusal.items in
    let builds = flat_map (ends_of_build plan outcomes) (range_with_len 0 (length plan.builds)) in
    let never_refused = flat_map (never_refused_lines outcomes.schedule_count outcomes.never_refused.items) (range_with_len 0 (length plan.builds)) in
    let one = string_bytes c.push_by_refusal.new.text in
    let two = string_bytes c.push_builds.new.text in
    let three = string_bytes c.push_all_never_refused.new.text in
    on_ok_weaker c.push_all_never_refused.result
    (λ shown. joined (string_bytes c.args.text.now) by_refusal (builds ++ never_refused) one three (rw c.deref.ensures.value at c.in_ok-push_by_refusal.ensures)
    (joined one builds never_refused two three (rw are at c.in_ok-push_builds.ensures) shown))
    (rw (are, c.deref-2.ensures.value) at c.push_all_never_refused.ensures)
