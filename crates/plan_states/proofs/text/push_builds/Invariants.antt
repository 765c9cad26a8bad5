use Rattle.std.proofs.Common.{◌≡◌, ◌++◌, string_bytes}
use Rattle.std.specs.List.{flat_map, range_with_len}
use Rattle.realm_plan.specs.PlanView.{plan_view}
use Rattle.plan_states.specs.Lines.{ends_of_build}
use Rattle.plan_states.proofs.text.push_builds.Given as goal

abbrev pub invariant-loop-build : goal.invariant-loop-build
invariant-loop-build l = string_bytes l.text ≡ string_bytes l.fn.text ++ flat_map (ends_of_build (plan_view l.plan) l.outcomes) (range_with_len 0 l.build)
