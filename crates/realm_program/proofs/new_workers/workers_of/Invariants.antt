use Rattle.std.proofs.Common.{◌≡◌, ◌++◌, map, length}
use Rattle.std.specs.List.{range_with_len}
use Rattle.std.specs.Vec.Iter.{into_iter_items, into_iter_len}
use Rattle.realm_plan.specs.PlanView.{plan_view}
use Rattle.realm_program.specs.Workers.{new_worker}
use Rattle.realm_program.proofs.new_workers.workers_of.Given as goal

-- the workers created so far are the new workers of the builds from 0 on, one for each seat taken
abbrev pub invariant-loop-seat : goal.invariant-loop-seat
invariant-loop-seat g l =
    (l.yielded ++ into_iter_items l.seat-iterator ≡ into_iter_items l.initial.seat-iterator)
    × (into_iter_len l.seat-iterator ≡ length (into_iter_items l.seat-iterator))
    × (l.build ≡ length l.yielded)
    × (l.workers.items ≡ map (new_worker (plan_view l.plan)) (range_with_len 0 l.build))
