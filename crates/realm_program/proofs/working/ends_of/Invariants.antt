use Rattle.std.proofs.Common.{◌≡◌, ◌++◌, length}
use Rattle.std.specs.List.{AllZip}
use Rattle.std.specs.Vec.Iter.{into_iter_items, into_iter_len}
use Rattle.realm_program.specs.Workers.{worker_seats, IsReportOf}
use Rattle.realm_program.proofs.working.ends_of.Given as goal

-- the lists have the seat and the report of each worker ended so far
abbrev pub invariant-loop-worker : goal.invariant-loop-worker
invariant-loop-worker g l =
    (l.yielded ++ into_iter_items l.worker-iterator ≡ into_iter_items l.initial.worker-iterator)
    × (into_iter_len l.worker-iterator ≡ length (into_iter_items l.worker-iterator))
    × (l.seats.items ≡ worker_seats l.yielded)
    × AllZip IsReportOf l.yielded l.reports.items
