use Rattle.std.proofs.Common.{◌≡◌, [], All}
use Rattle.test_host.proofs.threads.workers_of.Given as goal

abbrev pub invariant-loop : goal.invariant-loop
invariant-loop g l = All (λ worker. worker.lines ≡ []) l.workers.items
