use Rattle.std.proofs.Common.{◌≡◌, []}
use Rattle.std.proofs.lemmas.List.Elements.{All-push}
use Rattle.builders.specs.Workers.{WorkerView}
use Rattle.test_host.proofs.threads.workers_of.Goals as goal

pub loop-preserved : goal.loop-preserved
loop-preserved g c =
    rw c.push.ensures (All-push (λ (worker : WorkerView). worker.lines ≡ []) _ _ c.loop.invariant c.worker_of.ensures)
