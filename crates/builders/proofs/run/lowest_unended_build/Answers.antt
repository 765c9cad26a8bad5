use Rattle.std.proofs.Common.{refl, not, rules, tests}
use Rattle.std.proofs.lemmas.Iterator.{YieldsList-from_slice, YieldsList-from_map}
use Rattle.std.proofs.lemmas.Iterator.Consumers.{YieldsList-from_filter, YieldsList-at, min_from_yields_List}
use Rattle.builders.specs.Workers.{WorkerView}
use Rattle.builders.proofs.Waiting.{least_is_told}
use Rattle.builders.proofs.run.lowest_unended_build.Goals as goal

pub returns : goal.returns
returns g c =
    least_is_told c.args.workers.now c.min.result
    (min_from_yields_List _ _ c.min.ensures.ran
    (YieldsList-from_map _ (λ (worker : WorkerView). worker.seat.build)
    (YieldsList-at c.map.ensures.source
    (YieldsList-from_filter _ (λ (worker : WorkerView). not worker.ended) (YieldsList-from_slice c.args.workers.now cc) c.filter.ensures.closure (λ x r q k. (refl, cc))))
    c.map.ensures.closure (λ x r q k. search (rules, tests))))
