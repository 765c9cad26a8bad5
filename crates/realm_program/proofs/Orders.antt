-- A proof that two runs of a plan in threads have the same text if each worker's seat, steps and report are the same
-- after both. The builds may have taken the lock in different sequences.
use Rattle.std.proofs.Common.{◌≡◌, ℕ, List, ◌++◌, sym, ap, ◌∙◌, subst}
use Rattle.std.specs.List.{flat_map}
use Rattle.host_ledger.specs.View.{HostView}
use Rattle.build_seats.specs.Close.{IsHostGivenBack, IsClosed}
use Rattle.builders.proofs.Orders.{did_the_same}
use Rattle.plan_replay.specs.Run.{map_text}
use Rattle.plan_replay.proofs.Maps.{same_map}
use Rattle.realm_plan.specs.Plan.{Plan}
use Rattle.realm_program.specs.Order.{ScheduleIsNotRevealed}
use Rattle.realm_program.specs.Text.{audit_line}
use Rattle.realm_program.specs.Workers.{worker_seats, worker_text, IsWorkersText}

module _ (plan : Plan) (passes stops : ℕ → ℕ → Type 0) (opened : HostView) (text other : List ℕ)
    (run : IsWorkersText plan passes stops opened text) (again : IsWorkersText plan passes stops opened other) where
  same_maps : worker_seats again.workers ≡ worker_seats run.workers → map_text again.host ≡ map_text run.host
  same_maps same =
      same_map run.host again.host
      (did_the_same opened run.host again.host (worker_seats run.workers) run.is_run.given_back run.closed
      (subst (IsHostGivenBack opened again.host) same again.is_run.given_back) (subst (IsClosed again.host) same again.closed))

  same_texts : again.workers ≡ run.workers → other ≡ text
  same_texts same =
      again.whole
      ∙ (λ i. flat_map (worker_text plan) (same i) ++ (same_maps (ap worker_seats same) i ++ audit_line))
      ∙ sym run.whole

pub schedule_is_not_revealed : (plan : Plan) (passes stops : ℕ → ℕ → Type 0) (opened : HostView) → ScheduleIsNotRevealed plan passes stops opened
schedule_is_not_revealed plan passes stops opened text other run again =
    (same_maps plan passes stops opened text other run again, same_texts plan passes stops opened text other run again)
