-- Proofs that appending a turn's item extends a run's list of turn items, and that a whole list describes a run of the
-- plan.
use Rattle.std.proofs.Common.{ℕ, List, [], ◌∷◌, ◌++◌, length, refl, subst, ◌≤◌, take}
use Rattle.std.proofs.lemmas.List.{take_all}
use Rattle.std.specs.List.{flat_map}
use Rattle.host_ledger.specs.View.{HostView}
use Rattle.realm_plan.specs.Plan.{Plan}
use Rattle.plan_replay.specs.Run.{Position, Turn, start, AreTurns, IsReportedRun, turn_text}
use Rattle.run_json.specs.Document.{IsTurnItem, AddsTurnItem, AreTurnItems, HasTurnItems}
use Rattle.run_json.specs.declared.turn.TurnItem.{TurnItem}

AreTurnItems-then :
    (plan : Plan) (order : List ℕ) (from at : Position) (build : ℕ) (to : Position) (items : List TurnItem) (item : TurnItem)
    → AreTurnItems plan order from at items
    → IsTurnItem plan at build to item
    → AreTurnItems plan (order ++ build ∷ []) from to (items ++ item ∷ [])
AreTurnItems-then plan [] from at build to [] item turns is = (to, subst (λ p. IsTurnItem plan p build to item) turns is, refl)
AreTurnItems-then plan [] from at build to (first ∷ items) item turns is = absurd turns
AreTurnItems-then plan (b ∷ order) from at build to [] item turns is = absurd turns
AreTurnItems-then plan (b ∷ order) from at build to (first ∷ items) item turns is =
    (turns.0, turns.1, AreTurnItems-then plan order turns.0 at build to items item turns.2 is)

pub AreTurnItems-more :
    (plan : Plan) (order : List ℕ) (from at : Position) (build : ℕ) (to : Position) (old new : List TurnItem)
    → AreTurnItems plan order from at old
    → AddsTurnItem plan at build to old new
    → AreTurnItems plan (order ++ build ∷ []) from to new
AreTurnItems-more plan order from at build to old new turns adds =
    rw adds.appended (AreTurnItems-then plan order from at build to old adds.item turns adds.is_item)

-- if the plan's schedule has at most `i` turns, the items of its first `i` turns are the items of all its turns
pub HasTurnItems-whole :
    (plan : Plan) (i : ℕ) (from : HostView) (at : Position) (items : List TurnItem)
    → length plan.order ≤ i
    → AreTurnItems plan (take i plan.order) (start from) at items
    → HasTurnItems plan from at.host items
HasTurnItems-whole plan i from at items done turns = record {
  end = at;
  host = refl;
  turns = subst (λ order. AreTurnItems plan order (start from) at items) (take_all i plan.order done) turns;
}

-- if `AreTurnItems` holds of a schedule and two positions, turns of the scheduled builds lead from the first position
-- to the second
run_of :
    (plan : Plan) (order : List ℕ) (from to : Position) (items : List TurnItem)
    → AreTurnItems plan order from to items
    → (turns : List Turn) × AreTurns plan order from turns to
run_of plan [] from to [] is = ([], is)
run_of plan [] from to (item ∷ items) is = absurd is
run_of plan (b ∷ order) from to [] is = absurd is
run_of plan (b ∷ order) from to (item ∷ items) is =
    let rest = run_of plan order is.0 to items is.2 in
    (is.1.turn ∷ rest.0, (is.1.of_build, is.0, is.1.is_turn, rest.1))

-- if items describe the plan's turns from one host state to another, a reported run of the plan leads from the one to
-- the other
pub reported_run :
    (plan : Plan) (from to : HostView) (items : List TurnItem)
    → HasTurnItems plan from to items
    → (lines : List ℕ) × IsReportedRun plan from to [] lines
reported_run plan from to items is =
    let run = run_of plan plan.order (start from) is.end items is.turns in
    (flat_map turn_text run.0, record { turns = run.0; end = is.end; is_run = run.1; host = is.host; appended = refl })
