-- The state of the host after a turn of an abort, for each answer that the turn can have.
use Rattle.std.specs.Prelude.{◌≡◌, ℕ, [], true, false, Some}
use Rattle.host_ledger.specs.View.{HostView, world_of, open_of, is_aborting}
use Rattle.realm_model.specs.History.{erase, replay, IsLegal}
use Rattle.plan_replay.specs.Run.{Position, place_of}
use Rattle.plan_replay.specs.declared.answer.TurnAnswer.{TurnAnswer}
use Rattle.plan_replay.specs.declared.answer.TurnAnswer.TheVariants.{Undone, Ended, Nothing, Refused}

-- The build has nothing open and is not in abort. The history is legal, and so is the history without the build's
-- events, which leads to the same world.
pub record HasLeftNothing (host : HostView) (build : ℕ) : Type 0 where
  pub none_open : open_of host build ≡ []
  pub over : is_aborting host build ≡ false
  pub legal : IsLegal host.limits host.history
  pub legal_without : IsLegal host.limits (erase build host.history)
  pub no_trace : replay host.limits (erase build host.history) ≡ Some (world_of host)

-- After a turn of an abort, the state of the run agrees with the turn's answer. The abort is done: the build has left
-- nothing. One operation was undone, and more are left: the build is in abort. The abort is refused: this was the
-- abort's first turn, and the host is as it was. There is no other answer.
abbrev pub ReportsOfAbort : TurnAnswer → Position → ℕ → Position → Type 0
ReportsOfAbort (Ended kind) from build to = HasLeftNothing to.host build
ReportsOfAbort Nothing from build to = HasLeftNothing to.host build
ReportsOfAbort (Undone kind) from build to = is_aborting to.host build ≡ true
ReportsOfAbort (Refused refusal) from build to = ((place_of from.places build).left ≡ 0) × (to.host ≡ from.host)
ReportsOfAbort _ from build to = ⊥
