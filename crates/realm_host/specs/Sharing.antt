-- The statement that an abort leaves nothing behind while other builds go on.
use Rattle.std.specs.Prelude.{◌≡◌, ◌≢◌, ◌↔◌, ℕ, Bool, List, [], ◌∷◌, ◌++◌, length, nat_lt, None, Result, true}
use Rattle.std.specs.Bool.{OnTrue, OnFalse}
use Rattle.std.specs.List.{All}
use Rattle.host_ledger.specs.declared.mark.Mark.{Mark}
use Rattle.host_ledger.specs.View.{HostView, world_of, open_of, is_aborting, with_event}
use Rattle.host_commands.specs.declared.refusal.Refusal.{Refusal}
use Rattle.realm_host.specs.Abort.{IsBegun, IsAbortAnswer}
use Rattle.realm_host.specs.Answer.{IsAnswer}
use Rattle.realm_host.specs.Call.{Call, Undo}
use Rattle.realm_host.specs.Marked.{IsMarked, IsBackAnswer}
use Rattle.realm_host.specs.Recorded.{CanApply}
use Rattle.realm_host.specs.Refusals.{refusal_of}
use Rattle.realm_host.specs.declared.command.HostAnswer.{HostAnswer}
use Rattle.realm_model.specs.Aborting.{IsAborting, IsOthersOrReverse}
use Rattle.realm_model.specs.History.{erase, IsLegal}
use Rattle.realm_model.specs.Undoing.{by}
use Rattle.realm_model.specs.declared.act.Act.{Act}
use Rattle.realm_model.specs.declared.act.Event.{Event}

-- ---- calls

-- A recorded operation is applied if and only if `CanApply` holds of its event; otherwise nothing changes.
pub record IsApplyAnswer (host : HostView) (build : ℕ) (act : Act) (result : Bool) (new : HostView) : Type 0 where
  pub answer : (result ≡ true) ↔ CanApply host (by build act)
  pub applied : OnTrue result (new ≡ with_event host build act)
  pub unchanged : OnFalse result (new ≡ host)

-- A call that a build makes to a host, with the answer. It is a command or an undo, the start of an abort, a whole
-- abort, a mark, the way back to one, or a recorded operation.
pub data AnsweredCall : Type 0 where
  Calls : Call → HostAnswer → AnsweredCall
  Begins : Result ℕ Refusal → AnsweredCall
  Aborts : Result ℕ Refusal → AnsweredCall
  Marks : Result Mark Refusal → AnsweredCall
  GoesBack : Mark → Result ℕ Refusal → AnsweredCall
  Applies : Act → Bool → AnsweredCall

-- The call's contract allows this answer, and the host `new` after it.
abbrev pub IsAnsweredSo : HostView → ℕ → AnsweredCall → HostView → Type 0
IsAnsweredSo host build (Calls call answer) new = IsAnswer host build call answer new
IsAnsweredSo host build (Begins result) new = IsBegun host build result new
IsAnsweredSo host build (Aborts result) new = IsAbortAnswer host build result new
IsAnsweredSo host build (Marks result) new = IsMarked host build result new
IsAnsweredSo host build (GoesBack mark result) new = IsBackAnswer host build mark result new
IsAnsweredSo host build (Applies act result) new = IsApplyAnswer host build act result new

-- While a build is in abort, any build may make any call, except that recorded operations may be applied for other
-- builds only. The host would apply one even for the build in abort.
abbrev pub MayBeAsked : ℕ → ℕ → AnsweredCall → Type 0
MayBeAsked build other (Applies act result) = other ≢ build
MayBeAsked build other _ = Unit {0}

-- Calls of any builds, one after another, lead from `host` to `new` during the abort of a build. The build is in abort
-- before each of them, so at most the last one ends the abort.
abbrev pub AreWhileAborting : ℕ → HostView → List (ℕ × AnsweredCall) → HostView → Type 0
AreWhileAborting build host [] new = new ≡ host
AreWhileAborting build host ((other, call) ∷ calls) new =
    (is_aborting host build ≡ true) × MayBeAsked build other call
    × ((then : HostView) × (IsAnsweredSo host other call then × AreWhileAborting build then calls new))

-- ---- their outcome

-- What holds of `host` if an abort of the build began at the host `old`, and all calls since then have led to `host`:
pub record IsInAbortSince (old : HostView) (build : ℕ) (host : HostView) : Type 0 where
  -- its history is legal, and longer by what others did, and by reverses of the build;
  pub limits : host.limits ≡ old.limits
  pub later : List Event
  pub since : host.history ≡ old.history ++ later
  pub reverses : All (IsOthersOrReverse build) later
  pub legal : IsLegal host.limits host.history
  -- the build is in abort just as long as it has something open, and its next undo is performed then;
  pub in_abort : is_aborting host build ≡ nat_lt 0 (length (open_of host build))
  pub served : open_of host build ≢ [] → refusal_of host build Undo ≡ None
  -- the history is that of an abort, and without the build it is legal too.
  pub aborting : IsAborting old.limits old.history later build (world_of host)
  pub legal_without : IsLegal host.limits (erase build host.history)
