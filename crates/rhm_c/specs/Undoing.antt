-- The effects of the C calls on a build: an undo, the beginning of an abort, a whole abort, a mark, and a rollback.
use Rattle.std.specs.Prelude.{◌≡◌, ℕ, Option, Some, None, Result, Ok, Err, unwrap_or}
use Rattle.host_commands.specs.declared.refusal.Refusal.{Refusal}
use Rattle.host_commands.specs.declared.refusal.Refusal.TheVariants.{NothingToUndo}
use Rattle.host_commands.specs.Checks.{build_checks, first_that_holds}
use Rattle.host_ledger.specs.declared.mark.Mark.{Mark}
use Rattle.host_ledger.specs.Summary.{summary_of}
use Rattle.host_ledger.specs.View.{HostView, mark_of}
use Rattle.realm_host.specs.Abort.{IsBegun, IsAbortAnswer}
use Rattle.realm_host.specs.Call.{Undo}
use Rattle.realm_host.specs.Marked.{IsMarked, IsBackAnswer}
use Rattle.rhm_c.specs.Answer.{only, done, refused_as, counted_as, answered_as, IsAnsweredAs, IsOnly}
use Rattle.rhm_c.specs.Command.{no_such_build}
use Rattle.rhm_c.specs.declared.answer.CallAnswer.{CallAnswer}
use Rattle.rhm_c.specs.declared.build_call.BuildCall.{BuildCall}
use Rattle.rhm_c.specs.declared.build_call.BuildCall.TheVariants as calls

-- `Is` relates the host before a call on the build, the answer and the host after the call; if there is no such build,
-- nothing changes
abbrev pub IsOfBuild : (HostView → ℕ → CallAnswer → HostView → Type 0) → Option ℕ → HostView → CallAnswer → HostView → Type 0
IsOfBuild Is (Some build) old given new = Is old build given new
IsOfBuild Is None old given new = IsOnly old (only no_such_build) given new

-- the host answers an undo of the build, and `given` is the C form of the answer
abbrev pub IsUndoneHere : HostView → ℕ → CallAnswer → HostView → Type 0
IsUndoneHere old build given new = IsAnsweredAs answered_as old build Undo given new

-- ---- aborts

-- the result of a call is a number of operations or a refusal, and `given` is the C form of the result
pub record IsCountedAs (Is : HostView → ℕ → Result ℕ Refusal → HostView → Type 0) (old : HostView) (build : ℕ) (given : CallAnswer) (new : HostView) : Type 0 where
  pub result : Result ℕ Refusal
  pub is_result : Is old build result new
  pub given_is : given ≡ counted_as result

abbrev pub IsBegunHere : HostView → ℕ → CallAnswer → HostView → Type 0
IsBegunHere old build given new = IsCountedAs IsBegun old build given new

abbrev pub IsAbortedHere : HostView → ℕ → CallAnswer → HostView → Type 0
IsAbortedHere old build given new = IsCountedAs IsAbortAnswer old build given new

-- ---- marks

-- the C form of a mark or a refusal; the value for a mark is the number of operations open when it was set
abbrev pub marked_as : Result Mark Refusal → CallAnswer
marked_as (Ok mark) = done mark.length
marked_as (Err refusal) = refused_as refusal

pub record IsMarkedHere (old : HostView) (build : ℕ) (given : CallAnswer) (new : HostView) : Type 0 where
  pub result : Result Mark Refusal
  pub is_result : IsMarked old build result new
  pub given_is : given ≡ marked_as result

-- The refusal that a rollback gets if the build has no mark. It is `NothingToUndo`, unless there is no such build, or
-- the build is in abort.
abbrev pub refusal_without_mark : HostView → ℕ → Refusal
refusal_without_mark host build = unwrap_or (first_that_holds (build_checks (summary_of host) build)) NothingToUndo

-- the host answers a rollback to a build's mark; without a mark the rollback is refused, and nothing changes
abbrev pub IsBackTo : Option Mark → HostView → ℕ → CallAnswer → HostView → Type 0
IsBackTo (Some mark) old build given new = IsCountedAs (λ host of result after. IsBackAnswer host of mark result after) old build given new
IsBackTo None old build given new = IsOnly old (refused_as (refusal_without_mark old build)) given new

abbrev pub IsBackHere : HostView → ℕ → CallAnswer → HostView → Type 0
IsBackHere old build given new = IsBackTo (mark_of old build) old build given new

-- ---- all calls on a build

-- the call on the build gives this answer, and leads from one host to the other
abbrev pub IsCalledHere : BuildCall → HostView → ℕ → CallAnswer → HostView → Type 0
IsCalledHere calls.Undo = IsUndoneHere
IsCalledHere calls.BeginAbort = IsBegunHere
IsCalledHere calls.Abort = IsAbortedHere
IsCalledHere calls.Mark = IsMarkedHere
IsCalledHere calls.RollBack = IsBackHere
