-- The C form of a host's answers, and the effect of a call on a handle.
use Rattle.std.specs.Prelude.{◌≡◌, ℕ, Option, Some, None, Result, Ok, Err}
use Rattle.realm_model.specs.Rmi.{result_word}
use Rattle.host_commands.specs.declared.cmd.Cmd.{Cmd}
use Rattle.host_commands.specs.declared.refusal.Refusal.{Refusal}
use Rattle.host_commands.specs.declared.refusal.Refusal.TheVariants.{NoBuild, Aborting, BadOrder, NotLeased, RealmThere, NoRealm, NothingToUndo, RecRunning, JournalFull, HistoryFull, NoBlock, NoVmid, Rmi}
use Rattle.host_commands.specs.declared.reply.Reply.{Reply}
use Rattle.host_commands.specs.declared.reply.Reply.TheVariants.{Done, FirstPage, Byte, Vmid, Number}
use Rattle.history_calls.specs.Frame.{Place}
use Rattle.host_ledger.specs.View.{HostView}
use Rattle.realm_host.specs.Answer.{IsAnswer}
use Rattle.realm_host.specs.Call.{Call, Ask}
use Rattle.realm_host.specs.declared.command.HostAnswer.{HostAnswer}
use Rattle.realm_host.specs.declared.command.HostAnswer.TheVariants.{Replied, Undone as WasUndone, Refused}
use Rattle.rhm_c.specs.declared.placed_host.PlacedHost.{PlacedHost}
use Rattle.rhm_c.specs.declared.answer.CallAnswer.{CallAnswer}

-- ---- answers: a status and a value

-- an answer with this status and the value 0
abbrev pub only : ℕ → CallAnswer
only status = record { status = status; value = 0 }

abbrev pub done : ℕ → CallAnswer
done value = record { status = 0; value = value }

-- the answer to a call on a closed handle: status 14
abbrev pub closed : CallAnswer
closed = only 14

abbrev pub reply_value : Reply → ℕ
reply_value Done = 0
reply_value (FirstPage page) = page
reply_value (Byte byte) = byte
reply_value (Vmid vmid) = vmid
reply_value (Number number) = number

abbrev pub refusal_status : Refusal → ℕ
refusal_status NoBuild = 1
refusal_status Aborting = 2
refusal_status BadOrder = 3
refusal_status (NotLeased page) = 4
refusal_status RealmThere = 5
refusal_status NoRealm = 6
refusal_status NothingToUndo = 7
refusal_status RecRunning = 8
refusal_status JournalFull = 9
refusal_status HistoryFull = 10
refusal_status (NoBlock order) = 11
refusal_status NoVmid = 12
refusal_status (Rmi rmi) = 13

abbrev pub refusal_value : Refusal → ℕ
refusal_value (NotLeased page) = page
refusal_value (NoBlock order) = order
refusal_value (Rmi rmi) = result_word rmi
refusal_value _ = 0

abbrev pub refused_as : Refusal → CallAnswer
refused_as refusal = record { status = refusal_status refusal; value = refusal_value refusal }

-- the C form of a host's answer
abbrev pub answered_as : HostAnswer → CallAnswer
answered_as (Replied reply) = done (reply_value reply)
answered_as (WasUndone undone) = done undone.left
answered_as (Refused refusal) = refused_as refusal

-- the C form of a number of operations, or of a refusal
abbrev pub counted_as : Result ℕ Refusal → CallAnswer
counted_as (Ok count) = done count
counted_as (Err refusal) = refused_as refusal

-- ---- calls of a host

-- the host answers the call, and `form` turns the answer into `given`
pub record IsAnsweredAs (form : HostAnswer → CallAnswer) (old : HostView) (build : ℕ) (call : Call) (given : CallAnswer) (new : HostView) : Type 0 where
  pub answer : HostAnswer
  pub is_answer : IsAnswer old build call answer new
  pub given_is : given ≡ form answer

-- the call returns this answer, and the host does not change
abbrev pub IsOnly : HostView → CallAnswer → CallAnswer → HostView → Type 0
IsOnly old answer given new = (given ≡ answer) × (new ≡ old)

-- The host answers the command. If the build or the command is not valid, the answer is a status with the reason, and
-- nothing changes.
abbrev pub IsCommanded : Result (ℕ × Cmd) ℕ → HostView → CallAnswer → HostView → Type 0
IsCommanded (Ok asked) old given new = IsAnsweredAs answered_as old asked.0 (Ask asked.1) given new
IsCommanded (Err status) old given new = IsOnly old (only status) given new

-- ---- calls on a handle

-- On an open handle, `Is` relates the host before a call, the answer and the host after it; the host's granules keep
-- their addresses. A closed handle stays closed, with the answer `closed`.
abbrev pub IsOnHandle : (Place → HostView → CallAnswer → HostView → Type 0) → Option PlacedHost → CallAnswer → Option PlacedHost → Type 0
IsOnHandle Is (Some old) given (Some new) = Is old.frame old.host given new.host × (new.frame ≡ old.frame)
IsOnHandle Is None given None = given ≡ closed
IsOnHandle Is _ given _ = ⊥
