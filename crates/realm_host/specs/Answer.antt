-- The answer of a host to a command or an undo, and the event that the call records.
use Rattle.std.specs.Prelude.{◌≡◌, ℕ, ◌-◌, [], ◌∷◌, ◌++◌, length, Some, None, Result, Ok, Err, option_and_then}
use Rattle.std.specs.List.{last_or}
use Rattle.realm_model.specs.Kind.{act_kind}
use Rattle.realm_model.specs.declared.act.Act.{Act}
use Rattle.realm_model.specs.declared.act.Act.TheVariants as acts
use Rattle.realm_model.specs.Act.{reverse_of}
use Rattle.realm_model.specs.History.{IsLegal}
use Rattle.realm_model.specs.Undoing.{by}
use Rattle.host_commands.specs.declared.cmd.Cmd.{Cmd}
use Rattle.host_commands.specs.declared.cmd.Cmd.TheVariants.{Take}
use Rattle.host_commands.specs.declared.refusal.Refusal.{Refusal}
use Rattle.host_commands.specs.declared.reply.Reply.{Reply}
use Rattle.host_commands.specs.Replies.{reply_of}
use Rattle.host_ledger.specs.View.{HostView, open_of, pages_of_build, with_event}
use Rattle.realm_host.specs.declared.command.HostAnswer.{HostAnswer}
use Rattle.realm_host.specs.declared.command.HostAnswer.TheVariants.{Replied, Undone as WasUndone, Refused}
use Rattle.host_commands.specs.declared.reply.Undone.{Undone}
use Rattle.realm_host.specs.Call.{Call, Ask, Undo}
use Rattle.realm_host.specs.Allocation.{act_asked}
use Rattle.realm_host.specs.Refusals.{refusal_of}

-- The operation is what the call asks for, with page numbers turned into the build's granules. The block of a Take may
-- be any; all other allocations are fixed. An undo asks for the reverse of the newest operation that the build has
-- open.
abbrev pub IsActOf : HostView → ℕ → Call → Act → Type 0
IsActOf host build (Ask (Take order)) act = (first : ℕ) × (act ≡ acts.Take order first)
IsActOf host build (Ask cmd) act = act_asked host build cmd ≡ Some act
IsActOf host build Undo act = option_and_then reverse_of (last_or None (open_of host build)) ≡ Some act

-- The call is not refused, and the event of its operation is added to the history, which stays legal.
pub record IsAccepted (host : HostView) (build : ℕ) (call : Call) (act : Act) (new : HostView) : Type 0 where
  pub not_refused : refusal_of host build call ≡ None
  pub act_of : IsActOf host build call act
  pub legal : IsLegal host.limits (host.history ++ by build act ∷ [])
  pub grows : new ≡ with_event host build act

-- The command is accepted, and gets the reply for its operation.
pub record IsReplied (host : HostView) (build : ℕ) (cmd : Cmd) (reply : Reply) (new : HostView) : Type 0 where
  pub act : Act
  pub accepted : IsAccepted host build (Ask cmd) act new
  pub reply_is : reply ≡ reply_of (length (pages_of_build host build)) act

-- The undo is accepted, and answered with the undone operation's kind and the number of operations left open.
pub record IsUndone (host : HostView) (build : ℕ) (undone : Undone) (new : HostView) : Type 0 where
  pub act : Act
  pub accepted : IsAccepted host build Undo act new
  pub kind : option_and_then act_kind (last_or None (open_of host build)) ≡ Some undone.kind
  pub left : undone.left ≡ length (open_of host build) - 1

-- A call gets the refusal that applies, and nothing changes; or it gets the reply, and its one event is recorded.
abbrev pub IsAnswer : HostView → ℕ → Call → HostAnswer → HostView → Type 0
IsAnswer host build call (Refused refusal) new = (refusal_of host build call ≡ Some refusal) × (new ≡ host)
IsAnswer host build (Ask cmd) (Replied reply) new = IsReplied host build cmd reply new
IsAnswer host build Undo (WasUndone undone) new = IsUndone host build undone new
IsAnswer host build _ _ new = ⊥

-- a result of `command` as a `HostAnswer`
abbrev pub replied : Result Reply Refusal → HostAnswer
replied (Ok reply) = Replied reply
replied (Err refusal) = Refused refusal

-- a result of `undo` as a `HostAnswer`
abbrev pub undone : Result Undone Refusal → HostAnswer
undone (Ok done) = WasUndone done
undone (Err refusal) = Refused refusal
