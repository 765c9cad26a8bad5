-- The statements that a host's answer to a command, an undo or a mark matches the host's history. The answer to a
-- command or an undo matches the event that is added. The answer to a mark matches the build's open operations.
use Rattle.std.specs.Prelude.{◌≡◌, ℕ, ◌≤◌, [], ◌∷◌, ◌++◌, Some, None}
use Rattle.host_ledger.specs.View.{HostView}
use Rattle.host_ledger.specs.declared.mark.Mark.{Mark}
use Rattle.host_commands.specs.declared.cmd.Cmd.{Cmd}
use Rattle.host_commands.specs.declared.reply.Reply.{Reply}
use Rattle.realm_host.specs.Answer.{IsReplied, IsUndone}
use Rattle.realm_host.specs.Marked.{IsMarkedAs}
use Rattle.host_commands.specs.declared.reply.Undone.{Undone}
use Rattle.realm_model.specs.History.{open_entries, pages_of, IsLegal}
use Rattle.realm_model.specs.Undoing.{by}
use Rattle.realm_model.specs.declared.act.Act.{Act}
use Rattle.build_seats.specs.declared.ask.Question.{Question}
use Rattle.build_seats.specs.declared.ask.Question.TheVariants as question
use Rattle.build_seats.specs.declared.report.Answer.{Answer}
use Rattle.build_seats.specs.declared.report.Answer.TheVariants as answer
use Rattle.realm_program.specs.Fitting.{AnswerFits}

-- The history grows by one event of the build, and the answer matches that event.
pub record FitsNext (host : HostView) (build : ℕ) (asked : Question) (told : Answer) (new : HostView) : Type 0 where
  pub act : Act
  pub grows : new.history ≡ host.history ++ by build act ∷ []
  pub fits : AnswerFits (pages_of build host.history) (open_entries build host.history) (Some (by build act)) asked told

-- if the history is legal, and there are at most 4,096 pages, a host's reply to a command matches the event that the
-- command adds
abbrev pub HostReplyFits : HostView → ℕ → Cmd → Reply → HostView → Type 0
HostReplyFits host build cmd reply new =
    IsLegal host.limits host.history → host.limits.pages ≤ 4096 → IsReplied host build cmd reply new
    → FitsNext host build (question.Do cmd) (answer.Replied reply) new

-- a host's reply to an undo matches the event that the undo adds
abbrev pub HostUndoFits : HostView → ℕ → Undone → HostView → Type 0
HostUndoFits host build undone new = IsUndone host build undone new → FitsNext host build question.Undo (answer.Undone undone) new

-- A host's answer to a build that sets a mark matches the build's open operations: the answer is how many are open. No
-- event belongs to the answer.
abbrev pub HostMarkFits : HostView → ℕ → Mark → HostView → Type 0
HostMarkFits host build mark new =
    IsMarkedAs host build mark new → AnswerFits (pages_of build host.history) (open_entries build host.history) None question.Mark (answer.Marked mark.length)
