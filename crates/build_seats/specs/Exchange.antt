-- Exchanges of a worker with its `Teller`, the client side of a host. An exchange is a question with the answer.
use Rattle.std.specs.Prelude.{ℕ, Bool, true, false, Result, Ok, Err}
use Rattle.host_ledger.specs.declared.mark.Mark.{Mark}
use Rattle.host_commands.specs.declared.cmd.Cmd.{Cmd}
use Rattle.host_commands.specs.declared.refusal.Refusal.{Refusal}
use Rattle.host_commands.specs.declared.reply.Reply.{Reply}
use Rattle.host_commands.specs.declared.reply.Undone.{Undone}

-- A worker's request to its teller (for a command, an undo, a mark, or the number of operations since a mark), with the
-- answer.
pub data Exchange : Type 0 where
  Did : Cmd → Result Reply Refusal → Exchange
  Undid : Result Undone Refusal → Exchange
  KeptMark : Result Mark Refusal → Exchange
  CheckedBack : Mark → Result ℕ Refusal → Exchange

-- The exchange is an accepted command or an accepted undo, and so an event of the build. Marks are not events.
abbrev pub is_event : Exchange → Bool
is_event (Did cmd (Ok reply)) = true
is_event (Did cmd (Err refusal)) = false
is_event (Undid (Ok undone)) = true
is_event (Undid (Err refusal)) = false
is_event (KeptMark result) = false
is_event (CheckedBack mark result) = false
