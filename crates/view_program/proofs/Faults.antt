-- Proofs that a failed allocation, or a failed read, can be the reason why the lines of a history are not applied.
use Rattle.std.proofs.Common.{List, ℕ, Option}
use Rattle.host_ledger.specs.View.{HostView}
use Rattle.checked_io.specs.declared.told.ReadError.{ReadError}
use Rattle.checked_io.specs.declared.told.ReadError.TheVariants as read_error
use Rattle.view_program.specs.Applied.{IsNoHistoryIn}
use Rattle.view_program.specs.Stop.{view_fault_of_read}
use Rattle.view_program.specs.Taking.{AreNotTaken}

pub unread_not_taken : (input : Option (List ℕ)) (old : HostView) (e : ReadError) → AreNotTaken input old (view_fault_of_read e)
unread_not_taken input old read_error.Memory = tt
unread_not_taken input old read_error.Device = tt

pub unread_no_history : (input : Option (List ℕ)) (e : ReadError) → IsNoHistoryIn input (view_fault_of_read e)
unread_no_history input read_error.Memory = tt
unread_no_history input read_error.Device = tt
