use Rattle.std.proofs.Common.{◌≡◌, ◌++◌, take, string_bytes}
use Rattle.history_text.specs.Histories.{history_text, shown}
use Rattle.history_text.proofs.text.push_history.Given as goal

abbrev pub invariant-loop-event : goal.invariant-loop-event
invariant-loop-event l = string_bytes l.text ≡ string_bytes l.fn.text ++ history_text l.opening (shown l.erase (take l.event-index l.events))
