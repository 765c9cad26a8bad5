-- The condition that the result of a call on translation tables agrees with an RMI command's search for a row. RMM 1.0,
-- RMI_ERROR_RTT.
use Rattle.std.specs.Prelude.{◌≡◌, Result, Ok, Err}
use Rattle.realm_model.specs.Rows.{Row}
use Rattle.realm_model.specs.Update.{Outcome}
use Rattle.realm_model.specs.Command.Check.{error_rtt}
use Rattle.rtt.specs.declared.refusal.Rtt.{Rtt}

-- A call's result agrees with a command's search for a row in the translation tables: both succeed, or both are refused
-- with the same level. If both succeed, the command goes on with that row.
abbrev pub Answers : {A : Type 0} → Result A Rtt → ((Row → Outcome) → Outcome) → Type 0
Answers (Ok value) found = (row : Row) × ((f : Row → Outcome) → found f ≡ f row)
Answers (Err refusal) found = (f : Row → Outcome) → found f ≡ Err (error_rtt refusal.level)
