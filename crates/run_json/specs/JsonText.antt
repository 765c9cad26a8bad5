-- The JSON text that `serde_json` writes for a value.
use Rattle.std.specs.Prelude.{ℕ, List, [], Some}
use Rattle.serde.specs.Event.{Log}
use Rattle.serde_json.specs.Sent.{IsTextOf}

-- The text is what `serde_json` writes for a value, without spaces. The value is given by the serde events that it
-- sends.
abbrev pub IsJsonOf : (Log → Log → Type 0) → List ℕ → Type 0
IsJsonOf writes text = (log : Log) × writes (Some []) log × IsTextOf log text
