-- The ways in which a program ends, and their exit statuses.
use Rattle.std.specs.Prelude.{◌≡◌, ◌⊎◌, ℕ, Bool, true, false, Result, Ok, Err}
use Rattle.clap.specs.declared.error.kind.ErrorKind.{ErrorKind}
use Rattle.clap.specs.declared.error.kind.ErrorKind.TheVariants.{DisplayHelp, DisplayVersion}
use Rattle.command_line.specs.Stop.{status_of_stop}
use Rattle.command_line.specs.declared.ended.Ended.{Ended}
use Rattle.command_line.specs.declared.ended.Ended.TheVariants.{Done, Shown, Closed}
use Rattle.command_line.specs.declared.stop.Stop.{Stop}
use Rattle.command_line.specs.declared.stop.Stop.TheVariants.{Run}

-- the end of a program whose run has this outcome; the fault of a failed run is the reason to stop, unless the output
-- is closed
abbrev pub end_of_run : {V F : Type 0} → Result V F → Bool → Result (Ended V) (Stop F)
end_of_run (Ok verdict) is_closed = Ok (Done verdict)
end_of_run (Err fault) true = Ok Closed
end_of_run (Err fault) false = Err (Run fault)

-- an error of this kind is a request for help or for the version
abbrev pub is_request : ErrorKind → Bool
is_request DisplayHelp = true
is_request DisplayVersion = true
is_request _ = false

-- after a help or version text, the program ends as `Shown` with an output that has not failed, or as `Closed` with a
-- closed output
abbrev pub IsShown : {V : Type 0} → Bool → Bool → Ended V → Type 0
IsShown failed is_closed Shown = failed ≡ false
IsShown failed is_closed Closed = is_closed ≡ true
IsShown failed is_closed (Done verdict) = ⊥

-- the program stops because a help or version text was not printed: allocation failed, or the output failed and is not
-- closed
abbrev pub IsUnshown : {F : Type 0} → F → Bool → Bool → Stop F → Type 0
IsUnshown memory failed is_closed (Run fault) = (fault ≡ memory) ⊎ ((failed ≡ true) × (is_closed ≡ false))
IsUnshown memory failed is_closed _ = ⊥

-- the reason to stop is a fault with this property
abbrev pub IsFaultWith : {F : Type 0} → (F → Type 0) → Stop F → Type 0
IsFaultWith P (Run fault) = P fault
IsFaultWith P _ = ⊥

-- The exit status of a program: that of its verdict or of its reason to stop, 0 after a help or version text, and 141
-- after a closed output. 141 is 128 + 13, the status that a shell gives for a program that the signal SIGPIPE ends.
abbrev pub status_of_end : {V F : Type 0} → (V → ℕ) → (F → ℕ) → Result (Ended V) (Stop F) → ℕ
status_of_end status_of_verdict status_of_fault (Ok (Done verdict)) = status_of_verdict verdict
status_of_end status_of_verdict status_of_fault (Ok Shown) = 0
status_of_end status_of_verdict status_of_fault (Ok Closed) = 141
status_of_end status_of_verdict status_of_fault (Err stop) = status_of_stop status_of_fault stop
