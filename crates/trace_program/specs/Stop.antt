-- The exit status of `rmitrace`, by the verdict on the trace or the error that stopped the run.
use Rattle.std.specs.Prelude.{◌≡◌, ◌⊎◌, ℕ, Result}
use Rattle.command_line.specs.Ended.{status_of_end}
use Rattle.command_line.specs.declared.ended.Ended.{Ended}
use Rattle.command_line.specs.declared.stop.Stop.{Stop}
use Rattle.trace_program.specs.declared.counts.TraceVerdict.{TraceVerdict}
use Rattle.trace_program.specs.declared.counts.TraceVerdict.TheVariants.{Agrees, NothingSame, Differs}
use Rattle.trace_program.specs.declared.fault.TraceError.{TraceError}
use Rattle.trace_program.specs.declared.fault.TraceError.TheVariants.{Memory, Device, TooLong}

abbrev pub trace_status_of : TraceError → ℕ
trace_status_of Memory = 3
trace_status_of Device = 5
trace_status_of TooLong = 5

-- the exit status for a verdict, 0 if the trace agrees and 1 otherwise
abbrev pub trace_verdict_status : TraceVerdict → ℕ
trace_verdict_status Agrees = 0
trace_verdict_status NothingSame = 1
trace_verdict_status Differs = 1

abbrev pub trace_exit_status : Result (Ended TraceVerdict) (Stop TraceError) → ℕ
trace_exit_status outcome = status_of_end trace_verdict_status trace_status_of outcome

-- the exit status is that of a program that stops without a verdict: 2, 3 or 5
abbrev pub IsTraceStatus : ℕ → Type 0
IsTraceStatus status = (status ≡ 2) ⊎ (status ≡ 3) ⊎ (status ≡ 5)
