-- The number of trace lines with each verdict, and the verdict on a whole trace.
use Rattle.std.specs.Prelude.{ℕ, ◌+◌, ◌-◌, ◌^◌, ◌≤◌, ◌⊎◌, nat_lt, if◌then◌else◌, List, ◌++◌, codes, decimal}
use Rattle.trace_program.specs.declared.counts.Counts.{Counts}
use Rattle.trace_program.specs.declared.counts.LineVerdict.{LineVerdict}
use Rattle.trace_program.specs.declared.counts.LineVerdict.TheVariants.{NotCompared, Same, Allowed, Wrong}
use Rattle.trace_program.specs.declared.counts.TraceVerdict.{TraceVerdict}
use Rattle.trace_program.specs.declared.counts.TraceVerdict.TheVariants.{Agrees, NothingSame, Differs}

-- the counts after one more line with the given verdict
abbrev pub with_line_counted : Counts → LineVerdict → Counts
with_line_counted c NotCompared = record c { lines = c.lines + 1 }
with_line_counted c Same = record c { lines = c.lines + 1; same = c.same + 1 }
with_line_counted c Allowed = record c { lines = c.lines + 1; allowed = c.allowed + 1 }
with_line_counted c Wrong = record c { lines = c.lines + 1; wrong = c.wrong + 1 }

-- the number of lines with the given verdict, or 0 for `NotCompared`, which has no count of its own
abbrev pub count_of : Counts → LineVerdict → ℕ
count_of c NotCompared = 0
count_of c Same = c.same
count_of c Allowed = c.allowed
count_of c Wrong = c.wrong

-- A line with the given verdict cannot be counted, because the count of all lines, or of the lines with this verdict,
-- has reached its maximum.
abbrev pub IsCountFull : Counts → LineVerdict → Type 0
IsCountFull c verdict = (2 ^ 64 - 1 ≤ c.lines) ⊎ (2 ^ 64 - 1 ≤ count_of c verdict)

-- The verdict on a trace with the given counts: the trace agrees if at least one line has the model's answer and none
-- is wrong.
abbrev pub trace_verdict : Counts → TraceVerdict
trace_verdict c = if nat_lt 0 c.wrong then Differs else (if nat_lt 0 c.same then Agrees else NothingSame)

-- the counts as a line of text
abbrev pub summary_text : Counts → List ℕ
summary_text c = decimal c.same ++ codes " same, " ++ decimal c.allowed ++ codes " allowed, " ++ decimal c.wrong ++ codes " wrong\n"
