use Rattle.std.proofs.Common.{◌≡◌, ◌≤◌, length, take}
use Rattle.rmm_trace.specs.Lines.{trimmed}
use Rattle.rmm_trace.proofs.line.trim_end.Given as goal

abbrev pub invariant-blanks : goal.invariant-blanks
invariant-blanks l = record {
  within : l.end ≤ length l.text;
  same : trimmed l.text ≡ trimmed (take l.end l.text);
}

abbrev pub decreases-blanks : goal.decreases-blanks
decreases-blanks l = l.end
