use Rattle.std.proofs.Common.{◌≡◌, ◌++◌, drop, string_bytes}
use Rattle.plan_states.specs.Lines.{never_refused_lines}
use Rattle.plan_states.proofs.lines.push_never_refused_tallies.Given as goal

abbrev pub invariant-loop-tally : goal.invariant-loop-tally
invariant-loop-tally l = string_bytes l.text ++ never_refused_lines l.schedule_count (drop l.tally-index l.never_refused) l.build ≡ string_bytes l.fn.text ++ never_refused_lines l.schedule_count l.never_refused l.build
