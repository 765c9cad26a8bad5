use Rattle.std.proofs.Common.{◌≡◌, drop}
use Rattle.rmm_trace.specs.Grammar.{row_of}
use Rattle.rmm_trace.proofs.grammar.row_of.Given as goal

abbrev pub invariant-loop-group : goal.invariant-loop-group
invariant-loop-group l = row_of l.context l.name (drop l.group-index l.groups) ≡ row_of l.context l.name l.groups
