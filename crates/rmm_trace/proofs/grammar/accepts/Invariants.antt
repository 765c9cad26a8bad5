use Rattle.std.proofs.Common.{◌≡◌, drop, Some}
use Rattle.rmm_trace.specs.Grammar.{accepts}
use Rattle.rmm_trace.proofs.grammar.accepts.Given as goal

abbrev pub invariant-loop-word : goal.invariant-loop-word
invariant-loop-word l = accepts l.groups (Some l.it) (drop l.word-index l.words) ≡ accepts l.groups (Some l.initial.it) l.words
