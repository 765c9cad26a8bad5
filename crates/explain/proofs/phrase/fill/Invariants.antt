use Rattle.std.proofs.Common.{string_bytes}
use Rattle.std.specs.Str.{IsUtf8}
use Rattle.explain.specs.Words.{AppendsWords}
use Rattle.explain.proofs.phrase.fill.Given as goal

abbrev pub invariant-loop-value : goal.invariant-loop-value
invariant-loop-value l = record {
  text : IsUtf8 l.rest;
  appended : AppendsWords (string_bytes l.fn.text) (string_bytes l.text);
}
