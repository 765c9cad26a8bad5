use Rattle.std.proofs.Common.{◌≡◌, take, leb, true}
use Rattle.std.specs.List.{list_all}
use Rattle.decimal_text.proofs.range.up_to.Given as goal

abbrev pub invariant-loop-number : goal.invariant-loop-number
invariant-loop-number g l = record {
  same : l.found.items ≡ take l.number-index l.numbers;
  small : list_all (λ n. leb n l.maximum) (take l.number-index l.numbers) ≡ true;
}
