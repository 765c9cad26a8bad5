use Rattle.std.proofs.Common.{◌≡◌, take, leb, true}
use Rattle.std.specs.List.{list_all}
use Rattle.history_text.specs.Written.{granule}
use Rattle.history_text.proofs.granules.granules_of.Given as goal

abbrev pub invariant-loop-number : goal.invariant-loop-number
invariant-loop-number l = record {
  same : l.found.items ≡ take l.number-index l.numbers;
  small : list_all (λ n. leb n granule) (take l.number-index l.numbers) ≡ true;
}
