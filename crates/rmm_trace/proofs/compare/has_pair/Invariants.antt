use Rattle.std.proofs.Common.{◌≡◌, drop}
use Rattle.std.specs.List.{list_any}
use Rattle.rmm_trace.specs.Compare.{is_pair}
use Rattle.rmm_trace.proofs.compare.has_pair.Given as goal

abbrev pub invariant-loop-pair : goal.invariant-loop-pair
invariant-loop-pair l = list_any (is_pair l.command l.check) (drop l.pair-index l.pairs) ≡ list_any (is_pair l.command l.check) l.pairs
