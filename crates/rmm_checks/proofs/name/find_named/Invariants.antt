use Rattle.std.proofs.Common.{◌≡◌, drop}
use Rattle.rmm_checks.specs.Names.{find_named}
use Rattle.rmm_checks.proofs.name.find_named.Given as goal

abbrev pub invariant-loop-condition : goal.invariant-loop-condition
invariant-loop-condition l = find_named l.text (drop l.condition-index l.conditions) ≡ find_named l.text l.conditions
