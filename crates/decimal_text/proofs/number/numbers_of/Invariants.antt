use Rattle.std.proofs.Common.{◌≡◌, ℕ, List, ◌++◌, length}
use denote.Text.{Utf8}
use denote.Shadow.{shadow}
use Rattle.decimal_text.specs.Numbers.{AreNumbers, spelled_numbers}
use Rattle.decimal_text.proofs.number.numbers_of.Given as goal

abbrev pub invariant-loop-fields : goal.invariant-loop-fields
invariant-loop-fields g l = record {
  is_text : shadow (Utf8 l.rest);
  are : AreNumbers g.row.MOST l.numbers.items;
  found : l.text ≡ spelled_numbers l.numbers.items ++ l.rest;
  only : (ns : List ℕ) → AreNumbers g.row.MOST ns → l.text ≡ spelled_numbers ns → (ms : List ℕ) × (ns ≡ l.numbers.items ++ ms) × (l.rest ≡ spelled_numbers ms);
}

abbrev pub decreases-loop-fields : goal.decreases-loop-fields
decreases-loop-fields g l = length l.rest
