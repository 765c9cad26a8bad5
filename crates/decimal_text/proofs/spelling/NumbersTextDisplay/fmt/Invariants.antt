use Rattle.std.proofs.Common.{take}
use Rattle.std.specs.Fmt.{HasWritten, IsPlainFormatter}
use Rattle.decimal_text.specs.Numbers.{spelled_numbers}
use Rattle.decimal_text.proofs.spelling.NumbersTextDisplay.fmt.Given as goal

abbrev pub invariant-loop-number : goal.invariant-loop-number
invariant-loop-number g l =
    IsPlainFormatter l.initial.f → HasWritten g.W.Write.write_str_gives l.initial.f (spelled_numbers (take l.number-index l.number-items)) l.f
