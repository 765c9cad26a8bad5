use Rattle.std.proofs.Common.{◌≡◌, length}
use Rattle.rmm_answers.specs.Registers.{are_outputs_same}
use Rattle.rmm_answers.proofs.registers.are_outputs_same.Given as goal

abbrev pub invariant-registers : goal.invariant-registers
invariant-registers l = are_outputs_same l.place l.x0 l.left_names l.left l.right ≡ are_outputs_same l.place l.x0 l.initial.left_names l.initial.left l.initial.right

abbrev pub decreases-registers : goal.decreases-registers
decreases-registers l = length l.left
