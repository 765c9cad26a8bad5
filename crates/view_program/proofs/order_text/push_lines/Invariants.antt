use Rattle.std.proofs.Common.{◌≡◌, ◌++◌, take, string_bytes}
use Rattle.view_program.specs.OrderText.{turns_in_lines}
use Rattle.view_program.proofs.order_text.push_lines.Given as goal

abbrev pub invariant-loop-place : goal.invariant-loop-place
invariant-loop-place l = string_bytes l.text ≡ string_bytes l.fn.text ++ turns_in_lines 0 (take l.place l.fn.order)
