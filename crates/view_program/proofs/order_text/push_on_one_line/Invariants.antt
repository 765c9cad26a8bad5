use Rattle.std.proofs.Common.{◌≡◌, ◌++◌, take, string_bytes}
use Rattle.plan_states.specs.OrderText.{turns_after}
use Rattle.view_program.proofs.order_text.push_on_one_line.Given as goal

abbrev pub invariant-loop-build : goal.invariant-loop-build
invariant-loop-build l = string_bytes l.text ≡ string_bytes l.initial.text ++ turns_after (take l.build-index l.more)
