use Rattle.std.proofs.Common.{◌≡◌, ◌+◌, drop, length}
use Rattle.std.specs.List.{flat_map}
use Rattle.realm_model.specs.History.{pages_held}
use Rattle.realm_program.proofs.pages.has_pages.Given as goal

-- the operations counted so far hold `count - left` pages
abbrev pub invariant-loop-act : goal.invariant-loop-act
invariant-loop-act l = length (flat_map pages_held (drop l.act-index l.opened)) + l.count ≡ length (flat_map pages_held l.opened) + l.left
