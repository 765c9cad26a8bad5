use Rattle.view_program.specs.PageData.{AreWorldsWithout}
use Rattle.view_program.proofs.plan_page.worlds_without.Given as goal

abbrev pub invariant-loop-place : goal.invariant-loop-place
invariant-loop-place l = AreWorldsWithout l.ledger l.place l.worlds.items
