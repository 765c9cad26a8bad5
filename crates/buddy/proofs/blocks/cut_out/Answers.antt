use Rattle.std.proofs.Common.{◌≡◌, subst, arith}
use Rattle.std.specs.Prelude.{◌↔◌, IsTrue}
use Rattle.std.specs.Bool.{OnTrue}
use Rattle.page_arena.specs.Block.{IsFreeBlock, with_taken}
use Rattle.buddy.specs.Heads.{AreMaximal}
use Rattle.buddy.specs.InHand.{HasChecked}
use Rattle.buddy.proofs.Checking.{checked_all}
use Rattle.buddy.proofs.blocks.cut_out.Given.{Over}
use Rattle.buddy.proofs.blocks.cut_out.Goals as goal

done : (g : Over) (c : goal.After-loop-rest g) → (IsTrue c.loop-rest.found ↔ IsFreeBlock g.flags c.args.order c.args.first)
    × OnTrue c.loop-rest.found (AreMaximal c.loop-rest.lists.heads (with_taken g.flags c.args.order c.args.first))
done g c =
    let kept = c.loop-rest.invariant in let heads = c.loop-rest.lists.heads in let from = kept.from in
    let last : c.loop-rest.rest ≡ c.args.order = omega arith in let orders = c.requires.0 in
    checked_all heads g.flags c.args.order c.args.first c.requires.1.1.0 (omega arith) c.loop-rest.found (subst (λ rest. HasChecked heads g.flags c.args.first rest c.loop-rest.found) last kept.checked)

pub returns-clause-answer : goal.returns-clause-answer
returns-clause-answer g c = (done g c).0

pub returns-clause-cut : goal.returns-clause-cut
returns-clause-cut g c = (done g c).1
