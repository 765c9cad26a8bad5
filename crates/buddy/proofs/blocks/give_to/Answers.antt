use Rattle.std.proofs.Common.{◌+◌, set, ap, subst, ◌∙◌, sym, arith}
use Rattle.page_arena.specs.Block.{with_given}
use Rattle.buddy.specs.Heads.{head_at, AreMaximal}
use Rattle.buddy.specs.InHand.{InHand}
use Rattle.buddy.proofs.Aligned.{within_itself}
use Rattle.buddy.proofs.InHand.{given_to_hand}
use Rattle.buddy.proofs.Giving.{lower, joined, wider, goes_back, ends_in}
use Rattle.buddy.proofs.blocks.give_to.Goals as goal

pub loop-other-init : goal.loop-other-init
loop-other-init g c = record {
  hand = given_to_hand c.args.lists.now.heads g.flags c.args.order c.args.first c.requires.1.0 c.requires.1.1.1;
  within = within_itself c.args.order c.args.first;
  low = let low = c.requires.1.1.0 in omega arith;
  turns = omega arith;
}

pub loop-other-preserved : goal.loop-other-preserved
loop-other-preserved g c =
    let kept = c.loop-other.invariant in let heads = c.loop-other.lists.heads in let start = c.loop-other.start in let rest = c.loop-other.rest in
    let flags = with_given g.flags c.args.order c.args.first in
    let found = c.in-Some.ensures in let other = found.buddy in let min = c.min-start.ensures in
    let base = lower heads flags rest start kept.hand c.min-start.result (λ less. omega arith) (λ le. omega arith) in
    record {
      hand = subst (λ now. InHand now flags (rest + 1) c.min-start.result) (ap (λ n. set heads n 0) (sym other) ∙ sym c.take_out.ensures)
          (joined heads flags rest start kept.hand c.min-start.result base (ap (head_at heads) (sym other) ∙ found.head));
      within = wider heads flags rest start kept.hand c.min-start.result c.args.order c.args.first base kept.within;
      low = let low = found.order in omega arith;
      turns = let turns = kept.turns in omega arith;
    }

pub put-requires-clause-inside : goal.put-requires-clause-inside
put-requires-clause-inside g c =
    let kept = c.loop-other.invariant in (goes_back c.loop-other.lists.heads _ c.loop-other.rest c.loop-other.start kept.hand kept.low c.in_default.ensures.none).1

pub put-requires-clause-no_head : goal.put-requires-clause-no_head
put-requires-clause-no_head g c =
    let kept = c.loop-other.invariant in (goes_back c.loop-other.lists.heads _ c.loop-other.rest c.loop-other.start kept.hand kept.low c.in_default.ensures.none).0

pub returns-clause-lists : goal.returns-clause-lists
returns-clause-lists g c =
    let kept = c.loop-other.invariant in
    subst (λ now. AreMaximal now (with_given g.flags c.args.order c.args.first)) (sym c.put.ensures.heads)
    (goes_back c.loop-other.lists.heads _ c.loop-other.rest c.loop-other.start kept.hand kept.low c.in_default.ensures.none).2

pub returns-clause-turns : goal.returns-clause-turns
returns-clause-turns g c =
    let kept = c.loop-other.invariant in
    ends_in c.loop-other.lists.heads _ c.loop-other.rest c.loop-other.start kept.hand kept.low c.in_default.ensures.none c.args.order c.args.first c.loop-other.turns kept.within kept.turns
