use Rattle.std.proofs.Common.{subst, sym, arith}
use Rattle.buddy.proofs.Tally.{IsGivenFrom, given_none, taken_page, given_page, given_all, given_index}
use Rattle.buddy.proofs.index.FreeIndex.build.Goals as goal

pub loop-granule-init : goal.loop-granule-init
loop-granule-init c = subst (IsGivenFrom c.args.granules c.args.granules) (sym c.in_ok-lists.ensures) (given_none c.args.granules)

pub give_to-requires : goal.give_to-requires
give_to-requires c =
    let given = c.loop-granule.invariant in let sized = given.sized in
    (omega arith, (given.lists, (omega arith, taken_page c.args.granules c.loop-granule.granule c.loop-granule.lists.heads given (omega arith))))

pub loop-granule-preserved : goal.loop-granule-preserved
loop-granule-preserved c =
    given_page c.args.granules c.loop-granule.granule c.loop-granule.lists.heads c.loop-granule.invariant (omega arith) c.give_to.new.lists.heads c.give_to.ensures.lists

pub invariant_of-result : goal.invariant_of-result
invariant_of-result c = given_index c.args.granules c.loop-granule.granule c.loop-granule.lists.heads c.loop-granule.invariant (omega arith) c.requires

pub returns : goal.returns
returns c = given_all c.args.granules c.loop-granule.granule c.loop-granule.lists.heads c.loop-granule.invariant (omega arith)
