use Rattle.std.proofs.Common.{◌∙◌}
use Rattle.rmi_monitor.specs.Places.{IsInState, HasPage}
use Rattle.rmi_monitor.proofs.Sweeps.{first_has, rest_distinct, set_rest, rest_stand, rest_pages, none_left}
use Rattle.rmi_monitor.proofs.places.release_all.Goals as goal

pub release-requires-clause-stands : goal.release-requires-clause-stands
release-requires-clause-stands g c =
    first_has c.args.all.now c.loop-granule.granule-index c.granule-item.result c.loop-granule-test.true c.granule-item.is (IsInState c.loop-granule.granules c.args.from)
    c.loop-granule.invariant.stand

pub release-requires-clause-page : goal.release-requires-clause-page
release-requires-clause-page g c =
    first_has c.args.all.now c.loop-granule.granule-index c.granule-item.result c.loop-granule-test.true c.granule-item.is
    (HasPage (g.S.PageStore.page_bytes c.loop-granule.store) (g.S.PageStore.free_flags c.loop-granule.store)) c.loop-granule.invariant.pages

pub loop-granule-preserved : goal.loop-granule-preserved
loop-granule-preserved g c =
    let all = c.args.all.now in
    let i = c.loop-granule.granule-index in
    let x = c.granule-item.result in
    let h = c.loop-granule-test.true in
    let was = c.loop-granule.invariant in
    let made = c.release.ensures in
    record {
      cleared = set_rest all i x h c.granule-item.is _ _ _ _ was.cleared made.cleared;
      flags = made.flags ∙ was.flags;
      shifted = set_rest all i x h c.granule-item.is _ _ _ _ was.shifted made.shifted;
      pages = rest_pages all i x h c.granule-item.is _ _ _ _ _ was.pages made.cleared made.flags;
      stand = rest_stand all i x h c.granule-item.is c.loop-granule.granules c.release.new.granules c.args.from _ was.stand was.distinct made.shifted;
      distinct = rest_distinct all i x h c.granule-item.is was.distinct;
    }

pub returns-clause-cleared : goal.returns-clause-cleared
returns-clause-cleared g c = none_left _ c.args.all.now c.loop-granule.granule-index _ _ c.loop-granule-test.false c.loop-granule.invariant.cleared

pub returns-clause-shifted : goal.returns-clause-shifted
returns-clause-shifted g c = none_left _ c.args.all.now c.loop-granule.granule-index c.loop-granule.granules _ c.loop-granule-test.false c.loop-granule.invariant.shifted
