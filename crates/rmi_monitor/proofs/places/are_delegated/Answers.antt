use Rattle.std.proofs.Common.{Bool, ◌&&◌, drop, sym, ap, ◌∙◌, ◌+◌}
use Rattle.std.specs.List.{list_all}
use Rattle.rmi_monitor.specs.Places.{is_delegated_at}
use Rattle.rmi_monitor.proofs.Sweeps.{test_rest, test_fails, test_ends}
use Rattle.rmi_monitor.proofs.places.are_delegated.Goals as goal

pub loop-granule-preserved : goal.loop-granule-preserved
loop-granule-preserved c =
    let test = list_all (is_delegated_at c.args.granules.now) in
    test_rest c.args.all.now c.loop-granule.granule-index c.granule-item.result c.loop-granule-test.true c.granule-item.is test c.loop-granule.invariant
    (ap (λ (t : Bool). t && test (drop (c.loop-granule.granule-index + 1) c.args.all.now)) (sym c.is_delegated.ensures ∙ c.if-not-is_delegated.false))

pub returns-then-not-is_delegated : goal.returns-then-not-is_delegated
returns-then-not-is_delegated c =
    let test = list_all (is_delegated_at c.args.granules.now) in
    test_fails c.args.all.now c.loop-granule.granule-index c.granule-item.result c.loop-granule-test.true c.granule-item.is test c.loop-granule.invariant
    (ap (λ (t : Bool). t && test (drop (c.loop-granule.granule-index + 1) c.args.all.now)) (sym c.is_delegated.ensures ∙ c.if-not-is_delegated.true))

pub returns : goal.returns
returns c = test_ends (list_all (is_delegated_at c.args.granules.now)) c.args.all.now c.loop-granule.granule-index c.loop-granule-test.false c.loop-granule.invariant
