use Rattle.std.proofs.Common.{◌≡◌, Some, true, set}
use Rattle.std.proofs.lemmas.Bool.{OnTrue_at}
use Rattle.rtt.specs.declared.granule.Granule.{Granule}
use Rattle.rmi_monitor.specs.Places.{IsInState}
use Rattle.rmi_monitor.proofs.Sweeps.{first_has, rest_distinct, set_rest, rest_stand, none_left}
use Rattle.rmi_monitor.proofs.places.shift_all.Goals as goal

pub shift-requires : goal.shift-requires
shift-requires c =
    let stood : IsInState c.loop-granule.granules c.args.from c.granule-item.result =
    first_has c.args.all.now c.loop-granule.granule-index c.granule-item.result c.loop-granule-test.true c.granule-item.is (IsInState c.loop-granule.granules c.args.from)
    c.loop-granule.invariant.stand in
    stood.inside

pub loop-granule-preserved : goal.loop-granule-preserved
loop-granule-preserved c =
    let all = c.args.all.now in
    let i = c.loop-granule.granule-index in
    let x = c.granule-item.result in
    let y : Granule = record { state = c.args.to; realm = Some c.args.rd } in
    let stood : IsInState c.loop-granule.granules c.args.from x =
    first_has all i x c.loop-granule-test.true c.granule-item.is (IsInState c.loop-granule.granules c.args.from) c.loop-granule.invariant.stand in
    let answer : c.shift.result ≡ true = c.shift.ensures.answer.1 stood.is in
    let made : c.shift.new.self ≡ set c.loop-granule.granules x y = OnTrue_at answer c.shift.ensures.shifted in
    record {
      left = set_rest all i x c.loop-granule-test.true c.granule-item.is y c.loop-granule.granules c.shift.new.self _ c.loop-granule.invariant.left made;
      stand =
          rest_stand all i x c.loop-granule-test.true c.granule-item.is c.loop-granule.granules c.shift.new.self c.args.from y c.loop-granule.invariant.stand c.loop-granule.invariant.distinct made;
      distinct = rest_distinct all i x c.loop-granule-test.true c.granule-item.is c.loop-granule.invariant.distinct;
    }

pub returns : goal.returns
returns c = none_left _ c.args.all.now c.loop-granule.granule-index c.loop-granule.granules _ c.loop-granule-test.false c.loop-granule.invariant.left
