use Rattle.std.proofs.Common.{◌≡◌, ◌<◌, ◌∙◌, get_or, List, length, ap, arith, subst}
use Rattle.std.proofs.lemmas.List.{take_at}
use Rattle.std.specs.List.{All}
use Rattle.build_seats.specs.Close.{AreSeatsWhole, FitsAll}
use Rattle.build_seats.specs.Fault.{IsFault}
use Rattle.build_seats.specs.Seats.{SeatView}
use Rattle.build_seats.proofs.Comparing.{each_fits, given_back}
use Rattle.build_seats.proofs.kept.Kept.close.Goals as goal

pub returns-in-Some-clause-fault : goal.returns-in-Some-clause-fault
returns-in-Some-clause-fault g c =
    let same = c.audit.ensures.seats ∙ c.as_mut_slice.ensures.value in
    let back = take_at c.audit.new.seats _ c.args.seats.len (ap length same ∙ omega (arith, c.args.seats.ok.0)) ∙ same in
    subst (λ (xs : List SeatView). IsFault c.in-Some.fault c.self.inside.host xs) (c.as_slice.ensures.value ∙ back) c.in-Some.ensures.some

pub returns-in-Some-clause-given_back : goal.returns-in-Some-clause-given_back
returns-in-Some-clause-given_back g c =
    given_back _ _ c.args.seats.items c.self.invariant
    (subst (All (λ (seat : SeatView). (seat.build < 8) × (get_or c.self.inside.books seat.build 0 ≡ seat.count))) c.as_mut_slice.ensures.value c.audit.ensures.counted)

pub returns-clause-closed : goal.returns-clause-closed
returns-clause-closed g c =
    let same = c.audit.ensures.seats ∙ c.as_mut_slice.ensures.value in
    let back = take_at c.audit.new.seats _ c.args.seats.len (ap length same ∙ omega (arith, c.args.seats.ok.0)) ∙ same in
    let seats : c.as_slice.result.now ≡ c.args.seats.items = c.as_slice.ensures.value ∙ back in
    record {
      whole = subst (λ (xs : List SeatView). AreSeatsWhole c.self.inside.host.limits.builds xs) seats c.in_default.ensures.whole;
      trails = each_fits c.self.inside.host.history c.self.inside.books c.args.seats.items
          (subst (λ (xs : List SeatView). FitsAll c.self.inside.host.history xs) seats c.in_default.ensures.fits)
          (subst (All (λ (seat : SeatView). (seat.build < 8) × (get_or c.self.inside.books seat.build 0 ≡ seat.count))) c.as_mut_slice.ensures.value c.audit.ensures.counted);
    }

pub returns-clause-given_back : goal.returns-clause-given_back
returns-clause-given_back g c =
    given_back _ _ c.args.seats.items c.self.invariant
    (subst (All (λ (seat : SeatView). (seat.build < 8) × (get_or c.self.inside.books seat.build 0 ≡ seat.count))) c.as_mut_slice.ensures.value c.audit.ensures.counted)
