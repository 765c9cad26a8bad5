use Rattle.std.proofs.Common.{◌≡◌, rules, subst}
use Rattle.std.proofs.lemmas.List.{take_all}
use Rattle.std.proofs.lemmas.List.Elements.{All-more}
use Rattle.std.specs.List.{All}
use Rattle.realm_model.specs.History.{events_of}
use Rattle.build_seats.specs.Seats.{SeatView}
use Rattle.build_seats.proofs.close.fits.Goals as goal

pub loop-seat-preserved : goal.loop-seat-preserved
loop-seat-preserved g c =
    All-more (λ (seat : SeatView). seat.build ≡ c.args.build → seat.trail ≡ events_of c.args.build c.args.history.now)
    c.args.seats.now c.loop-seat.seat-index c.seat-item.result c.loop-seat-test.true c.loop-seat.invariant (search rules)

pub returns : goal.returns
returns g c = (
  (λ _. subst (All (λ (seat : SeatView). seat.build ≡ c.args.build → seat.trail ≡ events_of c.args.build c.args.history.now))
      (take_all c.loop-seat.seat-index c.args.seats.now c.loop-seat-test.false) c.loop-seat.invariant),
  (λ _. search rules),
)
