use Rattle.std.proofs.Common.{◌≡◌, ◌<◌, get_or, set, ap, ◌∙◌, rules, arith, subst, List}
use Rattle.std.proofs.lemmas.List.Elements.{All-more}
use Rattle.std.proofs.lemmas.List.{take_all, set-get_or}
use Rattle.std.specs.List.{All}
use Rattle.build_seats.specs.Passes.{PassView}
use Rattle.build_seats.specs.Seats.{SeatView}
use Rattle.build_seats.proofs.close.audit.Goals as goal

pub loop-seat-preserved : goal.loop-seat-preserved
loop-seat-preserved g c =
    let seat_of : PassView → SeatView = λ pass. record { build = pass.build; count = pass.count; trail = c.seat.inside.trail } in (
      search rules,
      ap (set c.loop-seat.seats c.loop-seat.seat-index) (ap seat_of c.audit.ensures.same.1 ∙ c.seat.view_is)
          ∙ set-get_or c.loop-seat.seats c.loop-seat.seat-index c.seat-item.result ∙ c.loop-seat.invariant.1,
      All-more (λ (seat : SeatView). (seat.build < 8) × (get_or c.args.books.now seat.build 0 ≡ seat.count)) c.args.seats.now c.loop-seat.seat-index c.seat-item.result
          (search (rules, arith)) c.loop-seat.invariant.2 (search rules),
    )

pub returns-clause-counted : goal.returns-clause-counted
returns-clause-counted g c =
    subst (λ (seats : List SeatView). All (λ (seat : SeatView). (seat.build < 8) × (get_or c.args.books.now seat.build 0 ≡ seat.count)) seats)
    (take_all c.loop-seat.seat-index c.args.seats.now (search (rules, arith))) c.loop-seat.invariant.2
