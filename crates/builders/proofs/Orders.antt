-- Proofs that two legal histories lead to the same world if both have, for each build, exactly the event list of the
-- build's seat. Each build has exactly one seat.
use Rattle.std.proofs.Common.{◌≡◌, ℕ, ◌<◌, ◌≤◌, Bool, true, false, cond, List, [], ◌∷◌, length, Result, Ok, Err, refl, sym, ◌∙◌, subst, arith}
use Rattle.std.specs.Prelude.{◌==◌, nat_lt, filter, IfOk, MatchResult}
use Rattle.std.specs.List.{All}
use Rattle.std.proofs.lemmas.Bool.{eqb-true, ltb-true, ltb-false}
use Rattle.std.proofs.lemmas.List.Elements.{All-head, All-tail}
use Rattle.realm_model.specs.declared.act.Event.{Event}
use Rattle.realm_model.specs.History.{events_of, replay, IsLegal}
use Rattle.realm_model.specs.Interleaving.{HasSameEvents}
use Rattle.realm_model.specs.Machine.{Limits}
use Rattle.realm_model.proofs.Booleans.{some_is}
use Rattle.realm_model.proofs.TakenAlone.{none_there, schedule_does_not_matter}
use Rattle.host_ledger.specs.View.{HostView}
use Rattle.host_ledger.proofs.Worlds.{world_is}
use Rattle.realm_host.specs.Interleaving.{DidTheSame}
use Rattle.build_seats.specs.declared.close.CloseFault.{CloseFault}
use Rattle.build_seats.specs.Close.{seats_of, AreSeatsWhole, IsHostGivenBack, IsClosed}
use Rattle.builders.specs.Order.{IsWorldOfSeats}
use Rattle.build_seats.specs.Seats.{SeatView}

-- if all seats have a property and a build has a seat, some seat of the build has the property
of_seat : (b : ℕ) (P : SeatView → Type 0) (seats : List SeatView) → 0 < seats_of b seats → All P seats → (seat : SeatView) × (seat.build ≡ b) × P seat
of_seat b P [] some all = absurd (omega (arith, some))
of_seat b P (seat ∷ seats) some all =
    let rest : List SeatView = filter (λ (s : SeatView). s.build == b) seats in
    elim (seat.build == b) as (λ t. (seat.build == b) ≡ t → 0 < length (cond t (seat ∷ rest) rest) → (seat : SeatView) × (seat.build ≡ b) × P seat) [
      | true ↦ λ own some. (seat, eqb-true seat.build b own, All-head P seat seats all)
      | false ↦ λ other some. of_seat b P seats some (All-tail P seat seats all)
    ] refl some

abbrev AreTrails : List Event → List SeatView → Type 0
AreTrails history seats = All (λ (seat : SeatView). seat.trail ≡ events_of seat.build history) seats

module _ (limits : Limits) (history other : List Event) (legal : IsLegal limits history) (too : IsLegal limits other)
    (seats : List SeatView) (whole : AreSeatsWhole limits.builds seats) (trails : AreTrails history seats) (same : AreTrails other seats) where
  pub same_by_seats : HasSameEvents history other
  unfolding AreSeatsWhole
  same_by_seats b = at (nat_lt b limits.builds) refl
    where
      one : (n : ℕ) → n ≡ 1 → 0 < n
      one n e = omega (arith, e)

      none : (es : List Event) → IsLegal limits es → limits.builds ≤ b → events_of b es ≡ []
      none es l past = let w = some_is (replay limits es) l.steps in none_there limits b past es w.0 w.1

      at : (t : Bool) → nat_lt b limits.builds ≡ t → events_of b history ≡ events_of b other
      at true there =
          let seat = of_seat b (λ (s : SeatView). (s.trail ≡ events_of s.build history) × (s.trail ≡ events_of s.build other)) seats
          (one (seats_of b seats) (whole b (ltb-true b limits.builds there))) (λ k d inside. (trails k d inside, same k d inside)) in
          subst (λ n. events_of n history ≡ events_of n other) seat.1 (sym seat.2.0 ∙ seat.2.1)
      at false past = none history legal (ltb-false b limits.builds past) ∙ sym (none other too (ltb-false b limits.builds past))

pub world_of_seats : (host : HostView) (seats : List SeatView) → IsLegal host.limits host.history → IsClosed host seats → IsWorldOfSeats host seats
world_of_seats host seats legal closed history too trails =
    sym (schedule_does_not_matter host.limits host.history history legal too (same_by_seats host.limits host.history history legal too seats closed.whole closed.trails trails)) ∙ world_is host legal

-- if builds that start with the host `opened` end with `host` or with `twin`, and with the same seats, each build has
-- the same events in both hosts' histories
pub did_the_same : (opened host twin : HostView) (seats : List SeatView) → IsHostGivenBack opened host seats → IsClosed host seats → IsHostGivenBack opened twin seats
    → IsClosed twin seats → DidTheSame host twin
did_the_same opened host twin seats given closed again too =
    let limits : twin.limits ≡ host.limits = again.of_start.limits ∙ sym given.of_start.limits in
    let legal : IsLegal host.limits twin.history = subst (λ l. IsLegal l twin.history) limits again.shared.sound.legal in
    record {
      legal = given.shared.sound.legal;
      twin_legal = again.shared.sound.legal;
      limits = limits;
      events = same_by_seats host.limits host.history twin.history given.shared.sound.legal legal seats closed.whole closed.trails too.trails;
    }

pub if_closed : (opened : HostView) (seats : List SeatView) (result : Result HostView (CloseFault × HostView)) → IfOk result (λ host. IsClosed host seats)
    → MatchResult result (λ host. IsHostGivenBack opened host seats) (λ e. IsHostGivenBack opened e.1 seats) → IfOk result (λ host. IsWorldOfSeats host seats)
if_closed opened seats (Ok host) closed given = world_of_seats host seats given.shared.sound.legal closed
if_closed opened seats (Err e) closed given = tt
