-- Proofs that comparing event by event finds out whether a session handle's event list equals its build's part of the
-- history.
use Rattle.std.proofs.Common.{◌<◌, ◌≡◌, ℕ, ◌≤◌, ◌↔◌, IsTrue, List, [], length, drop, get_or, nat_eq, refl, sym, ap, ◌∙◌, arith, length-drop}
use Rattle.std.specs.List.{All}
use Rattle.std.proofs.lemmas.List.{drop_all}
use Rattle.std.proofs.lemmas.Bool.{eqb-true, eq-eqb}
use Rattle.realm_model.specs.declared.act.Event.{Event}
use Rattle.host_ledger.specs.View.{HostView}
use Rattle.build_seats.specs.Close.{FitsAll, IsHostGivenBack}
use Rattle.build_seats.specs.Kept.{KeptView, IsKeptBehindLock}
use Rattle.realm_model.specs.History.{events_of}
use Rattle.build_seats.specs.Seats.{SeatView}

all_used : (at : ℕ) (trail : List Event) → at ≤ length trail → drop at trail ≡ [] → at ≡ length trail
all_used at trail inside none =
    let left = length-drop at trail in
    let nothing = ap length none in
    omega (arith, left, nothing)

-- Once the whole history has been compared, the event list is the build's part of the history exactly if the whole list
-- has been compared too. One premise is the loop invariant of `is_trail`.
pub same_at_end : (build at i : ℕ) (history trail : List Event) → at ≤ length trail → length history ≤ i
    → (drop at trail ≡ events_of build (drop i history)) ↔ (trail ≡ events_of build history) → IsTrue (nat_eq at (length trail)) ↔ (trail ≡ events_of build history)
same_at_end build at i history trail inside done rest =
    let none : events_of build (drop i history) ≡ [] = ap (events_of build) (drop_all i history done) in (
      (λ t. rest.0 (drop_all at trail (let e : at ≡ length trail = eqb-true at (length trail) t in omega arith) ∙ sym none)),
      (λ e. eq-eqb at (length trail) (all_used at trail inside (rest.1 e ∙ none))),
    )

-- if `FitsAll` holds, and each seat is of a build below 8, the event list of each seat is its build's part of the
-- history
pub each_fits : (history : List Event) (books : List ℕ) (seats : List SeatView) → FitsAll history seats → All (λ (seat : SeatView). (seat.build < 8) × (get_or books seat.build 0 ≡ seat.count)) seats
    → All (λ (seat : SeatView). seat.trail ≡ events_of seat.build history) seats
unfolding FitsAll
each_fits history books seats fits counted k d inside = fits (get_or seats k d).build (counted k d inside).0 k d inside refl

-- if each seat's build is below 8, and its event count is the one in `books`, the host under the lock satisfies
-- `IsHostGivenBack`
pub given_back : (opened : HostView) (kept : KeptView) (seats : List SeatView) → IsKeptBehindLock opened kept
    → All (λ (seat : SeatView). (seat.build < 8) × (get_or kept.books seat.build 0 ≡ seat.count)) seats → IsHostGivenBack opened kept.host seats
given_back opened kept seats is_kept counted = record {
  shared = is_kept.shared;
  of_start = is_kept.of_start;
  counted = λ k d inside. sym (is_kept.counted.each (get_or seats k d).build (counted k d inside).0) ∙ (counted k d inside).1;
}
