-- The view of a session handle (`Seat`): its build, the number of the build's events that are counted, and the list of
-- these events.
use Rattle.std.specs.Prelude.{ℕ, ◌+◌, List, [], ◌∷◌, ◌++◌}
use Rattle.realm_model.specs.declared.act.Event.{Event}

pub record SeatView : Type 0 where
  pub build : ℕ
  pub count : ℕ
  pub trail : List Event

-- a build's seat that has counted no event
abbrev pub new_seat : ℕ → SeatView
new_seat build = record { build = build; count = 0; trail = [] }

-- the seat with one more event
abbrev pub with_noted : SeatView → Event → SeatView
with_noted seat event = record { build = seat.build; count = seat.count + 1; trail = seat.trail ++ event ∷ [] }
