-- The text of a history: a line with the size of the machine, and a line for each event.
use Rattle.std.specs.Prelude.{◌≡◌, ℕ, ◌≤◌, List, [], ◌∷◌, ◌++◌, codes, Option, Some, None}
use Rattle.std.specs.List.{flat_map}
use Rattle.decimal_text.specs.Grammar.{spelled}
use Rattle.decimal_text.specs.Ranges.{AreAtMost}
use Rattle.realm_model.specs.declared.act.Event.{Event}
use Rattle.realm_model.specs.History.{erase}
use Rattle.history_text.specs.declared.opening.Opening.{Opening}
use Rattle.history_text.specs.Events.{event_text}

-- the numbers in the first line of a history: of pages, of VMIDs, of auxiliary granules for each REC, of events in each
-- build's room, and of builds
abbrev pub opening_numbers : Opening → List ℕ
opening_numbers o = o.pages ∷ o.vmids ∷ o.aux ∷ o.history ∷ o.builds ∷ []

abbrev pub opening_maxima : List ℕ
opening_maxima = 4096 ∷ 255 ∷ 16 ∷ 16384 ∷ 8 ∷ []

-- the first line of a history: the word `history`, the version 1, and the numbers that give the machine's size
abbrev pub opening_text : Opening → List ℕ
opening_text o = spelled (codes "history 1") (opening_numbers o)

-- each number in the first line of a history is at least its minimum
pub record HasEnough (o : Opening) : Type 0 where
  pub pages : 1 ≤ o.pages
  pub vmids : 1 ≤ o.vmids
  pub history : 16 ≤ o.history
  pub builds : 1 ≤ o.builds

-- each number in the first line of a history is in its range
pub record IsSize (o : Opening) : Type 0 where
  pub at_most : AreAtMost (opening_numbers o) opening_maxima
  pub enough : HasEnough o

pub record IsOpeningText (text : List ℕ) (o : Opening) : Type 0 where
  pub is_written : text ≡ opening_text o
  pub size : IsSize o

-- the texts of events, each with a line feed after it
abbrev pub events_text : List Event → List ℕ
events_text events = flat_map (λ event. event_text event ++ 10 ∷ []) events

abbrev pub history_text : Opening → List Event → List ℕ
history_text o events = opening_text o ++ (10 ∷ events_text events)

-- the events of a history, without the given build's events if a build is given
abbrev pub shown : Option ℕ → List Event → List Event
shown None events = events
shown (Some build) events = erase build events
