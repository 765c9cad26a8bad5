-- The text of an event: the number of its build, a space, and the text of its operation.
use Rattle.std.specs.Prelude.{◌≡◌, ℕ, ◌<◌, List, ◌∷◌, ◌++◌}
use Rattle.std.specs.Fmt.{decimal}
use Rattle.realm_model.specs.declared.act.Event.{Event}
use Rattle.history_text.specs.Written.{act_text, IsActInRange}

-- the text of an event: the number of its build, a space, and the text of its operation
abbrev pub event_text : Event → List ℕ
event_text event = decimal event.build ++ (32 ∷ act_text event.act)

-- `text` is the text of `event`, and the numbers of the event are in their ranges
pub record IsEventText (text : List ℕ) (event : Event) : Type 0 where
  pub is_written : text ≡ event_text event
  pub build : event.build < 8
  pub act : IsActInRange event.act
