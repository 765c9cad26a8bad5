-- Histories that are applied line by line to the machine described in their first line, and the resulting maps.
use Rattle.std.specs.Prelude.{◌≡◌, ◌+◌, ◌<◌, ◌≤◌, ℕ, List, [], ◌∷◌, ◌++◌, length, Option, Some, None, IfSome}
use Rattle.realm_model.specs.declared.act.Event.{Event}
use Rattle.realm_model.specs.History.{IsLegal}
use Rattle.host_ledger.specs.Booted.{booted}
use Rattle.host_ledger.specs.View.{HostView, with_event}
use Rattle.realm_host.specs.Recorded.{CanApply, IsWhyNot, IsWithout}
use Rattle.realm_host.specs.declared.why_not.WhyNot.{WhyNot}
use Rattle.checked_io.specs.Lines.{lines_in}
use Rattle.history_text.specs.Events.{IsEventText}
use Rattle.history_text.specs.Histories.{IsOpeningText}
use Rattle.history_text.specs.declared.opening.Opening.{Opening}
use Rattle.plan_replay.specs.Run.{map_text}
use Rattle.view_program.specs.declared.fault.ViewError.{ViewError}
use Rattle.view_program.specs.declared.fault.ViewError.TheVariants.{NoOpening, NoEvent, Refused, EraseNamesNoBuild, Memory, Device}

-- a host whose machine has the size that a history's first line states, before any event
abbrev pub host_of_opening : Opening → HostView
host_of_opening o = booted o.pages o.vmids o.aux o.builds o.history

-- ---- lines that are taken

-- the line is an event that `old` can apply, and applying it leads to `new`
pub record IsLineTaken (old : HostView) (line : List ℕ) (new : HostView) : Type 0 where
  pub event : Event
  pub is_text : IsEventText line event
  pub can : CanApply old event
  pub grows : new ≡ with_event old event.build event.act

-- the lines are applied one after another, and lead from `old` to `new`
abbrev pub AreTaken : HostView → List (List ℕ) → HostView → Type 0
AreTaken old [] new = new ≡ old
AreTaken old (line ∷ lines) new = (mid : HostView) × IsLineTaken old line mid × AreTaken mid lines new

-- The lines are a history: the first describes a machine, and the others are events, each of which can be applied after
-- those before it. They lead to this host.
pub record IsHistory (lines : List (List ℕ)) (o : Opening) (host : HostView) : Type 0 where
  pub first : List ℕ
  pub events : List (List ℕ)
  pub lines_are : lines ≡ first ∷ events
  pub opens : IsOpeningText first o
  pub taken : AreTaken (host_of_opening o) events host

-- each line is the text of the event at the same index, and there are as many lines as events
abbrev pub AreTexts : List (List ℕ) → List Event → Type 0
AreTexts [] [] = Unit {0}
AreTexts (line ∷ lines) (event ∷ events) = IsEventText line event × AreTexts lines events
AreTexts _ _ = ⊥

-- The lines after the first are the texts of the host's events, and these events are a legal history.
pub record IsLegalText (lines : List (List ℕ)) (host : HostView) : Type 0 where
  pub first : List ℕ
  pub events : List (List ℕ)
  pub lines_are : lines ≡ first ∷ events
  pub texts : AreTexts events host.history
  pub legal : IsLegal host.limits host.history

-- some lines are a history that leads to the host; if the input is known, they are its lines
pub record IsHistoryIn (input : Option (List ℕ)) (o : Opening) (host : HostView) : Type 0 where
  pub lines : List (List ℕ)
  pub of_input : IfSome input (λ bytes. lines_in bytes ≡ lines)
  pub history : IsHistory lines o host

-- ---- lines that are no history

-- there is no first line, or it does not describe a machine
abbrev pub OpensNone : List (List ℕ) → Type 0
OpensNone [] = Unit {0}
OpensNone (first ∷ more) = (o : Opening) → IsOpeningText first o → ⊥

-- the line is not the text of an event
abbrev pub IsNoEvent : List ℕ → Type 0
IsNoEvent line = (event : Event) → IsEventText line event → ⊥

-- the line is the text of an event that cannot be applied to the host, for this reason
pub record IsEventRefused (why : WhyNot) (host : HostView) (line : List ℕ) : Type 0 where
  pub event : Event
  pub is_text : IsEventText line event
  pub cannot : CanApply host event → ⊥
  pub because : IsWhyNot host event why

-- The lines before line `number` are a history, and `IsReason` holds of the host that they lead to and of line
-- `number`. The first line has the number 1.
pub record StopsAt (IsReason : HostView → List ℕ → Type 0) (lines : List (List ℕ)) (number : ℕ) : Type 0 where
  pub o : Opening
  pub host : HostView
  pub before : List (List ℕ)
  pub line : List ℕ
  pub after : List (List ℕ)
  pub split : lines ≡ before ++ line ∷ after
  pub history : IsHistory before o host
  pub number_is : number ≡ length before + 1
  pub reason : IsReason host line

-- The error is a reason why no history could be read from the input. If the input is known, an error about its lines is
-- true of them.
abbrev pub IsNoHistoryIn : Option (List ℕ) → ViewError → Type 0
IsNoHistoryIn input NoOpening = IfSome input (λ bytes. OpensNone (lines_in bytes))
IsNoHistoryIn input (NoEvent number) = IfSome input (λ bytes. StopsAt (λ host line. IsNoEvent line) (lines_in bytes) number)
IsNoHistoryIn input (Refused number why words) = IfSome input (λ bytes. StopsAt (IsEventRefused why) (lines_in bytes) number)
IsNoHistoryIn input Memory = Unit {0}
IsNoHistoryIn input Device = Unit {0}
IsNoHistoryIn input fault = ⊥

-- ---- the map

-- The text is the map of the host's history without the events of a build of the machine. In `IsMap`, if no build is to
-- be left out, it is the host's map.
pub record IsMapOfHistoryWithout (o : Opening) (host : HostView) (build : ℕ) (text : List ℕ) : Type 0 where
  pub of_machine : build < o.builds
  pub fresh : HostView
  pub without : IsWithout host build fresh
  pub whole : text ≡ map_text fresh

abbrev pub IsMap : Option ℕ → Opening → HostView → List ℕ → Type 0
IsMap None o host text = text ≡ map_text host
IsMap (Some build) o host text = IsMapOfHistoryWithout o host build text

-- The error is a reason why there is no map: allocation failed, or the build to be left out is not one of the
-- machine's.
abbrev pub HasNoMap : Option ℕ → Opening → ViewError → Type 0
HasNoMap erase o Memory = Unit {0}
HasNoMap (Some build) o EraseNamesNoBuild = o.builds ≤ build
HasNoMap erase o fault = ⊥
