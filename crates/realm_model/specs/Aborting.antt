-- The conditions that hold during a build's abort while other builds go on, from the start of the abort until the build
-- has nothing open.
use Rattle.std.specs.Prelude.{◌≡◌, ℕ, List, [], ◌++◌, reverse, IsTrue, None, Some}
use Rattle.std.specs.List.{last_or, All}
use Rattle.realm_model.specs.declared.act.Act.{Act}
use Rattle.realm_model.specs.declared.act.Event.{Event}
use Rattle.realm_model.specs.Machine.{Limits}
use Rattle.realm_model.specs.Act.{is_reverse}
use Rattle.realm_model.specs.World.{World, realm_of}
use Rattle.realm_model.specs.Step.{step}
use Rattle.realm_model.specs.Running.{IsAtRest}
use Rattle.realm_model.specs.History.{erase, acts_of, open_entries, replay}
use Rattle.realm_model.specs.Undoing.{reverses, IsUndoneNext}

-- the event may come during an abort of the build: it is an event of another build, or a reverse
abbrev pub IsOthersOrReverse : ℕ → Event → Type 0
IsOthersOrReverse build event = event.build ≡ build → IsTrue (is_reverse event.act)

-- A build at rest, with no REC running, remains at rest after another build's event or a reverse.
abbrev pub StaysAtRest : Limits → World → ℕ → Event → World → Type 0
StaysAtRest limits world build event next =
    IsAtRest (realm_of build world) → IsOthersOrReverse build event → step limits world event ≡ Some next → IsAtRest (realm_of build next)

-- The conditions on a build whose abort began after `history` and was followed by the events `later`.
pub record IsAborting (limits : Limits) (history later : List Event) (build : ℕ) (world : World) : Type 0 where
  -- the build is at rest;
  pub rest : IsAtRest (realm_of build world)
  -- the newest operation that the build has open can be undone next;
  pub next : (act : Act) → last_or None (open_entries build (history ++ later)) ≡ Some act → IsUndoneNext limits (history ++ later) build act
  -- the build's operations in `later`, then the reverses still to come, reverse all that was open, the newest first;
  pub undone : acts_of build later ++ reverses (reverse (open_entries build (history ++ later))) ≡ reverses (reverse (open_entries build history))
  -- leaving the build's events out of `history` and of `later` leaves them out of both together;
  pub others : erase build (history ++ later) ≡ erase build history ++ erase build later
  -- and once nothing is open, the other builds' events lead to the world.
  pub no_trace : open_entries build (history ++ later) ≡ [] → replay limits (erase build history ++ erase build later) ≡ Some world

-- `IsAborting` holds if the build was at rest when the abort began and has since performed only reverses.
abbrev pub AbortGoesOn : Limits → List Event → List Event → ℕ → World → World → Type 0
AbortGoesOn limits history later build begun world =
    IsAtRest (realm_of build begun) → All (IsOthersOrReverse build) later → IsAborting limits history later build world
