-- The statements that the model accepts a Take of a free block, and an UnTake of a block whose Take is its build's
-- newest open operation.
use Rattle.std.specs.Prelude.{◌≡◌, ℕ, ◌<◌, ◌≤◌, List, Some, None}
use Rattle.std.specs.List.{last_or}
use Rattle.page_arena.specs.Block.{IsFreeBlock}
use Rattle.realm_model.specs.declared.act.Act.TheVariants.{Take, UnTake}
use Rattle.realm_model.specs.declared.act.Event.{Event}
use Rattle.realm_model.specs.Machine.{Limits}
use Rattle.realm_model.specs.World.{World}
use Rattle.realm_model.specs.History.{open_entries, IsInTurn}
use Rattle.realm_model.specs.Undoing.{by}
use Rattle.rmi_monitor.specs.View.{MonitorView, IsGivable, with_block, without_block}
use Rattle.rmi_monitor.specs.Mirror.{IsMirror, IsPerformed}

-- The model accepts the Take of a free block of order 0 to 9 by any existing build, and the RMM then agrees with the
-- new world.
abbrev pub TakenIsStep : Limits → List Event → World → MonitorView → ℕ → ℕ → ℕ → Type 0
TakenIsStep limits history world monitor build order first =
    IsMirror limits history world monitor → build < limits.builds → order ≤ 9 → IsFreeBlock monitor.free order first
    → IsPerformed limits history world build (Take order first) (with_block monitor order first)

-- Giving the block back is possible, undoes the build's newest open operation, and is accepted by the model.
pub record IsGivenBack (limits : Limits) (history : List Event) (world : World) (monitor : MonitorView) (build order first : ℕ) : Type 0 where
  pub givable : IsGivable monitor order first
  pub turn : IsInTurn history (by build (UnTake order first))
  pub performed : IsPerformed limits history world build (UnTake order first) (without_block monitor order first)

-- a block can be given back if its Take is the newest operation that the build has open
abbrev pub GivenBackIsStep : Limits → List Event → World → MonitorView → ℕ → ℕ → ℕ → Type 0
GivenBackIsStep limits history world monitor build order first =
    IsMirror limits history world monitor → last_or None (open_entries build history) ≡ Some (Take order first)
    → IsGivenBack limits history world monitor build order first
