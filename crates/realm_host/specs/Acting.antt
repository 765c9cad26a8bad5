-- The preconditions and the effect of recording an operation in a host's history.
use Rattle.std.specs.Prelude.{◌≡◌, ℕ, ◌+◌, ◌<◌, ◌≤◌, [], ◌∷◌, ◌++◌, length, true, false, Bool, Option, Some, None, Result, Ok, Err}
use Rattle.std.specs.List.{last_or}
use Rattle.realm_model.specs.declared.act.Act.{Act}
use Rattle.realm_model.specs.declared.act.Act.TheVariants.{Take}
use Rattle.realm_model.specs.declared.rmi.Rmi.{Rmi}
use Rattle.realm_model.specs.Act.{is_paired, reverse_of}
use Rattle.realm_model.specs.History.{IsLegal, IsInTurn}
use Rattle.realm_model.specs.Room.{room_taken}
use Rattle.realm_model.specs.Running.{is_running}
use Rattle.realm_model.specs.Step.{step, outcome_in}
use Rattle.realm_model.specs.World.{World, realm_of}
use Rattle.realm_model.specs.Undoing.{by}
use Rattle.rmi_monitor.specs.Mirror.{IsAsked}
use Rattle.host_ledger.specs.View.{HostView, world_of, open_of, used, with_event}
use Rattle.realm_host.specs.Refusals.{no_block}

-- The build has the room that the operation takes, if any. If the operation has a reverse, the build has fewer than 512
-- operations open.
pub record HasRoomFor (host : HostView) (build : ℕ) (act : Act) : Type 0 where
  pub room : 0 < room_taken act → used host build + room_taken act ≤ host.capacity
  pub few_open : is_paired act ≡ true → length (open_of host build) < 512

-- the operation may be asked of the RMM, the build has the room that the operation takes, and the operation is no
-- reverse, or reverses the build's newest open operation
pub record CanAct (host : HostView) (build : ℕ) (act : Act) : Type 0 where
  pub asked : IsAsked host.limits (world_of host) build act
  pub turn : IsInTurn host.history (by build act)
  pub room : HasRoomFor host build act

-- the operation's event is added to the history, which stays legal
pub record IsRecorded (host : HostView) (build : ℕ) (act : Act) (new : HostView) : Type 0 where
  pub legal : IsLegal host.limits (host.history ++ by build act ∷ [])
  pub grows : new ≡ with_event host build act

-- The operation is recorded; or it is refused with the RMM's error, and nothing changes.
abbrev pub IsActed : HostView → ℕ → Act → Result (Unit {0}) Rmi → HostView → Type 0
IsActed host build act (Ok done) new = IsRecorded host build act new
IsActed host build act (Err rmi) new = (outcome_in host.limits (world_of host) (by build act) ≡ Err rmi) × (new ≡ host)

-- A free block of the given order is leased to the build; or no block of that order is free, and nothing changes.
abbrev pub IsBlockTaken : HostView → ℕ → ℕ → Option ℕ → HostView → Type 0
IsBlockTaken host build order (Some first) new = ((no_block host order).0 ≡ false) × IsRecorded host build (Take order first) new
IsBlockTaken host build order None new = ((no_block host order).0 ≡ true) × (new ≡ host)

-- An operation is recorded; or the history with it would not be legal, and nothing changes.
abbrev pub IsApplied : HostView → ℕ → Act → Bool → HostView → Type 0
IsApplied host build act true new = IsRecorded host build act new
IsApplied host build act false new = (IsLegal host.limits (host.history ++ by build act ∷ []) → ⊥) × (new ≡ host)

-- An operation is not possible in the host's world: it leads to no next world.
abbrev pub IsNoStep : HostView → ℕ → Act → Type 0
IsNoStep host build act = (next : World) → step host.limits (world_of host) (by build act) ≡ Some next → ⊥

-- the operation reverses the build's newest open operation, which created no REC that runs
pub record IsBack (host : HostView) (build : ℕ) (back : Act) : Type 0 where
  pub newest : Act
  pub newest_is : last_or None (open_of host build) ≡ Some newest
  pub back_is : reverse_of newest ≡ Some back
  pub rests : is_running (realm_of build (world_of host)) newest ≡ false
