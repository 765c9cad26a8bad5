-- The host's checks of each call, in the order of the refusals' numbers.
use Rattle.std.specs.Prelude.{ℕ, nat_lt, nat_le, List, [], ◌∷◌, ◌++◌, length, Bool, true, false, not, ◌&&◌, Option, Some, None, Ok, Err}
use Rattle.std.specs.List.{list_any, list_all, last_or, range_with_len}
use Rattle.realm_model.specs.Act.{block}
use Rattle.realm_model.specs.Outcome.{is_block_start}
use Rattle.realm_model.specs.Running.{is_running}
use Rattle.realm_model.specs.Update.{Outcome}
use Rattle.realm_model.specs.World.{World, is_leased_to, realm_of}
use Rattle.host_commands.specs.declared.cmd.Cmd.{Cmd}
use Rattle.host_commands.specs.declared.cmd.Cmd.TheVariants.{Take}
use Rattle.realm_host.specs.Call.{Call, Ask, Undo}
use Rattle.host_commands.specs.declared.refusal.Refusal.{Refusal}
use Rattle.host_commands.specs.declared.refusal.Refusal.TheVariants.{NoBuild, NothingToUndo, RecRunning, NoBlock, Rmi}
use Rattle.host_commands.specs.Checks.{Check, checks_of, first_that_holds}
use Rattle.host_ledger.specs.View.{HostView, world_of, open_of}
use Rattle.host_ledger.specs.Summary.{summary_of}
use Rattle.realm_host.specs.Allocation.{outcome_asked}

-- ---- by number; those of a command but 11 and 13 are its checks by its needs

-- refusal 1, given if the host has no such build
abbrev pub no_build : HostView → ℕ → Check
no_build host build = (nat_le host.limits.builds build, NoBuild)

-- refusal 7, given if the build has nothing open
abbrev pub nothing_to_undo : HostView → ℕ → Check
nothing_to_undo host build = (nat_lt (length (open_of host build)) 1, NothingToUndo)

-- the newest operation that a build has open created a REC that runs
abbrev pub is_newest_running : HostView → ℕ → Bool
is_newest_running host build = elim (last_or None (open_of host build)) [
  | Some act ↦ is_running (realm_of build (world_of host)) act
  | None ↦ false
]

-- refusal 8, given if the newest operation that the build has open created a REC that runs
abbrev pub rec_running : HostView → ℕ → Check
rec_running host build = (is_newest_running host build, RecRunning)

-- an aligned block of the given order begins at granule `first`, and no build leases a granule of it
abbrev pub is_free_block : World → ℕ → ℕ → Bool
is_free_block world order first = is_block_start order first && list_all (is_leased_to None world.leases) (block order first)

-- refusal 11, given if no block of the given order is free
abbrev pub no_block : HostView → ℕ → Check
no_block host order =
    (not (list_any (is_free_block (world_of host) order) (range_with_len 0 (length (world_of host).leases))), NoBlock order)

-- refusal 13 with the RMM's error, given if the RMM refuses the operation
abbrev pub refused_by : Outcome → List Check
refused_by (Ok updates) = []
refused_by (Err rmi) = (true, Rmi rmi) ∷ []

-- the last check of a command, for refusal 11 if the command is a Take, and for refusal 13 otherwise
abbrev pub last_checks : HostView → ℕ → Cmd → List Check
last_checks host build (Take order) = no_block host order ∷ []
last_checks host build cmd = refused_by (outcome_asked host build cmd)

-- ---- the checks of a call

-- The checks of a call, in the order of the refusals' numbers. An undo needs no check of room, since its operation took
-- room for the reverse too. The RMM refuses a reverse only if it would destroy a REC that runs.
abbrev pub checks_of_call : HostView → ℕ → Call → List Check
checks_of_call host build (Ask cmd) = checks_of (summary_of host) build cmd ++ last_checks host build cmd
checks_of_call host build Undo = no_build host build ∷ nothing_to_undo host build ∷ rec_running host build ∷ []

-- The refusal with the lowest number whose condition holds of a call, if any.
unfoldable pub refusal_of : HostView → ℕ → Call → Option Refusal
refusal_of host build call = first_that_holds (checks_of_call host build call)
