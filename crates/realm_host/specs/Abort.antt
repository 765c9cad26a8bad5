-- Definitions of a build's abort: the checks before it, the undos in it, and the host after it.
use Rattle.std.specs.Prelude.{◌≡◌, ◌≢◌, ℕ, nat_lt, List, [], ◌∷◌, ◌++◌, map, length, drop, reverse, ◌&&◌, false, Some, None, Result, slice_set}
use Rattle.std.specs.List.{All}
use Rattle.host_commands.specs.declared.refusal.Refusal.{Refusal}
use Rattle.host_commands.specs.Checks.{Check, build_checks}
use Rattle.realm_model.specs.declared.act.Event.{Event}
use Rattle.realm_model.specs.Aborting.{IsOthersOrReverse}
use Rattle.realm_model.specs.History.{erase, replay, IsLegal}
use Rattle.realm_model.specs.Undoing.{by, reverses, undoing}
use Rattle.host_ledger.specs.Summary.{summary_of}
use Rattle.host_ledger.specs.Marks.{mark_while}
use Rattle.host_ledger.specs.View.{HostView, world_of, open_of, is_aborting, mark_of, begun}
use Rattle.realm_host.specs.Call.{Undo}
use Rattle.realm_host.specs.Refusals.{no_build, refusal_of}
use Rattle.realm_host.specs.Served.{any_rec_running, IsServed}

-- ---- the beginning of an abort

-- the checks before an abort begins: whether the build is missing, is already in abort, or has a running REC
abbrev pub checks_of_begin : HostView → ℕ → List Check
checks_of_begin host build = build_checks (summary_of host) build ++ any_rec_running host build ∷ []

-- A call has begun the build's abort, and has returned the number of the build's open operations. If there is any, the
-- build is in abort from then on.
pub record IsBegunAs (host : HostView) (build count : ℕ) (new : HostView) : Type 0 where
  pub count_is : count ≡ length (open_of host build)
  pub new_is : new ≡ begun host build
  pub in_abort : is_aborting new build ≡ nat_lt 0 count

-- A call that begins an abort is refused and changes nothing, or is answered as `IsBegunAs` says.
abbrev pub IsBegun : HostView → ℕ → Result ℕ Refusal → HostView → Type 0
IsBegun host build result new =
    IsServed (checks_of_begin host build) host (IsBegunAs host build) result new

-- If all events of a build after those of `host` are reverses, no undo of the build is refused while the build has an
-- open operation, whatever other builds do.
abbrev pub GoesOn : HostView → ℕ → Type 0
GoesOn host build =
    (later : List Event) (then : HostView) → then.limits ≡ host.limits → then.history ≡ host.history ++ later
    → IsLegal then.limits then.history → All (IsOthersOrReverse build) later
    → open_of then build ≢ [] → refusal_of then build Undo ≡ None

-- ---- the end

-- All that the build had open was reversed, the newest first. The world is that of the history without the build, which
-- is legal and, as a list of events, the same as before the call.
pub record LeavesNothing (host : HostView) (build : ℕ) (new : HostView) : Type 0 where
  pub history : new.history ≡ host.history ++ undoing build host.history
  pub same_others : erase build new.history ≡ erase build host.history
  pub legal : IsLegal new.limits (erase build new.history)
  pub no_trace : replay new.limits (erase build new.history) ≡ Some (world_of new)

-- The host after all but the oldest `count` of a build's open operations are undone, the newest first. The build leaves
-- abort if nothing is left open, and its mark is dropped if it is above what is left.
abbrev pub undone_to : HostView → ℕ → ℕ → HostView
undone_to host build count = record host {
  history = host.history ++ map (by build) (reverses (reverse (drop count (open_of host build))));
  aborting = slice_set host.aborting build (is_aborting host build && nat_lt 0 count);
  marks = slice_set host.marks build (mark_while count (mark_of host build));
}

-- all but the oldest `count` of the build's open operations were undone
pub record IsDown (host : HostView) (build count : ℕ) (new : HostView) : Type 0 where
  pub new_is : new ≡ undone_to host build count
  pub legal : IsLegal new.limits new.history
  pub opened : length (open_of new build) ≡ count

abbrev pub checks_of_abort : HostView → ℕ → List Check
checks_of_abort host build = no_build host build ∷ any_rec_running host build ∷ []

-- all of the build's open operations were undone, the build is no longer in abort, and `count` is the number of those
-- operations
pub record IsAborted (host : HostView) (build count : ℕ) (new : HostView) : Type 0 where
  pub count_is : count ≡ length (open_of host build)
  pub new_is : new ≡ undone_to host build 0
  pub over : is_aborting new build ≡ false

abbrev pub IsAbortAnswer : HostView → ℕ → Result ℕ Refusal → HostView → Type 0
IsAbortAnswer host build result new = IsServed (checks_of_abort host build) host (λ count after. IsAborted host build count after) result new
