-- The marks of builds, and the rollback of a build to its mark.
use Rattle.std.specs.Prelude.{◌≡◌, ℕ, List, [], ◌∷◌, ◌++◌, length, not, Bool, false, Some, None, Result, Ok, Err}
use Rattle.std.specs.List.{list_any}
use Rattle.host_commands.specs.declared.refusal.Refusal.{Refusal}
use Rattle.host_commands.specs.declared.refusal.Refusal.TheVariants.{NothingToUndo, RecRunning}
use Rattle.host_commands.specs.Checks.{Check, build_checks, first_that_holds}
use Rattle.realm_model.specs.Marks.{above, rolling_back, IsRolledBack}
use Rattle.realm_model.specs.Running.{is_running}
use Rattle.realm_model.specs.World.{realm_of}
use Rattle.host_ledger.specs.declared.mark.Mark.{Mark}
use Rattle.host_ledger.specs.Marks.{point_of, is_same_mark}
use Rattle.host_ledger.specs.Summary.{summary_of}
use Rattle.host_ledger.specs.Kept.{IsMarkOf}
use Rattle.host_ledger.specs.View.{HostView, world_of, mark_of, mark_now, with_mark}
use Rattle.realm_host.specs.Abort.{undone_to}
use Rattle.realm_host.specs.Served.{IsServed}

-- ---- the mark

-- the mark is the build's current point in the history, and the host keeps it
pub record IsMarkedAs (host : HostView) (build : ℕ) (mark : Mark) (new : HostView) : Type 0 where
  pub mark_is : mark ≡ mark_now host build
  pub new_is : new ≡ with_mark host build mark
  pub kept : mark_of new build ≡ Some mark

-- The call is refused, or returns a mark at the build's current point, and the host keeps this mark in place of an
-- older one.
abbrev pub IsMarked : HostView → ℕ → Result Mark Refusal → HostView → Type 0
IsMarked host build result new =
    IsServed (build_checks (summary_of host) build) host (IsMarkedAs host build) result new

-- ---- the way back

-- the host keeps this mark for the build
abbrev pub is_kept : HostView → ℕ → Mark → Bool
is_kept host build mark = elim (mark_of host build) [ Some kept ↦ is_same_mark kept mark | None ↦ false ]

-- refusal 7, given if the host does not keep this mark for the build
abbrev pub not_kept : HostView → ℕ → Mark → Check
not_kept host build mark = (not (is_kept host build mark), NothingToUndo)

-- refusal 8, given if an operation that was opened after the mark and is still open created a REC that runs
abbrev pub rec_running_above : HostView → ℕ → Mark → Check
rec_running_above host build mark =
    (list_any (is_running (realm_of build (world_of host))) (above (point_of mark) host.history), RecRunning)

abbrev pub checks_of_back : HostView → ℕ → Mark → List Check
checks_of_back host build mark =
    build_checks (summary_of host) build ++ (not_kept host build mark ∷ rec_running_above host build mark ∷ [])

-- The number of undos that lead back to the mark, or the refusal if the build cannot go back to the mark.
abbrev pub way_back : HostView → ℕ → Mark → Result ℕ Refusal
way_back host build mark = elim (first_that_holds (checks_of_back host build mark)) [
  | Some refusal ↦ Err refusal
  | None ↦ Ok (length (above (point_of mark) host.history))
]

-- All that the build opened after the mark and still had open was reversed, the newest first. The mark stays.
pub record IsBackAt (host : HostView) (build : ℕ) (mark : Mark) (count : ℕ) (new : HostView) : Type 0 where
  pub count_is : count ≡ length (above (point_of mark) host.history)
  pub new_is : new ≡ undone_to host build mark.length
  pub history : new.history ≡ host.history ++ rolling_back (point_of mark) host.history
  pub of_build : IsMarkOf host build mark
  pub mark_stays : mark_of new build ≡ Some mark
  pub rolled_back : IsRolledBack host.limits (point_of mark) host.history

abbrev pub IsBackAnswer : HostView → ℕ → Mark → Result ℕ Refusal → HostView → Type 0
IsBackAnswer host build mark result new =
    IsServed (checks_of_back host build mark) host (λ count after. IsBackAt host build mark count after) result new
