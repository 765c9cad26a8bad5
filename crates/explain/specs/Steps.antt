-- The checks that a step of a plan must pass in the next turn of its build, in ascending order of their refusal
-- numbers.
use Rattle.std.specs.Prelude.{ℕ, ◌==◌, nat_lt, List, [], ◌∷◌, ◌++◌, length, Bool, true, false, Option, Some, None, Result, Err, if◌then◌else◌}
use Rattle.realm_model.specs.Running.{running_count}
use Rattle.realm_model.specs.World.{realm_of}
use Rattle.host_commands.specs.declared.cmd.Step.{Step}
use Rattle.host_commands.specs.declared.cmd.Step.TheVariants.{Ask, Undo, Abort, Mark as KeepMark, Back}
use Rattle.host_commands.specs.declared.refusal.Refusal.{Refusal}
use Rattle.host_commands.specs.declared.refusal.Refusal.TheVariants.{NothingToUndo, RecRunning}
use Rattle.host_ledger.specs.View.{HostView, world_of, open_of}
use Rattle.host_ledger.specs.declared.mark.Mark.{Mark}
use Rattle.realm_host.specs.Refusals as refusals
use Rattle.realm_host.specs.Marked.{way_back}
use Rattle.plan_replay.specs.declared.place.PlanCursor.{PlanCursor}
use Rattle.explain.specs.OfBuild.{build_there, checks_of_build}
use Rattle.explain.specs.Commands.{command_checks}
use Rattle.explain.specs.declared.host_facts.UndoFact.TheVariants as undo
use Rattle.explain.specs.declared.check.Fact.TheVariants as fact
use Rattle.explain.specs.declared.check.Check.{Check}

-- ---- an undo

-- the checks of an undo: the build exists, it has an open operation, and the newest open operation did not create a REC
-- that is RUNNING
abbrev pub undo_checks : HostView → ℕ → List Check
undo_checks host build =
    build_there host build
    ∷ record { fact = fact.Undo (undo.Open (length (open_of host build))); fails = nat_lt (length (open_of host build)) 1; refusal = NothingToUndo }
    ∷ record { fact = fact.Undo undo.NewestIsNotRunning; fails = refusals.is_newest_running host build; refusal = RecRunning } ∷ []

-- ---- an abort that begins

-- the number of a build's running RECs; 0 if there is no such build
abbrev pub running_of : HostView → ℕ → ℕ
running_of host build = if nat_lt build host.limits.builds then running_count (realm_of build (world_of host)) else 0

abbrev pub begin_checks : HostView → ℕ → List Check
begin_checks host build =
    checks_of_build host build
    ++ record { fact = fact.Undo (undo.AllAreReady (running_of host build)); fails = nat_lt 0 (running_of host build); refusal = RecRunning } ∷ []

-- ---- a way back to a mark

-- the result is the refusal NothingToUndo
abbrev pub is_nothing : Result ℕ Refusal → Bool
is_nothing (Err NothingToUndo) = true
is_nothing _ = false

abbrev pub is_refused_by_running : Result ℕ Refusal → Bool
is_refused_by_running (Err RecRunning) = true
is_refused_by_running _ = false

abbrev pub mark_checks : Bool → List Check
mark_checks fails = record { fact = fact.Undo undo.Mark; fails = fails; refusal = NothingToUndo } ∷ []

abbrev pub back_checks : HostView → ℕ → Option Mark → List Check
back_checks host build None = mark_checks true
back_checks host build (Some mark) =
    checks_of_build host build
    ++ (mark_checks (is_nothing (way_back host build mark))
    ++ record { fact = fact.Undo undo.NoneRunsAboveMark; fails = is_refused_by_running (way_back host build mark); refusal = RecRunning } ∷ [])

-- ---- the turn of a step

-- The checks that a step of a plan must pass in the next turn of its build. The first turn of an abort or a `back` has
-- checks of its own; each later turn is an undo.
unfoldable pub step_checks : HostView → ℕ → PlanCursor → Step → List Check
step_checks host build place (Ask cmd) = command_checks host build cmd
step_checks host build place Undo = undo_checks host build
step_checks host build place KeepMark = checks_of_build host build
step_checks host build place Abort = if place.left == 0 then begin_checks host build else undo_checks host build
step_checks host build place Back = if place.left == 0 then back_checks host build place.mark else undo_checks host build
