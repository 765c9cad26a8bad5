-- The statements that the host refuses a step with the refusal of the first failed check among the host's own checks.
-- The steps are `undo`, `mark`, `back`, an abort's first turn, and commands with refusals 1 to 6, 9, 10 or 12.
use Rattle.std.specs.Prelude.{◌≡◌, ℕ, ◌+◌, nat_le, List, map, true, Option, Some, None}
use Rattle.host_commands.specs.Checks.{Check as HostCheck, build_checks as host_build_checks, checks_of, first_that_holds}
use Rattle.host_commands.specs.Needs.{tables_named}
use Rattle.host_commands.specs.declared.cmd.Cmd.{Cmd}
use Rattle.host_commands.specs.declared.cmd.Cmd.TheVariants.{Realm}
use Rattle.host_commands.specs.declared.refusal.Refusal.{Refusal}
use Rattle.host_commands.specs.declared.refusal.Refusal.TheVariants.{NothingToUndo}
use Rattle.host_ledger.specs.Summary.{summary_of}
use Rattle.host_ledger.specs.View.{HostView}
use Rattle.host_ledger.specs.declared.mark.Mark.{Mark}
use Rattle.realm_host.specs.Abort.{checks_of_begin}
use Rattle.realm_host.specs.Call.{Undo}
use Rattle.realm_host.specs.Marked.{checks_of_back}
use Rattle.realm_host.specs.Refusals.{refusal_of}
use Rattle.explain.specs.OfBuild.{checks_of_build, needs_checks}
use Rattle.explain.specs.Pages.{pages_named}
use Rattle.explain.specs.Steps.{undo_checks, begin_checks, back_checks}
use Rattle.explain.specs.declared.check.Check.{Check}

-- a check as the pair that the host's definitions use: whether the check fails, and its refusal
abbrev pub as_check : Check → HostCheck
as_check check = (check.fails, check.refusal)

-- the refusal of the first check that fails, if any
abbrev pub first_refusal : List Check → Option Refusal
first_refusal checks = first_that_holds (map as_check checks)

-- ---- `undo`, `mark`, an abort's first turn, and `back`: the first check that fails decides the host's refusal

-- the host refuses an undo with the refusal of the first failed check, and accepts the undo if no check fails
abbrev pub ChecksDecideUndo : HostView → ℕ → Type 0
ChecksDecideUndo host build = first_refusal (undo_checks host build) ≡ refusal_of host build Undo

abbrev pub ChecksDecideMark : HostView → ℕ → Type 0
ChecksDecideMark host build = first_refusal (checks_of_build host build) ≡ first_that_holds (host_build_checks (summary_of host) build)

abbrev pub ChecksDecideBegin : HostView → ℕ → Type 0
ChecksDecideBegin host build = first_refusal (begin_checks host build) ≡ first_that_holds (checks_of_begin host build)

-- the refusal, if any, with which the host answers a `back` step; NothingToUndo if there is no mark
abbrev pub refusal_of_back : HostView → ℕ → Option Mark → Option Refusal
refusal_of_back host build None = Some NothingToUndo
refusal_of_back host build (Some mark) = first_that_holds (checks_of_back host build mark)

abbrev pub ChecksDecideBack : HostView → ℕ → Option Mark → Type 0
ChecksDecideBack host build mark = first_refusal (back_checks host build mark) ≡ refusal_of_back host build mark

-- ---- commands: 1 to 6, 9, 10 and 12

-- if the command creates a realm, the page numbers of its starting tables fit in 16 bits, as in every plan
abbrev pub HasPageNumbers : Cmd → Type 0
HasPageNumbers (Realm rd root width) = nat_le (root + tables_named width) 65536 ≡ true
HasPageNumbers _ = Unit {0}

abbrev pub ChecksDecideNeeds : HostView → ℕ → Cmd → Type 0
ChecksDecideNeeds host build cmd =
    HasPageNumbers cmd → first_refusal (needs_checks host build cmd (pages_named cmd)) ≡ first_that_holds (checks_of (summary_of host) build cmd)
