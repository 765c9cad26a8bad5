-- The checks that the host makes of a command before asking the page store or the RMM. One list serves all commands, by
-- their needs.
use Rattle.std.specs.Prelude.{ℕ, nat_lt, nat_le, List, [], ◌∷◌, ◌++◌, map, Bool, true, false, not, cond, Option, Some, None, is_none, Result, Ok, Err}
use Rattle.host_commands.specs.declared.cmd.Cmd.{Cmd}
use Rattle.host_commands.specs.declared.cmd.Cmd.TheVariants.{Take}
use Rattle.host_commands.specs.declared.needs.Needs.{Needs}
use Rattle.host_commands.specs.declared.needs.RealmRequirement.{RealmRequirement}
use Rattle.host_commands.specs.declared.needs.RealmRequirement.TheVariants.{Either, Realm as ARealm, NoRealm as NoneOf}
use Rattle.host_commands.specs.declared.refusal.Refusal.{Refusal}
use Rattle.host_commands.specs.declared.refusal.Refusal.TheVariants.{NoBuild, Aborting, BadOrder, NotLeased, RealmThere, NoRealm, JournalFull, HistoryFull, NoVmid}
use Rattle.host_commands.specs.BuildsSummary.{BuildsSummary, granule_of_page, AreGranulesOf}
use Rattle.host_commands.specs.Needs.{operands, needs_of}

-- a `Bool` that says whether the condition of a refusal holds, with the refusal
abbrev pub Check : Type 0
Check = Bool × Refusal

-- ---- the checks, by number

-- refusals 1 and 2: there is no such build, or it is in abort
abbrev pub build_checks : BuildsSummary → ℕ → List Check
build_checks view build = (nat_le view.builds build, NoBuild) ∷ (view.aborting build, Aborting) ∷ []

-- refusal 3: the order of a Take is above 9
abbrev pub order_checks : Cmd → List Check
order_checks (Take order) = (nat_lt 9 order, BadOrder) ∷ []
order_checks _ = []

-- for each of the given pages, refusal 4: the build does not have the page
abbrev pub page_checks : BuildsSummary → ℕ → List ℕ → List Check
page_checks view build pages = map (λ page. (is_none (granule_of_page view build page), NotLeased page)) pages

-- refusals 5 and 6: the build must have no realm but has one, or must have one but has none
abbrev pub realm_checks : BuildsSummary → ℕ → RealmRequirement → List Check
realm_checks view build Either = []
realm_checks view build NoneOf = (view.realm build, RealmThere) ∷ []
realm_checks view build ARealm = (not (view.realm build), NoRealm) ∷ []

-- refusal 9: the command's operation would stay open, and the build already has 512 or more open operations
abbrev pub journal_checks : BuildsSummary → ℕ → Bool → List Check
journal_checks view build true = (nat_le 512 (view.opened build), JournalFull) ∷ []
journal_checks view build false = []

-- refusal 10: the build has less room left in the history than is needed
abbrev pub room_checks : BuildsSummary → ℕ → ℕ → List Check
room_checks view build needed = (nat_lt (view.room_left build) needed, HistoryFull) ∷ []

-- refusal 12: a VMID is needed, and none is free
abbrev pub vmid_checks : BuildsSummary → Bool → List Check
vmid_checks view true = (not view.vmid, NoVmid) ∷ []
vmid_checks view false = []

-- ---- the checks of a command

-- the checks of the realm, the open operations, the room and the VMID: refusals 5, 6, 9, 10 and 12
unfoldable pub state_checks : BuildsSummary → ℕ → Needs → List Check
state_checks view build needs =
    realm_checks view build needs.realm ++ (journal_checks view build needs.paired ++ (room_checks view build needs.room ++ vmid_checks view needs.vmid))

-- The checks that apply to a command, in the order of their refusals' numbers. Refusals 7 and 8 apply to no command.
-- After these, a Take can get refusal 11, which the store decides, and any other command 13, which the RMM decides.
unfoldable pub checks_of : BuildsSummary → ℕ → Cmd → List Check
checks_of view build cmd =
    build_checks view build ++ (order_checks cmd ++ (page_checks view build (operands cmd) ++ state_checks view build (needs_of cmd)))

abbrev pub first_that_holds : List Check → Option Refusal
first_that_holds [] = None
first_that_holds (check ∷ checks) = cond check.0 (Some check.1) (first_that_holds checks)

-- the refusal of the first check whose condition holds, or success if none holds
abbrev pub checked : List Check → Result (Unit {0}) Refusal
checked checks = elim (first_that_holds checks) [ Some refusal ↦ Err refusal | None ↦ Ok tt ]

-- the build has each page that the command names, and the granules are those of these pages, in sequence
abbrev pub AreFound : BuildsSummary → ℕ → Cmd → List ℕ → Type 0
AreFound view build cmd granules = AreGranulesOf view build (operands cmd) granules
