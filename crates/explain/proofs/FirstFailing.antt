-- Proofs that the host refuses a step with the refusal of the first failed check among the host's own checks. The steps
-- are `undo`, `mark`, `back`, an abort's first turn, and commands with refusals 1 to 6, 9, 10 or 12.
use Rattle.std.proofs.Common.{◌≡◌, ℕ, Bool, true, false, cond, not, List, [], ◌∷◌, ◌++◌, map, Option, Some, None, Result, Ok, Err, refl, sym, ap, ◌∙◌}
use Rattle.std.specs.Prelude.{◌-◌, nat_lt, nat_le, if◌then◌else◌, length}
use Rattle.std.specs.List.{range_with_len, list_any}
use Rattle.std.proofs.lemmas.Bool.{leb-false, lt-ltb}
use Rattle.std.proofs.lemmas.List.{map-append}
use Rattle.host_commands.specs.Checks.{Check as HostCheck, order_checks as host_order_checks, page_checks, realm_checks as host_realm_checks, journal_checks as host_journal_checks, room_checks, vmid_checks as host_vmid_checks, state_checks, checks_of, first_that_holds}
use Rattle.host_commands.specs.Needs.{operands, needs_of, tables_named}
use Rattle.host_commands.specs.declared.cmd.Cmd.{Cmd}
use Rattle.host_commands.specs.declared.cmd.Cmd.TheVariants.{Take, Realm}
use Rattle.host_commands.specs.declared.needs.RealmRequirement.{RealmRequirement}
use Rattle.host_commands.specs.declared.needs.RealmRequirement.TheVariants.{Either, Realm as ARealm, NoRealm as NoneOf}
use Rattle.host_commands.specs.declared.refusal.Refusal.{Refusal}
use Rattle.host_commands.specs.declared.refusal.Refusal.TheVariants.{NoBuild, Aborting, NothingToUndo, RecRunning, HistoryFull}
use Rattle.host_ledger.specs.Summary.{summary_of}
use Rattle.host_ledger.specs.View.{HostView, world_of, used, is_aborting}
use Rattle.host_ledger.specs.declared.mark.Mark.{Mark}
use Rattle.realm_model.specs.Marks.{above}
use Rattle.realm_model.specs.Running.{running_count, is_running}
use Rattle.realm_model.specs.World.{realm_of}
use Rattle.host_ledger.specs.Marks.{point_of}
use Rattle.realm_host.specs.Marked.{is_kept}
use Rattle.realm_host.specs.Refusals.{refusal_of}
use Rattle.explain.specs.FirstFailing.{as_check, first_refusal, ChecksDecideUndo, ChecksDecideMark, ChecksDecideBegin, ChecksDecideBack, HasPageNumbers, ChecksDecideNeeds}
use Rattle.explain.specs.OfBuild.{checks_of_order, page_there, checks_of_realm, checks_of_journal, room_check, checks_of_vmid, needs_checks}
use Rattle.explain.specs.Pages.{pages_named}
use Rattle.explain.specs.Steps.{is_nothing, is_refused_by_running}
use Rattle.explain.specs.declared.check.Check.{Check}

-- ---- the checks after the one that the build exists

module _ (host : HostView) (build : ℕ) where
  behind_there : (t : Bool) → nat_le host.limits.builds build ≡ t → (x y : Option Refusal) → (nat_lt build host.limits.builds ≡ true → x ≡ y)
      → cond (nat_le host.limits.builds build) (Some NoBuild) x ≡ cond (nat_le host.limits.builds build) (Some NoBuild) y
  behind_there true is x y same = ap (λ t. cond t (Some NoBuild) x) is ∙ sym (ap (λ t. cond t (Some NoBuild) y) is)
  behind_there false is x y same =
      ap (λ r. cond (nat_le host.limits.builds build) (Some NoBuild) r) (same (lt-ltb build host.limits.builds (leb-false host.limits.builds build is)))

  pub undo_decided : ChecksDecideUndo host build
  unfolding refusal_of
  undo_decided = refl

  pub mark_decided : ChecksDecideMark host build
  mark_decided = refl

  pub begin_decided : ChecksDecideBegin host build
  begin_decided = behind_there (nat_le host.limits.builds build) refl _ _ (λ there.
      ap (λ t. cond (is_aborting host build) (Some Aborting) (cond (nat_lt 0 (if t then running_count (realm_of build (world_of host)) else 0)) (Some RecRunning) None)) there)

  -- ---- a way back: its checks are read off its answer

  of_back : (a b c d : Bool) → (n : ℕ)
      → let first : Option Refusal = cond a (Some NoBuild) (cond b (Some Aborting) (cond c (Some NothingToUndo) (cond d (Some RecRunning) None))) in
      let answer : Result ℕ Refusal = elim first [ Some refusal ↦ Err refusal | None ↦ Ok n ] in
      cond a (Some NoBuild) (cond b (Some Aborting) (cond (is_nothing answer) (Some NothingToUndo) (cond (is_refused_by_running answer) (Some RecRunning) None))) ≡ first
  of_back true b c d n = refl
  of_back false true c d n = refl
  of_back false false true d n = refl
  of_back false false false true n = refl
  of_back false false false false n = refl

  pub back_decided : (mark : Option Mark) → ChecksDecideBack host build mark
  back_decided None = refl
  back_decided (Some mark) =
      of_back (nat_le host.limits.builds build) (is_aborting host build) (not (is_kept host build mark))
      (list_any (is_running (realm_of build (world_of host))) (above (point_of mark) host.history)) (length (above (point_of mark) host.history))

  -- ---- a command by its needs

  order_same : (cmd : Cmd) → map as_check (checks_of_order cmd) ≡ host_order_checks cmd
  order_same (Take order) = refl
  order_same _ = refl

  pages_same : (pages : List ℕ) → map as_check (map (page_there host build) pages) ≡ page_checks (summary_of host) build pages
  pages_same [] = refl
  pages_same (page ∷ pages) = ap (λ (cs : List HostCheck). as_check (page_there host build page) ∷ cs) (pages_same pages)

  realm_same : (wants : RealmRequirement) → map as_check (checks_of_realm host build wants) ≡ host_realm_checks (summary_of host) build wants
  realm_same Either = refl
  realm_same NoneOf = refl
  realm_same ARealm = refl

  journal_same : (paired : Bool) → map as_check (checks_of_journal host build paired) ≡ host_journal_checks (summary_of host) build paired
  journal_same true = refl
  journal_same false = refl

  room_same : nat_lt build host.limits.builds ≡ true → (needed : ℕ) → as_check (room_check host build needed) ∷ [] ≡ room_checks (summary_of host) build needed
  room_same there needed = ap (λ t. (nat_lt (if t then host.capacity - used host build else 0) needed, HistoryFull) ∷ []) there

  vmid_same : (wanted : Bool) → map as_check (checks_of_vmid host wanted) ≡ host_vmid_checks (summary_of host) wanted
  vmid_same true = refl
  vmid_same false = refl

  joined : (xs ys : List Check) (cs ds : List HostCheck) → map as_check xs ≡ cs → map as_check ys ≡ ds → map as_check (xs ++ ys) ≡ cs ++ ds
  joined xs ys cs ds one two = map-append as_check xs ys ∙ (λ i. one i ++ two i)

  behind_same : nat_lt build host.limits.builds ≡ true → (cmd : Cmd) (pages : List ℕ)
      → map as_check (checks_of_order cmd ++ (map (page_there host build) pages ++ (checks_of_realm host build (needs_of cmd).realm ++ (checks_of_journal host build (needs_of cmd).paired
      ++ (room_check host build (needs_of cmd).room ∷ checks_of_vmid host (needs_of cmd).vmid)))))
      ≡ host_order_checks cmd ++ (page_checks (summary_of host) build pages ++ state_checks (summary_of host) build (needs_of cmd))
  unfolding state_checks
  behind_same there cmd pages =
      joined _ _ _ _ (order_same cmd) (joined _ _ _ _ (pages_same pages) (joined _ _ _ _ (realm_same (needs_of cmd).realm) (joined _ _ _ _ (journal_same (needs_of cmd).paired)
      (joined (room_check host build (needs_of cmd).room ∷ []) _ _ _ (room_same there (needs_of cmd).room) (vmid_same (needs_of cmd).vmid)))))

  pages_are : (cmd : Cmd) → HasPageNumbers cmd → pages_named cmd ≡ operands cmd
  unfolding operands
  pages_are (Realm rd root width) few = ap (λ t. rd ∷ range_with_len root (if t then tables_named width else 1)) few
  pages_are _ few = refl

  pub needs_decided : (cmd : Cmd) → ChecksDecideNeeds host build cmd
  unfolding checks_of needs_checks
  needs_decided cmd numbers =
      ap (λ (pages : List ℕ). first_refusal (needs_checks host build cmd pages)) (pages_are cmd numbers)
      ∙ behind_there (nat_le host.limits.builds build) refl _ _ (λ there.
      ap (λ (checks : List HostCheck). cond (is_aborting host build) (Some Aborting) (first_that_holds checks)) (behind_same there cmd (operands cmd)))
