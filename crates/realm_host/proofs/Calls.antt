-- Proofs that beginning an abort and setting a mark keep the host's invariant, and that a rollback undoes what was
-- opened after its mark.
use Rattle.std.proofs.Common.{◌≡◌, ℕ, ◌-◌, ◌<◌, ◌≤◌, Bool, true, false, not, cond, take, drop, List, [], ◌∷◌, ◌++◌, length, map}
use Rattle.std.proofs.Common.{reverse, Option, Some, None, Result, Ok, Err, refl, sym, ap, ◌∙◌, subst, arith, ◌&&◌, set, get_or}
use Rattle.std.specs.Prelude.{nat_lt, nat_le}
use Rattle.std.specs.List.{list_any}
use Rattle.std.proofs.lemmas.Bool.{leb-false, le-leb, ltb-true, ltb-false, and_parts, eqb-true}
use Rattle.std.proofs.lemmas.List.{take_all, length-drop, get_or-set_same, get_or_past, set_past}
use Rattle.host_commands.specs.declared.refusal.Refusal.{Refusal}
use Rattle.host_commands.specs.declared.refusal.Refusal.TheVariants.{NoBuild, Aborting, NothingToUndo, RecRunning}
use Rattle.host_commands.specs.Checks.{build_checks, first_that_holds}
use Rattle.realm_model.specs.declared.act.Act.{Act}
use Rattle.realm_model.specs.declared.act.Event.{Event}
use Rattle.realm_model.specs.History.{open_entries, IsLegal}
use Rattle.realm_model.specs.Marks.{above, IsRolledBack}
use Rattle.realm_model.specs.Running.{is_running}
use Rattle.realm_model.specs.Undoing.{by, reverses}
use Rattle.realm_model.specs.World.{realm_of}
use Rattle.realm_model.proofs.RollBack.{rolled_back}
use Rattle.rmi_monitor.specs.View.{MonitorView}
use Rattle.host_ledger.specs.declared.mark.Mark.{Mark}
use Rattle.host_ledger.specs.Summary.{summary_of}
use Rattle.host_ledger.specs.Marks.{point_of, is_same_mark, mark_while}
use Rattle.host_ledger.specs.View.{HostView, world_of, open_of, is_aborting, mark_of, begun, with_mark}
use Rattle.host_ledger.specs.Kept.{IsMarkOf}
use Rattle.host_ledger.proofs.Worlds.{world_is}
use Rattle.realm_host.specs.Abort.{IsDown, LeavesNothing, IsAborted}
use Rattle.realm_host.specs.Host.{IsWhole}
use Rattle.realm_host.specs.Marked.{is_kept, checks_of_back, way_back, IsBackAt}
use Rattle.realm_host.proofs.Aborts.{leaves_nothing}

-- ---- the host after them

pub whole_begun : (ledger : HostView) (monitor : MonitorView) → IsWhole ledger monitor → (build : ℕ) → IsWhole (begun ledger build) monitor
unfolding world_of
whole_begun ledger monitor whole build = record { mirror = whole.mirror; in_range = whole.in_range }

pub whole_marked : (ledger : HostView) (monitor : MonitorView) → IsWhole ledger monitor → (build : ℕ) (mark : Mark) → IsWhole (with_mark ledger build mark) monitor
unfolding world_of
whole_marked ledger monitor whole build mark = record { mirror = whole.mirror; in_range = whole.in_range }

-- ---- checks

-- if a list of checks gives no refusal, the condition of its first check is false, and its other checks give no refusal
pub passed_parts : (t : Bool) (refusal : Refusal) (rest : Option Refusal) → cond t (Some refusal) rest ≡ None → (t ≡ false) × (rest ≡ None)
passed_parts true refusal rest e = cc
passed_parts false refusal rest e = (refl, e)

-- if `build_checks` give no refusal, the build exists
pub there_of : (host : HostView) (build : ℕ) → first_that_holds (build_checks (summary_of host) build) ≡ None → build < host.limits.builds
there_of host build none =
    let parts = passed_parts (nat_le host.limits.builds build) NoBuild _ none in
    leb-false host.limits.builds build parts.0

-- ---- the rollback to a valid mark

module _ (host : HostView) (build : ℕ) (mark : Mark) (stands : IsMarkOf host build mark) where
  -- the build has at least as many operations open as it had at the mark
  pub enough : mark.length ≤ length (open_of host build)
  enough =
      let since = stands.stands.since (length host.history) stands.stands.place in
      subst (λ (es : List Event). mark.length ≤ length (open_entries build es)) (take_all (length host.history) host.history (omega arith))
      (subst (λ b. mark.length ≤ length (open_entries b (take (length host.history) host.history))) stands.of_build since)

  pub above_is : above (point_of mark) host.history ≡ drop mark.length (open_of host build)
  above_is = ap (λ b. drop mark.length (open_entries b host.history)) stands.of_build

  pub count_is : length (open_of host build) - mark.length ≡ length (above (point_of mark) host.history)
  count_is = sym (ap length above_is ∙ length-drop mark.length (open_of host build))

  pub rolled : IsLegal host.limits host.history → list_any (is_running (realm_of build (world_of host))) (drop mark.length (open_of host build)) ≡ false
      → IsRolledBack host.limits (point_of mark) host.history
  rolled legal rests =
      rolled_back host.limits host.history (point_of mark) (world_of host) legal (world_is host legal) stands.stands
      (ap (λ b. list_any (is_running (realm_of b (world_of host))) (above (point_of mark) host.history)) stands.of_build
      ∙ ap (list_any (is_running (realm_of build (world_of host)))) above_is ∙ rests)

-- ---- a rollback that is not refused

pub record IsOpenWay (host : HostView) (build : ℕ) (mark : Mark) (count : ℕ) : Type 0 where
  pub none : first_that_holds (checks_of_back host build mark) ≡ None
  pub there : build < host.limits.builds
  pub is_mark : mark_of host build ≡ Some mark
  pub rests : list_any (is_running (realm_of build (world_of host))) (above (point_of mark) host.history) ≡ false
  pub count_is : count ≡ length (above (point_of mark) host.history)

same_mark : (a b : Mark) → is_same_mark a b ≡ true → a ≡ b
same_mark a b same =
    let parts = and_parts _ _ same in
    let more = and_parts _ _ parts.1 in
    λ i. record { build = eqb-true a.build b.build parts.0 i; length = eqb-true a.length b.length more.0 i; place = eqb-true a.place b.place more.1 i }

pub open_way : (host : HostView) (build : ℕ) (mark : Mark) (count : ℕ) → Ok count ≡ way_back host build mark → IsOpenWay host build mark count
open_way host build mark count is = at (first_that_holds (checks_of_back host build mark)) refl is
  where
    kept : (o : Option Mark) → mark_of host build ≡ o → elim o [ Some m ↦ is_same_mark m mark | None ↦ false ] ≡ true → mark_of host build ≡ Some mark
    kept None none same = cc
    kept (Some m) some same = some ∙ ap (λ (x : Mark). Some x) (same_mark m mark same)

    at : (o : Option Refusal) → first_that_holds (checks_of_back host build mark) ≡ o
        → ◌≡◌ {A = Result ℕ Refusal} (Ok count) (elim o [ Some refusal ↦ Err refusal | None ↦ Ok (length (above (point_of mark) host.history)) ]) → IsOpenWay host build mark count
    at (Some refusal) holds e = cc
    at None none e =
        let first = passed_parts (nat_le host.limits.builds build) NoBuild _ none in
        let second = passed_parts (is_aborting host build) Aborting _ first.1 in
        let third = passed_parts (not (is_kept host build mark)) NothingToUndo _ second.1 in
        let fourth = passed_parts (list_any (is_running (realm_of build (world_of host))) (above (point_of mark) host.history)) RecRunning None third.1 in
        record {
          none = none;
          there = leb-false host.limits.builds build first.0;
          is_mark = kept (mark_of host build) refl (not_false (is_kept host build mark) third.0);
          rests = fourth.0;
          count_is = ok_same count (length (above (point_of mark) host.history)) e;
        }
      where
        not_false : (t : Bool) → not t ≡ false → t ≡ true
        not_false true e = refl
        not_false false e = cc

        ok_same : (a b : ℕ) → ◌≡◌ {A = Result ℕ Refusal} (Ok a) (Ok b) → a ≡ b
        ok_same a b e = cc

pub back_at : (host : HostView) (build : ℕ) (mark : Mark) (count : ℕ) → Ok count ≡ way_back host build mark → IsMarkOf host build mark
    → IsRolledBack host.limits (point_of mark) host.history → (new : HostView) → IsDown host build mark.length new → IsBackAt host build mark count new
back_at host build mark count is stands rolled new down =
    let way = open_way host build mark count is in
    record {
      count_is = way.count_is;
      new_is = down.new_is;
      history = ap (λ (h : HostView). h.history) down.new_is
          ∙ ap (λ es. host.history ++ es) (sym ((λ i. map (by (stands.of_build i)) (reverses (reverse (above (point_of mark) host.history))))
          ∙ ap (λ (acts : List Act). map (by build) (reverses (reverse acts))) (above_is host build mark stands)));
      of_build = stands;
      mark_stays = ap (λ (h : HostView). mark_of h build) down.new_is ∙ kept way.is_mark;
      rolled_back = rolled;
    }
  where
    -- a rollback to the build's mark keeps that mark
    kept : mark_of host build ≡ Some mark → get_or (set host.marks build (mark_while mark.length (mark_of host build))) build None ≡ Some mark
    kept is_mark = at (nat_lt build (length host.marks)) refl
      where
        at : (t : Bool) → nat_lt build (length host.marks) ≡ t → get_or (set host.marks build (mark_while mark.length (mark_of host build))) build None ≡ Some mark
        at true there =
            get_or-set_same host.marks build (mark_while mark.length (mark_of host build)) None (ltb-true build (length host.marks) there)
            ∙ ap (mark_while mark.length) is_mark ∙ ap (λ t. cond t (Some mark) None) (le-leb mark.length mark.length (omega arith))
        at false past =
            let none : mark_of host build ≡ None = get_or_past host.marks build None (ltb-false build (length host.marks) past) in
            absurd (let bad : None ≡ Some mark = sym none ∙ is_mark in cc)

-- ---- an abort that is done

-- after all of a build's open operations are undone, the world is that of the history without the build
pub nothing_left : (host : HostView) (build : ℕ) (new : HostView) → IsDown host build 0 new → LeavesNothing host build new
nothing_left host build new down = leaves_nothing host new build down.legal (ap (λ (h : HostView). h.history) down.new_is) (none_left (open_of new build) down.opened)
  where
    none_left : (acts : List Act) → length acts ≡ 0 → acts ≡ []
    none_left [] e = refl
    none_left (act ∷ acts) e = absurd (omega (arith, e))

pub aborted : (host : HostView) (build count : ℕ) → count ≡ length (open_of host build) → (new : HostView) → IsDown host build 0 new → IsAborted host build count new
aborted host build count is new down = record { count_is = is; new_is = down.new_is; over = ap (λ (h : HostView). is_aborting h build) down.new_is ∙ out_of_abort }
  where
    and_false : (t : Bool) → (t && false) ≡ false
    and_false true = refl
    and_false false = refl

    out_of_abort : get_or (set host.aborting build (is_aborting host build && false)) build false ≡ false
    out_of_abort = at (nat_lt build (length host.aborting)) refl
      where
        at : (t : Bool) → nat_lt build (length host.aborting) ≡ t → get_or (set host.aborting build (is_aborting host build && false)) build false ≡ false
        at true there =
            get_or-set_same host.aborting build (is_aborting host build && false) false (ltb-true build (length host.aborting) there) ∙ and_false (is_aborting host build)
        at false past =
            let outside = ltb-false build (length host.aborting) past in
            ap (λ (flags : List Bool). get_or flags build false) (set_past host.aborting build _ outside) ∙ get_or_past host.aborting build false outside
