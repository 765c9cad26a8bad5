-- Proofs that after one more event each build in abort has something open, and each mark that is kept is valid.
use Rattle.std.proofs.Common.{◌≡◌, ◌≢◌, ℕ, ◌<◌, ◌≤◌, Bool, true, false, ◌&&◌, cond, List, [], ◌∷◌, ◌++◌, length, take, Option, Some, None, refl, sym, ap, ◌∙◌, subst, arith, ⊎_elim}
use Rattle.std.specs.Prelude.{nat_lt, nat_le}
use Rattle.std.proofs.lemmas.Bool.{and_parts, ltb-true, ltb-false, leb-true, cases_eq}
use Rattle.std.proofs.lemmas.Option.{same_Some}
use Rattle.std.proofs.lemmas.List.{take_all, take-append-le, length-append, get_or-set_same, get_or-set_other}
use Rattle.realm_model.specs.declared.act.Act.{Act}
use Rattle.realm_model.specs.declared.act.Event.{Event}
use Rattle.realm_model.specs.History.{open_entries}
use Rattle.realm_model.specs.Undoing.{by}
use Rattle.realm_model.proofs.Growth.{open_entries-other}
use Rattle.realm_model.proofs.Marks.{stays_valid}
use Rattle.host_ledger.specs.declared.mark.Mark.{Mark}
use Rattle.host_ledger.specs.Marks.{point_of, mark_while}
use Rattle.host_ledger.specs.View.{HostView, open_of, is_aborting, mark_of, with_event}
use Rattle.host_ledger.specs.Kept.{PointsHold}

-- ---- what is open, at any time

-- if a build has at most 512 operations open at each point of a history, the build has at most 512 open at the end
pub few_now : (build : ℕ) (history : List Event) → ((n : ℕ) → length (open_entries build (take n history)) ≤ 512) → length (open_entries build history) ≤ 512
few_now build history few =
    subst (λ (es : List Event). length (open_entries build es) ≤ 512) (take_all (length history) history (omega arith)) (few (length history))

-- if a build has at most 512 operations open at each point of a history and after one more event, the same is true of
-- the longer history
pub few_later : (build : ℕ) (history : List Event) (event : Event) → ((n : ℕ) → length (open_entries build (take n history)) ≤ 512)
    → length (open_entries build (history ++ event ∷ [])) ≤ 512 → (n : ℕ) → length (open_entries build (take n (history ++ event ∷ []))) ≤ 512
few_later build history event few last n = at (nat_lt (length history) n) refl
  where
    at : (t : Bool) → nat_lt (length history) n ≡ t → length (open_entries build (take n (history ++ event ∷ []))) ≤ 512
    at true past =
        let over = ltb-true (length history) n past in
        let long = length-append history (event ∷ []) in
        subst (λ (es : List Event). length (open_entries build es) ≤ 512) (sym (take_all n (history ++ event ∷ []) (omega arith))) last
    at false early =
        let under = ltb-false (length history) n early in
        subst (λ (es : List Event). length (open_entries build es) ≤ 512) (sym (take-append-le n history (event ∷ []) under)) (few n)

-- ---- marks

-- a mark that is still kept was kept before, and no fewer operations are open than at the mark
kept_still : (opened : ℕ) (was : Option Mark) (mark : Mark) → mark_while opened was ≡ Some mark → (was ≡ Some mark) × (mark.length ≤ opened)
kept_still opened None mark is = absurd (let none : None ≡ Some mark = is in cc)
kept_still opened (Some old) mark is = at (nat_le old.length opened) refl
  where
    at : (t : Bool) → nat_le old.length opened ≡ t → (Some old ≡ Some mark) × (mark.length ≤ opened)
    at true fits =
        let same : Some old ≡ Some mark = ap (λ t. cond t (Some old) None) (sym fits) ∙ is in
        (same, subst (λ (m : Mark). m.length ≤ opened) (same_Some _ _ same) (leb-true old.length opened fits))
    at false gone = absurd (let none : None ≡ Some mark = ap (λ t. cond t (Some old) None) (sym gone) ∙ is in cc)

module _ (host : HostView) (build : ℕ) (act : Act) (abort_there : build < length host.aborting) (mark_there : build < length host.marks) where
  abbrev new : HostView
  new = with_event host build act

  abbrev opened : ℕ
  opened = length (open_of new build)

  pub aborting_own : is_aborting new build ≡ (is_aborting host build && nat_lt 0 opened)
  aborting_own = get_or-set_same host.aborting build (is_aborting host build && nat_lt 0 opened) false abort_there

  pub aborting_other : (other : ℕ) → other ≢ build → is_aborting new other ≡ is_aborting host other
  aborting_other other apart = get_or-set_other host.aborting build other (is_aborting host build && nat_lt 0 opened) false apart

  pub mark_own : mark_of new build ≡ mark_while opened (mark_of host build)
  mark_own = get_or-set_same host.marks build (mark_while opened (mark_of host build)) None mark_there

  pub mark_other : (other : ℕ) → other ≢ build → mark_of new other ≡ mark_of host other
  mark_other other apart = get_or-set_other host.marks build other (mark_while opened (mark_of host build)) None apart

  open_other : (other : ℕ) → other ≢ build → open_of new other ≡ open_of host other
  open_other other apart = open_entries-other other host.history (by build act) (λ e. apart (sym e))

  own_points : PointsHold host build → PointsHold new build
  own_points hold = record {
    in_abort = λ is. ltb-true 0 opened (and_parts _ _ (sym aborting_own ∙ is)).1;
    marked = λ mark is.
        let kept = kept_still opened (mark_of host build) mark (sym mark_own ∙ is) in
        let was = hold.marked mark kept.0 in
        record {
          of_build = was.of_build;
          stands = (stays_valid (point_of mark) host.history (by build act) was.stands.place).1
              (was.stands, subst (λ b. mark.length ≤ length (open_entries b new.history)) (sym was.of_build) kept.1);
        };
  }

  other_points : (other : ℕ) → other ≢ build → PointsHold host other → PointsHold new other
  other_points other apart hold = record {
    in_abort = λ is. subst (λ (acts : List Act). 0 < length acts) (sym (open_other other apart)) (hold.in_abort (sym (aborting_other other apart) ∙ is));
    marked = λ mark is.
        let was = hold.marked mark (sym (mark_other other apart) ∙ is) in
        let stood = was.stands.since (length host.history) was.stands.place in
        let here : mark.length ≤ length (open_entries mark.build host.history) =
        subst (λ (es : List Event). mark.length ≤ length (open_entries mark.build es)) (take_all (length host.history) host.history (omega arith)) stood in
        record {
          of_build = was.of_build;
          stands = (stays_valid (point_of mark) host.history (by build act) was.stands.place).1
              (was.stands, subst (λ (acts : List Act). mark.length ≤ length acts) (sym (open_entries-other mark.build host.history (by build act) (λ e. apart (sym (e ∙ was.of_build))))) here);
        };
  }

  -- an event keeps `PointsHold` true for each build: a build in abort has something open, and the mark of a build is
  -- valid
  pub points_follow : (number : ℕ) → PointsHold host number → PointsHold new number
  points_follow number hold = ⊎_elim
      (λ same. subst (PointsHold new) (sym same) (own_points (subst (PointsHold host) same hold)))
      (λ apart. other_points number apart hold)
      (cases_eq number build)
