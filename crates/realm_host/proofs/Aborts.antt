-- Proofs that the undos of an abort or a rollback are never refused, and that an abort leaves nothing behind.
use Rattle.std.proofs.Common.{◌≡◌, ◌≢◌, ℕ, zero, suc, ◌+◌, ◌-◌, ◌<◌, ◌≤◌, Bool, true, false, ◌&&◌, cond, List, [], ◌∷◌, ◌++◌}
use Rattle.std.proofs.Common.{length, map, reverse, drop, set, Option, Some, None, refl, sym, ap, ◌∙◌, subst, arith, get_or}
use Rattle.std.specs.Prelude.{nat_le, nat_lt, option_and_then}
use Rattle.std.specs.List.{last_or, list_any}
use Rattle.std.proofs.lemmas.Bool.{or_parts, ltb-true, ltb-false, leb-false, lt-leb, lt-ltb}
use Rattle.std.proofs.lemmas.List.{append-nil, append_assoc, length-append, drop-append-le, reverse-append, get_or-set_same, get_or_past, set_past, set-get_or}
use Rattle.std.proofs.lemmas.List.Folds.{list_any-append}
use Rattle.realm_model.specs.declared.act.Act.{Act}
use Rattle.realm_model.specs.Act.{reverse_of}
use Rattle.realm_model.specs.Aborting.{IsAborting}
use Rattle.realm_model.specs.History.{erase, replay, IsLegal}
use Rattle.realm_model.specs.Running.{is_running, IsAtRest}
use Rattle.realm_model.specs.Undoing.{by, reverses, undoing}
use Rattle.realm_model.specs.World.{World, realm_of}
use Rattle.realm_model.proofs.Aborting.{abort_goes_on}
use Rattle.realm_model.proofs.AtRest.{not_running, none_run, none_run_still}
use Rattle.realm_model.proofs.Emptied.{emptied}
use Rattle.realm_model.proofs.LeftOut.{noninterference}
use Rattle.realm_model.proofs.Lists.{front, front_last}
use Rattle.realm_model.proofs.Progress.{undoable}
use Rattle.realm_model.proofs.Rests.{rest_is_of_all}
use Rattle.realm_model.proofs.Growth.{open_entries-own}
use Rattle.realm_model.proofs.Stack.{pushed_back}
use Rattle.realm_model.proofs.UndoAll.{erase_events}
use Rattle.realm_model.proofs.ZeroPages.{kept_reached}
use Rattle.host_ledger.specs.declared.mark.Mark.{Mark}
use Rattle.host_ledger.specs.Marks.{mark_while}
use Rattle.host_ledger.specs.View.{HostView, world_of, open_of, is_aborting, mark_of, with_event}
use Rattle.host_ledger.proofs.Worlds.{world_is, world_of-replay}
use Rattle.host_commands.specs.declared.refusal.Refusal.{Refusal}
use Rattle.host_commands.specs.declared.reply.Undone.{Undone}
use Rattle.realm_host.specs.Abort.{GoesOn, LeavesNothing, undone_to, IsDown}
use Rattle.realm_host.specs.Acting.{IsRecorded}
use Rattle.realm_host.specs.Answer.{IsUndone}
use Rattle.realm_host.specs.Call.{Undo}
use Rattle.realm_host.specs.Refusals.{refusal_of}
use Rattle.realm_host.proofs.Backward.{IsReverse, reverse_is}
use Rattle.realm_host.proofs.UndoAnswers.{not_refused}

-- ---- lists of acts

pub record Newest (acts : List Act) : Type 0 where
  pub act : Act
  pub is : last_or None acts ≡ Some act

-- a list of operations that is not empty has a last operation, the newest
newest_of : (acts : List Act) → 0 < length acts → Newest acts
newest_of [] some = absurd (omega arith)
newest_of (act ∷ acts) some = from act acts
  where
    from : (act : Act) (acts : List Act) → Newest (act ∷ acts)
    from act [] = record { act = act; is = refl }
    from act (next ∷ acts) = let rest = from next acts in record { act = rest.act; is = rest.is }

some_of : (acts : List Act) → acts ≢ [] → 0 < length acts
some_of [] not = absurd (not refl)
some_of (act ∷ acts) not = omega arith

none_of : (acts : List Act) → length acts ≡ 0 → acts ≡ []
none_of [] none = refl
none_of (act ∷ acts) none = absurd (omega (arith, none))

drop_all : (count : ℕ) (acts : List Act) → length acts ≤ count → drop count acts ≡ []
drop_all zero [] few = refl
drop_all (suc count) [] few = refl
drop_all zero (act ∷ acts) few = absurd (omega (arith, few))
drop_all (suc count) (act ∷ acts) few = drop_all count acts (omega (arith, few))

-- ---- a build at rest

module _ (host : HostView) (legal : IsLegal host.limits host.history) (build : ℕ) (rest : IsAtRest (realm_of build (world_of host))) where
  -- if no REC of the build's realm runs, none of the given operations created a REC that runs
  pub rests_all : (acts : List Act) → list_any (is_running (realm_of build (world_of host))) acts ≡ false
  rests_all acts =
      none_run (realm_of build (world_of host)) acts ((rest_is_of_all host.limits host.history build (world_of host) (world_is host legal)).0 rest)

  -- if no REC of the build runs, and all events of the build after those of `host` are reverses, no undo of the build
  -- is refused until nothing is open
  pub goes_on : build < host.limits.builds → GoesOn host build
  goes_on there later then limits history legal_then all some =
      let at_host = world_is host legal in
      let legal_later : IsLegal host.limits (host.history ++ later) =
      subst (IsLegal host.limits) history (subst (λ l. IsLegal l then.history) limits legal_then) in
      let at_then : replay host.limits (host.history ++ later) ≡ Some (world_of then) =
      (λ i. replay (sym limits i) (sym history i)) ∙ world_is then legal_then in
      let aborts : IsAborting host.limits host.history later build (world_of then) =
      abort_goes_on host.limits host.history later build (world_of host) (world_of then) legal_later at_host at_then rest all in
      let rests = (rest_is_of_all host.limits (host.history ++ later) build (world_of then) at_then).0 aborts.rest in
      let newest = newest_of (open_of then build) (some_of (open_of then build) some) in
      not_refused then build (subst (λ l. build < l) (ap (λ l. l.builds) (sym limits)) there) newest.act newest.is
      (not_running (realm_of build (world_of then)) rests newest.act)

-- ---- nothing is left

module _ (host new : HostView) (build : ℕ) (legal : IsLegal new.limits new.history) (history : new.history ≡ host.history ++ undoing build host.history)
    (none : open_of new build ≡ []) where
  pub leaves_nothing : LeavesNothing host build new
  leaves_nothing = record {
    history = history;
    same_others = ap (erase build) history ∙ erase_events build host.history (reverse (open_of host build));
    legal = (noninterference new.limits new.history build legal).0;
    no_trace = emptied new.limits build new.history (world_of new) legal (world_is new legal) none;
  }

-- ---- one place of a list, written twice

set_twice : {X : Type 0} (xs : List X) (place : ℕ) (x y : X) → set (set xs place x) place y ≡ set xs place y
set_twice [] place x y = refl
set_twice (z ∷ xs) zero x y = refl
set_twice (z ∷ xs) (suc place) x y = ap (λ ys. z ∷ ys) (set_twice xs place x y)

module _ {X : Type 0} (d : X) (then : ℕ → X → X) (lower : (k count : ℕ) (x : X) → count ≤ k → then count (then k x) ≡ then count x) where
  -- on an item of a list, as on a single value, `then k` followed by `then count` is the same as `then count` alone,
  -- for `count` up to `k`
  pub written_on : (xs : List X) (place k count : ℕ) → count ≤ k
      → set (set xs place (then k (get_or xs place d))) place (then count (get_or (set xs place (then k (get_or xs place d))) place d)) ≡ set xs place (then count (get_or xs place d))
  written_on xs place k count fewer = at (nat_lt place (length xs)) refl
    where
      first : X
      first = then k (get_or xs place d)

      at : (t : Bool) → nat_lt place (length xs) ≡ t
          → set (set xs place (then k (get_or xs place d))) place (then count (get_or (set xs place (then k (get_or xs place d))) place d)) ≡ set xs place (then count (get_or xs place d))
      at true there =
          set_twice xs place (then k (get_or xs place d)) _
          ∙ ap (set xs place) (ap (then count) (get_or-set_same xs place (then k (get_or xs place d)) d (ltb-true place (length xs) there)) ∙ lower k count (get_or xs place d) fewer)
      at false past =
          let outside = ltb-false place (length xs) past in
          set_twice xs place (then k (get_or xs place d)) _ ∙ set_past xs place _ outside ∙ sym (set_past xs place (then count (get_or xs place d)) outside)

abbrev flag_at : ℕ → Bool → Bool
flag_at count flag = flag && nat_lt 0 count

flag_lower : (k count : ℕ) (flag : Bool) → count ≤ k → flag_at count (flag_at k flag) ≡ flag_at count flag
flag_lower k zero true fewer = none (nat_lt 0 k)
  where
    none : (t : Bool) → (t && false) ≡ false
    none true = refl
    none false = refl
flag_lower k zero false fewer = refl
flag_lower zero (suc count) flag fewer = absurd (omega (arith, fewer))
flag_lower (suc k) (suc count) true fewer = ap (λ t. t && nat_lt 0 (suc count)) (lt-ltb 0 (suc k) (omega arith))
flag_lower (suc k) (suc count) false fewer = refl

pub while_lower : (k count : ℕ) (mark : Option Mark) → count ≤ k → mark_while count (mark_while k mark) ≡ mark_while count mark
while_lower k count None fewer = refl
while_lower k count (Some mark) fewer = at (nat_le mark.length k) refl
  where
    at : (t : Bool) → nat_le mark.length k ≡ t → mark_while count (mark_while k (Some mark)) ≡ mark_while count (Some mark)
    at true fits = ap (λ t. mark_while count (cond t (Some mark) None)) fits
    at false over =
        let above = leb-false mark.length k over in
        ap (λ t. mark_while count (cond t (Some mark) None)) over ∙ sym (ap (λ t. cond t (Some mark) None) (lt-leb mark.length count (omega (arith, above, fewer))))

-- ---- aborts and marks after an event

module _ (host : HostView) (build : ℕ) (act : Act) where
  abbrev opened : ℕ
  opened = length (open_of (with_event host build act) build)

  -- after `act` is recorded, the build is not in abort if nothing of the build is open
  pub open_in_abort : opened ≡ 0 → is_aborting (with_event host build act) build ≡ false
  open_in_abort none = at (nat_lt build (length host.aborting)) refl
    where
      at : (t : Bool) → nat_lt build (length host.aborting) ≡ t → is_aborting (with_event host build act) build ≡ false
      at true there =
          get_or-set_same host.aborting build (flag_at opened (is_aborting host build)) false (ltb-true build (length host.aborting) there)
          ∙ ap (λ n. flag_at n (is_aborting host build)) none ∙ and_false (is_aborting host build)
        where
          and_false : (t : Bool) → (t && false) ≡ false
          and_false true = refl
          and_false false = refl
      at false past =
          let outside = ltb-false build (length host.aborting) past in
          ap (λ (flags : List Bool). get_or flags build false) (set_past host.aborting build _ outside) ∙ get_or_past host.aborting build false outside

  -- after `act` is recorded, the build has at least as many open operations as at its mark, if the build has a mark
  pub mark_low : mark_while opened (mark_of (with_event host build act) build) ≡ mark_of (with_event host build act) build
  mark_low = at (nat_lt build (length host.marks)) refl
    where
      at : (t : Bool) → nat_lt build (length host.marks) ≡ t → mark_while opened (mark_of (with_event host build act) build) ≡ mark_of (with_event host build act) build
      at true there =
          let is = get_or-set_same host.marks build (mark_while opened (mark_of host build)) None (ltb-true build (length host.marks) there) in
          ap (mark_while opened) is ∙ while_lower opened opened (mark_of host build) (omega arith) ∙ sym is
      at false past =
          let outside = ltb-false build (length host.marks) past in
          let is : mark_of (with_event host build act) build ≡ None =
          ap (λ (marks : List (Option Mark)). get_or marks build None) (set_past host.marks build _ outside) ∙ get_or_past host.marks build None outside in
          ap (mark_while opened) is ∙ sym is

-- ---- one act after another

module _ (host : HostView) (legal : IsLegal host.limits host.history) (build count : ℕ) (more : count < length (open_of host build))
    (rests : list_any (is_running (realm_of build (world_of host))) (drop count (open_of host build)) ≡ false) where
  abbrev world : World
  world = world_of host

  pub newest : Newest (open_of host build)
  newest = newest_of (open_of host build) (omega arith)

  abbrev below : List Act
  below = front (open_of host build)

  split_is : below ++ newest.act ∷ [] ≡ open_of host build
  split_is = front_last (open_of host build) newest.act newest.is

  long : length (open_of host build) ≡ length below + 1
  long = ap length (sym split_is) ∙ length-append below (newest.act ∷ [])

  above_is : drop count (open_of host build) ≡ drop count below ++ newest.act ∷ []
  above_is = ap (drop count) (sym split_is) ∙ drop-append-le count below (newest.act ∷ []) (omega (arith, long))

  parts : (list_any (is_running (realm_of build world)) (drop count below) ≡ false) × (list_any (is_running (realm_of build world)) (newest.act ∷ []) ≡ false)
  parts =
      or_parts _ _ (sym (list_any-append (is_running (realm_of build world)) (drop count below) (newest.act ∷ []))
      ∙ ap (list_any (is_running (realm_of build world))) (sym above_is) ∙ rests)

  pub newest_rests : is_running (realm_of build world) newest.act ≡ false
  newest_rests = (or_parts _ _ parts.1).0

  pub served : build < host.limits.builds → refusal_of host build Undo ≡ None
  served there = not_refused host build there newest.act newest.is newest_rests

  module _ (back : Act) (back_is : reverse_of newest.act ≡ Some back) where
    abbrev new : HostView
    new = with_event host build back

    done : Rattle.realm_model.proofs.Progress.CanUndo host.limits host.history world build back
    done = undoable host.limits build host.history world newest.act back legal (world_is host legal) newest.is back_is newest_rests

    backward : IsReverse back
    backward = reverse_is newest.act back back_is

    world_after : world_of new ≡ done.world
    world_after = world_of-replay new done.world done.grown.world_is

    pub open_after : open_of new build ≡ below
    open_after = open_entries-own host.history (by build back) ∙ pushed_back (open_of host build) back backward.unpaired backward.reverse

    pub long_after : length (open_of host build) ≡ length (open_of new build) + 1
    long_after = long ∙ ap (λ (acts : List Act). length acts + 1) (sym open_after)

    reverses_are : back ∷ reverses (reverse (drop count (open_of new build))) ≡ reverses (reverse (drop count (open_of host build)))
    reverses_are =
        ap (λ (acts : List Act). back ∷ reverses (reverse (drop count acts))) open_after
        ∙ sym (ap reverses (ap reverse above_is ∙ reverse-append (drop count below) (newest.act ∷ []))
        ∙ ap (λ (o : Option Act). elim o [ Some r ↦ r ∷ reverses (reverse (drop count below)) | None ↦ reverses (reverse (drop count below)) ]) back_is)

    -- undoing down to `count` operations leads to the same host, whether it begins before or after the next undo
    pub same_end : undone_to new build count ≡ undone_to host build count
    same_end =
        let fewer : count ≤ length (open_of new build) = omega (arith, long_after) in
        λ i. record host {
          history = (append_assoc host.history (by build back ∷ []) (map (by build) (reverses (reverse (drop count (open_of new build)))))
              ∙ ap (λ (acts : List Act). host.history ++ map (by build) acts) reverses_are) i;
          aborting = written_on false flag_at flag_lower host.aborting build (length (open_of new build)) count fewer i;
          marks = written_on None mark_while while_lower host.marks build (length (open_of new build)) count fewer i;
        }

    pub rests_after : list_any (is_running (realm_of build (world_of new))) (drop count (open_of new build)) ≡ false
    rests_after =
        ap (λ (acts : List Act). list_any (is_running (realm_of build (world_of new))) (drop count acts)) open_after
        ∙ ap (λ (w : World). list_any (is_running (realm_of build w)) (drop count below)) world_after
        ∙ none_run_still host.limits build world done.world (kept_reached host.limits build host.history world (world_is host legal))
        (kept_reached host.limits build new.history done.world done.grown.world_is) back backward.reverse done.stepped (drop count below) parts.0

-- ---- the last act that is open

module _ (host : HostView) (legal : IsLegal host.limits host.history) (build : ℕ) (newest back : Act) (newest_is : last_or None (open_of host build) ≡ Some newest)
    (back_is : reverse_of newest ≡ Some back) (last : length (open_of host build) - 1 ≡ 0) (new : HostView) (recorded : IsRecorded host build back new) where
  abbrev rest : List Act
  rest = front (open_of host build)

  whole_is : rest ++ newest ∷ [] ≡ open_of host build
  whole_is = front_last (open_of host build) newest newest_is

  none_below : rest ≡ []
  none_below = let one = ap length (sym whole_is) ∙ length-append rest (newest ∷ []) in none_of rest (omega (arith, one, last))

  one_open : open_of host build ≡ newest ∷ []
  one_open = sym whole_is ∙ ap (λ (acts : List Act). acts ++ newest ∷ []) none_below

  none_after : open_of new build ≡ []
  none_after =
      let is = reverse_is newest back back_is in
      ap (λ (h : HostView). open_of h build) recorded.grows
      ∙ open_entries-own host.history (by build back) ∙ pushed_back (open_of host build) back is.unpaired is.reverse ∙ none_below

  undoing_is : undoing build host.history ≡ by build back ∷ []
  undoing_is =
      ap (λ (acts : List Act). map (by build) (reverses (reverse acts))) one_open
      ∙ ap (λ (o : Option Act). map (by build) (elim o [ Some r ↦ r ∷ [] | None ↦ [] ])) back_is

  pub last_undone : LeavesNothing host build new
  last_undone =
      leaves_nothing host new build
      (subst (λ (h : HostView). IsLegal h.limits h.history) (sym recorded.grows) recorded.legal)
      (ap (λ (h : HostView). h.history) recorded.grows ∙ ap (λ es. host.history ++ es) (sym undoing_is))
      none_after

-- ---- all the way down

-- the invariant while a build's operations are undone down to `count`: undoing the rest leads from `host` to the same
-- end as from `old`
pub record IsGoingDown (old : HostView) (build count counter : ℕ) (host : HostView) : Type 0 where
  pub there : build < host.limits.builds
  pub legal : IsLegal host.limits host.history
  pub end : undone_to host build count ≡ undone_to old build count
  pub opened : length (open_of host build) + counter ≡ length (open_of old build) + count
  pub rests : list_any (is_running (realm_of build (world_of host))) (drop count (open_of host build)) ≡ false
  pub low : mark_while (length (open_of host build)) (mark_of host build) ≡ mark_of host build
  pub idle : length (open_of host build) ≡ 0 → is_aborting host build ≡ false

module _ (old host new : HostView) (build count counter : ℕ) (down : IsGoingDown old build count counter host) (further : counter < length (open_of old build)) where
  abbrev more : count < length (open_of host build)
  more = let opened = down.opened in omega (arith, opened, further)

  -- the next undo is never refused
  pub never_refused : (refusal : Refusal) → refusal_of host build Undo ≡ Some refusal → ⊥
  never_refused refusal e =
      let none = served host down.legal build count more down.rests down.there in
      let bad : None ≡ Some refusal = sym none ∙ e in cc

  -- the invariant still holds after the next undo, with the counter one higher
  pub goes_down : (done : Undone) → IsUndone host build done new → IsGoingDown old build count (counter + 1) new
  goes_down done is = subst (IsGoingDown old build count (counter + 1)) (sym is.accepted.grows) (record {
    there = down.there;
    legal = is.accepted.legal;
    end = same_end host down.legal build count more down.rests is.act back ∙ down.end;
    opened = let opened = down.opened in let long = long_after host down.legal build count more down.rests is.act back in omega (arith, opened, long);
    rests = rests_after host down.legal build count more down.rests is.act back;
    low = mark_low host build is.act;
    idle = open_in_abort host build is.act;
  })
    where
      back : reverse_of (newest host down.legal build count more down.rests).act ≡ Some is.act
      back =
          ap (option_and_then reverse_of) (sym (newest host down.legal build count more down.rests).is) ∙ is.accepted.act_of

module _ (old host : HostView) (build count counter : ℕ) (down : IsGoingDown old build count counter host) (enough : count ≤ length (open_of old build))
    (over : length (open_of old build) ≡ counter) where
  opened_is : length (open_of host build) ≡ count
  opened_is = let opened = down.opened in omega (arith, opened, over)

  -- once only `count` operations are open, undoing down to `count` operations changes nothing
  at_end : undone_to host build count ≡ host
  at_end = λ i. record host {
    history = (ap (λ (acts : List Act). host.history ++ map (by build) (reverses (reverse acts))) (drop_all count (open_of host build) (omega (arith, opened_is)))
        ∙ append-nil host.history) i;
    aborting = (ap (set host.aborting build) (flag_same count (is_aborting host build) (λ none. down.idle (opened_is ∙ none))) ∙ set-get_or host.aborting build false) i;
    marks = (ap (set host.marks build) (ap (λ n. mark_while n (mark_of host build)) (sym opened_is) ∙ down.low) ∙ set-get_or host.marks build None) i;
  }
    where
      flag_same : (n : ℕ) (flag : Bool) → (n ≡ 0 → flag ≡ false) → flag_at n flag ≡ flag
      flag_same n false idle = refl
      flag_same zero true idle = sym (idle refl)
      flag_same (suc n) true idle = lt-ltb 0 (suc n) (omega arith)

  pub is_down : IsDown old build count host
  is_down = record {
    new_is = sym at_end ∙ down.end;
    legal = down.legal;
    opened = opened_is;
  }
