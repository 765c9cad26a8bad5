-- Proofs that an abort leaves nothing behind while other builds go on.
use Rattle.std.proofs.Common.{◌≡◌, ◌≢◌, ℕ, ◌+◌, ◌<◌, Bool, true, false, ◌&&◌, cond, eqb, List, [], ◌∷◌, ◌++◌, length, map, reverse, get_or, set, Option, Some, None, Result, Ok, Err, refl, sym, ap, ◌∙◌, subst, arith}
use Rattle.std.specs.Prelude.{nat_le, nat_lt, option_and_then}
use Rattle.std.specs.List.{All, last_or}
use Rattle.std.proofs.lemmas.Bool.{eqb-true, eqb-false, ltb-true, ltb-false, leb-false}
use Rattle.std.proofs.lemmas.List.{append-nil, append_assoc, length-append, get_or-set_same, get_or-set_other, get_or_past}
use Rattle.std.proofs.lemmas.List.Elements.{All-append, All-nil, All-cons}
use Rattle.realm_model.specs.declared.act.Act.{Act}
use Rattle.realm_model.specs.declared.act.Event.{Event}
use Rattle.realm_model.specs.Act.{is_reverse, reverse_of}
use Rattle.realm_model.specs.Aborting.{IsAborting, IsOthersOrReverse}
use Rattle.realm_model.specs.History.{replay, open_entries, IsLegal}
use Rattle.realm_model.specs.Undoing.{by, reverses, undoing}
use Rattle.realm_model.specs.Running.{running_count, IsAtRest}
use Rattle.realm_model.specs.World.{realm_of}
use Rattle.realm_model.proofs.Aborting.{abort_goes_on}
use Rattle.realm_model.proofs.Growth.{open_entries-own, open_entries-other}
use Rattle.realm_model.proofs.LeftOut.{noninterference}
use Rattle.realm_model.proofs.Lists.{front, front_last}
use Rattle.realm_model.proofs.Stack.{pushed_back}
use Rattle.realm_model.proofs.UndoAll.{undone}
use Rattle.host_ledger.specs.declared.mark.Mark.{Mark}
use Rattle.host_ledger.specs.Summary.{summary_of}
use Rattle.host_ledger.specs.View.{HostView, world_of, open_of, is_aborting, with_event, with_mark}
use Rattle.host_ledger.proofs.Worlds.{world_is}
use Rattle.host_commands.specs.declared.cmd.Cmd.{Cmd}
use Rattle.host_commands.specs.declared.reply.Undone.{Undone}
use Rattle.host_commands.specs.declared.refusal.Refusal.{Refusal}
use Rattle.host_commands.specs.declared.refusal.Refusal.TheVariants.{NoBuild, Aborting, RecRunning}
use Rattle.host_commands.specs.Checks.{Check, build_checks, checks_of, first_that_holds}
use Rattle.realm_host.specs.declared.command.HostAnswer.{HostAnswer}
use Rattle.realm_host.specs.declared.command.HostAnswer.TheVariants.{Replied, Undone as WasUndone, Refused}
use Rattle.realm_host.specs.Abort.{undone_to, IsBegun, IsAbortAnswer}
use Rattle.realm_host.specs.Answer.{IsAnswer, IsUndone}
use Rattle.realm_host.specs.Call.{Call, Ask, Undo}
use Rattle.realm_host.specs.Marked.{IsMarked, IsBackAnswer}
use Rattle.realm_host.specs.Refusals.{refusal_of}
use Rattle.realm_host.specs.Served.{any_rec_running}
use Rattle.realm_host.specs.Sharing.{AnsweredCall, Calls, Begins, Aborts, Marks, GoesBack, Applies, IsApplyAnswer, IsAnsweredSo, MayBeAsked, AreWhileAborting, IsInAbortSince}
use Rattle.realm_host.proofs.Aborts.{goes_on}
use Rattle.realm_host.proofs.Backward.{reverse_is}
use Rattle.realm_host.proofs.Calls.{passed_parts}

-- ---- what a build in abort may do

-- if a list of checks that begins with those for `NoBuild` and `Aborting` gives no refusal, the build is not in abort
not_aborting : (host : HostView) (build : ℕ) (rest : Option Refusal) → cond (nat_le host.limits.builds build) (Some NoBuild) (cond (is_aborting host build) (Some Aborting) rest) ≡ None
    → is_aborting host build ≡ false
not_aborting host build rest none =
    let there = passed_parts (nat_le host.limits.builds build) NoBuild _ none in
    (passed_parts (is_aborting host build) Aborting rest there.1).0

reversed : (newest : Option Act) (back : Act) → option_and_then reverse_of newest ≡ Some back → is_reverse back ≡ true
reversed None back e = cc
reversed (Some act) back e = (reverse_is act back e).reverse

-- the events that undo a build's operations are all reverses
own_reverses : (build : ℕ) (acts : List Act) → All (IsOthersOrReverse build) (map (by build) (reverses acts))
own_reverses build [] = All-nil (IsOthersOrReverse build)
own_reverses build (act ∷ acts) = at (reverse_of act) refl (own_reverses build acts)
  where
    at : (back : Option Act) → reverse_of act ≡ back → All (IsOthersOrReverse build) (map (by build) (reverses acts))
        → All (IsOthersOrReverse build) (map (by build) (elim back [ Some r ↦ r ∷ reverses acts | None ↦ reverses acts ]))
    at None is rest = rest
    at (Some r) is rest = All-cons (IsOthersOrReverse build) (by build r) (map (by build) (reverses acts)) (λ mine. (reverse_is act r is).reverse) rest

-- the events of another build all satisfy `IsOthersOrReverse`
all_others : (build other : ℕ) (acts : List Act) → other ≢ build → All (IsOthersOrReverse build) (map (by other) acts)
all_others build other [] not = All-nil (IsOthersOrReverse build)
all_others build other (act ∷ acts) not = All-cons (IsOthersOrReverse build) (by other act) (map (by other) acts) (λ mine. absurd (not mine)) (all_others build other acts not)

-- if a list of checks that ends with the check for running RECs gives no refusal, no REC of the build runs
at_rest : (host : HostView) (build : ℕ) (checks : List Check) → first_that_holds (checks ++ any_rec_running host build ∷ []) ≡ None → IsAtRest (realm_of build (world_of host))
at_rest host build [] none =
    let rests = (passed_parts (nat_lt 0 (running_count (realm_of build (world_of host)))) RecRunning None none).0 in
    let few = ltb-false 0 (running_count (realm_of build (world_of host))) rests in
    omega arith
at_rest host build (check ∷ checks) none = at_rest host build checks (passed_parts check.0 check.1 _ none).1

-- ---- flags

-- if a build's abort flag is set in a list of flags, the list is long enough to have that flag
flag_there : (flags : List Bool) (build : ℕ) → get_or flags build false ≡ true → build < length flags
flag_there flags build set = at (nat_lt build (length flags)) refl
  where
    at : (t : Bool) → nat_lt build (length flags) ≡ t → build < length flags
    at true there = ltb-true build (length flags) there
    at false past =
        let none = get_or_past flags build false (ltb-false build (length flags) past) in
        absurd (let no : true ≡ false = sym set ∙ none in cc)

-- ---- on the way

-- a build has something open
abbrev HasOpen : HostView → ℕ → Bool
HasOpen host build = nat_lt 0 (length (open_of host build))

-- operations of another build do not change the open operations of a build
others_open : (build other : ℕ) (history : List Event) (acts : List Act) → other ≢ build → open_entries build (history ++ map (by other) acts) ≡ open_entries build history
others_open build other history [] not = ap (open_entries build) (append-nil history)
others_open build other history (act ∷ acts) not =
    ap (open_entries build) (sym (append_assoc history (by other act ∷ []) (map (by other) acts)))
    ∙ others_open build other (history ++ by other act ∷ []) acts not
    ∙ open_entries-other build history (by other act) not

-- the invariant that calls keep from the begin of the build's abort at the host `old` to its end; no recorded operation
-- is applied for the build meanwhile
pub record Going (old : HostView) (build : ℕ) (host : HostView) : Type 0 where
  pub there : build < old.limits.builds
  pub rest : IsAtRest (realm_of build (world_of old))
  pub limits : host.limits ≡ old.limits
  pub later : List Event
  pub since : host.history ≡ old.history ++ later
  pub reverses : All (IsOthersOrReverse build) later
  pub in_abort : is_aborting host build ≡ HasOpen host build

module _ (old : HostView) (build : ℕ) (host : HostView) (since : Going old build host) (aborts : is_aborting host build ≡ true) where
  -- ---- one host after another

  led : (new : HostView) (more : List Event) → new.limits ≡ host.limits → new.history ≡ host.history ++ more → All (IsOthersOrReverse build) more
      → is_aborting new build ≡ HasOpen new build → Going old build new
  led new more limits history all in_abort = record {
    there = since.there;
    rest = since.rest;
    limits = limits ∙ since.limits;
    later = since.later ++ more;
    since = history ∙ ap (λ (es : List Event). es ++ more) since.since ∙ append_assoc old.history since.later more;
    reverses = All-append (IsOthersOrReverse build) since.later more since.reverses all;
    in_abort = in_abort;
  }

  unchanged : (new : HostView) → new ≡ host → Going old build new
  unchanged new same = subst (Going old build) (sym same) since

  -- if a call writes only another build's abort flag and leaves the build's open operations alone, the build is in
  -- abort exactly if it has something open
  still : (other : ℕ) (flag : Bool) (new : HostView) → other ≢ build → new.aborting ≡ set host.aborting other flag → open_of new build ≡ open_of host build
      → is_aborting new build ≡ HasOpen new build
  still other flag new not flags opened =
      ap (λ (fs : List Bool). get_or fs build false) flags ∙ get_or-set_other host.aborting other build flag false (λ same. not (sym same))
      ∙ since.in_abort ∙ ap (λ acts. nat_lt 0 (length acts)) (sym opened)

  -- ---- one event

  own_flag : (act : Act) → is_aborting (with_event host build act) build ≡ HasOpen (with_event host build act) build
  own_flag act =
      let opened : Bool = HasOpen (with_event host build act) build in
      get_or-set_same host.aborting build (is_aborting host build && opened) false (flag_there host.aborting build aborts) ∙ ap (λ t. t && opened) aborts

  flag_after : (other : ℕ) (act : Act) → is_aborting (with_event host other act) build ≡ HasOpen (with_event host other act) build
  flag_after other act = at (eqb other build) refl
    where
      at : (t : Bool) → eqb other build ≡ t → is_aborting (with_event host other act) build ≡ HasOpen (with_event host other act) build
      at true same =
          subst (λ b. is_aborting (with_event host b act) build ≡ HasOpen (with_event host b act) build) (sym (eqb-true other build same)) (own_flag act)
      at false differs =
          let not = eqb-false other build differs in
          still other _ (with_event host other act) not refl (open_entries-other build host.history (by other act) not)

  with_one : (other : ℕ) (act : Act) (new : HostView) → new ≡ with_event host other act → IsOthersOrReverse build (by other act) → Going old build new
  with_one other act new is allowed =
      subst (Going old build) (sym is) (led (with_event host other act) (by other act ∷ []) refl refl (All-cons (IsOthersOrReverse build) (by other act) [] allowed (All-nil (IsOthersOrReverse build))) (flag_after other act))

  -- ---- calls

  -- a build that is not in abort is another build than the one in abort
  own_refused : (other : ℕ) → is_aborting host other ≡ false → other ≢ build
  own_refused other out same = let no : true ≡ false = sym aborts ∙ ap (is_aborting host) (sym same) ∙ out in cc

  asked : (other : ℕ) (cmd : Cmd) → refusal_of host other (Ask cmd) ≡ None → is_aborting host other ≡ false
  unfolding refusal_of checks_of
  asked other cmd none = not_aborting host other _ none

  after_call : (other : ℕ) (call : Call) (answer : HostAnswer) (new : HostView) → IsAnswer host other call answer new → Going old build new
  after_call other call (Refused refusal) new (refused, same) = unchanged new same
  after_call other (Ask cmd) (Replied reply) new replied =
      with_one other replied.act new replied.accepted.grows (λ mine. absurd (own_refused other (asked other cmd replied.accepted.not_refused) mine))
  after_call other (Ask cmd) (WasUndone undone) new none = absurd none
  after_call other Undo (Replied reply) new none = absurd none
  after_call other Undo (WasUndone undone) new done =
      with_one other done.act new done.accepted.grows (λ mine. reversed (last_or None (open_of host other)) done.act done.accepted.act_of)

  -- the invariant is kept by calls that append events of another build and write that build's abort flag
  after_others : (other : ℕ) (new : HostView) (acts : List Act) (flag : Bool) → other ≢ build → new.limits ≡ host.limits → new.history ≡ host.history ++ map (by other) acts
      → new.aborting ≡ set host.aborting other flag → Going old build new
  after_others other new acts flag not limits history flags =
      led new (map (by other) acts) limits history (all_others build other acts not)
      (still other flag new not flags (ap (open_entries build) history ∙ others_open build other host.history acts not))

  after_begin : (other : ℕ) (result : Result ℕ Refusal) (new : HostView) → IsBegun host other result new → Going old build new
  after_begin other (Err refusal) new (refused, same) = unchanged new same
  after_begin other (Ok count) new (none, is) =
      after_others other new [] _ (own_refused other (not_aborting host other _ none)) (ap (λ (h : HostView). h.limits) is.new_is)
      (ap (λ (h : HostView). h.history) is.new_is ∙ sym (append-nil host.history)) (ap (λ (h : HostView). h.aborting) is.new_is)

  after_mark : (other : ℕ) (result : Result Mark Refusal) (new : HostView) → IsMarked host other result new → Going old build new
  after_mark other (Err refusal) new (refused, same) = unchanged new same
  after_mark other (Ok mark) new (none, is) =
      subst (Going old build) (sym is.new_is)
      (led (with_mark host other mark) [] refl (sym (append-nil host.history)) (All-nil (IsOthersOrReverse build)) since.in_abort)

  after_back : (other : ℕ) (mark : Mark) (result : Result ℕ Refusal) (new : HostView) → IsBackAnswer host other mark result new → Going old build new
  after_back other mark (Err refusal) new (refused, same) = unchanged new same
  after_back other mark (Ok count) new (none, is) =
      after_others other new _ _ (own_refused other (not_aborting host other _ none)) (ap (λ (h : HostView). h.limits) is.new_is)
      (ap (λ (h : HostView). h.history) is.new_is) (ap (λ (h : HostView). h.aborting) is.new_is)

  -- the invariant is kept by one call that undoes all of the build's open operations
  own_abort : (count : ℕ) (new : HostView) → IsLegal host.limits host.history → IsAbortAnswer host build (Ok count) new → Going old build new
  own_abort count new legal (none, is) =
      let rests = at_rest host build [] (passed_parts (nat_le host.limits.builds build) NoBuild _ none).1 in
      let all = undone host.limits host.history build (world_of host) legal (world_is host legal) rests in
      subst (Going old build) (sym is.new_is)
      (led (undone_to host build 0) (undoing build host.history) refl refl (own_reverses build (reverse (open_of host build)))
      (subst (λ (h : HostView). is_aborting h build ≡ false) is.new_is is.over ∙ sym (ap (λ acts. nat_lt 0 (length acts)) all.none_open)))

  others_abort : (other count : ℕ) (new : HostView) → other ≢ build → IsAbortAnswer host other (Ok count) new → Going old build new
  others_abort other count new not (none, is) =
      after_others other new _ _ not (ap (λ (h : HostView). h.limits) is.new_is) (ap (λ (h : HostView). h.history) is.new_is) (ap (λ (h : HostView). h.aborting) is.new_is)

  after_abort : (other : ℕ) (result : Result ℕ Refusal) (new : HostView) → IsLegal host.limits host.history → IsAbortAnswer host other result new → Going old build new
  after_abort other (Err refusal) new legal (refused, same) = unchanged new same
  after_abort other (Ok count) new legal aborted = at (eqb other build) refl
    where
      at : (t : Bool) → eqb other build ≡ t → Going old build new
      at true same = own_abort count new legal (subst (λ b. IsAbortAnswer host b (Ok count) new) (eqb-true other build same) aborted)
      at false differs = others_abort other count new (eqb-false other build differs) aborted

  after_apply : (other : ℕ) (act : Act) (result : Bool) (new : HostView) → other ≢ build → IsApplyAnswer host other act result new → Going old build new
  after_apply other act false new not is = unchanged new is.unchanged
  after_apply other act true new not is = with_one other act new is.applied (λ mine. absurd (not mine))

  after_answer : (other : ℕ) (call : AnsweredCall) (new : HostView) → MayBeAsked build other call → IsLegal host.limits host.history → IsAnsweredSo host other call new
      → Going old build new
  after_answer other (Calls call answer) new may legal is = after_call other call answer new is
  after_answer other (Begins result) new may legal is = after_begin other result new is
  after_answer other (Aborts result) new may legal is = after_abort other result new legal is
  after_answer other (Marks result) new may legal is = after_mark other result new is
  after_answer other (GoesBack mark result) new may legal is = after_back other mark result new is
  after_answer other (Applies act result) new not legal is = after_apply other act result new not is

-- ---- what is legal stays so

module _ (host : HostView) (build : ℕ) (legal : IsLegal host.limits host.history) where
  abbrev IsLegalStill : HostView → Type 0
  IsLegalStill new = IsLegal new.limits new.history

  still_legal : (new : HostView) → new ≡ host → IsLegalStill new
  still_legal new same = subst IsLegalStill (sym same) legal

  legal_event : (act : Act) (new : HostView) → IsLegal host.limits (host.history ++ by build act ∷ []) → new ≡ with_event host build act → IsLegalStill new
  legal_event act new then is = subst IsLegalStill (sym is) then

  legal_call : (call : Call) (answer : HostAnswer) (new : HostView) → IsAnswer host build call answer new → IsLegalStill new
  legal_call call (Refused refusal) new (refused, same) = still_legal new same
  legal_call (Ask cmd) (Replied reply) new replied = legal_event replied.act new replied.accepted.legal replied.accepted.grows
  legal_call (Ask cmd) (WasUndone undone) new none = absurd none
  legal_call Undo (Replied reply) new none = absurd none
  legal_call Undo (WasUndone undone) new done = legal_event done.act new done.accepted.legal done.accepted.grows

  legal_abort : (count : ℕ) (new : HostView) → IsAbortAnswer host build (Ok count) new → IsLegalStill new
  legal_abort count new (none, is) =
      let rests = at_rest host build [] (passed_parts (nat_le host.limits.builds build) NoBuild _ none).1 in
      subst IsLegalStill (sym is.new_is) (undone host.limits host.history build (world_of host) legal (world_is host legal) rests).legal

  legal_back : (mark : Mark) (count : ℕ) (new : HostView) → IsBackAnswer host build mark (Ok count) new → IsLegalStill new
  legal_back mark count new (none, is) =
      let limits : new.limits ≡ host.limits = ap (λ (h : HostView). h.limits) is.new_is in
      subst (λ l. IsLegal l new.history) (sym limits) (subst (IsLegal host.limits) (sym is.history) is.rolled_back.legal)

  pub legal_answer : (call : AnsweredCall) (new : HostView) → IsAnsweredSo host build call new → IsLegalStill new
  legal_answer (Calls call answer) new is = legal_call call answer new is
  legal_answer (Begins (Err refusal)) new (refused, same) = still_legal new same
  legal_answer (Begins (Ok count)) new (none, is) = subst IsLegalStill (sym is.new_is) legal
  legal_answer (Aborts (Err refusal)) new (refused, same) = still_legal new same
  legal_answer (Aborts (Ok count)) new is = legal_abort count new is
  legal_answer (Marks (Err refusal)) new (refused, same) = still_legal new same
  legal_answer (Marks (Ok mark)) new (none, is) = subst IsLegalStill (sym is.new_is) legal
  legal_answer (GoesBack mark (Err refusal)) new (refused, same) = still_legal new same
  legal_answer (GoesBack mark (Ok count)) new is = legal_back mark count new is
  legal_answer (Applies act false) new is = still_legal new is.unchanged
  legal_answer (Applies act true) new is = legal_event act new (is.answer.0 refl).legal is.applied

-- ---- calls of other builds, which open and undo nothing of the build

pub others_may : (build other : ℕ) → other ≢ build → (call : AnsweredCall) → MayBeAsked build other call
others_may build other not (Calls call answer) = tt
others_may build other not (Begins result) = tt
others_may build other not (Aborts result) = tt
others_may build other not (Marks result) = tt
others_may build other not (GoesBack mark result) = tt
others_may build other not (Applies act result) = not

module _ (host : HostView) (build other : ℕ) (not : other ≢ build) where
  abbrev OpenedAsBefore : HostView → Type 0
  OpenedAsBefore new = open_of new build ≡ open_of host build

  unchanged_open : (new : HostView) → new ≡ host → OpenedAsBefore new
  unchanged_open new same = ap (λ (h : HostView). open_of h build) same

  one_more : (act : Act) (new : HostView) → new ≡ with_event host other act → OpenedAsBefore new
  one_more act new is = ap (λ (h : HostView). open_of h build) is ∙ open_entries-other build host.history (by other act) not

  many_more : (acts : List Act) (new : HostView) → new.history ≡ host.history ++ map (by other) acts → OpenedAsBefore new
  many_more acts new is = ap (open_entries build) is ∙ others_open build other host.history acts not

  pub opened_by_others : (call : AnsweredCall) (new : HostView) → IsAnsweredSo host other call new → OpenedAsBefore new
  opened_by_others (Calls call (Refused refusal)) new (refused, same) = unchanged_open new same
  opened_by_others (Calls (Ask cmd) (Replied reply)) new replied = one_more replied.act new replied.accepted.grows
  opened_by_others (Calls (Ask cmd) (WasUndone undone)) new none = absurd none
  opened_by_others (Calls Undo (Replied reply)) new none = absurd none
  opened_by_others (Calls Undo (WasUndone undone)) new done = one_more done.act new done.accepted.grows
  opened_by_others (Begins (Err refusal)) new (refused, same) = unchanged_open new same
  opened_by_others (Begins (Ok count)) new (none, is) = ap (λ (h : HostView). open_of h build) is.new_is
  opened_by_others (Aborts (Err refusal)) new (refused, same) = unchanged_open new same
  opened_by_others (Aborts (Ok count)) new (none, is) = many_more _ new (ap (λ (h : HostView). h.history) is.new_is)
  opened_by_others (Marks (Err refusal)) new (refused, same) = unchanged_open new same
  opened_by_others (Marks (Ok mark)) new (none, is) = ap (λ (h : HostView). open_of h build) is.new_is
  opened_by_others (GoesBack mark (Err refusal)) new (refused, same) = unchanged_open new same
  opened_by_others (GoesBack mark (Ok count)) new (none, is) = many_more _ new (ap (λ (h : HostView). h.history) is.new_is)
  opened_by_others (Applies act false) new is = unchanged_open new is.unchanged
  opened_by_others (Applies act true) new is = one_more act new is.applied

-- if an optional operation has the reverse `back`, there is an operation, and `back` is its reverse
reversed_act : (newest : Option Act) (back : Act) → option_and_then reverse_of newest ≡ Some back → (act : Act) × (newest ≡ Some act) × (reverse_of act ≡ Some back)
reversed_act None back none = cc
reversed_act (Some act) back is = (act, refl, is)

-- after an undo, the build has one open operation fewer
pub one_less : (host : HostView) (build : ℕ) (undone : Undone) (new : HostView) → IsUndone host build undone new → length (open_of host build) ≡ length (open_of new build) + 1
one_less host build undone new is =
    let newest = reversed_act (last_or None (open_of host build)) is.act is.accepted.act_of in
    let back = reverse_is newest.0 is.act newest.2 in
    let opened : open_of new build ≡ front (open_of host build) =
    ap (λ (h : HostView). open_of h build) is.accepted.grows ∙ open_entries-own host.history (by build is.act) ∙ pushed_back (open_of host build) is.act back.unpaired back.reverse in
    ap length (sym (front_last (open_of host build) newest.0 newest.1)) ∙ length-append (front (open_of host build)) (newest.0 ∷ []) ∙ ap (λ (acts : List Act). length acts + 1) (sym opened)

-- ---- from the begin to the end

-- An abort began at the host `old`, and calls since have led to `host`.
pub record Reached (old : HostView) (build : ℕ) (host : HostView) : Type 0 where
  pub legal_old : IsLegal old.limits old.history
  pub going : Going old build host
  pub legal : IsLegal host.limits host.history

pub starts : (old new : HostView) (build count : ℕ) → IsLegal old.limits old.history → IsBegun old build (Ok count) new → Reached old build new
starts old new build count legal (none, is) = record {
  legal_old = legal;
  going = record {
    there = leb-false old.limits.builds build (passed_parts (nat_le old.limits.builds build) NoBuild _ none).0;
    rest = at_rest old build (build_checks (summary_of old) build) none;
    limits = ap (λ (h : HostView). h.limits) is.new_is;
    later = [];
    since = ap (λ (h : HostView). h.history) is.new_is ∙ sym (append-nil old.history);
    reverses = All-nil (IsOthersOrReverse build);
    in_abort = is.in_abort ∙ ap (nat_lt 0) is.count_is ∙ ap (λ (h : HostView). HasOpen h build) (sym is.new_is);
  };
  legal = subst (λ (h : HostView). IsLegal h.limits h.history) (sym is.new_is) legal;
}

module _ (old : HostView) (build : ℕ) (host : HostView) (reached : Reached old build host) where
  pub one_call : is_aborting host build ≡ true → (other : ℕ) (call : AnsweredCall) (new : HostView) → MayBeAsked build other call → IsAnsweredSo host other call new
      → Reached old build new
  one_call aborts other call new may is = record {
    legal_old = reached.legal_old;
    going = after_answer old build host reached.going aborts other call new may reached.legal is;
    legal = legal_answer host other reached.legal call new is;
  }

  pub served : open_of host build ≢ [] → refusal_of host build Undo ≡ None
  served =
      let going = reached.going in
      goes_on old reached.legal_old build going.rest going.there going.later host going.limits going.since reached.legal going.reverses

  ends : IsAborting old.limits old.history reached.going.later build (world_of host)
  ends =
      let going = reached.going in
      let legal_later : IsLegal old.limits (old.history ++ going.later) =
      subst (IsLegal old.limits) going.since (subst (λ l. IsLegal l host.history) going.limits reached.legal) in
      let at_host : replay old.limits (old.history ++ going.later) ≡ Some (world_of host) =
      (λ i. replay (sym going.limits i) (sym going.since i)) ∙ world_is host reached.legal in
      abort_goes_on old.limits old.history going.later build (world_of old) (world_of host) legal_later (world_is old reached.legal_old) at_host going.rest going.reverses

  in_abort_since : IsInAbortSince old build host
  in_abort_since = record {
    limits = reached.going.limits;
    later = reached.going.later;
    since = reached.going.since;
    reverses = reached.going.reverses;
    legal = reached.legal;
    in_abort = reached.going.in_abort;
    served = served;
    aborting = ends;
    legal_without = (noninterference host.limits host.history build reached.legal).0;
  }

all_calls : (old : HostView) (build : ℕ) (host : HostView) (calls : List (ℕ × AnsweredCall)) (new : HostView) → Reached old build host → AreWhileAborting build host calls new
    → Reached old build new
all_calls old build host [] new reached same = subst (Reached old build) (sym same) reached
all_calls old build host ((other, call) ∷ calls) new reached (aborts, may, (then, (is, meanwhile))) =
    all_calls old build then calls new (one_call old build host reached aborts other call then may is) meanwhile

pub shared : (old begun host : HostView) (build count : ℕ) (calls : List (ℕ × AnsweredCall)) → IsLegal old.limits old.history → IsBegun old build (Ok count) begun
    → AreWhileAborting build begun calls host → IsInAbortSince old build host
shared old begun host build count calls legal begins meanwhile =
    in_abort_since old build host (all_calls old build begun calls host (starts old begun build count legal begins) meanwhile)
