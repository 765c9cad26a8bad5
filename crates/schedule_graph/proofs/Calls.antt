-- Proofs that two hosts that differ only in the schedule answer a call alike, and then still agree on which marks they
-- keep.
use Rattle.std.proofs.Common.{◌≡◌, ◌≢◌, ℕ, ◌&&◌, false, List, [], ◌∷◌, ◌++◌, drop, length, get_or, set, Option, Some, None, Result, Ok, Err, refl, sym, ap, ◌∙◌, subst}
use Rattle.std.specs.Prelude.{nat_le, not, slice_index_or, option_map}
use Rattle.std.specs.List.{list_any}
use Rattle.std.proofs.lemmas.List.{map-set, get_or-set_other}
use Rattle.std.proofs.lemmas.Option.{none-some, same_Some}
use Rattle.realm_model.specs.declared.act.Act.{Act}
use Rattle.realm_model.specs.Marks.{above}
use Rattle.realm_model.specs.Running.{is_running}
use Rattle.realm_model.specs.World.{realm_of}
use Rattle.host_commands.specs.declared.refusal.Refusal.{Refusal}
use Rattle.host_commands.specs.declared.refusal.Refusal.TheVariants.{NoBuild, Aborting, NothingToUndo, RecRunning}
use Rattle.host_commands.specs.Checks.{build_checks, first_that_holds}
use Rattle.host_ledger.specs.declared.mark.Mark.{Mark}
use Rattle.host_ledger.specs.Marks.{point_of as place_in_history, mark_while}
use Rattle.host_ledger.specs.Summary.{summary_of}
use Rattle.host_ledger.specs.View.{HostView, open_of, mark_of, mark_now, with_mark, with_event}
use Rattle.realm_host.specs.Abort.{IsBegun}
use Rattle.realm_host.specs.Answer.{IsAnswer}
use Rattle.realm_host.specs.Call.{Call, Ask, Undo}
use Rattle.realm_host.specs.Interleaving.{DifferInInterleaving, AreIndistinguishable}
use Rattle.realm_host.specs.Marked.{checks_of_back, way_back}
use Rattle.realm_host.specs.declared.command.HostAnswer.{HostAnswer}
use Rattle.realm_host.specs.declared.command.HostAnswer.TheVariants.{Replied, Undone as WasUndone, Refused}
use Rattle.realm_host.proofs.Interleaved.{are_indistinguishable, call_reveals_nothing, begin_reveals_nothing}
use Rattle.plan_replay.specs.Turn.{above_mark}
use Rattle.schedule_graph.specs.State.{mark_point}
use Rattle.schedule_graph.proofs.Kept.{keeps, goes, keeps-at, depth}

-- ---- the marks after an answer

-- The new host has the old host's marks, except for a mark that the answer dropped. A refusal drops none. Any other
-- answer drops the build's mark if fewer operations are open than at the mark.
abbrev MarksAfter : HostAnswer → HostView → ℕ → HostView → Type 0
MarksAfter (Refused reason) host b new = new.marks ≡ host.marks
MarksAfter _ host b new = new.marks ≡ set host.marks b (mark_while (length (open_of new b)) (get_or host.marks b None))

grown : (host : HostView) (b : ℕ) (act : Act) (new : HostView) → new ≡ with_event host b act
    → new.marks ≡ set host.marks b (mark_while (length (open_of new b)) (get_or host.marks b None))
grown host b act new same =
    subst (λ (n : HostView). n.marks ≡ set host.marks b (mark_while (length (open_of n b)) (get_or host.marks b None))) (sym same) refl

marks_after : (host : HostView) (b : ℕ) (call : Call) (answer : HostAnswer) (new : HostView) → IsAnswer host b call answer new → MarksAfter answer host b new
marks_after host b (Ask cmd) (Refused reason) new h = ap (λ (n : HostView). n.marks) h.1
marks_after host b Undo (Refused reason) new h = ap (λ (n : HostView). n.marks) h.1
marks_after host b (Ask cmd) (Replied reply) new h = grown host b h.act new h.accepted.grows
marks_after host b Undo (WasUndone done) new h = grown host b h.act new h.accepted.grows
marks_after host b Undo (Replied reply) new h = absurd h
marks_after host b (Ask cmd) (WasUndone done) new h = absurd h

-- setting the mark of one build leaves the marks of other builds as they were
set_rest : (marks new : List (Option Mark)) (b c : ℕ) (mark : Option Mark) → new ≡ set marks b mark → c ≢ b → get_or new c None ≡ get_or marks c None
set_rest marks new b c mark same other = ap (λ ms. get_or ms c None) same ∙ get_or-set_other marks b c mark None other

rest_after : (host : HostView) (b : ℕ) (answer : HostAnswer) (new : HostView) → MarksAfter answer host b new → (c : ℕ) → c ≢ b → mark_of new c ≡ mark_of host c
rest_after host b (Refused reason) new h c other = ap (λ ms. get_or ms c None) h
rest_after host b (Replied reply) new h c other = set_rest host.marks new.marks b c _ h other
rest_after host b (WasUndone done) new h c other = set_rest host.marks new.marks b c _ h other

-- ---- a mark that is kept in both hosts or in neither

-- The two marks have the same build and the same number of open operations, or both marks are missing. `host` keeps
-- `mark` for the build if and only if `twin` keeps `other`.
pub record AreKeptAlike (b : ℕ) (host twin : HostView) (mark other : Option Mark) : Type 0 where
  pub points : option_map mark_point other ≡ option_map mark_point mark
  pub kept : goes (mark_of twin b) other ≡ goes (mark_of host b) mark

grown_alike : (b : ℕ) (host twin new then : HostView)
    → new.marks ≡ set host.marks b (mark_while (length (open_of new b)) (get_or host.marks b None))
    → then.marks ≡ set twin.marks b (mark_while (length (open_of then b)) (get_or twin.marks b None))
    → length (open_of then b) ≡ length (open_of new b)
    → (mark other : Mark) → mark_point other ≡ mark_point mark → keeps (mark_of twin b) other ≡ keeps (mark_of host b) mark
    → keeps (mark_of then b) other ≡ keeps (mark_of new b) mark
grown_alike b host twin new then grows also left mark other same kept =
    ap (λ ms. keeps (get_or ms b None) other) also
    ∙ keeps-at twin.marks b (length (open_of then b)) other
    ∙ (λ i. kept i && nat_le (same i).length (left i))
    ∙ sym (keeps-at host.marks b (length (open_of new b)) mark)
    ∙ sym (ap (λ ms. keeps (get_or ms b None) mark) grows)

kept_after : (answer : HostAnswer) (b : ℕ) (host twin new then : HostView) → MarksAfter answer host b new → MarksAfter answer twin b then
    → length (open_of then b) ≡ length (open_of new b)
    → (mark other : Option Mark) → AreKeptAlike b host twin mark other → goes (mark_of then b) other ≡ goes (mark_of new b) mark
kept_after answer b host twin new then h also left None None same = refl
kept_after answer b host twin new then h also left (Some mark) None same = absurd (none-some (mark_point mark) same.points)
kept_after answer b host twin new then h also left None (Some other) same = absurd (none-some (mark_point other) (sym same.points))
kept_after (Refused reason) b host twin new then h also left (Some mark) (Some other) same =
    ap (λ ms. keeps (get_or ms b None) other) also ∙ same.kept ∙ sym (ap (λ ms. keeps (get_or ms b None) mark) h)
kept_after (Replied reply) b host twin new then h also left (Some mark) (Some other) same =
    grown_alike b host twin new then h also left mark other (same_Some (mark_point other) (mark_point mark) same.points) same.kept
kept_after (WasUndone done) b host twin new then h also left (Some mark) (Some other) same =
    grown_alike b host twin new then h also left mark other (same_Some (mark_point other) (mark_point mark) same.points) same.kept

-- ---- a call

-- The call can be given the same answer on `twin`, and the hosts then still differ only in the schedule. Marks of the
-- build that were kept alike still are, and the marks of other builds are as they were.
pub record CallToo (host twin : HostView) (b : ℕ) (call : Call) (answer : HostAnswer) (new : HostView) : Type 0 where
  pub then : HostView
  pub answered : IsAnswer twin b call answer then
  pub differ : DifferInInterleaving new then
  pub kept : (mark other : Option Mark) → AreKeptAlike b host twin mark other → goes (mark_of then b) other ≡ goes (mark_of new b) mark
  pub rest : (c : ℕ) → c ≢ b → mark_of new c ≡ mark_of host c
  pub also_rest : (c : ℕ) → c ≢ b → mark_of then c ≡ mark_of twin c

pub call_too : (host twin : HostView) (b : ℕ) (call : Call) (answer : HostAnswer) (new : HostView) → DifferInInterleaving host twin
    → IsAnswer host b call answer new → CallToo host twin b call answer new
call_too host twin b call answer new differ h =
    let too = call_reveals_nothing host twin differ b call answer new h in
    let here = marks_after host b call answer new h in
    let there = marks_after twin b call answer too.then too.answered in
    let left = ap length ((are_indistinguishable new too.then too.differ.same).opened b) in
    record {
      then = too.then;
      answered = too.answered;
      differ = too.differ;
      kept = kept_after answer b host twin new too.then here there left;
      rest = rest_after host b answer new here;
      also_rest = rest_after twin b answer too.then there;
    }

-- ---- the begin of an abort

pub record BeginToo (host twin : HostView) (b : ℕ) (count : Result ℕ Refusal) (new : HostView) : Type 0 where
  pub then : HostView
  pub is_begun : IsBegun twin b count then
  pub differ : DifferInInterleaving new then
  pub marks : new.marks ≡ host.marks
  pub also_marks : then.marks ≡ twin.marks

begin_marks : (host : HostView) (b : ℕ) (count : Result ℕ Refusal) (new : HostView) → IsBegun host b count new → new.marks ≡ host.marks
begin_marks host b (Err reason) new h = ap (λ (n : HostView). n.marks) h.1
begin_marks host b (Ok count) new h = ap (λ (n : HostView). n.marks) h.1.new_is

pub begin_too : (host twin : HostView) (b : ℕ) (count : Result ℕ Refusal) (new : HostView) → DifferInInterleaving host twin → IsBegun host b count new → BeginToo host twin b count new
begin_too host twin b count new differ h =
    let too = begin_reveals_nothing host twin differ b count new h in
    record {
      then = too.then;
      is_begun = too.answered;
      differ = too.differ;
      marks = begin_marks host b count new h;
      also_marks = begin_marks twin b count too.then too.answered;
    }

-- ---- marks

module _ (host twin : HostView) (differ : DifferInInterleaving host twin) (b : ℕ) where
  pub alike : AreIndistinguishable host twin
  alike = are_indistinguishable host twin differ.same

  pub checks_alike : build_checks (summary_of twin) b ≡ build_checks (summary_of host) b
  checks_alike = λ i. (nat_le (differ.same.limits i).builds b, NoBuild) ∷ (slice_index_or (differ.aborting i) b false, Aborting) ∷ []

  pub now_alike : mark_point (mark_now twin b) ≡ mark_point (mark_now host b)
  now_alike = λ i. record { build = b; length = length (alike.opened b i) }

  pub differ_marked : DifferInInterleaving (with_mark host b (mark_now host b)) (with_mark twin b (mark_now twin b))
  differ_marked = record {
    same = record { legal = differ.same.legal; twin_legal = differ.same.twin_legal; limits = differ.same.limits; events = differ.same.events };
    capacity = differ.capacity;
    aborting = differ.aborting;
    depths =
        map-set depth twin.marks b (Some (mark_now twin b))
        ∙ (λ i. set (differ.depths i) b (Some (now_alike i).length))
        ∙ sym (map-set depth host.marks b (Some (mark_now host b)));
  }

  -- ---- the way back

  module _ (mark other : Mark) (same : mark_point other ≡ mark_point mark) (kept : keeps (mark_of twin b) other ≡ keeps (mark_of host b) mark) where
    above_alike : above (place_in_history other) twin.history ≡ above (place_in_history mark) host.history
    above_alike = (λ i. drop (same i).length (open_of twin (same i).build)) ∙ ap (drop mark.length) (alike.opened mark.build)

    back_checks : checks_of_back twin b other ≡ checks_of_back host b mark
    back_checks = λ i.
        checks_alike i
        ++ ((not (kept i), NothingToUndo) ∷ (list_any (is_running (realm_of b (alike.world i))) (above_alike i), RecRunning) ∷ [])

    way_back_alike : way_back twin b other ≡ way_back host b mark
    way_back_alike = λ i. elim (first_that_holds (back_checks i)) [ Some refusal ↦ Err refusal | None ↦ Ok (length (above_alike i)) ]

  pub above_mark_alike : (mark other : Option Mark) → AreKeptAlike b host twin mark other → above_mark twin b other ≡ above_mark host b mark
  above_mark_alike None None same = refl
  above_mark_alike (Some mark) None same = absurd (none-some (mark_point mark) same.points)
  above_mark_alike None (Some other) same = absurd (none-some (mark_point other) (sym same.points))
  above_mark_alike (Some mark) (Some other) same = way_back_alike mark other (same_Some (mark_point other) (mark_point mark) same.points) same.kept
