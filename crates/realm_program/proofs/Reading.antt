-- Proofs about the loop that compares a worker's report with a history: each line preserves the loop's invariant, and
-- the result says whether the report and the history match.
use Rattle.std.proofs.Common.{◌≡◌, ℕ, zero, suc, ◌+◌, ◌<◌, ◌≤◌, ◌↔◌, Bool, true, false, cond, List, [], ◌∷◌, ◌++◌, length, take, drop, get_or}
use Rattle.std.proofs.Common.{nat_eq, Option, Some, None, refl, sym, ap, ◌∙◌, subst, inl, inr, arith, length-drop, add-zero, below_more}
use Rattle.std.specs.Prelude.{slice_get, IsTrue, IfSome, IsSomeAnd}
use Rattle.std.specs.List.{flat_map}
use Rattle.std.proofs.lemmas.Bool.{eqb-true, eq-eqb}
use Rattle.std.proofs.lemmas.List.{drop_more, drop_all, drop-drop, take_more, take_all}
use Rattle.std.proofs.lemmas.List.Filters.{length-filter_more}
use Rattle.std.proofs.lemmas.Option.{slice_get_past, slice_get_within, slice_get_read, slice_get_cases, get_or_from_slice_get, same_Some}
use Rattle.host_commands.specs.declared.cmd.Step.{Step}
use Rattle.realm_model.specs.History.{open_entries, pages_held, events_of}
use Rattle.realm_model.specs.Stack.{pushed}
use Rattle.realm_model.specs.declared.act.Act.{Act}
use Rattle.realm_model.specs.declared.act.Event.{Event}
use Rattle.realm_model.proofs.Booleans.{true_false}
use Rattle.realm_model.proofs.Growth.{open_entries-own}
use Rattle.build_seats.specs.Events.{is_accepted, is_done, question_at}
use Rattle.build_seats.specs.declared.ask.Question.{Question}
use Rattle.build_seats.specs.declared.ask.Question.TheVariants as question
use Rattle.build_seats.specs.declared.report.Answer.{Answer}
use Rattle.build_seats.specs.declared.report.Answer.TheVariants.{Replied, Undone, Marked, Nothing, Refused}
use Rattle.build_seats.specs.declared.report.ReportLine.{ReportLine}
use Rattle.realm_program.specs.Fitting.{AnswerFits, LineFits, DoesFit, accepted_count}

-- a line matches the build's open operations and its next event
abbrev pub FitsHere : List Step → List Act → Option Event → ReportLine → Type 0
FitsHere steps opened next line = IsSomeAnd (question_at steps line.asked) (λ asked. AnswerFits (flat_map pages_held opened) opened next asked line.answer)

-- if two lists of operations are equal, a result that decides `FitsHere` for one list decides `FitsHere` for the other
pub fits_here_of : (steps : List Step) (acts opened : List Act) (next : Option Event) (line : ReportLine) (r : Bool) → acts ≡ opened → IsTrue r
    ↔ FitsHere steps acts next line → IsTrue r ↔ FitsHere steps opened next line
fits_here_of steps acts opened next line r same says = subst (λ (xs : List Act). IsTrue r ↔ FitsHere steps xs next line) same says

-- Before index `next` of the history, the build has `count` events, and the operations `opened` are open after these
-- events. The build's next event is at index `next`. If the build has no next event, `next` is the history's end.
pub record IsAt (build : ℕ) (history : List Event) (count next : ℕ) (opened : List Act) : Type 0 where
  pub within : next ≤ length history
  pub rest : drop count (events_of build history) ≡ events_of build (drop next history)
  pub own : IfSome (slice_get history next) (λ event. event.build ≡ build)
  pub enough : count ≤ length (events_of build history)
  pub opened_is : opened ≡ open_entries build (take count (events_of build history))

-- The first `count` lines of a report are read, and each of them matches the history. Before index `next`, the build
-- has one event for each accepted line.
pub record IsReadTo (build : ℕ) (steps : List Step) (lines : List ReportLine) (history : List Event) (count next : ℕ) (opened : List Act) : Type 0 where
  pub at : IsAt build history (accepted_count (take count lines)) next opened
  pub fit : (place : ℕ) → place < count → (line : ReportLine) → slice_get lines place ≡ Some line → LineFits build steps history (accepted_count (take place lines)) line

-- ---- the build's next event

slice_get-drop : {A : Type 0} (xs : List A) (n : ℕ) → slice_get xs n ≡ slice_get (drop n xs) 0
slice_get-drop xs zero = refl
slice_get-drop [] (suc n) = refl
slice_get-drop (x ∷ xs) (suc n) = slice_get-drop xs n

module _ (build : ℕ) where
  own_first : (event : Event) (rest : List Event) → event.build ≡ build → events_of build (event ∷ rest) ≡ event ∷ events_of build rest
  own_first event rest own = ap (λ t. cond t (event ∷ events_of build rest) (events_of build rest)) (eq-eqb event.build build own)

  first_own : (rest : List Event) → IfSome (slice_get rest 0) (λ event. event.build ≡ build) → slice_get (events_of build rest) 0 ≡ slice_get rest 0
  first_own [] own = refl
  first_own (event ∷ rest) own = ap (λ events. slice_get events 0) (own_first event rest own)

module _ {build : ℕ} {history : List Event} {count next : ℕ} {opened : List Act} (at : IsAt build history count next opened) where
  -- the build's next event is the event at index `next` of the history
  pub next_is : slice_get (events_of build history) count ≡ slice_get history next
  next_is =
      slice_get-drop (events_of build history) count
      ∙ ap (λ events. slice_get events 0) at.rest
      ∙ first_own build (drop next history) (subst (λ o. IfSome o (λ event. event.build ≡ build)) (slice_get-drop history next) at.own)
      ∙ sym (slice_get-drop history next)

  -- if a line matches the open operations and the build's next event, it matches the history after the first `count`
  -- events of the build
  pub fits_from : (steps : List Step) (line : ReportLine) → FitsHere steps opened (slice_get history next) line → LineFits build steps history count line
  fits_from steps line here =
      subst (λ acts. FitsHere steps acts (slice_get (events_of build history) count) line) at.opened_is
      (subst (λ event. FitsHere steps opened event line) (sym next_is) here)

  pub fits_here : (steps : List Step) (line : ReportLine) → LineFits build steps history count line → FitsHere steps opened (slice_get history next) line
  fits_here steps line fits =
      subst (λ event. FitsHere steps opened event line) next_is
      (subst (λ acts. FitsHere steps acts (slice_get (events_of build history) count) line) (sym at.opened_is) fits)

  -- If `event` is at index `next`, `IsAt` holds again after `event`, with `later` as the index of the build's next
  -- event. If the build has no next event, `later` is the history's end.
  pub at_more : (event : Event) (later : ℕ) (more : List Act) → slice_get history next ≡ Some event → more ≡ pushed opened event.act → later ≤ length history
      → events_of build (drop later history) ≡ events_of build (drop (next + 1) history) → IfSome (slice_get history later) (λ after. after.build ≡ build)
      → IsAt build history (count + 1) later more
  at_more event later more is pushed_is within same own =
      let events : List Event = events_of build history in
      let its_own : event.build ≡ build = subst (λ o. IfSome o (λ one. one.build ≡ build)) is at.own in
      let there : slice_get events count ≡ Some event = next_is ∙ is in
      let inside : count < length events = slice_get_within events count event there in
      let grown : take (count + 1) events ≡ take count events ++ event ∷ [] =
      take_more events count event inside ∙ ap (λ one. take count events ++ one ∷ []) (get_or_from_slice_get events count event event there) in
      let front : drop next history ≡ event ∷ drop (next + 1) history =
      drop_more history next event (slice_get_within history next event is)
      ∙ ap (λ one. one ∷ drop (next + 1) history) (get_or_from_slice_get history next event event is) in
      record {
        within = within;
        rest = sym (drop-drop 1 count events) ∙ ap (drop 1) (at.rest ∙ ap (events_of build) front ∙ own_first build event (drop (next + 1) history) its_own) ∙ sym same;
        own = own;
        enough = omega arith;
        opened_is =
            pushed_is ∙ ap (λ acts. pushed acts event.act) at.opened_is
            ∙ sym (subst (λ b. open_entries b (take count events ++ event ∷ []) ≡ pushed (open_entries b (take count events)) event.act) its_own (open_entries-own (take count events) event))
            ∙ ap (open_entries build) (sym grown);
      }

  -- `next` is the end of the history if and only if `count` is the number of all events of the build
  pub all_followed : (nat_eq next (length history) ≡ true) ↔ (count ≡ length (events_of build history))
  all_followed = (
    (λ t.
        let past : length history ≤ next = let e : next ≡ length history = eqb-true next (length history) t in omega arith in
        let none : length (drop count (events_of build history)) ≡ 0 = ap length (at.rest ∙ ap (events_of build) (drop_all next history past)) in
        let left = length-drop count (events_of build history) in
        let enough = at.enough in
        omega arith),
    (λ e.
        let none : slice_get history next ≡ None = sym next_is ∙ slice_get_past (events_of build history) count (omega arith) in
        elim ((slice_get_cases history next).1) [
          | inl (event, inside, is, read) ↦ let no : None ≡ Some event = sym none ∙ is in cc
          | inr (past, is) ↦ let within = at.within in eq-eqb next (length history) (omega arith)
        ]),
  )

-- ---- lines

-- if `AnswerFits` holds for an accepted answer, the build has a next event
answer_has : (pages : List ℕ) (opened : List Act) (next : Option Event) (asked : Question) (answer : Answer) → AnswerFits pages opened next asked answer
    → is_done answer ≡ true → (event : Event) × (next ≡ Some event)
answer_has pages opened (Some event) asked answer fits done = (event, refl)
answer_has pages opened None (question.Do cmd) (Replied reply) fits done = absurd fits
answer_has pages opened None (question.Do cmd) (Undone undone) fits done = absurd fits
answer_has pages opened None question.Undo (Replied reply) fits done = absurd fits
answer_has pages opened None question.Undo (Undone undone) fits done = absurd fits
answer_has pages opened None question.Mark (Replied reply) fits done = absurd fits
answer_has pages opened None question.Mark (Undone undone) fits done = absurd fits
answer_has pages opened None asked (Marked length) fits done = cc
answer_has pages opened None asked Nothing fits done = cc
answer_has pages opened None asked (Refused refusal) fits done = cc

asked_has : (pages : List ℕ) (opened : List Act) (next : Option Event) (asked : Option Question) (answer : Answer)
    → IsSomeAnd asked (λ one. AnswerFits pages opened next one answer) → is_done answer ≡ true → (event : Event) × (next ≡ Some event)
asked_has pages opened next None answer fits done = absurd fits
asked_has pages opened next (Some asked) answer fits done = answer_has pages opened next asked answer fits done

pub next_there : (steps : List Step) (opened : List Act) (history : List Event) (next : ℕ) (line : ReportLine) → FitsHere steps opened (slice_get history next) line
    → is_done line.answer ≡ true → next < length history
next_there steps opened history next line fits done =
    let has = asked_has (flat_map pages_held opened) opened (slice_get history next) (question_at steps line.asked) line.answer fits done in
    slice_get_within history next has.0 has.1

-- one more line adds one to the count of accepted lines if its answer is accepted, and nothing otherwise
accepted_more : (lines : List ReportLine) (count : ℕ) (line : ReportLine) (done : Bool) → count < length lines → line ≡ get_or lines count line → is_done line.answer ≡ done
    → accepted_count (take (count + 1) lines) ≡ accepted_count (take count lines) + cond done 1 0
accepted_more lines count line done inside is done_is =
    length-filter_more is_accepted lines count line inside
    ∙ ap (λ (one : ReportLine). accepted_count (take count lines) + cond (is_accepted one) 1 0) (sym is)
    ∙ ap (λ t. accepted_count (take count lines) + cond t 1 0) done_is

-- `IsReadTo` holds before the first line, with no operation open and no event of the build before index `next`
pub read_none : (build : ℕ) (steps : List Step) (lines : List ReportLine) (history : List Event) (next : ℕ) (opened : List Act) → next ≤ length history
    → events_of build (drop next history) ≡ events_of build (drop 0 history) → IfSome (slice_get history next) (λ event. event.build ≡ build) → opened ≡ []
    → IsReadTo build steps lines history 0 next opened
unfolding open_entries
read_none build steps lines history next opened within same own none = record {
  at = record { within = within; rest = sym same; own = own; enough = omega arith; opened_is = none };
  fit = λ place below. absurd (omega arith);
}

module _ {build : ℕ} {steps : List Step} {lines : List ReportLine} {history : List Event} {count next : ℕ} {opened : List Act} (read : IsReadTo build steps lines history count next opened) where
  -- if the next line does not match, the report does not match the history
  pub read_stop : (line : ReportLine) (r : Bool) → count < length lines → line ≡ get_or lines count line → IsTrue r ↔ FitsHere steps opened (slice_get history next) line → r ≡ false
      → DoesFit build steps lines history → ⊥
  read_stop line r inside is says fails does =
      true_false r (says.1 (fits_here read.at steps line (does.each count line (slice_get_read lines (length lines) count line refl inside is)))) fails

  -- if the first `count` lines match the history, and the next line too, each of the first `count + 1` lines matches
  fit_more : (line : ReportLine) → count < length lines → line ≡ get_or lines count line → FitsHere steps opened (slice_get history next) line
      → (place : ℕ) → place < count + 1 → (one : ReportLine) → slice_get lines place ≡ Some one → LineFits build steps history (accepted_count (take place lines)) one
  fit_more line inside is fits =
      below_more (λ place. (one : ReportLine) → slice_get lines place ≡ Some one → LineFits build steps history (accepted_count (take place lines)) one) count read.fit
      (λ one at. subst (λ l. LineFits build steps history (accepted_count (take count lines)) l)
      (same_Some line one (sym (slice_get_read lines (length lines) count line refl inside is) ∙ at))
      (fits_from read.at steps line fits))

  pub read_other : (line : ReportLine) → count < length lines → line ≡ get_or lines count line → FitsHere steps opened (slice_get history next) line → is_done line.answer ≡ false
      → IsReadTo build steps lines history (count + 1) next opened
  read_other line inside is fits done = record {
    at = subst (λ n. IsAt build history n next opened) (sym (accepted_more lines count line false inside is done ∙ add-zero _)) read.at;
    fit = fit_more line inside is fits;
  }

  pub read_done : (line : ReportLine) (event : Event) (later : ℕ) (more : List Act) → count < length lines → line ≡ get_or lines count line → FitsHere steps opened (slice_get history next) line
      → is_done line.answer ≡ true → event ≡ get_or history next event → more ≡ pushed opened event.act → later ≤ length history
      → events_of build (drop later history) ≡ events_of build (drop (next + 1) history) → IfSome (slice_get history later) (λ after. after.build ≡ build)
      → IsReadTo build steps lines history (count + 1) later more
  read_done line event later more inside is fits done event_is pushed_is within same own =
      let there : slice_get history next ≡ Some event = slice_get_read history (length history) next event refl (next_there steps opened history next line fits done) event_is in
      record {
        at = subst (λ n. IsAt build history n later more) (sym (accepted_more lines count line true inside is done)) (at_more read.at event later more there pushed_is within same own);
        fit = fit_more line inside is fits;
      }

  -- after the last line, the report matches the history if and only if `next` is the end of the history
  pub read_all : length lines ≤ count → (nat_eq next (length history) ≡ true) ↔ DoesFit build steps lines history
  read_all past =
      let all : accepted_count (take count lines) ≡ accepted_count lines = ap accepted_count (take_all count lines past) in
      let followed = all_followed read.at in (
        (λ t. record {
          each = λ place line at. let inside = slice_get_within lines place line at in read.fit place (omega arith) line at;
          as_many = sym all ∙ followed.0 t;
        }),
        (λ does. followed.1 (all ∙ does.as_many)),
      )
