-- Proofs that each step of a worker adds at most one to the number of exits and undos that a refusal would require.
use Rattle.std.proofs.Common.{◌≡◌, ℕ, zero, suc, ◌+◌, ◌-◌, ◌≤◌, Bool, true, false, List, [], ◌∷◌, length, refl, sym, ap, subst, arith, cond, eqb, ltb, not}
use Rattle.std.specs.Prelude.{Option, Some, None, Ok, Err, replicate, min}
use Rattle.std.proofs.lemmas.List.Filters.{length-filter_both}
use Rattle.host_ledger.specs.declared.mark.Mark.{Mark}
use Rattle.host_commands.specs.Needs.{needs_of}
use Rattle.host_commands.specs.declared.cmd.Cmd.{Cmd}
use Rattle.host_commands.specs.declared.cmd.Cmd.TheVariants.{Take, Fill, Peek, Delegate, Realm, Rtt, Ripas, Data, Unknown, Rec, Activate, Enter, Exit, Poke}
use Rattle.host_commands.specs.declared.cmd.Cmd.TheVariants as cmd
use Rattle.host_commands.specs.declared.cmd.Step.{Step}
use Rattle.host_commands.specs.declared.cmd.Step.TheVariants as step
use Rattle.build_seats.specs.Asked.{told, is_refused, ArePut, question_of, all_put, cut_short, refused, accepted}
use Rattle.build_seats.specs.Exchange.{Exchange, Did, Undid, KeptMark, CheckedBack}
use Rattle.build_seats.specs.Report.{IsAnswerReported, AreUndone, IsAbort, IsWayBack, opened, IsStepBack, IsStepReported}
use Rattle.build_seats.specs.Report as report
use Rattle.build_seats.specs.Standing.{StandingView, with_number, without_number, standing_after_command, after_exchange, standing_after, left_to_clear}
use Rattle.build_seats.specs.Stretch.{IsStretch}
use Rattle.build_seats.specs.declared.report.Asked.{Asked}
use Rattle.build_seats.specs.declared.report.Asked.TheVariants as asked
use Rattle.build_seats.specs.declared.report.Answer.{Answer}
use Rattle.build_seats.specs.declared.report.ReportLine.{ReportLine}
use Rattle.build_seats.specs.declared.ask.Question.{Question}
use Rattle.build_seats.specs.declared.ask.Question.TheVariants as question
use Rattle.build_seats.specs.declared.ask.Ending.{Ending}
use Rattle.build_seats.specs.declared.ask.Ending.TheVariants as ending
use Rattle.build_seats.proofs.Questions.{length-ArePut}

choice_le : (is : Bool) (xs ys : List ℕ) (n : ℕ) → length xs ≤ n → length ys ≤ n → length (cond is xs ys) ≤ n
choice_le true xs ys n one other = one
choice_le false xs ys n one other = other

length-with_number : (number : ℕ) (numbers : List ℕ) → length (with_number number numbers) ≤ length numbers + 1
length-with_number number [] = omega arith
length-with_number number (first ∷ rest) =
    let more = length-with_number number rest in
    choice_le (ltb number first) (number ∷ first ∷ rest) (cond (eqb number first) (first ∷ rest) (first ∷ with_number number rest)) (length (first ∷ rest) + 1) (omega arith)
    (choice_le (eqb number first) (first ∷ rest) (first ∷ with_number number rest) (length (first ∷ rest) + 1) (omega arith) (omega arith))

length-without_number : (number : ℕ) (numbers : List ℕ) → length (without_number number numbers) ≤ length numbers
length-without_number number numbers =
    let both = length-filter_both (λ other. not (eqb other number)) (λ other. not (not (eqb other number))) (λ other. refl) numbers in
    omega (arith, both)

-- ---- one exchange

left-standing_after_command : (cmd : Cmd) (standing : StandingView) → left_to_clear (standing_after_command cmd standing) ≤ left_to_clear standing + 1
unfolding standing_after_command needs_of
left-standing_after_command (Take order) standing = omega arith
left-standing_after_command (Fill page value) standing = omega arith
left-standing_after_command (Peek page offset) standing = omega arith
left-standing_after_command (Delegate page) standing = omega arith
left-standing_after_command (Realm rd root width) standing = omega arith
left-standing_after_command (Rtt page ipa level) standing = omega arith
left-standing_after_command (Ripas ipa count) standing = omega arith
left-standing_after_command (Data page ipa source) standing = omega arith
left-standing_after_command (Unknown page ipa) standing = omega arith
left-standing_after_command (Rec page auxiliaries) standing = omega arith
left-standing_after_command Activate standing = omega arith
left-standing_after_command (Enter number) standing = omega (arith, length-with_number number standing.running)
left-standing_after_command (Exit number) standing = omega (arith, length-without_number number standing.running)
left-standing_after_command (Poke number ipa offset value) standing = omega arith

left-after_exchange : (exchange : Exchange) (standing : StandingView) → left_to_clear (after_exchange exchange standing) ≤ left_to_clear standing + 1
left-after_exchange (Did cmd (Ok reply)) standing = left-standing_after_command cmd (record standing { turn = standing.turn + 1 })
left-after_exchange (Did cmd (Err refusal)) standing = omega arith
left-after_exchange (Undid (Ok undone)) standing = omega arith
left-after_exchange (Undid (Err refusal)) standing = omega arith
left-after_exchange (KeptMark (Ok mark)) standing = omega arith
left-after_exchange (KeptMark (Err refusal)) standing = omega arith
left-after_exchange (CheckedBack mark result) standing = omega arith

left-refused : (exchange : Exchange) (standing : StandingView) → is_refused (told exchange) ≡ true → left_to_clear (after_exchange exchange standing) ≤ left_to_clear standing
left-refused (Did cmd (Ok reply)) standing is = absurd (cc)
left-refused (Did cmd (Err refusal)) standing is = omega arith
left-refused (Undid (Ok undone)) standing is = absurd (cc)
left-refused (Undid (Err refusal)) standing is = omega arith
left-refused (KeptMark (Ok mark)) standing is = absurd (cc)
left-refused (KeptMark (Err refusal)) standing is = omega arith
left-refused (CheckedBack mark result) standing is = omega arith

-- ---- questions that leave no more to clear

abbrev pub IsCloser : Question → Type 0
IsCloser asked = (exchange : Exchange) (standing : StandingView) → question_of exchange ≡ Some asked → left_to_clear (after_exchange exchange standing) ≤ left_to_clear standing

pub undo_closes : IsCloser question.Undo
undo_closes (Did cmd result) standing is = absurd (cc)
undo_closes (Undid (Ok undone)) standing is = omega arith
undo_closes (Undid (Err refusal)) standing is = omega arith
undo_closes (KeptMark result) standing is = absurd (cc)
undo_closes (CheckedBack mark result) standing is = absurd (cc)

left-exit : (number : ℕ) (standing : StandingView) → left_to_clear (standing_after_command (Exit number) standing) ≤ left_to_clear standing
unfolding standing_after_command needs_of
left-exit number standing = omega (arith, length-without_number number standing.running)

pub exit_closes : (number : ℕ) → IsCloser (question.Do (cmd.Exit number))
exit_closes number (Did cmd (Ok reply)) standing is =
    let now = record standing { turn = standing.turn + 1 } in
    let same : cmd ≡ Exit number = cc in
    subst (λ c. left_to_clear (standing_after_command c now) ≤ left_to_clear standing) (sym same) (left-exit number now)
exit_closes number (Did cmd (Err refusal)) standing is = omega arith
exit_closes number (Undid result) standing is = absurd (cc)
exit_closes number (KeptMark result) standing is = absurd (cc)
exit_closes number (CheckedBack mark result) standing is = absurd (cc)

pub closed : {asked : Asked} {asks : Question} {exchanges : List Exchange} {lines : List ReportLine} {end : Ending} (standing : StandingView) → IsCloser asks
    → ArePut ((asked, asks) ∷ []) exchanges lines end → left_to_clear (standing_after exchanges standing) ≤ left_to_clear standing
closed standing closes cut_short = omega arith
closed standing closes (refused {exchange = exchange} of_question is) = closes exchange standing of_question
closed standing closes (accepted {exchange = exchange} of_question is all_put) = closes exchange standing of_question

-- ---- steps

-- A step adds at most one to the exits and undos that the worker would ask for after a refusal, and none if the step
-- itself is refused. The added report lines, with these exits and undos, are at most two more than the exits and undos
-- before. There is at most one exchange more than lines.
pub record IsGrowth (standing : StandingView) (exchanges : List Exchange) (lines : List ReportLine) (end : Ending) : Type 0 where
  pub left : left_to_clear (standing_after exchanges standing) ≤ left_to_clear standing + 1
  pub with_lines : length lines + left_to_clear (standing_after exchanges standing) ≤ left_to_clear standing + 2
  pub turns : length exchanges ≤ length lines + 1
  pub if_refused : end ≡ ending.Refused → left_to_clear (standing_after exchanges standing) ≤ left_to_clear standing

IsGrowth-asked : {asked : Asked} {asks : Question} {exchanges : List Exchange} {lines : List ReportLine} {end : Ending} (standing : StandingView)
    → ArePut ((asked, asks) ∷ []) exchanges lines end → IsGrowth standing exchanges lines end
IsGrowth-asked standing cut_short = record { left = omega arith; with_lines = omega arith; turns = omega arith; if_refused = λ _. omega arith }
IsGrowth-asked standing (refused {exchange = exchange} of_question is) =
    let more = left-after_exchange exchange standing in
    record { left = more; with_lines = omega arith; turns = omega arith; if_refused = λ _. left-refused exchange standing is }
IsGrowth-asked standing (accepted {exchange = exchange} of_question is all_put) =
    let more = left-after_exchange exchange standing in
    record { left = more; with_lines = omega arith; turns = omega arith; if_refused = λ not. absurd (cc) }

IsGrowth-told : {place : ℕ} {answer : Answer} {exchanges : List Exchange} {lines : List ReportLine} {end : Ending} (standing : StandingView)
    → IsAnswerReported place answer exchanges lines end → IsGrowth standing exchanges lines end
IsGrowth-told {lines = lines} {end = end} standing tells =
    subst (λ es. IsGrowth standing es lines end) (sym tells.nothing_asked)
    (subst (λ ls. IsGrowth standing [] ls end) (sym tells.line_is) (record { left = omega arith; with_lines = omega arith; turns = omega arith; if_refused = λ _. omega arith }))

one_undone : (exchange : Exchange) (standing : StandingView) → question_of exchange ≡ Some question.Undo → is_refused (told exchange) ≡ false
    → ((after_exchange exchange standing).journal ≡ standing.journal - 1) × ((after_exchange exchange standing).running ≡ standing.running)
one_undone (Did cmd result) standing is taken = absurd (cc)
one_undone (Undid (Ok undone)) standing is taken = (refl, refl)
one_undone (Undid (Err refusal)) standing is taken = absurd (cc)
one_undone (KeptMark result) standing is taken = absurd (cc)
one_undone (CheckedBack mark result) standing is taken = absurd (cc)

undone_lines : (count : ℕ) (asked : Asked) {exchanges : List Exchange} {lines : List ReportLine} {end : Ending} (standing : StandingView) → count ≤ standing.journal
    → ArePut (replicate count (asked, question.Undo)) exchanges lines end → length lines + left_to_clear (standing_after exchanges standing) ≤ left_to_clear standing + 1
undone_lines zero asked standing enough all_put = omega arith
undone_lines (suc more) asked standing enough cut_short = omega arith
undone_lines (suc more) asked standing enough (refused {exchange = exchange} of_question is) = let left = undo_closes exchange standing of_question in omega arith
undone_lines (suc more) asked standing enough (accepted {exchange = exchange} of_question is put) =
    let one = one_undone exchange standing of_question is in
    let shorter = ap (length {A = ℕ}) one.1 in
    let rest = undone_lines more asked (after_exchange exchange standing) (omega (arith, one.0)) put in
    omega (arith, one.0, shorter, rest)

undone_left : (count : ℕ) (asked : Asked) {exchanges : List Exchange} {lines : List ReportLine} {end : Ending} (standing : StandingView)
    → ArePut (replicate count (asked, question.Undo)) exchanges lines end → left_to_clear (standing_after exchanges standing) ≤ left_to_clear standing
undone_left zero asked standing all_put = omega arith
undone_left (suc more) asked standing cut_short = omega arith
undone_left (suc more) asked standing (refused {exchange = exchange} of_question is) = undo_closes exchange standing of_question
undone_left (suc more) asked standing (accepted {exchange = exchange} of_question is put) =
    let one = undo_closes exchange standing of_question in
    let rest = undone_left more asked (after_exchange exchange standing) put in
    omega (arith, one, rest)

-- If a step asks for at most as many undos as operations are open, its undos satisfy `IsGrowth`, with at most as many
-- exchanges as report lines.
IsGrowth-undone : (place count : ℕ) (end : Ending) {exchanges : List Exchange} {lines : List ReportLine} (standing : StandingView) → count ≤ standing.journal
    → AreUndone place count exchanges lines end → IsGrowth standing exchanges lines end × (length exchanges ≤ length lines)
IsGrowth-undone place zero end standing enough tells =
    (IsGrowth-told standing tells, omega (arith, ap (length {A = Exchange}) tells.nothing_asked))
IsGrowth-undone place (suc more) end standing enough put =
    let few = undone_lines (suc more) (asked.Step place) standing enough put in
    let long = length-ArePut put in (
      record { left = omega arith; with_lines = omega arith; turns = omega (arith, long.0); if_refused = λ _. undone_left (suc more) (asked.Step place) standing put },
      omega (arith, long.0),
    )

IsGrowth-abort : (place : ℕ) (running : List ℕ) (end : Ending) {exchanges : List Exchange} {lines : List ReportLine} (standing : StandingView)
    → IsAbort place running standing.journal exchanges lines end → IsGrowth standing exchanges lines end
IsGrowth-abort place [] end standing undone = (IsGrowth-undone place standing.journal end standing (omega arith) undone).0
IsGrowth-abort place (number ∷ numbers) end standing tells = IsGrowth-told standing tells

IsGrowth-way_back : {place : ℕ} {mark : Mark} {exchanges : List Exchange} {lines : List ReportLine} {end : Ending} (standing : StandingView)
    → IsWayBack place mark standing.journal exchanges lines end → IsGrowth standing exchanges lines end
IsGrowth-way_back standing report.cut_short = record { left = omega arith; with_lines = omega arith; turns = omega arith; if_refused = λ _. omega arith }
IsGrowth-way_back standing (report.refused refusal) = record { left = omega arith; with_lines = omega arith; turns = omega arith; if_refused = λ _. omega arith }
IsGrowth-way_back {place = place} {end = end} standing (opened count undone) =
    let now = record standing { turn = standing.turn + 1 } in
    let rest = IsGrowth-undone place (min count standing.journal) end now (omega arith) undone in
    record { left = rest.0.left; with_lines = rest.0.with_lines; turns = omega (arith, rest.1); if_refused = rest.0.if_refused }

IsGrowth-back : (place : ℕ) (mark : Option Mark) (end : Ending) {exchanges : List Exchange} {lines : List ReportLine} (standing : StandingView)
    → IsStepBack place mark standing.journal exchanges lines end → IsGrowth standing exchanges lines end
IsGrowth-back place None end standing tells = IsGrowth-told standing tells
IsGrowth-back place (Some mark) end standing way = IsGrowth-way_back standing way

pub IsGrowth-step : (place : ℕ) (taken : Step) (end : Ending) {exchanges : List Exchange} {lines : List ReportLine} (standing : StandingView)
    → IsStepReported place standing taken exchanges lines end → IsGrowth standing exchanges lines end
IsGrowth-step place (step.Ask cmd) end standing put = IsGrowth-asked standing put
IsGrowth-step place step.Undo end standing put = IsGrowth-asked standing put
IsGrowth-step place step.Abort end standing abort = IsGrowth-abort place standing.running end standing abort
IsGrowth-step place step.Mark end standing put = IsGrowth-asked standing put
IsGrowth-step place step.Back end standing back = IsGrowth-back place standing.mark end standing back

pub closed_by : {before after : List Exchange → Type 0} {passes stops : ℕ → Type 0} {old new : StandingView} {old_lines new_lines : List ReportLine} {end : Ending} {asked : Asked} {asks : Question}
    → IsCloser asks
    → IsStretch before after passes stops old new old_lines new_lines end (λ exchanges lines. ArePut ((asked, asks) ∷ []) exchanges lines end)
    → left_to_clear new ≤ left_to_clear old
closed_by {old = old} closes stretch =
    subst (λ s. left_to_clear s ≤ left_to_clear old) (sym stretch.counted) (closed old closes stretch.are_those)
