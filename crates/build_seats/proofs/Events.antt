-- A proof that a worker's report records as accepted exactly the worker's accepted commands and undos, in sequence.
use Rattle.std.proofs.Common.{◌≡◌, ℕ, zero, suc, ◌+◌, Bool, true, false, cond, List, [], ◌∷◌, ◌++◌, length, map, replicate, refl, sym, ap, subst, ◌∙◌, arith, append_assoc, length-append}
use Rattle.std.specs.Prelude.{Option, Some, None, Ok, Err, filter, min, slice_get, option_map, ⊤}
use Rattle.std.specs.List.{AllZip}
use Rattle.std.proofs.lemmas.List.Elements.{filter-append}
use Rattle.host_ledger.specs.declared.mark.Mark.{Mark}
use Rattle.host_commands.specs.declared.refusal.Refusal.TheVariants.{NothingToUndo, RecRunning}
use Rattle.host_commands.specs.declared.cmd.Step.{Step}
use Rattle.host_commands.specs.declared.cmd.Step.TheVariants as step
use Rattle.build_seats.specs.Asked.{told, question_of, line, ArePut, all_put, cut_short, refused, accepted}
use Rattle.build_seats.specs.Events.{is_done, is_accepted, question_of_step, question_at, IsLineOf, AcceptedMatchEvents}
use Rattle.build_seats.specs.Exchange.{Exchange, Did, Undid, KeptMark, CheckedBack, is_event}
use Rattle.build_seats.specs.Report as report
use Rattle.build_seats.specs.Report.{IsAnswerReported, AreUndone, IsAbort, IsWayBack, IsStepBack, IsStepReported, IsWorkerReport, clearing, exit_of, opened}
use Rattle.build_seats.specs.Standing.{StandingView, standing_after}
use Rattle.build_seats.specs.declared.report.Asked.{Asked}
use Rattle.build_seats.specs.declared.report.Asked.TheVariants as asked
use Rattle.build_seats.specs.declared.report.Answer.{Answer}
use Rattle.build_seats.specs.declared.report.Answer.TheVariants.{Nothing, Refused}
use Rattle.build_seats.specs.declared.report.ReportLine.{ReportLine}
use Rattle.build_seats.specs.declared.ask.Question.{Question}
use Rattle.build_seats.specs.declared.ask.Question.TheVariants as question
use Rattle.build_seats.specs.declared.ask.Ending.{Ending}
use Rattle.build_seats.specs.declared.ask.Ending.TheVariants as ending
use Rattle.build_seats.proofs.Questions.{Questions}

-- The accepted lines among `lines` match the events among `exchanges` one by one, in sequence.
record Fit (steps : List Step) (lines : List ReportLine) (exchanges : List Exchange) : Type 0 where
  one_by_one : AllZip (IsLineOf steps) (filter is_accepted lines) (filter is_event exchanges)

Fit-none : (steps : List Step) → Fit steps [] []
Fit-none steps = record { one_by_one = tt }

AllZip-append : {A B : Type 0} (R : A → B → Type 0) (xs : List A) (ys : List B) (us : List A) (vs : List B) → AllZip R xs ys → AllZip R us vs → AllZip R (xs ++ us) (ys ++ vs)
AllZip-append R [] [] us vs h k = k
AllZip-append R [] (y ∷ ys) us vs h k = absurd h
AllZip-append R (x ∷ xs) [] us vs h k = absurd h
AllZip-append R (x ∷ xs) (y ∷ ys) us vs h k = (h.0, AllZip-append R xs ys us vs h.1 k)

Fit-append : (steps : List Step) (lines : List ReportLine) (exchanges : List Exchange) (its : List ReportLine) (more : List Exchange) → Fit steps lines exchanges
    → Fit steps its more → Fit steps (lines ++ its) (exchanges ++ more)
Fit-append steps lines exchanges its more h k = record {
  one_by_one =
      subst (λ ls. AllZip (IsLineOf steps) ls (filter is_event (exchanges ++ more))) (sym (filter-append is_accepted lines its))
      (subst (λ es. AllZip (IsLineOf steps) (filter is_accepted lines ++ filter is_accepted its) es) (sym (filter-append is_event exchanges more))
      (AllZip-append (IsLineOf steps) (filter is_accepted lines) (filter is_event exchanges) (filter is_accepted its) (filter is_event more) h.one_by_one k.one_by_one));
}

Fit-both : {steps : List Step} {lines its its_more : List ReportLine} {exchanges first more : List Exchange} → lines ≡ its ++ its_more → exchanges ≡ first ++ more
    → Fit steps its first → Fit steps its_more more → Fit steps lines exchanges
Fit-both {steps} {lines} {its} {its_more} {exchanges} {first} {more} ls es here later =
    subst (λ x. Fit steps x exchanges) (sym ls) (subst (λ x. Fit steps (its ++ its_more) x) (sym es) (Fit-append steps its first its_more more here later))

-- ---- one exchange

is_done-told : (exchange : Exchange) → is_done (told exchange) ≡ is_event exchange
is_done-told (Did cmd (Ok reply)) = refl
is_done-told (Did cmd (Err refusal)) = refl
is_done-told (Undid (Ok undone)) = refl
is_done-told (Undid (Err refusal)) = refl
is_done-told (KeptMark (Ok mark)) = refl
is_done-told (KeptMark (Err refusal)) = refl
is_done-told (CheckedBack mark (Ok count)) = refl
is_done-told (CheckedBack mark (Err refusal)) = refl

zip_both : {A B : Type 0} (R : A → B → Type 0) (is : Bool) (x : A) (y : B) (xs : List A) (ys : List B) → R x y → AllZip R xs ys → AllZip R (cond is (x ∷ xs) xs) (cond is (y ∷ ys) ys)
zip_both R true x y xs ys here rest = (here, rest)
zip_both R false x y xs ys here rest = rest

Fit-one : (steps : List Step) (at : Asked) (exchange : Exchange) (lines : List ReportLine) (exchanges : List Exchange) → question_of exchange ≡ question_at steps at
    → Fit steps lines exchanges → Fit steps (line at (told exchange) ∷ lines) (exchange ∷ exchanges)
Fit-one steps at exchange lines exchanges asks rest = record {
  one_by_one =
      subst (λ b. AllZip (IsLineOf steps) (cond b (line at (told exchange) ∷ filter is_accepted lines) (filter is_accepted lines))
      (cond (is_event exchange) (exchange ∷ filter is_event exchanges) (filter is_event exchanges))) (sym (is_done-told exchange))
      (zip_both (IsLineOf steps) (is_event exchange) (line at (told exchange)) exchange (filter is_accepted lines) (filter is_event exchanges) (record { asks = asks; tells = refl }) rest.one_by_one);
}

-- ---- questions

-- In each pair of the list, the question is the one that a report line with the pair's `Asked` answers.
abbrev AreAt : List Step → Questions → Type 0
AreAt steps [] = ⊤
AreAt steps (one ∷ more) = (Some one.1 ≡ question_at steps one.0) × AreAt steps more

AreAt-replicate : (steps : List Step) (count : ℕ) (one : Asked × Question) → Some one.1 ≡ question_at steps one.0 → AreAt steps (replicate count one)
AreAt-replicate steps zero one is = tt
AreAt-replicate steps (suc more) one is = (is, AreAt-replicate steps more one is)

AreAt-exits : (steps : List Step) (numbers : List ℕ) (more : Questions) → AreAt steps more → AreAt steps (map exit_of numbers ++ more)
AreAt-exits steps [] more rest = rest
AreAt-exits steps (number ∷ numbers) more rest = (refl, AreAt-exits steps numbers more rest)

Fit-put : (steps : List Step) {questions : Questions} {exchanges : List Exchange} {lines : List ReportLine} {end : Ending} → AreAt steps questions
    → ArePut questions exchanges lines end → Fit steps lines exchanges
Fit-put steps at all_put = Fit-none steps
Fit-put steps at cut_short = Fit-none steps
Fit-put steps at (refused {question = asks} {exchange = exchange} of_question is) = Fit-one steps asks.0 exchange [] [] (of_question ∙ at.0) (Fit-none steps)
Fit-put steps at (accepted {question = asks} {exchange = exchange} {exchanges = exchanges} {lines = lines} of_question is put) =
    Fit-one steps asks.0 exchange lines exchanges (of_question ∙ at.0) (Fit-put steps at.1 put)

-- ---- steps

Fit-told : (steps : List Step) (place : ℕ) (answer : Answer) {exchanges : List Exchange} {lines : List ReportLine} {end : Ending} → is_done answer ≡ false
    → IsAnswerReported place answer exchanges lines end → Fit steps lines exchanges
Fit-told steps place answer {exchanges} {lines} not tells =
    subst (λ es. Fit steps lines es) (sym tells.nothing_asked)
    (subst (λ ls. Fit steps ls []) (sym tells.line_is)
    (record { one_by_one = subst (λ b. AllZip (IsLineOf steps) (cond b (line (asked.Step place) answer ∷ []) []) []) (sym not) tt }))

Fit-undone : (steps : List Step) (place count : ℕ) {exchanges : List Exchange} {lines : List ReportLine} (end : Ending) → Some question.Undo ≡ question_at steps (asked.Step place)
    → AreUndone place count exchanges lines end → Fit steps lines exchanges
Fit-undone steps place zero end at tells = Fit-told steps place Nothing refl tells
Fit-undone steps place (suc more) end at put = Fit-put steps (AreAt-replicate steps (suc more) (asked.Step place, question.Undo) at) put

Fit-abort : (steps : List Step) (place : ℕ) (running : List ℕ) (journal : ℕ) {exchanges : List Exchange} {lines : List ReportLine} (end : Ending)
    → Some question.Undo ≡ question_at steps (asked.Step place) → IsAbort place running journal exchanges lines end → Fit steps lines exchanges
Fit-abort steps place [] journal end at undone = Fit-undone steps place journal end at undone
Fit-abort steps place (number ∷ numbers) journal end at tells = Fit-told steps place (Refused RecRunning) refl tells

Fit-way_back : (steps : List Step) (place : ℕ) {mark : Mark} {journal : ℕ} {exchanges : List Exchange} {lines : List ReportLine} {end : Ending}
    → Some question.Undo ≡ question_at steps (asked.Step place) → IsWayBack place mark journal exchanges lines end → Fit steps lines exchanges
Fit-way_back steps place at report.cut_short = Fit-none steps
Fit-way_back steps place at (report.refused refusal) = record { one_by_one = tt }
Fit-way_back steps place {journal = journal} {end = end} at (opened count {exchanges = exchanges} {lines = lines} undone) =
    let rest : Fit steps lines exchanges = Fit-undone steps place (min count journal) end at undone in record { one_by_one = rest.one_by_one }

Fit-back : (steps : List Step) (place : ℕ) (mark : Option Mark) (journal : ℕ) {exchanges : List Exchange} {lines : List ReportLine} (end : Ending)
    → Some question.Undo ≡ question_at steps (asked.Step place) → IsStepBack place mark journal exchanges lines end → Fit steps lines exchanges
Fit-back steps place None journal end at tells = Fit-told steps place (Refused NothingToUndo) refl tells
Fit-back steps place (Some mark) journal end at way = Fit-way_back steps place at way

Fit-step : (steps : List Step) (place : ℕ) (standing : StandingView) (taken : Step) {exchanges : List Exchange} {lines : List ReportLine} (end : Ending)
    → slice_get steps place ≡ Some taken → IsStepReported place standing taken exchanges lines end → Fit steps lines exchanges
Fit-step steps place standing (step.Ask cmd) end at put = Fit-put steps (sym (ap (option_map question_of_step) at), tt) put
Fit-step steps place standing step.Undo end at put = Fit-put steps (sym (ap (option_map question_of_step) at), tt) put
Fit-step steps place standing step.Abort end at abort = Fit-abort steps place standing.running standing.journal end (sym (ap (option_map question_of_step) at)) abort
Fit-step steps place standing step.Mark end at put = Fit-put steps (sym (ap (option_map question_of_step) at), tt) put
Fit-step steps place standing step.Back end at back = Fit-back steps place standing.mark standing.journal end (sym (ap (option_map question_of_step) at)) back

-- ---- the whole

slice_get-front : (front : List Step) (taken : Step) (rest : List Step) → slice_get (front ++ taken ∷ rest) (length front) ≡ Some taken
slice_get-front [] taken rest = refl
slice_get-front (other ∷ front) taken rest = slice_get-front front taken rest

step_there : (steps front : List Step) (taken : Step) (rest : List Step) (place : ℕ) → steps ≡ front ++ taken ∷ rest → place ≡ length front → slice_get steps place ≡ Some taken
step_there steps front taken rest place is at =
    ap (slice_get steps) at ∙ ap (λ xs. slice_get xs (length front)) is ∙ slice_get-front front taken rest

Fit-whole : (steps front rest : List Step) (place : ℕ) (standing : StandingView) {exchanges : List Exchange} {lines : List ReportLine} {ended : Bool}
    → steps ≡ front ++ rest → place ≡ length front → IsWorkerReport place standing rest exchanges lines ended → Fit steps lines exchanges
Fit-whole steps front _ place standing is at report.no_step_left = Fit-none steps
Fit-whole steps front _ place standing is at (report.accepted {step = taken} {steps = rest} first more its its_more one others es ls) =
    let next : place + 1 ≡ length (front ++ taken ∷ []) = omega (arith, length-append front (taken ∷ [])) in
    Fit-both ls es (Fit-step steps place standing taken ending.Done (step_there steps front taken rest place is at) one)
    (Fit-whole steps (front ++ taken ∷ []) rest (place + 1) (standing_after first standing) (is ∙ sym (append_assoc front (taken ∷ []) rest)) next others)
Fit-whole steps front _ place standing is at (report.refused {step = taken} {steps = rest} first more its its_more one cleared es ls) =
    let now = standing_after first standing in
    Fit-both ls es (Fit-step steps place standing taken ending.Refused (step_there steps front taken rest place is at) one)
    (Fit-put steps (AreAt-exits steps now.running (replicate now.journal (asked.Undo, question.Undo)) (AreAt-replicate steps now.journal (asked.Undo, question.Undo) refl)) cleared)
Fit-whole steps front _ place standing is at (report.cut_short {step = taken} {steps = rest} one) =
    Fit-step steps place standing taken ending.Cut (step_there steps front taken rest place is at) one

pub accepted_match_events : (standing : StandingView) (steps : List Step) (exchanges : List Exchange) (lines : List ReportLine) (ended : Bool) → AcceptedMatchEvents standing steps exchanges lines ended
accepted_match_events standing steps exchanges lines ended = λ reports. (Fit-whole steps [] steps 0 standing refl refl reports).one_by_one
