-- Proofs that asking the parts of a list of questions one after the other amounts to asking the whole list. Each
-- exchange has one report line.
use Rattle.std.proofs.Common.{◌≡◌, ℕ, ◌+◌, ◌≤◌, List, [], ◌∷◌, ◌++◌, length, refl, sym, ap, subst, ◌∙◌, arith, append_assoc, length-append}
use Rattle.std.proofs.lemmas.List.{append-nil}
use Rattle.build_seats.specs.Asked.{told, line, ArePut, all_put, cut_short, refused, accepted}
use Rattle.build_seats.specs.Exchange.{Exchange}
use Rattle.build_seats.specs.Standing.{StandingView}
use Rattle.build_seats.specs.Stretch.{IsStretch}
use Rattle.build_seats.specs.declared.report.Asked.{Asked}
use Rattle.build_seats.specs.declared.report.ReportLine.{ReportLine}
use Rattle.build_seats.specs.declared.ask.Question.{Question}
use Rattle.build_seats.specs.declared.ask.Ending.{Ending}
use Rattle.build_seats.specs.declared.ask.Ending.TheVariants as ending
use Rattle.build_seats.proofs.Stretches.{turn-standing_after}

abbrev pub Questions : Type 0
Questions = List (Asked × Question)

-- Asking the questions of `rest`, after `exchanges`, completes the asking of the whole list `all`.
pub record Leads (rest all : Questions) (exchanges : List Exchange) (lines : List ReportLine) : Type 0 where
  pub on : (more : List Exchange) (its : List ReportLine) (end : Ending) → ArePut rest more its end → ArePut all (exchanges ++ more) (lines ++ its) end

pub Leads-none : (all : Questions) → Leads all all [] []
Leads-none all = record { on = λ more its end put. put }

both_along : (P : List Exchange → List ReportLine → Type 0) {es es' : List Exchange} {ls ls' : List ReportLine} → es ≡ es' → ls ≡ ls' → P es ls → P es' ls'
both_along P {es} {es'} {ls} {ls'} e l h = subst (P es') l (subst (λ x. P x ls) e h)

-- `Leads` still holds after the first remaining question is accepted
pub Leads-next : {question : Asked × Question} {rest all : Questions} {exchanges more : List Exchange} {lines its : List ReportLine} → Leads (question ∷ rest) all exchanges lines
    → ArePut (question ∷ []) more its ending.Done → Leads rest all (exchanges ++ more) (lines ++ its)
Leads-next {all = all} {exchanges = exchanges} {lines = lines} leads (accepted {exchange = exchange} of_question is all_put) = record {
  on = λ after after_lines end put.
      both_along (λ es ls. ArePut all es ls end) (sym (append_assoc exchanges (exchange ∷ []) after)) (sym (append_assoc lines (line _ (told exchange) ∷ []) after_lines))
      (leads.on (exchange ∷ after) (line _ (told exchange) ∷ after_lines) end (accepted of_question is put));
}

-- if `Leads` holds and no question remains, the worker has asked the whole list, and each question was accepted
pub Leads-whole : {all : Questions} {exchanges : List Exchange} {lines : List ReportLine} → Leads [] all exchanges lines → ArePut all exchanges lines ending.Done
Leads-whole {all} {exchanges} {lines} leads = both_along (λ es ls. ArePut all es ls ending.Done) (append-nil exchanges) (append-nil lines) (leads.on [] [] ending.Done all_put)

stops_there : {question : Asked × Question} {rest : Questions} {exchanges : List Exchange} {lines : List ReportLine} {end : Ending} → (end ≡ ending.Done → ⊥)
    → ArePut (question ∷ []) exchanges lines end → ArePut (question ∷ rest) exchanges lines end
stops_there goes cut_short = cut_short
stops_there goes (refused of_question is) = refused of_question is
stops_there goes (accepted of_question is all_put) = absurd (goes refl)

-- if the first remaining question is refused or gets no turn, the asking of the whole list ends with that outcome
pub Leads-stop : {question : Asked × Question} {rest all : Questions} {exchanges more : List Exchange} {lines its : List ReportLine} {end : Ending}
    → (end ≡ ending.Done → ⊥) → Leads (question ∷ rest) all exchanges lines → ArePut (question ∷ []) more its end → ArePut all (exchanges ++ more) (lines ++ its) end
Leads-stop {more = more} {its = its} {end = end} goes leads put = leads.on more its end (stops_there goes put)

-- If all questions of one list are accepted and then another list is asked, the two lists are asked as one.
pub ArePut-append : {first more : Questions} {exchanges later : List Exchange} {lines its : List ReportLine} {end : Ending} → ArePut first exchanges lines ending.Done
    → ArePut more later its end → ArePut (first ++ more) (exchanges ++ later) (lines ++ its) end
ArePut-append all_put rest = rest
ArePut-append (accepted of_question is put) rest = accepted of_question is (ArePut-append put rest)

pub ArePut-append_stop : {first : Questions} (more : Questions) {exchanges : List Exchange} {lines : List ReportLine} {end : Ending} → (end ≡ ending.Done → ⊥)
    → ArePut first exchanges lines end → ArePut (first ++ more) exchanges lines end
ArePut-append_stop more goes all_put = absurd (goes refl)
ArePut-append_stop more goes cut_short = cut_short
ArePut-append_stop more goes (refused of_question is) = refused of_question is
ArePut-append_stop more goes (accepted of_question is put) = accepted of_question is (ArePut-append_stop more goes put)

-- each exchange has one report line, and there are no more exchanges than questions
pub length-ArePut : {questions : Questions} {exchanges : List Exchange} {lines : List ReportLine} {end : Ending} → ArePut questions exchanges lines end
    → (length lines ≡ length exchanges) × (length exchanges ≤ length questions)
length-ArePut all_put = (refl, omega arith)
length-ArePut cut_short = (refl, omega arith)
length-ArePut (refused of_question is) = (refl, omega arith)
length-ArePut (accepted of_question is put) = let h = length-ArePut put in (omega arith, omega arith)

-- For each question of a list, at most one report line is added and at most one turn is taken.
pub grown : {before after : List Exchange → Type 0} {passes stops : ℕ → Type 0} {old new : StandingView} {old_lines new_lines : List ReportLine} {end : Ending} {questions : Questions}
    → IsStretch before after passes stops old new old_lines new_lines end (λ exchanges lines. ArePut questions exchanges lines end)
    → (length new_lines ≤ length old_lines + length questions) × (new.turn ≤ old.turn + length questions)
grown {old = old} {old_lines = old_lines} stretch =
    let few = length-ArePut stretch.are_those in
    let lines = ap length stretch.added ∙ length-append old_lines stretch.lines in
    let turns = ap (λ (s : StandingView). s.turn) stretch.counted ∙ turn-standing_after stretch.exchanges old in
    (omega (arith, few, lines), omega (arith, few, turns))
