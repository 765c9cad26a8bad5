-- Proofs that one answered question is a stretch of a worker's run, and that two adjacent stretches together are a
-- stretch.
use Rattle.std.proofs.Common.{◌≡◌, ℕ, ◌+◌, Bool, true, false, List, [], ◌∷◌, ◌++◌, length, refl, sym, ap, subst, ◌∙◌, arith, append_assoc, cond, ltb}
use Rattle.std.specs.Prelude.{Some, Result, Ok, Err, MatchResult}
use Rattle.std.proofs.lemmas.List.{append-nil}
use Rattle.std.proofs.lemmas.Bool.{ltb-true, ltb-false}
use Rattle.host_commands.specs.declared.refusal.Refusal.{Refusal}
use Rattle.build_seats.specs.Asked.{told, answer_of, question_of, is_refused, line, ArePut, refused, accepted, all_put}
use Rattle.build_seats.specs.Exchange.{Exchange, Did, Undid, KeptMark, CheckedBack}
use Rattle.build_seats.specs.Report.{ending_of}
use Rattle.build_seats.specs.Standing.{StandingView, after_answer, after_exchange, standing_after_command, standing_after}
use Rattle.build_seats.specs.Stretch.{IsExchange, IsStretch}
use Rattle.build_seats.specs.declared.report.Answer.{Answer}
use Rattle.build_seats.specs.declared.report.Answer.TheVariants.{Refused}
use Rattle.build_seats.specs.declared.report.Asked.{Asked}
use Rattle.build_seats.specs.declared.report.ReportLine.{ReportLine}
use Rattle.build_seats.specs.declared.ask.Question.{Question}
use Rattle.build_seats.specs.declared.ask.Ending.{Ending}
use Rattle.build_seats.specs.declared.ask.Ending.TheVariants as ending

turn-after_answer : (exchange : Exchange) (standing : StandingView) → (after_answer exchange standing).turn ≡ standing.turn
unfolding standing_after_command
turn-after_answer (Did cmd (Ok reply)) standing = refl
turn-after_answer (Did cmd (Err refusal)) standing = refl
turn-after_answer (Undid (Ok undone)) standing = refl
turn-after_answer (Undid (Err refusal)) standing = refl
turn-after_answer (KeptMark (Ok mark)) standing = refl
turn-after_answer (KeptMark (Err refusal)) standing = refl
turn-after_answer (CheckedBack mark result) standing = refl

-- a list of exchanges raises the index of the worker's next turn by the number of exchanges
pub turn-standing_after : (exchanges : List Exchange) (standing : StandingView) → (standing_after exchanges standing).turn ≡ standing.turn + length exchanges
turn-standing_after [] standing = omega arith
turn-standing_after (exchange ∷ more) standing =
    let here = turn-after_answer exchange (record standing { turn = standing.turn + 1 }) in
    let rest = turn-standing_after more (after_exchange exchange standing) in
    omega (arith, here, rest)

pub standing_after-append : (first more : List Exchange) (standing : StandingView) → standing_after (first ++ more) standing ≡ standing_after more (standing_after first standing)
standing_after-append [] more standing = refl
standing_after-append (exchange ∷ first) more standing = standing_after-append first more (after_exchange exchange standing)

-- ---- one question

put_alone : (asked : Asked) (question : Question) (exchange : Exchange) (is : Bool) → question_of exchange ≡ Some question → is_refused (told exchange) ≡ is
    → ArePut ((asked, question) ∷ []) (exchange ∷ []) (line asked (told exchange) ∷ []) (cond is ending.Refused ending.Done)
put_alone asked question exchange true of_question is = refused of_question is
put_alone asked question exchange false of_question is = accepted of_question is all_put

pub cut_at : (is : Bool) → cond is ending.Refused ending.Done ≡ ending.Cut → ⊥
cut_at true is = cc
cut_at false is = cc

-- no answer has the outcome of a withheld turn (`Cut`)
pub not_cut : (answer : Answer) → ending_of answer ≡ ending.Cut → ⊥
not_cut answer is = cut_at (is_refused answer) is

-- if an answer is the value of a result, or reports the refusal of the result, `answer_of` the result is that answer
pub answered : (result : Result Answer Refusal) (answer : Answer) → MatchResult result (λ said. answer ≡ said) (λ refusal. answer ≡ Refused refusal) → answer ≡ answer_of result
answered (Ok said) answer is = is
answered (Err refusal) answer is = is

-- `IsExchange` holds of a question and its answer if an exchange has both, was added to the teller's exchanges, and was
-- counted as a turn.
pub IsExchange-of : {before after : List Exchange → Type 0} {question : Question} {old new : StandingView} {answer : Answer} (exchange : Exchange)
    → question_of exchange ≡ Some question
    → ((earlier : List Exchange) → before earlier → after (earlier ++ exchange ∷ []))
    → new ≡ after_exchange exchange old
    → answer ≡ told exchange
    → IsExchange before after question old new answer
IsExchange-of exchange of_question tells counts is = record {
  exchange = exchange;
  of_question = of_question;
  told_after = tells;
  counted = counts;
  answer_is = is;
}

-- An exchange in a turn that the gate gave, with the report lines added after it, makes up a stretch of a worker's run.
pub IsStretch-exchange : {before after : List Exchange → Type 0} {passes stops : ℕ → Type 0} {old new : StandingView} {end : Ending} {old_lines new_lines : List ReportLine}
    {AreThose : List Exchange → List ReportLine → Type 0} {turn : ℕ} (exchange : Exchange) (its : List ReportLine)
    → turn ≡ old.turn
    → passes turn
    → ((earlier : List Exchange) → before earlier → after (earlier ++ exchange ∷ []))
    → new ≡ after_exchange exchange old
    → (end ≡ ending.Cut → ⊥)
    → new_lines ≡ old_lines ++ its
    → AreThose (exchange ∷ []) its
    → IsStretch before after passes stops old new old_lines new_lines end AreThose
IsStretch-exchange {passes = passes} {old = old} {new = new} {turn = turn} exchange its at pass tells counts uncut adds those =
    let next : new.turn ≡ old.turn + 1 = ap (λ (s : StandingView). s.turn) counts ∙ turn-after_answer exchange (record old { turn = old.turn + 1 }) in
    record {
      exchanges = exchange ∷ [];
      lines = its;
      told = tells;
      passed = λ other from below. (let here : turn ≡ other = omega arith in subst passes here pass);
      stopped = λ cut. absurd (uncut cut);
      counted = counts;
      added = adds;
      are_those = those;
    }

-- An answered question in a turn that the gate gave, with the question's report line, makes up a stretch of a worker's
-- run.
pub IsStretch-one : {before after : List Exchange → Type 0} {passes stops : ℕ → Type 0} {question : Question} {old new : StandingView} {answer said : Answer}
    {asked : Asked} {end : Ending} {old_lines new_lines : List ReportLine} {turn : ℕ}
    → turn ≡ old.turn
    → passes turn
    → IsExchange before after question old new said
    → answer ≡ said
    → end ≡ ending_of answer
    → new_lines ≡ old_lines ++ line asked answer ∷ []
    → IsStretch before after passes stops old new old_lines new_lines end (λ exchanges lines. ArePut ((asked, question) ∷ []) exchanges lines end)
IsStretch-one {question = question} {answer = answer} {asked = asked} {end = end} {old_lines = old_lines} at pass put says is adds =
    let its = line asked (told put.exchange) ∷ [] in
    let tells : answer ≡ told put.exchange = says ∙ put.answer_is in
    IsStretch-exchange put.exchange its at pass put.told_after put.counted (λ cut. not_cut answer (sym is ∙ cut)) (adds ∙ ap (λ a. old_lines ++ line asked a ∷ []) tells)
    (subst (λ e. ArePut ((asked, question) ∷ []) (put.exchange ∷ []) its e) (ap (λ a. ending_of a) (sym tells) ∙ sym is)
    (put_alone asked question put.exchange (is_refused (told put.exchange)) put.of_question refl))

-- A wait for a turn that the gate withholds makes up a stretch without exchanges and lines, with the outcome `Cut`.
pub IsStretch-cut : {before : List Exchange → Type 0} {passes stops : ℕ → Type 0} {standing : StandingView} {lines : List ReportLine} {AreThose : List Exchange → List ReportLine → Type 0} {turn : ℕ}
    → turn ≡ standing.turn
    → stops turn
    → AreThose [] []
    → IsStretch before before passes stops standing standing lines lines ending.Cut AreThose
IsStretch-cut {before} {passes} {stops} {standing} {lines} {AreThose} {turn} at stop those = record {
  exchanges = [];
  lines = [];
  told = λ earlier tells. subst before (sym (append-nil earlier)) tells;
  passed = λ turn from below. absurd (omega arith);
  stopped = λ _. subst stops at stop;
  counted = refl;
  added = sym (append-nil lines);
  are_those = those;
}

-- One report line, added without a question to the host, makes up a stretch of a worker's run.
pub IsStretch-told : {before : List Exchange → Type 0} {passes stops : ℕ → Type 0} {standing : StandingView} {old_lines new_lines : List ReportLine} {end : Ending}
    {AreThose : List Exchange → List ReportLine → Type 0} (asked : Asked) (answer : Answer)
    → end ≡ ending_of answer
    → new_lines ≡ old_lines ++ line asked answer ∷ []
    → AreThose [] (line asked answer ∷ [])
    → IsStretch before before passes stops standing standing old_lines new_lines end AreThose
IsStretch-told {before = before} asked answer is adds those = record {
  exchanges = [];
  lines = line asked answer ∷ [];
  told = λ earlier tells. subst before (sym (append-nil earlier)) tells;
  passed = λ turn from below. absurd (omega arith);
  stopped = λ cut. absurd (not_cut answer (sym is ∙ cut));
  counted = refl;
  added = adds;
  are_those = those;
}

-- A part of a worker's run without questions and new report lines is a stretch.
pub IsStretch-none : {before : List Exchange → Type 0} {passes stops : ℕ → Type 0} {standing : StandingView} {lines : List ReportLine} {AreThose : List Exchange → List ReportLine → Type 0}
    → AreThose [] []
    → IsStretch before before passes stops standing standing lines lines ending.Done AreThose
IsStretch-none {before = before} {lines = lines} those = record {
  exchanges = [];
  lines = [];
  told = λ earlier tells. subst before (sym (append-nil earlier)) tells;
  passed = λ turn from below. absurd (omega arith);
  stopped = λ cut. absurd (cut_at false cut);
  counted = refl;
  added = sym (append-nil lines);
  are_those = those;
}

-- Two adjacent stretches of a worker's run are one stretch. The properties of the two, `First` and `Second`, have to
-- imply the property `Whole`.
pub IsStretch-append : {before between after : List Exchange → Type 0} {passes stops : ℕ → Type 0} {old mid new : StandingView} {old_lines mid_lines new_lines : List ReportLine}
    {one end : Ending} {First Second Whole : List Exchange → List ReportLine → Type 0}
    → IsStretch before between passes stops old mid old_lines mid_lines one First
    → IsStretch between after passes stops mid new mid_lines new_lines end Second
    → ((exchanges : List Exchange) (lines : List ReportLine) (more : List Exchange) (its : List ReportLine) → mid ≡ standing_after exchanges old → new ≡ standing_after more mid
    → First exchanges lines → Second more its → Whole (exchanges ++ more) (lines ++ its))
    → IsStretch before after passes stops old new old_lines new_lines end Whole
IsStretch-append {before} {between} {after} {passes} {stops} {old} {mid} {new} {old_lines} {mid_lines} {new_lines} {one} {end} {First} {Second} {Whole} first second whole = record {
  exchanges = first.exchanges ++ second.exchanges;
  lines = first.lines ++ second.lines;
  told = λ earlier tells. subst after (append_assoc earlier first.exchanges second.exchanges) (second.told (earlier ++ first.exchanges) (first.told earlier tells));
  passed = λ turn from below. (elim (ltb turn mid.turn) as (λ b. ltb turn mid.turn ≡ b → passes turn) [
    | true ↦ λ is. first.passed turn from (ltb-true turn mid.turn is)
    | false ↦ λ is. second.passed turn (ltb-false turn mid.turn is) below
  ]) refl;
  stopped = second.stopped;
  counted = second.counted ∙ ap (standing_after second.exchanges) first.counted ∙ sym (standing_after-append first.exchanges second.exchanges old);
  added = second.added ∙ ap (λ ls. ls ++ second.lines) first.added ∙ append_assoc old_lines first.lines second.lines;
  are_those = whole first.exchanges first.lines second.exchanges second.lines first.counted second.counted first.are_those second.are_those;
}

-- If a stretch has the property `First`, and `First` implies `Whole`, the stretch has the property `Whole` too.
pub IsStretch-so : {before after : List Exchange → Type 0} {passes stops : ℕ → Type 0} {old new : StandingView} {old_lines new_lines : List ReportLine}
    {end : Ending} {First Whole : List Exchange → List ReportLine → Type 0}
    → IsStretch before after passes stops old new old_lines new_lines end First
    → ((exchanges : List Exchange) (lines : List ReportLine) → new ≡ standing_after exchanges old → First exchanges lines → Whole exchanges lines)
    → IsStretch before after passes stops old new old_lines new_lines end Whole
IsStretch-so stretch so = record {
  exchanges = stretch.exchanges;
  lines = stretch.lines;
  told = stretch.told;
  passed = stretch.passed;
  stopped = stretch.stopped;
  counted = stretch.counted;
  added = stretch.added;
  are_those = so stretch.exchanges stretch.lines stretch.counted stretch.are_those;
}

-- a stretch of a worker's run with the turns of build `other` is also one with the turns of `build`, if the two builds
-- are equal
pub IsStretch-build : {before after : List Exchange → Type 0} {old new : StandingView} {old_lines new_lines : List ReportLine} {end : Ending} {AreThose : List Exchange
    → List ReportLine → Type 0} (passes stops : ℕ → ℕ → Type 0) {other build : ℕ}
    → other ≡ build
    → IsStretch before after (passes other) (stops other) old new old_lines new_lines end AreThose
    → IsStretch before after (passes build) (stops build) old new old_lines new_lines end AreThose
IsStretch-build {before} {after} {old} {new} {old_lines} {new_lines} {end} {AreThose} passes stops same stretch =
    subst (λ b. IsStretch before after (passes b) (stops b) old new old_lines new_lines end AreThose) same stretch
