-- The invariant of the loops in which a worker asks for exits or undos, and proofs that each accepted exit or undo
-- preserves the invariant.
use Rattle.std.proofs.Common.{◌≡◌, ℕ, suc, ◌+◌, ◌-◌, ◌<◌, ◌≤◌, List, [], ◌∷◌, ◌++◌, length, drop, get_or, replicate, map}
use Rattle.std.proofs.Common.{sym, ap, ap₂, subst, ◌∙◌, arith, length-append, add-one, drop-cons, drop_of_length-le}
use Rattle.std.proofs.lemmas.List.{length-map, length-replicate}
use Rattle.build_seats.specs.Asked.{ArePut}
use Rattle.build_seats.specs.Exchange.{Exchange}
use Rattle.build_seats.specs.Report.{exit_of, clearing}
use Rattle.build_seats.specs.Standing.{StandingView, left_to_clear}
use Rattle.build_seats.specs.Stretch.{IsStretch}
use Rattle.build_seats.specs.declared.report.Asked.{Asked}
use Rattle.build_seats.specs.declared.report.Asked.TheVariants as asked
use Rattle.build_seats.specs.declared.report.ReportLine.{ReportLine}
use Rattle.build_seats.specs.declared.ask.Question.{Question}
use Rattle.build_seats.specs.declared.ask.Question.TheVariants as question
use Rattle.build_seats.specs.declared.ask.Ending.{Ending}
use Rattle.build_seats.specs.declared.ask.Ending.TheVariants as ending
use Rattle.build_seats.proofs.Growth.{IsCloser, closed_by}
use Rattle.build_seats.proofs.Questions.{Questions, Leads, Leads-none, Leads-next, Leads-stop, Leads-whole, ArePut-append, ArePut-append_stop, grown}
use Rattle.build_seats.proofs.Stretches.{IsStretch-none, IsStretch-append, IsStretch-so}

-- A worker has asked the questions of `all` that come before `rest`, and the host has accepted each of them. The lines
-- and the turns have grown by at most `done`, and `left_to_clear` has not grown.
pub record IsUnderWay (before now : List Exchange → Type 0) (passes stops : ℕ → Type 0) (old new : StandingView) (old_lines new_lines : List ReportLine)
    (done : ℕ) (rest all : Questions) : Type 0 where
  pub stretch : IsStretch before now passes stops old new old_lines new_lines ending.Done (Leads rest all)
  pub lines : length new_lines ≤ length old_lines + done
  pub turns : new.turn ≤ old.turn + done
  pub left : left_to_clear new ≤ left_to_clear old

-- `IsUnderWay` holds before a worker asks the first question of a list
pub loop_none : {before : List Exchange → Type 0} {passes stops : ℕ → Type 0} {standing : StandingView} {lines : List ReportLine} {from all : Questions}
    → Leads from all [] []
    → IsUnderWay before before passes stops standing standing lines lines 0 from all
loop_none leads = record { stretch = IsStretch-none leads; lines = omega arith; turns = omega arith; left = omega arith }

-- `IsUnderWay` still holds after the host accepts the next question, if that question, like an exit or an undo, never
-- raises `left_to_clear`
pub loop_next : {before between after : List Exchange → Type 0} {passes stops : ℕ → Type 0} {old mid new : StandingView} {old_lines mid_lines new_lines : List ReportLine}
    {asked : Asked} {question : Question} {from all : Questions} {done : ℕ} (rest : Questions)
    → from ≡ (asked, question) ∷ rest
    → IsCloser question
    → IsUnderWay before between passes stops old mid old_lines mid_lines done from all
    → IsStretch between after passes stops mid new mid_lines new_lines ending.Done (λ exchanges lines. ArePut ((asked, question) ∷ []) exchanges lines ending.Done)
    → IsUnderWay before after passes stops old new old_lines new_lines (done + 1) rest all
loop_next {all = all} rest is closes so_far put =
    let grows = grown put in
    let less = closed_by closes put in
    record {
      stretch =
          IsStretch-append so_far.stretch put (λ exchanges lines more its _ _ leads one.
          Leads-next (subst (λ qs. Leads qs all exchanges lines) is leads) one);
      lines = omega (arith, grows.0, so_far.lines);
      turns = omega (arith, grows.1, so_far.turns);
      left = omega (arith, less, so_far.left);
    }

-- if the next question is refused or gets no turn, the asking of the whole list ends with that outcome
pub loop_stop : {before between after : List Exchange → Type 0} {passes stops : ℕ → Type 0} {old mid new : StandingView} {old_lines mid_lines new_lines : List ReportLine}
    {end : Ending} {first : Asked × Question} {from all : Questions} {done : ℕ} (rest : Questions)
    → from ≡ first ∷ rest
    → (end ≡ ending.Done → ⊥)
    → IsUnderWay before between passes stops old mid old_lines mid_lines done from all
    → IsStretch between after passes stops mid new mid_lines new_lines end (λ exchanges lines. ArePut (first ∷ []) exchanges lines end)
    → IsStretch before after passes stops old new old_lines new_lines end (λ exchanges lines. ArePut all exchanges lines end)
loop_stop {all = all} rest is goes so_far put =
    IsStretch-append so_far.stretch put (λ exchanges lines more its _ _ leads one. Leads-stop {rest = rest} goes (subst (λ qs. Leads qs all exchanges lines) is leads) one)

-- if `IsUnderWay` holds and no question is left, the worker has asked the whole list, and the host has accepted each
-- question
pub loop_whole : {before after : List Exchange → Type 0} {passes stops : ℕ → Type 0} {old new : StandingView} {old_lines new_lines : List ReportLine} {from all : Questions} {done : ℕ}
    → from ≡ []
    → IsUnderWay before after passes stops old new old_lines new_lines done from all
    → IsStretch before after passes stops old new old_lines new_lines ending.Done (λ exchanges lines. ArePut all exchanges lines ending.Done)
loop_whole {all = all} is so_far = IsStretch-so so_far.stretch (λ exchanges lines _ leads. Leads-whole (subst (λ qs. Leads qs all exchanges lines) is leads))

-- ---- the same question, `count` times

pub replicate-next : (again : Asked × Question) (count done : ℕ) → done < count → replicate (count - done) again ≡ again ∷ replicate (count - (done + 1)) again
replicate-next again count done left =
    let one : count - done ≡ suc (count - (done + 1)) = omega arith in ap (λ n. replicate n again) one

-- `Leads` holds before the first of `count` equal questions is asked, when all of them remain to be asked
pub Leads-all : (count : ℕ) (again : Asked × Question) → Leads (replicate (count - 0) again) (replicate count again) [] []
Leads-all count again =
    let all : count ≡ count - 0 = omega arith in
    subst (λ n. Leads (replicate n again) (replicate count again) [] []) all (Leads-none (replicate count again))

pub replicate-none : (again : Asked × Question) (count done : ℕ) → count ≤ done → replicate (count - done) again ≡ []
replicate-none again count done none =
    let zero_left : count - done ≡ 0 = omega arith in ap (λ n. replicate n again) zero_left

-- ---- the exits of RECs

pub exits-next : (numbers : List ℕ) (number place : ℕ) → place < length numbers → number ≡ get_or numbers place 0
    → map exit_of (drop place numbers) ≡ exit_of number ∷ map exit_of (drop (place + 1) numbers)
exits-next numbers number place within is =
    let rest : drop place numbers ≡ get_or numbers place 0 ∷ drop (place + 1) numbers = rw (add-one, drop-cons numbers place 0) in
    ap (map exit_of) rest ∙ ap (λ n. exit_of n ∷ map exit_of (drop (place + 1) numbers)) (sym is)

pub exits-none : (numbers : List ℕ) (place : ℕ) → length numbers ≤ place → map exit_of (drop place numbers) ≡ []
exits-none numbers place end = ap (map exit_of) (drop_of_length-le numbers end)

-- ---- the clearing of a build

-- if the exits of all running RECs are accepted, asking next for the undos of all open operations completes the asking
-- of the questions of `clearing`
pub cleared : {before between after : List Exchange → Type 0} {passes stops : ℕ → Type 0} {old mid new : StandingView} {old_lines mid_lines new_lines : List ReportLine} {end : Ending}
    (standing : StandingView) (numbers : List ℕ) (opened : ℕ)
    → numbers ≡ standing.running
    → opened ≡ standing.journal
    → IsStretch before between passes stops old mid old_lines mid_lines ending.Done (λ exchanges lines. ArePut (map exit_of numbers) exchanges lines ending.Done)
    → IsStretch between after passes stops mid new mid_lines new_lines end (λ exchanges lines. ArePut (replicate opened (asked.Undo, question.Undo)) exchanges lines end)
    → IsStretch before after passes stops old new old_lines new_lines end (λ exchanges lines. ArePut (clearing standing) exchanges lines end)
cleared {end = end} standing numbers opened runs opens exits undos =
    IsStretch-append exits undos (λ exchanges lines more its _ _ exit undo.
    subst (λ ns. ArePut (map exit_of ns ++ replicate standing.journal (asked.Undo, question.Undo)) (exchanges ++ more) (lines ++ its) end) runs
    (subst (λ n. ArePut (map exit_of numbers ++ replicate n (asked.Undo, question.Undo)) (exchanges ++ more) (lines ++ its) end) opens (ArePut-append exit undo)))

-- if an exit that follows a refusal is itself refused, or gets no turn, the asking of the questions of `clearing` ends
-- with that outcome
pub cleared_stop : {before after : List Exchange → Type 0} {passes stops : ℕ → Type 0} {old new : StandingView} {old_lines new_lines : List ReportLine} {end : Ending}
    (standing : StandingView) (numbers : List ℕ)
    → numbers ≡ standing.running
    → (end ≡ ending.Done → ⊥)
    → IsStretch before after passes stops old new old_lines new_lines end (λ exchanges lines. ArePut (map exit_of numbers) exchanges lines end)
    → IsStretch before after passes stops old new old_lines new_lines end (λ exchanges lines. ArePut (clearing standing) exchanges lines end)
cleared_stop {end = end} standing numbers runs goes exits =
    IsStretch-so exits (λ exchanges lines _ exit.
    subst (λ ns. ArePut (map exit_of ns ++ replicate standing.journal (asked.Undo, question.Undo)) exchanges lines end) runs
    (ArePut-append_stop (replicate standing.journal (asked.Undo, question.Undo)) goes exit))

pub length-exits : (numbers : List ℕ) → length (map exit_of numbers) ≡ length numbers
length-exits numbers = length-map numbers exit_of

pub length-clearing : (standing : StandingView) → length (clearing standing) ≡ left_to_clear standing
length-clearing standing =
    length-append (map exit_of standing.running) (replicate standing.journal (asked.Undo, question.Undo))
    ∙ ap₂ ◌+◌ (length-exits standing.running) (length-replicate standing.journal (asked.Undo, question.Undo))
