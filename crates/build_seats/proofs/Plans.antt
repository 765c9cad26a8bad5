-- The invariant of the loop in which a worker performs its build's steps, and proofs that an accepted step preserves
-- the invariant.
use Rattle.std.proofs.Common.{◌≡◌, ℕ, ◌+◌, ◌<◌, ◌≤◌, Bool, true, false, List, [], ◌∷◌, ◌++◌, length, drop, get_or, refl, sym}
use Rattle.std.proofs.Common.{ap, subst, ◌∙◌, arith, append_assoc, add-one, drop-cons, drop_of_length-le, length-append}
use Rattle.std.proofs.lemmas.List.{append-nil}
use Rattle.host_commands.specs.declared.cmd.Step.{Step}
use Rattle.build_seats.specs.Asked.{ArePut}
use Rattle.build_seats.specs.Exchange.{Exchange}
use Rattle.build_seats.specs.Report.{IsStepReported, IsWorkerReport, IsWork, clearing, is_over, no_step_left, accepted, refused, cut_short}
use Rattle.build_seats.specs.Standing.{StandingView, first_standing, left_to_clear, standing_after}
use Rattle.build_seats.specs.Stretch.{IsStretch}
use Rattle.build_seats.specs.declared.report.ReportLine.{ReportLine}
use Rattle.build_seats.specs.declared.ask.Ending.{Ending}
use Rattle.build_seats.specs.declared.ask.Ending.TheVariants as ending
use Rattle.build_seats.proofs.Growth.{IsGrowth-step}
use Rattle.build_seats.proofs.Stretches.{IsStretch-append, IsStretch-so, turn-standing_after}

-- Any report of the steps in `rest`, appended to `exchanges` and `lines`, completes a report of all steps.
pub record LeadsOn (place : ℕ) (standing : StandingView) (rest : List Step) (start : StandingView) (steps : List Step) (exchanges : List Exchange) (lines : List ReportLine) : Type 0 where
  pub on : (more : List Exchange) (its : List ReportLine) (ended : Bool) → IsWorkerReport place standing rest more its ended → IsWorkerReport 0 start steps (exchanges ++ more) (lines ++ its) ended

pub LeadsOn-none : (start : StandingView) (steps : List Step) → LeadsOn 0 start steps start steps [] []
LeadsOn-none start steps = record { on = λ more its ended report. report }

report_along : (start : StandingView) (steps : List Step) (ended : Bool) {es es' : List Exchange} {ls ls' : List ReportLine} → es ≡ es' → ls ≡ ls'
    → IsWorkerReport 0 start steps es ls ended → IsWorkerReport 0 start steps es' ls' ended
report_along start steps ended {es} {es'} {ls} {ls'} e l h = subst (λ x. IsWorkerReport 0 start steps es' x ended) l (subst (λ x. IsWorkerReport 0 start steps x ls ended) e h)

LeadsOn-next : (place : ℕ) (standing start : StandingView) (step : Step) (rest steps : List Step) (exchanges more : List Exchange) (lines its : List ReportLine)
    → LeadsOn place standing (step ∷ rest) start steps exchanges lines → IsStepReported place standing step more its ending.Done
    → LeadsOn (place + 1) (standing_after more standing) rest start steps (exchanges ++ more) (lines ++ its)
LeadsOn-next place standing start step rest steps exchanges more lines its leads taken = record {
  on = λ after after_lines ended report.
      report_along start steps ended (sym (append_assoc exchanges more after)) (sym (append_assoc lines its after_lines))
      (leads.on (more ++ after) (its ++ after_lines) ended (accepted more after its after_lines taken report refl refl));
}

-- `LeadsOn` still holds after the next step is accepted
pub steps_next : {before between after : List Exchange → Type 0} {passes stops : ℕ → Type 0} {old mid new : StandingView} {old_lines mid_lines new_lines : List ReportLine}
    (place : ℕ) (step : Step) (from rest steps : List Step)
    → from ≡ step ∷ rest
    → IsStretch before between passes stops old mid old_lines mid_lines ending.Done (LeadsOn place mid from old steps)
    → IsStretch between after passes stops mid new mid_lines new_lines ending.Done (λ exchanges lines. IsStepReported place mid step exchanges lines ending.Done)
    → IsStretch before after passes stops old new old_lines new_lines ending.Done (LeadsOn (place + 1) new rest old steps)
steps_next {old = old} {mid = mid} place step from rest steps is so_far taken =
    IsStretch-append so_far taken (λ exchanges lines more its _ counts leads one.
    subst (λ s. LeadsOn (place + 1) s rest old steps (exchanges ++ more) (lines ++ its)) (sym counts)
    (LeadsOn-next place mid old step rest steps exchanges more lines its (subst (λ xs. LeadsOn place mid xs old steps exchanges lines) is leads) one))

-- a report of the steps so far, and then one of the remaining steps, is a report of all steps
reported : {before between after : List Exchange → Type 0} {passes stops : ℕ → Type 0} {old mid new : StandingView} {old_lines mid_lines new_lines : List ReportLine} {end : Ending}
    (place : ℕ) (from steps : List Step) (ended : Bool)
    → IsStretch before between passes stops old mid old_lines mid_lines ending.Done (LeadsOn place mid from old steps)
    → IsStretch between after passes stops mid new mid_lines new_lines end (λ exchanges lines. IsWorkerReport place mid from exchanges lines ended)
    → IsStretch before after passes stops old new old_lines new_lines end (λ exchanges lines. IsWorkerReport 0 old steps exchanges lines ended)
reported place from steps ended so_far rest =
    IsStretch-append so_far rest (λ exchanges lines more its _ _ leads report. leads.on more its ended report)

-- a refused step, with the exits and undos that follow the refusal, completes the report of all steps
pub steps_cleared : {before between further after : List Exchange → Type 0} {passes stops : ℕ → Type 0} {old mid later new : StandingView}
    {old_lines mid_lines later_lines new_lines : List ReportLine} {end : Ending} (place : ℕ) (step : Step) (from rest steps : List Step)
    → from ≡ step ∷ rest
    → IsStretch before between passes stops old mid old_lines mid_lines ending.Done (LeadsOn place mid from old steps)
    → IsStretch between further passes stops mid later mid_lines later_lines ending.Refused (λ exchanges lines. IsStepReported place mid step exchanges lines ending.Refused)
    → IsStretch further after passes stops later new later_lines new_lines end (λ exchanges lines. ArePut (clearing later) exchanges lines end)
    → IsStretch before after passes stops old new old_lines new_lines end (λ exchanges lines. IsWorkerReport 0 old steps exchanges lines (is_over end))
steps_cleared {mid = mid} {end = end} place step from rest steps is so_far taken clear =
    reported place from steps (is_over end) so_far
    (IsStretch-append taken clear (λ exchanges lines more its counts _ one cleared.
    subst (λ xs. IsWorkerReport place mid xs (exchanges ++ more) (lines ++ its) (is_over end)) (sym is)
    (refused exchanges more lines its one (subst (λ s. ArePut (clearing s) more its end) counts cleared) refl refl)))

-- if the gate withholds a turn that a step needs, the report of all steps ends there, as a report of unfinished work
pub steps_cut : {before between after : List Exchange → Type 0} {passes stops : ℕ → Type 0} {old mid new : StandingView} {old_lines mid_lines new_lines : List ReportLine}
    (place : ℕ) (step : Step) (from rest steps : List Step)
    → from ≡ step ∷ rest
    → IsStretch before between passes stops old mid old_lines mid_lines ending.Done (LeadsOn place mid from old steps)
    → IsStretch between after passes stops mid new mid_lines new_lines ending.Cut (λ exchanges lines. IsStepReported place mid step exchanges lines ending.Cut)
    → IsStretch before after passes stops old new old_lines new_lines ending.Cut (λ exchanges lines. IsWorkerReport 0 old steps exchanges lines false)
steps_cut {mid = mid} place step from rest steps is so_far taken =
    reported place from steps false so_far
    (IsStretch-so taken (λ exchanges lines _ one. subst (λ xs. IsWorkerReport place mid xs exchanges lines false) (sym is) (cut_short one)))

-- when no step is left, the report of the steps so far is a report of all steps
pub steps_done : {before after : List Exchange → Type 0} {passes stops : ℕ → Type 0} {old new : StandingView} {old_lines new_lines : List ReportLine} (place : ℕ) (from steps : List Step)
    → from ≡ []
    → IsStretch before after passes stops old new old_lines new_lines ending.Done (LeadsOn place new from old steps)
    → IsStretch before after passes stops old new old_lines new_lines ending.Done (λ exchanges lines. IsWorkerReport 0 old steps exchanges lines true)
steps_done {old = old} {new = new} place from steps is so_far =
    IsStretch-so so_far (λ exchanges lines _ leads.
    report_along old steps true (append-nil exchanges) (append-nil lines)
    (leads.on [] [] true (subst (λ xs. IsWorkerReport place new xs [] [] true) (sym is) no_step_left)))

-- ---- the steps that are left

pub drop-step : (steps : List Step) (step : Step) (place : ℕ) → place < length steps → step ≡ get_or steps place step → drop place steps ≡ step ∷ drop (place + 1) steps
drop-step steps step place within is =
    let rest : drop place steps ≡ get_or steps place step ∷ drop (place + 1) steps = rw (add-one, drop-cons steps place step) in
    rest ∙ ap (λ s. s ∷ drop (place + 1) steps) (sym is)

pub drop-none : (steps : List Step) (place : ℕ) → length steps ≤ place → drop place steps ≡ []
drop-none steps place end = drop_of_length-le steps end

-- ---- what a step adds

-- A step raises `left_to_clear`, the number of exits and undos that the worker would ask for after a refusal, by at
-- most one. Together with the report lines, these exits and undos are at most two more than before. A step takes at
-- most one turn more than it adds lines.
pub grown_step : {before after : List Exchange → Type 0} {passes stops : ℕ → Type 0} {old new : StandingView} {old_lines new_lines : List ReportLine} {end : Ending} (place : ℕ) (step : Step)
    → IsStretch before after passes stops old new old_lines new_lines end (λ exchanges lines. IsStepReported place old step exchanges lines end)
    → (left_to_clear new ≤ left_to_clear old + 1) × (length new_lines + left_to_clear new ≤ length old_lines + left_to_clear old + 2) × (new.turn + length old_lines ≤ old.turn + length new_lines + 1)
grown_step {old = old} {old_lines = old_lines} {end = end} place step taken =
    let growth = IsGrowth-step place step end old taken.are_those in
    let lines = ap length taken.added ∙ length-append old_lines taken.lines in
    let turns = ap (λ (s : StandingView). s.turn) taken.counted ∙ turn-standing_after taken.exchanges old in
    let left = ap left_to_clear taken.counted in
    (omega (arith, growth.left, left), omega (arith, growth.with_lines, left, lines), omega (arith, growth.turns, lines, turns))

pub left_if_refused : {before after : List Exchange → Type 0} {passes stops : ℕ → Type 0} {old new : StandingView} {old_lines new_lines : List ReportLine} (place : ℕ) (step : Step)
    → IsStretch before after passes stops old new old_lines new_lines ending.Refused (λ exchanges lines. IsStepReported place old step exchanges lines ending.Refused)
    → left_to_clear new ≤ left_to_clear old
left_if_refused {old = old} place step taken =
    let growth = IsGrowth-step place step ending.Refused old taken.are_those in
    let left = ap left_to_clear taken.counted in
    omega (arith, growth.if_refused refl, left)

-- ---- the whole

over_unless_cut : (end : Ending) → (end ≡ ending.Cut → ⊥) → is_over end ≡ true
over_unless_cut ending.Done goes = refl
over_unless_cut ending.Refused goes = refl
over_unless_cut ending.Cut goes = absurd (goes refl)

cut_if_not_over : (end : Ending) → is_over end ≡ false → end ≡ ending.Cut
cut_if_not_over ending.Done is = cc
cut_if_not_over ending.Refused is = cc
cut_if_not_over ending.Cut is = refl

-- If a stretch of a worker's run starts from `first_standing` without report lines, and is a report of the worker's
-- steps, `IsWork` holds.
pub IsWork-stretch : {before after : List Exchange → Type 0} {passes stops : ℕ → Type 0} {old new : StandingView} {old_lines new_lines : List ReportLine} {end : Ending} (steps : List Step) (ended : Bool)
    → old ≡ first_standing
    → old_lines ≡ []
    → is_over end ≡ ended
    → IsStretch before after passes stops old new old_lines new_lines end (λ exchanges lines. IsWorkerReport 0 old steps exchanges lines (is_over end))
    → IsWork before after passes stops steps new_lines ended
IsWork-stretch {stops = stops} {old = old} {new = new} {old_lines = old_lines} {new_lines = new_lines} {end = end} steps ended first empty over stretch =
    let zero : old.turn ≡ 0 = ap (λ (s : StandingView). s.turn) first in
    let turns = ap (λ (s : StandingView). s.turn) stretch.counted ∙ turn-standing_after stretch.exchanges old in
    let last : new.turn ≡ length stretch.exchanges = omega arith in
    let all : new_lines ≡ stretch.lines = stretch.added ∙ ap (λ ls. ls ++ stretch.lines) empty in
    record {
      exchanges = stretch.exchanges;
      told = stretch.told;
      passed = λ turn below. stretch.passed turn (omega arith) (omega arith);
      stopped = λ is. subst stops last (stretch.stopped (cut_if_not_over end (over ∙ is)));
      is_report =
          subst (λ s. IsWorkerReport 0 s steps stretch.exchanges new_lines ended) first
          (subst (λ ls. IsWorkerReport 0 old steps stretch.exchanges ls ended) (sym all)
          (subst (λ e. IsWorkerReport 0 old steps stretch.exchanges stretch.lines e) over stretch.are_those));
    }

pub IsWork-ended : {before after : List Exchange → Type 0} {passes stops : ℕ → Type 0} {old new : StandingView} {old_lines new_lines : List ReportLine} {end : Ending} (steps : List Step)
    → old ≡ first_standing
    → old_lines ≡ []
    → (end ≡ ending.Cut → ⊥)
    → IsStretch before after passes stops old new old_lines new_lines end (λ exchanges lines. IsWorkerReport 0 old steps exchanges lines (is_over end))
    → IsWork before after passes stops steps new_lines true
IsWork-ended {end = end} steps first empty goes stretch = IsWork-stretch steps true first empty (over_unless_cut end goes) stretch
