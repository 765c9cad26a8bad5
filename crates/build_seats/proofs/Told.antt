-- Proofs that a worker's report has the specified lines for steps that ask the host nothing, and for rollbacks to a
-- mark.
use Rattle.std.proofs.Common.{◌≡◌, ℕ, ◌<◌, true, false, List, [], ◌∷◌, ◌++◌, length, refl, sym, subst, ◌∙◌, arith}
use Rattle.std.specs.Prelude.{Ok, Err, min, Option, None}
use Rattle.std.proofs.lemmas.List.{append-nil}
use Rattle.host_ledger.specs.declared.mark.Mark.{Mark}
use Rattle.host_commands.specs.declared.refusal.Refusal.{Refusal}
use Rattle.host_commands.specs.declared.refusal.Refusal.TheVariants.{RecRunning, NothingToUndo}
use Rattle.build_seats.specs.Asked.{line}
use Rattle.build_seats.specs.Exchange.{Exchange, CheckedBack}
use Rattle.build_seats.specs.Report.{IsAnswerReported, AreUndone, IsAbort, IsStepBack, IsWayBack, opened, refused, ending_of}
use Rattle.build_seats.specs.Standing.{StandingView, after_exchange}
use Rattle.build_seats.specs.Stretch.{IsStretch}
use Rattle.build_seats.specs.declared.report.Asked.TheVariants as asked
use Rattle.build_seats.specs.declared.report.Answer.{Answer}
use Rattle.build_seats.specs.declared.report.Answer.TheVariants.{Nothing, Refused}
use Rattle.build_seats.specs.declared.report.ReportLine.{ReportLine}
use Rattle.build_seats.specs.declared.ask.Ending.{Ending}
use Rattle.build_seats.specs.declared.ask.Ending.TheVariants as ending
use Rattle.build_seats.proofs.Stretches.{IsStretch-told, IsStretch-exchange, IsStretch-append, cut_at}

told_alone : (place : ℕ) (answer : Answer) (end : Ending) → end ≡ ending_of answer → IsAnswerReported place answer [] (line (asked.Step place) answer ∷ []) end
told_alone place answer end is = record { nothing_asked = refl; line_is = refl; end_is = is }

-- a step with nothing to undo is reported by one line that says so
pub AreUndone-none : {before : List Exchange → Type 0} {passes stops : ℕ → Type 0} {standing : StandingView} {old_lines new_lines : List ReportLine} {end : Ending} (place count : ℕ)
    → count ≡ 0
    → end ≡ ending_of Nothing
    → new_lines ≡ old_lines ++ line (asked.Step place) Nothing ∷ []
    → IsStretch before before passes stops standing standing old_lines new_lines end (λ exchanges lines. AreUndone place count exchanges lines end)
AreUndone-none {end = end} place count none is adds =
    IsStretch-told (asked.Step place) Nothing is adds (subst (λ n. AreUndone place n [] (line (asked.Step place) Nothing ∷ []) end) (sym none) (told_alone place Nothing end is))

running_refuses : (place journal : ℕ) (running : List ℕ) (exchanges : List Exchange) (lines : List ReportLine) (end : Ending) → 0 < length running
    → IsAnswerReported place (Refused RecRunning) exchanges lines end → IsAbort place running journal exchanges lines end
running_refuses place journal [] exchanges lines end some tells = absurd (omega arith)
running_refuses place journal (number ∷ numbers) exchanges lines end some tells = tells

-- an abort while a REC runs is reported by one line, with the refusal RecRunning
pub IsAbort-running : {before : List Exchange → Type 0} {passes stops : ℕ → Type 0} {standing : StandingView} {old_lines new_lines : List ReportLine} {end : Ending} (place journal : ℕ) (running : List ℕ)
    → 0 < length running
    → end ≡ ending_of (Refused RecRunning)
    → new_lines ≡ old_lines ++ line (asked.Step place) (Refused RecRunning) ∷ []
    → IsStretch before before passes stops standing standing old_lines new_lines end (λ exchanges lines. IsAbort place running journal exchanges lines end)
IsAbort-running {end = end} place journal running some is adds =
    IsStretch-told (asked.Step place) (Refused RecRunning) is adds (running_refuses place journal running [] (line (asked.Step place) (Refused RecRunning) ∷ []) end some
    (told_alone place (Refused RecRunning) end is))

-- a `back` step without a mark is reported by one line, with the refusal NothingToUndo
pub IsStepBack-none : {before : List Exchange → Type 0} {passes stops : ℕ → Type 0} {standing : StandingView} {old_lines new_lines : List ReportLine} {end : Ending} (place journal : ℕ) (mark : Option Mark)
    → mark ≡ None
    → end ≡ ending_of (Refused NothingToUndo)
    → new_lines ≡ old_lines ++ line (asked.Step place) (Refused NothingToUndo) ∷ []
    → IsStretch before before passes stops standing standing old_lines new_lines end (λ exchanges lines. IsStepBack place mark journal exchanges lines end)
IsStepBack-none {end = end} place journal mark none is adds =
    IsStretch-told (asked.Step place) (Refused NothingToUndo) is adds (subst (λ m. IsStepBack place m journal [] (line (asked.Step place) (Refused NothingToUndo) ∷ []) end)
    (sym none) (told_alone place (Refused NothingToUndo) end is))

-- if the host refuses to go back to a mark, the `back` step is reported by one line, with the host's refusal
pub IsWayBack-refused : {before after : List Exchange → Type 0} {passes stops : ℕ → Type 0} {old new : StandingView} {old_lines new_lines : List ReportLine}
    {end : Ending} {turn : ℕ} (place : ℕ) (mark : Mark) (journal : ℕ) (refusal : Refusal)
    → turn ≡ old.turn
    → passes turn
    → ((earlier : List Exchange) → before earlier → after (earlier ++ CheckedBack mark (Err refusal) ∷ []))
    → new ≡ after_exchange (CheckedBack mark (Err refusal)) old
    → end ≡ ending_of (Refused refusal)
    → new_lines ≡ old_lines ++ line (asked.Step place) (Refused refusal) ∷ []
    → IsStretch before after passes stops old new old_lines new_lines end (λ exchanges lines. IsWayBack place mark journal exchanges lines end)
IsWayBack-refused {end = end} place mark journal refusal at pass tells counts is adds =
    let its = line (asked.Step place) (Refused refusal) ∷ [] in
    IsStretch-exchange (CheckedBack mark (Err refusal)) its at pass tells counts (λ cut. cut_at true (sym is ∙ cut)) adds
    (subst (λ e. IsWayBack place mark journal (CheckedBack mark (Err refusal) ∷ []) its e) (sym is) (refused refusal))

-- The only exchange is one in which the host accepts a rollback to `mark`, and answers that `count` operations are to
-- be undone. No report line is added.
record IsOpening (mark : Mark) (count : ℕ) (exchanges : List Exchange) (lines : List ReportLine) : Type 0 where
  looked : exchanges ≡ CheckedBack mark (Ok count) ∷ []
  no_line : lines ≡ []

go_opened : (place : ℕ) (mark : Mark) (journal count undos : ℕ) (exchanges : List Exchange) (lines : List ReportLine) (more : List Exchange) (its : List ReportLine) (end : Ending)
    → undos ≡ min count journal → IsOpening mark count exchanges lines → AreUndone place undos more its end → IsWayBack place mark journal (exchanges ++ more) (lines ++ its) end
go_opened place mark journal count undos exchanges lines more its end least opening undone =
    subst (λ es. IsWayBack place mark journal (es ++ more) (lines ++ its) end) (sym opening.looked)
    (subst (λ ls. IsWayBack place mark journal (CheckedBack mark (Ok count) ∷ more) (ls ++ its) end) (sym opening.no_line)
    (opened count (subst (λ n. AreUndone place n more its end) least undone)))

-- once the host has accepted a rollback to a mark, the undos that follow complete the report of the `back` step
pub IsWayBack-opened : {before between after : List Exchange → Type 0} {passes stops : ℕ → Type 0} {old mid new : StandingView} {old_lines new_lines : List ReportLine}
    {end : Ending} {turn : ℕ} (place : ℕ) (mark : Mark) (journal count undos : ℕ)
    → turn ≡ old.turn
    → passes turn
    → ((earlier : List Exchange) → before earlier → between (earlier ++ CheckedBack mark (Ok count) ∷ []))
    → mid ≡ after_exchange (CheckedBack mark (Ok count)) old
    → undos ≡ min count journal
    → IsStretch between after passes stops mid new old_lines new_lines end (λ exchanges lines. AreUndone place undos exchanges lines end)
    → IsStretch before after passes stops old new old_lines new_lines end (λ exchanges lines. IsWayBack place mark journal exchanges lines end)
IsWayBack-opened {before} {between} {after} {passes} {stops} {old} {mid} {new} {old_lines} {new_lines} {end} place mark journal count undos at pass tells counts least undone =
    let opening : IsStretch before between passes stops old mid old_lines old_lines ending.Done (IsOpening mark count) =
    IsStretch-exchange (CheckedBack mark (Ok count)) [] at pass tells counts (λ cut. cut_at false cut) (sym (append-nil old_lines)) (record { looked = refl; no_line = refl }) in
    IsStretch-append opening undone (λ exchanges lines more its _ _ opens undo. go_opened place mark journal count undos exchanges lines more its end least opens undo)
