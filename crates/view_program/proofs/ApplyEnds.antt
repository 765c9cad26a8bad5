-- Proofs that applying a history writes all of the map, a prefix, or nothing, according to the outcome.
use Rattle.std.proofs.Common.{◌≡◌, ◌↔◌, ◌+◌, ℕ, length, List, [], ◌∷◌, Option, Some, None, IfSome, Ok, Err, Bool, true, false, refl, ap, ◌∙◌, arith}
use Rattle.std.specs.Io.KnownBytes.{Appends, prepend_known}
use Rattle.host_ledger.specs.View.{HostView}
use Rattle.checked_io.specs.Whole.{AppendsFront}
use Rattle.checked_io.proofs.Read.{keeps_same}
use Rattle.checked_io.specs.Lines.{lines_in, IsLine, HasLongLine}
use Rattle.history_text.specs.Histories.{IsOpeningText}
use Rattle.history_text.specs.declared.opening.Opening.{Opening}
use Rattle.history_text.proofs.Short.{opening_is_short}
use Rattle.view_program.specs.Applied.{host_of_opening, IsHistoryIn, IsNoEvent, IsEventRefused, StopsAt, IsNoHistoryIn, IsMap, HasNoMap}
use Rattle.view_program.specs.Printed.{IsApplyEnd, IsMapPrinted}
use Rattle.view_program.specs.Taking.{AreLinesTaken, AreCutShort, AreNotTaken}
use Rattle.view_program.specs.declared.fault.ViewError.{ViewError}
use Rattle.view_program.specs.declared.fault.ViewError.TheVariants.{NoPlan, Plan, NoOpening, NoEvent, Refused, EraseNamesNoBuild, OrderOutsideLimits, Memory, Device}
use Rattle.view_program.proofs.Takings.{length-taken}

-- if no bytes were read ahead, the input is what the reader has left
pub ahead_none : (known : Option (List ℕ)) → prepend_known [] known ≡ known
ahead_none None = refl
ahead_none (Some xs) = refl

-- ---- the first line

pub opens_none_here : (input next : Option (List ℕ)) (line : List ℕ) → IsLine input line next → ((o : Opening) → IsOpeningText line o → ⊥) → IsNoHistoryIn input NoOpening
opens_none_here None next line is none = tt
opens_none_here (Some xs) None line is none = absurd is
opens_none_here (Some xs) (Some ys) line is none = rw is none

pub opens_none_long : (input : Option (List ℕ)) → IfSome input (HasLongLine 256) → IsNoHistoryIn input NoOpening
opens_none_long None is = tt
opens_none_long (Some xs) is = rw (is.lines) (λ o opens. let short = opening_is_short is.line o opens in let long = is.long in absurd (omega (arith, short, long)))

pub opens_none_end : (input : Option (List ℕ)) → IfSome input (λ bytes. lines_in bytes ≡ []) → IsNoHistoryIn input NoOpening
opens_none_end None end = tt
opens_none_end (Some xs) end = rw end tt

-- ---- the lines after it

module _ (first : List ℕ) (o : Opening) (opens : IsOpeningText first o) where
  pub is_history_in : (input ahead : Option (List ℕ)) (host : HostView) → IsLine input first ahead → AreLinesTaken ahead (host_of_opening o) host → IsHistoryIn input o host
  is_history_in input ahead host is all = record {
    lines = first ∷ all.lines;
    of_input = of_input input ahead is all.of_input;
    history = record { first = first; events = all.lines; lines_are = refl; opens = opens; taken = all.taken };
  }
    where
      of_input : (input' ahead' : Option (List ℕ)) → IsLine input' first ahead' → IfSome ahead' (λ bytes. lines_in bytes ≡ all.lines) → IfSome input' (λ bytes. lines_in bytes ≡ first ∷ all.lines)
      of_input None ahead' is' more = tt
      of_input (Some xs) None is' more = absurd is'
      of_input (Some xs) (Some ys) is' more = is' ∙ ap (λ (t : List (List ℕ)). first ∷ t) more

  stops : (IsReason : HostView → List ℕ → Type 0) (lines more : List (List ℕ)) (number : ℕ) (fault : ViewError) → lines ≡ first ∷ more
      → (cut : AreCutShort (host_of_opening o) more fault) → number ≡ length cut.mid.history + 2 → IsReason cut.mid cut.line → StopsAt IsReason lines number
  stops IsReason lines more number fault are cut same reason = record {
    o = o;
    host = cut.mid;
    before = first ∷ cut.before;
    line = cut.line;
    after = cut.after;
    split = are ∙ ap (λ (t : List (List ℕ)). first ∷ t) cut.split;
    history = record { first = first; events = cut.before; lines_are = refl; opens = opens; taken = cut.taken };
    number_is = let long = length-taken (host_of_opening o) cut.before cut.mid cut.taken in omega (arith, long, same);
    reason = reason;
  }

  pub no_history_in : (input ahead : Option (List ℕ)) (fault : ViewError) → IsLine input first ahead → AreNotTaken ahead (host_of_opening o) fault → IsNoHistoryIn input fault
  no_history_in input ahead (NoPlan errors) is none = absurd none
  no_history_in input ahead (Plan fault) is none = absurd none
  no_history_in input ahead NoOpening is none = absurd none
  no_history_in None ahead (NoEvent number) is none = tt
  no_history_in (Some xs) None (NoEvent number) is none = absurd is
  no_history_in (Some xs) (Some ys) (NoEvent number) is none =
      stops (λ host line. IsNoEvent line) (lines_in xs) (lines_in ys) number (NoEvent number) is none none.untaken.0 none.untaken.1
  no_history_in None ahead (Refused number why words) is none = tt
  no_history_in (Some xs) None (Refused number why words) is none = absurd is
  no_history_in (Some xs) (Some ys) (Refused number why words) is none =
      stops (IsEventRefused why) (lines_in xs) (lines_in ys) number (Refused number why words) is none none.untaken.0 none.untaken.1
  no_history_in input ahead EraseNamesNoBuild is none = absurd none
  no_history_in input ahead OrderOutsideLimits is none = absurd none
  no_history_in input ahead Memory is none = tt
  no_history_in input ahead Device is none = tt

-- ---- the end

module _ (erase : Option ℕ) (unread : Bool) (input : Option (List ℕ)) where
  -- if the error is a reason why no history was read, nothing was written, and a read failed if the error is `Device`,
  -- then `IsApplyEnd` holds of the error
  pub no_history : (output : Option (List ℕ)) (fault : ViewError) → IsNoHistoryIn input fault → (fault ≡ Device → unread ≡ true) → IsApplyEnd erase unread input output output (Err fault)
  no_history output (NoPlan errors) none read = absurd none
  no_history output (Plan fault) none read = absurd none
  no_history output NoOpening none read = (none, keeps_same output)
  no_history output (NoEvent number) none read = (none, keeps_same output)
  no_history output (Refused number why words) none read = (none, keeps_same output)
  no_history output EraseNamesNoBuild none read = absurd none
  no_history output OrderOutsideLimits none read = absurd none
  no_history output Memory none read = keeps_same output
  no_history output Device none read = rw (read refl) (keeps_same output)

  -- if the input is a history of which no map was made, and nothing was written, `IsApplyEnd` holds of the reason
  pub no_map : (output : Option (List ℕ)) (o : Opening) (host : HostView) (fault : ViewError) → IsHistoryIn input o host → HasNoMap erase o fault → IsApplyEnd erase unread input output output (Err fault)
  no_map output o host (NoPlan errors) history none = absurd none
  no_map output o host (Plan fault) history none = absurd none
  no_map output o host NoOpening history none = absurd none
  no_map output o host (NoEvent number) history none = absurd none
  no_map output o host (Refused number why words) history none = absurd none
  no_map output o host EraseNamesNoBuild history none = (record { o = o; host = host; history = history; none = none }, keeps_same output)
  no_map output o host OrderOutsideLimits history none = absurd none
  no_map output o host Memory history none = keeps_same output
  no_map output o host Device history none = absurd none

  -- if no read failed, and a prefix of the history's map was written, `IsApplyEnd` holds of the error `Device`
  pub cut_map : (old new : Option (List ℕ)) (o : Opening) (host : HostView) (text : List ℕ) → unread ≡ false → IsHistoryIn input o host → IsMap erase o host text → AppendsFront old new text
      → IsApplyEnd erase unread input old new (Err Device)
  cut_map old new o host text read history map written = rw read (record { text = text; map = record { o = o; host = host; history = history; map = map }; written = written })

  -- if the input is a history and its whole map was written, `IsMapPrinted` holds
  pub printed_map : (old new : Option (List ℕ)) (o : Opening) (host : HostView) (text : List ℕ) → IsHistoryIn input o host → IsMap erase o host text
      → Appends old new text → IsMapPrinted erase input old new
  printed_map old new o host text history map written = record { text = text; map = record { o = o; host = host; history = history; map = map }; written = written }

-- if the outcome is `Ok`, and a read failed exactly if the outcome is the error `Device`, no read failed
pub read_well : {A : Type 0} (failed : Bool) (it : A) → (failed ≡ true) ↔ (Ok it ≡ Err Device) → failed ≡ false
read_well false it told = refl
read_well true it told = let failed = told.0 refl in absurd (cc)
