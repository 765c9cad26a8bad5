-- Proofs about the loop over a part of the input: the session has taken the lines that end before the loop's position.
use Rattle.std.proofs.Common.{◌≡◌, ℕ, ◌<◌, true, false, List, [], ◌∷◌, ◌++◌, length, refl, sym, ◌∙◌, ap, subst, append_assoc, append-nil, arith, length-append}
use Rattle.std.specs.Prelude.{Some, None}
use Rattle.command_line.specs.declared.rmitrace.TraceSubcommand.{TraceSubcommand}
use Rattle.rmm_trace.specs.Cuts.{before_mark, after_mark}
use Rattle.trace_program.specs.declared.session.Session.{Session}
use Rattle.trace_program.specs.Session.{TakesLine, is_check_done}
use Rattle.trace_program.specs.Reading.{IsTraceLineTaken, kept_of_line}
use Rattle.trace_program.proofs.Parts.{cut_none, cut_some, no_feed_before}
use Rattle.trace_program.proofs.Taken.{done_taken, line_taken, part_taken}

module _ (asked : TraceSubcommand) (source : List ℕ) (first : Session) (begun texts : List ℕ) where
  -- Reading the bytes `front` leads a run from session `first` to session `s`, whatever bytes were read before. The
  -- bytes kept of the last line change from `begun` to `line`, and the text from `texts` to `text`.
  abbrev pub FrontTaken : List ℕ → Session → (line text : List ℕ) → Type 0
  FrontTaken front s line text = (read written : List ℕ) → IsTraceLineTaken asked source read written first begun texts → IsTraceLineTaken asked source (read ++ front) written s line text

  pub front_none : FrontTaken [] first begun texts
  front_none read written t = subst (λ (x : List ℕ). IsTraceLineTaken asked source x written first begun texts) (sym (append-nil read)) t

  module _ (front : List ℕ) (s : Session) (line text : List ℕ) (f : FrontTaken front s line text) where
    pub front_line : (rest kept new : List ℕ) (after : Session) → is_check_done asked s ≡ false
        → ((begin : List ℕ) → line ≡ kept_of_line begin → kept ≡ kept_of_line (begin ++ before_mark 10 rest))
        → TakesLine asked source kept s after text new → FrontTaken (front ++ (before_mark 10 rest ++ 10 ∷ [])) after [] new
    front_line rest kept new after going keeps k read written t =
        subst (λ (x : List ℕ). IsTraceLineTaken asked source x written after [] new) (append_assoc read front (before_mark 10 rest ++ 10 ∷ []))
        (line_taken asked source (read ++ front) written s line text (f read written t) (before_mark 10 rest) kept new after going (no_feed_before rest) keeps k)

    pub front_part : (rest kept : List ℕ) → is_check_done asked s ≡ false → after_mark 10 rest ≡ None
        → ((begin : List ℕ) → line ≡ kept_of_line begin → kept ≡ kept_of_line (begin ++ before_mark 10 rest)) → FrontTaken (front ++ rest) s kept text
    front_part rest kept going none keeps read written t =
        subst (λ (x : List ℕ). IsTraceLineTaken asked source x written s kept text) (append_assoc read front (before_mark 10 rest) ∙ ap (λ (x : List ℕ). read ++ (front ++ x)) (cut_none rest none))
        (part_taken asked source (read ++ front) written s line text (f read written t) (before_mark 10 rest) kept going (no_feed_before rest) keeps)

    pub front_done : (more : List ℕ) → is_check_done asked s ≡ true → FrontTaken (front ++ more) s line text
    front_done more done read written t =
        subst (λ (x : List ℕ). IsTraceLineTaken asked source x written s line text) (append_assoc read front more)
        (done_taken asked source (read ++ front) written s line text (f read written t) more done)

-- a part with a line feed after the bytes `front` is `front`, the line with that line feed, and the bytes after the
-- line
pub line_split : (part front rest after : List ℕ) → part ≡ front ++ rest → after_mark 10 rest ≡ Some after → part ≡ (front ++ (before_mark 10 rest ++ 10 ∷ [])) ++ after
line_split part front rest after split some =
    split ∙ ap (λ (x : List ℕ). front ++ x) (cut_some rest after some) ∙ sym (append_assoc front (before_mark 10 rest ++ 10 ∷ []) after)

-- the bytes after the first line of a text are fewer than those of the text
pub after_shorter : (rest after : List ℕ) → after_mark 10 rest ≡ Some after → length after < length rest
after_shorter rest after some =
    let all = ap length (cut_some rest after some) in
    let parts = length-append (before_mark 10 rest ++ 10 ∷ []) after in
    let line = length-append (before_mark 10 rest) (10 ∷ []) in
    omega (arith, all, parts, line)

-- ---- the loop over the lines of a part

-- The lines in the first bytes of the part, `front`, are taken, the bytes `rest` are left, and the check is not done.
pub record HasFront (asked : TraceSubcommand) (source : List ℕ) (first : Session) (begun texts part rest : List ℕ) (s : Session) (line text : List ℕ) : Type 0 where
  pub front : List ℕ
  pub split : part ≡ front ++ rest
  pub going : is_check_done asked s ≡ false
  pub taken : FrontTaken asked source first begun texts front s line text

module _ (asked : TraceSubcommand) (source : List ℕ) (first : Session) (begun texts part rest : List ℕ) (s : Session) (line text : List ℕ) (h : HasFront asked source first begun texts part rest s line text) where
  -- whenever `line` is what a run keeps of the bytes `begin`, `kept` is what the run keeps of `begin ++ more`
  abbrev Keeps : List ℕ → List ℕ → Type 0
  Keeps more kept = (begin : List ℕ) → line ≡ kept_of_line begin → kept ≡ kept_of_line (begin ++ more)

  module _ (after more kept new left : List ℕ) (next : Session) (some : after_mark 10 rest ≡ Some after) (cut : more ≡ before_mark 10 rest) (keeps : Keeps more kept)
      (k : TakesLine asked source kept s next text new) (empty : left ≡ []) where
    line_more : FrontTaken asked source first begun texts (h.front ++ (before_mark 10 rest ++ 10 ∷ [])) next left new
    line_more = subst (λ (it : List ℕ). FrontTaken asked source first begun texts (h.front ++ (before_mark 10 rest ++ 10 ∷ [])) next it new) (sym empty)
        (front_line asked source first begun texts h.front s line text h.taken rest kept new next h.going (λ begin is. keeps begin is ∙ ap (λ (x : List ℕ). kept_of_line (begin ++ x)) cut) k)

    pub front_next : is_check_done asked next ≡ false → HasFront asked source first begun texts part after next left new
    front_next going = record {
      front = h.front ++ (before_mark 10 rest ++ 10 ∷ []);
      split = line_split part h.front rest after h.split some;
      going = going;
      taken = line_more;
    }

    pub part_done : is_check_done asked next ≡ true → FrontTaken asked source first begun texts part next left new
    part_done done = subst (λ (x : List ℕ). FrontTaken asked source first begun texts x next left new) (sym (line_split part h.front rest after h.split some))
        (front_done asked source first begun texts (h.front ++ (before_mark 10 rest ++ 10 ∷ [])) next left new line_more after done)

  pub part_over : (more kept : List ℕ) → after_mark 10 rest ≡ None → more ≡ before_mark 10 rest → Keeps more kept → FrontTaken asked source first begun texts part s kept text
  part_over more kept none cut keeps = subst (λ (x : List ℕ). FrontTaken asked source first begun texts x s kept text) (sym h.split)
      (front_part asked source first begun texts h.front s line text h.taken rest kept h.going none
      (λ begin is. keeps begin is ∙ ap (λ (x : List ℕ). kept_of_line (begin ++ x)) cut))

-- unless the check is done, `HasFront` holds before the loop over a part, with no bytes taken and the whole part left
pub no_front : (asked : TraceSubcommand) (source : List ℕ) (first : Session) (begun texts part : List ℕ) → is_check_done asked first ≡ false → HasFront asked source first begun texts part part first begun texts
no_front asked source first begun texts part going = record { front = []; split = refl; going = going; taken = front_none asked source first begun texts }
