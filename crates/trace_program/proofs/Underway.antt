-- Proofs that the run of a trace keeps its invariant at each read, and ends as specified at the end of the input or at
-- an error.
use Rattle.std.proofs.Common.{◌≡◌, ℕ, ◌≤◌, Bool, true, false, not, Result, Ok, Err, IfOk, OnOk, OnErr, List, [], ◌∷◌, ◌++◌, ◌&&◌, length, map, Option, Some, None, refl, sym, ap, ◌∙◌, subst, append_assoc, append-nil, ◌⊎◌, inl, inr}
use Rattle.std.proofs.lemmas.List.{map-append}
use Rattle.std.proofs.lemmas.Result.{on_err_weaker}
use Rattle.std.specs.Io.KnownBytes.{Appends, Consumes, IsAtEnd, Keeps}
use Rattle.checked_io.specs.Lines.{without_empty_last}
use Rattle.checked_io.specs.Whole.{AppendsFront}
use Rattle.checked_io.proofs.Written.{appends_none, appends_more, appends_keeps}
use Rattle.checked_io.proofs.Read.{consumes_none, consumes_more}
use Rattle.command_line.specs.declared.rmitrace.TraceSubcommand.{TraceSubcommand}
use Rattle.command_line.specs.declared.rmitrace.TraceSubcommand.TheVariants as asks
use Rattle.trace_program.specs.declared.counts.TraceVerdict.{TraceVerdict}
use Rattle.trace_program.specs.declared.fault.TraceError.{TraceError}
use Rattle.trace_program.specs.declared.session.Session.{Session}
use Rattle.trace_program.specs.Session.{IsSession, fresh_session, is_check_done}
use Rattle.trace_program.specs.Reading.{AreTraceLinesTaken, HasRead, IsCutShort, IsOver, IsTraceRun, IsTraceLineTaken, IsUnderway, ReadsOn, kept_of_line, last_text, taken_lines, verdict_asked}
use Rattle.trace_program.proofs.Parts.{grows_more, lines_are}
use Rattle.trace_program.proofs.Taken.{taken_none, lines_split, done_all}

-- ---- bytes that are read and written

consumes_keeps : (a b c : Option (List ℕ)) (front : List ℕ) → Consumes a b front → Keeps b c → Consumes a c front
consumes_keeps None b c front h k = tt
consumes_keeps (Some xs) None c front h k = absurd h
consumes_keeps (Some xs) (Some ys) None front h k = absurd k
consumes_keeps (Some xs) (Some ys) (Some zs) front h k = h ∙ ap (λ t. front ++ t) (sym k)

-- a read that returns no bytes leaves the input as it was
consumes_nothing : (left after : Option (List ℕ)) (part : List ℕ) → part ≡ [] → Consumes left after part → Keeps left after
consumes_nothing None after part none h = tt
consumes_nothing (Some xs) None part none h = absurd h
consumes_nothing (Some xs) (Some ys) part none h = sym (h ∙ ap (λ t. t ++ ys) none)

front_more : (old new after : Option (List ℕ)) (text told : List ℕ) → Appends old new text → AppendsFront new after told → AppendsFront old after (text ++ told)
front_more old new after text told written w = record {
  front = text ++ w.front;
  rest = w.rest;
  split = ap (λ t. text ++ t) w.split ∙ sym (append_assoc text w.front w.rest);
  grows = appends_more old new after text w.front written w.grows;
}

-- if a prefix of a text was written, it is also a prefix of the text with more after it
front_longer : (old new : Option (List ℕ)) (text more : List ℕ) → AppendsFront old new text → AppendsFront old new (text ++ more)
front_longer old new text more w = record {
  front = w.front;
  rest = w.rest ++ more;
  split = ap (λ t. t ++ more) w.split ∙ append_assoc w.front w.rest more;
  grows = w.grows;
}

whole_front : (old new : Option (List ℕ)) (text : List ℕ) → Appends old new text → AppendsFront old new text
whole_front old new text written = record { front = text; rest = []; split = sym (append-nil text); grows = written }

-- if the output is unchanged, the empty prefix of the text was written to it
pub nothing_front : (old : Option (List ℕ)) (text : List ℕ) → AppendsFront old old text
nothing_front old text = record { front = []; rest = text; split = refl; grows = appends_none old }

-- if `text` is empty, a claim about lines taken with the text `text` also holds for lines taken with no text
pub from_no_text : (asked : TraceSubcommand) (source : List ℕ) (s : Session) (line text : List ℕ) (P : List ℕ → List ℕ → Type 0) → text ≡ []
    → ((read written : List ℕ) → IsTraceLineTaken asked source read written s line text → P read written) → (read written : List ℕ) → IsTraceLineTaken asked source read written s line [] → P read written
from_no_text asked source s line text P empty takes read written t = takes read written (subst (λ (x : List ℕ). IsTraceLineTaken asked source read written s line x) (sym empty) t)

-- a check that has found no wrong line is not done, whether or not it stops at one
none_done : (stops : Bool) → (stops && false) ≡ false
none_done true = refl
none_done false = refl

pub fresh_going : (asked : TraceSubcommand) → is_check_done asked fresh_session ≡ false
fresh_going (asks.Check asked) = none_done asked.stops
fresh_going asks.Answer = refl
fresh_going asks.Names = refl
fresh_going asks.Why = refl

module _ (asked : TraceSubcommand) (source : List ℕ) (input left old new : Option (List ℕ)) where
  pub underway_none : is_check_done asked fresh_session ≡ false → Keeps input left → Keeps old new → IsUnderway asked source input left old new fresh_session []
  underway_none going unread unwritten = record {
    read = [];
    consumed = consumes_keeps input input left [] (consumes_none input) unread;
    written = [];
    taken = taken_none asked source going;
    appended = appends_keeps old old new [] (appends_none old) unwritten;
  }

  module _ (s : Session) (line : List ℕ) (u : IsUnderway asked source input left old new s line) where
    pub underway_more : (left_after newer : Option (List ℕ)) (after : Session) (line_after part told : List ℕ) → Consumes left left_after part
        → ((read written : List ℕ) → IsTraceLineTaken asked source read written s line [] → IsTraceLineTaken asked source (read ++ part) written after line_after told) → Appends new newer told
        → IsUnderway asked source input left_after old newer after line_after
    underway_more left_after newer after line_after part told consumed takes appended = let t = takes u.read u.written u.taken in record {
      read = u.read ++ part;
      consumed = consumes_more input left left_after u.read part u.consumed consumed;
      written = u.written ++ told;
      taken = record {
        lines = t.lines;
        left = t.left;
        cut = t.cut;
        some = t.some;
        begun = t.begun;
        session = subst (λ (x : List ℕ). IsSession asked source fresh_session (map kept_of_line t.lines) x after) (sym (append-nil (u.written ++ told))) t.session;
      };
      appended = appends_more old new newer u.written told u.appended appended;
    }

    -- if the bytes read so far and one more part are `count` or more, at least `count` bytes of the input were read
    pub read_more : (count : ℕ) (left_after : Option (List ℕ)) (part : List ℕ) → Consumes left left_after part → count ≤ length (u.read ++ part) → HasRead count input left_after
    read_more count left_after part consumed at_least =
        record { read = u.read ++ part; consumed = consumes_more input left left_after u.read part u.consumed consumed; at_least = at_least }

    -- ---- ends

    pub over_at_end : (left_after newer : Option (List ℕ)) (after : Session) (part told : List ℕ) → Consumes left left_after part → part ≡ [] → IsAtEnd left_after
        → ((read written : List ℕ) → IsTraceLineTaken asked source read written s line [] → AreTraceLinesTaken asked source read written after told) → Appends new newer told
        → IsOver asked source input left_after old newer after
    over_at_end left_after newer after part told consumed none end takes appended = record {
      read = u.read;
      consumed = consumes_keeps input left left_after u.read u.consumed (consumes_nothing left left_after part none consumed);
      ended = inl end;
      text = u.written ++ told;
      session = takes u.read u.written u.taken;
      written = appends_more old new newer u.written told u.appended appended;
    }

    pub over_when_done : is_check_done asked s ≡ true → IsOver asked source input left old new s
    over_when_done done = record {
      read = u.read;
      consumed = u.consumed;
      ended = inr done;
      text = u.written ++ [];
      session = done_all asked source u.read u.written s line [] u.taken done;
      written = subst (λ (x : List ℕ). Appends old new x) (sym (append-nil u.written)) u.appended;
    }

    -- a run that is under way goes on if its check is not done, and otherwise is over
    pub reads_on : (done : Bool) → done ≡ is_check_done asked s → ReadsOn (not done) asked source input left old new s line
    reads_on true is = over_when_done (sym is)
    reads_on false is = (u, sym is)

    -- ---- errors

    pub cut_after : (left_after newer : Option (List ℕ)) (part : List ℕ) → Consumes left left_after part → Keeps new newer → IsCutShort asked source input left_after old newer
    cut_after left_after newer part consumed unwritten =
        let t = u.taken in
        let g = grows_more u.read part t.lines (record { left = t.left; cut = t.cut; some = t.some }) in record {
          read = u.read ++ part;
          consumed = consumes_more input left left_after u.read part u.consumed consumed;
          lines = map kept_of_line t.lines;
          more = map kept_of_line (without_empty_last g.left);
          split = ap (map kept_of_line) (lines_are (u.read ++ part) t.lines g.left g.cut g.some) ∙ map-append kept_of_line t.lines (without_empty_last g.left);
          last = s;
          text = u.written ++ [];
          session = t.session;
          written = front_longer old newer (u.written ++ []) (last_text asked s)
              (whole_front old newer (u.written ++ []) (subst (λ (x : List ℕ). Appends old newer x) (sym (append-nil u.written)) (appends_keeps old new newer u.written u.appended unwritten)));
        }

    -- a run whose next read fails is cut short as specified
    pub cut_in_read : (left_after newer : Option (List ℕ)) → Keeps left left_after → Keeps new newer → IsCutShort asked source input left_after old newer
    cut_in_read left_after newer unread unwritten = cut_after left_after newer [] (consumes_keeps left left left_after [] (consumes_none left) unread) unwritten

    pub cut_in_write : (left_after newer : Option (List ℕ)) (after : Session) (line_after part told : List ℕ) → Consumes left left_after part
        → ((read written : List ℕ) → IsTraceLineTaken asked source read written s line [] → IsTraceLineTaken asked source (read ++ part) written after line_after told) → AppendsFront new newer told
        → IsCutShort asked source input left_after old newer
    cut_in_write left_after newer after line_after part told consumed takes w = let t = takes u.read u.written u.taken in record {
      read = u.read ++ part;
      consumed = consumes_more input left left_after u.read part u.consumed consumed;
      lines = map kept_of_line t.lines;
      more = map kept_of_line (without_empty_last t.left);
      split = lines_split asked source (u.read ++ part) u.written after line_after told t;
      last = after;
      text = u.written ++ told;
      session = t.session;
      written = front_longer old newer (u.written ++ told) (last_text asked after) (front_more old new newer u.written told u.appended w);
    }

    pub cut_at_end : (left_after newer : Option (List ℕ)) (after : Session) (part told : List ℕ) → Consumes left left_after part → part ≡ []
        → ((read written : List ℕ) → IsTraceLineTaken asked source read written s line [] → AreTraceLinesTaken asked source read written after told) → AppendsFront new newer told
        → IsCutShort asked source input left_after old newer
    cut_at_end left_after newer after part told consumed none takes w = record {
      read = u.read;
      consumed = consumes_keeps input left left_after u.read u.consumed (consumes_nothing left left_after part none consumed);
      lines = taken_lines u.read;
      more = [];
      split = sym (append-nil (taken_lines u.read));
      last = after;
      text = u.written ++ told;
      session = takes u.read u.written u.taken;
      written = front_longer old newer (u.written ++ told) (last_text asked after) (front_more old new newer u.written told u.appended w);
    }

  -- ---- the whole run

  pub reads_no_more : (more : Bool) (s : Session) (line : List ℕ) → more ≡ false → ReadsOn more asked source input left old new s line → IsOver asked source input left old new s
  reads_no_more true s line is r = absurd (cc)
  reads_no_more false s line is r = r

  pub reads_more : (more : Bool) (s : Session) (line : List ℕ) → more ≡ true → ReadsOn more asked source input left old new s line
      → IsUnderway asked source input left old new s line × (is_check_done asked s ≡ false)
  reads_more true s line is r = r
  reads_more false s line is r = absurd (cc)

  module _ (s : Session) (o : IsOver asked source input left old new s) where
    pub run_over : (newer : Option (List ℕ)) (verdict : TraceVerdict) → verdict ≡ verdict_asked asked s → Appends new newer (last_text asked s)
        → IsTraceRun asked source input left old newer verdict
    run_over newer verdict is written = record {
      read = o.read;
      consumed = o.consumed;
      last = s;
      ended = o.ended;
      text = o.text;
      session = o.session;
      is_verdict = is;
      written = appends_more old new newer o.text (last_text asked s) o.written written;
    }

    pub run_ok : (result : Result TraceVerdict TraceError) (newer : Option (List ℕ)) → IfOk result (λ it. it ≡ verdict_asked asked s) → OnOk result (Appends new newer (last_text asked s))
        → IfOk result (λ it. IsTraceRun asked source input left old newer it)
    run_ok (Ok it) newer is written = run_over newer it is written
    run_ok (Err e) newer is written = tt

    pub cut_in_counts : (newer : Option (List ℕ)) → AppendsFront new newer (last_text asked s) → IsCutShort asked source input left old newer
    cut_in_counts newer w = record {
      read = o.read;
      consumed = o.consumed;
      lines = taken_lines o.read;
      more = [];
      split = sym (append-nil (taken_lines o.read));
      last = s;
      text = o.text;
      session = o.session;
      written = front_more old new newer o.text (last_text asked s) o.written w;
    }

    pub run_err : (result : Result TraceVerdict TraceError) (newer : Option (List ℕ)) → OnErr result (AppendsFront new newer (last_text asked s)) → OnErr result (IsCutShort asked source input left old newer)
    run_err result newer w = on_err_weaker result (cut_in_counts newer) w
