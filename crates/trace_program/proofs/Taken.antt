-- Proofs that a session takes the lines of a trace one after another, while the input is read in parts.
use Rattle.std.proofs.Common.{◌≡◌, ℕ, ◌<◌, Bool, true, false, List, [], ◌∷◌, ◌++◌, length, map, refl, sym, ap, ◌∙◌, subst, append_assoc, append-nil, arith}
use Rattle.std.proofs.lemmas.List.{map-append}
use Rattle.checked_io.specs.Lines.{lines_in, parts_of, without_empty_last}
use Rattle.command_line.specs.declared.rmitrace.TraceSubcommand.{TraceSubcommand}
use Rattle.trace_program.specs.declared.session.Session.{Session}
use Rattle.trace_program.specs.Session.{IsLineText, IsSession, TakesLine, after_line, fresh_session, is_check_done}
use Rattle.trace_program.specs.Reading.{AreTraceLinesTaken, HasRest, IsTraceLineTaken, kept_of_line, taken_lines}
use Rattle.trace_program.proofs.Kept.{kept_none, none_kept, some_kept}
use Rattle.trace_program.proofs.Parts.{HasNoFeed, cut_part, cut_line, grows_more, lines_are, lines_with, lines_without}
use Rattle.trace_program.proofs.Sessions.{not_both, session_more, session_done}

module _ (asked : TraceSubcommand) (source : List ℕ) where
  pub taken_none : is_check_done asked fresh_session ≡ false → IsTraceLineTaken asked source [] [] fresh_session [] []
  taken_none going = record {
    lines = [];
    left = [] ∷ [];
    cut = refl;
    some = omega arith;
    begun = λ _. record { rest = []; alone = refl; is_kept = sym kept_none };
    session = (refl, refl);
  }

  module _ (read written : List ℕ) (s : Session) (line text : List ℕ) (t : IsTraceLineTaken asked source read written s line text) where
    begins : (r : HasRest t.left line) → parts_of read ≡ t.lines ++ r.rest ∷ []
    begins r = subst (λ (left : List (List ℕ)). parts_of read ≡ t.lines ++ left) r.alone t.cut

    pub part_taken : (part kept : List ℕ) → is_check_done asked s ≡ false → HasNoFeed part → ((rest : List ℕ) → line ≡ kept_of_line rest → kept ≡ kept_of_line (rest ++ part))
        → IsTraceLineTaken asked source (read ++ part) written s kept text
    part_taken part kept going none keeps = let r = t.begun going in record {
      lines = t.lines;
      left = (r.rest ++ part) ∷ [];
      cut = cut_part read part t.lines r.rest none (begins r);
      some = omega arith;
      begun = λ _. record { rest = r.rest ++ part; alone = refl; is_kept = keeps r.rest r.is_kept };
      session = t.session;
    }

    -- unless the check is done, taking one more line extends the session by the line and its text
    more_session : (lines : List (List ℕ)) (kept whole new : List ℕ) (after : Session) → is_check_done asked s ≡ false → IsSession asked source fresh_session (map kept_of_line lines) (written ++ text) s
        → kept ≡ kept_of_line whole → TakesLine asked source kept s after text new → IsSession asked source fresh_session (map kept_of_line (lines ++ whole ∷ [])) (written ++ new) after
    more_session lines kept whole new after going is keeps k =
        let told = subst (λ (it : Session). IsLineText asked source kept s it k.text) k.session k.is_text in
        let all = session_more asked source fresh_session (map kept_of_line lines) kept (written ++ text) k.text s is going told in
        let texts : (written ++ text) ++ k.text ≡ written ++ new = append_assoc written text k.text ∙ ap (λ (x : List ℕ). written ++ x) (sym k.appended) in
        let bytes : map kept_of_line lines ++ kept ∷ [] ≡ map kept_of_line (lines ++ whole ∷ []) =
        ap (λ (x : List ℕ). map kept_of_line lines ++ x ∷ []) keeps ∙ sym (map-append kept_of_line lines (whole ∷ [])) in
        subst (λ (it : Session). IsSession asked source fresh_session (map kept_of_line (lines ++ whole ∷ [])) (written ++ new) it) (sym k.session)
        (subst (λ (x : List ℕ). IsSession asked source fresh_session (map kept_of_line (lines ++ whole ∷ [])) x (after_line asked s kept)) texts
        (subst (λ (x : List (List ℕ)). IsSession asked source fresh_session x ((written ++ text) ++ k.text) (after_line asked s kept)) bytes all))

    pub line_taken : (part kept new : List ℕ) (after : Session) → is_check_done asked s ≡ false → HasNoFeed part → ((rest : List ℕ) → line ≡ kept_of_line rest → kept ≡ kept_of_line (rest ++ part))
        → TakesLine asked source kept s after text new → IsTraceLineTaken asked source (read ++ (part ++ 10 ∷ [])) written after [] new
    line_taken part kept new after going none keeps k = let r = t.begun going in record {
      lines = t.lines ++ (r.rest ++ part) ∷ [];
      left = [] ∷ [];
      cut = cut_line read part t.lines r.rest none (begins r);
      some = omega arith;
      begun = λ _. record { rest = []; alone = refl; is_kept = sym kept_none };
      session = more_session t.lines kept (r.rest ++ part) new after going t.session (keeps r.rest r.is_kept) k;
    }

    -- bytes that are read after the check is done change nothing
    pub done_taken : (more : List ℕ) → is_check_done asked s ≡ true → IsTraceLineTaken asked source (read ++ more) written s line text
    done_taken more done = let g = grows_more read more t.lines (record { left = t.left; cut = t.cut; some = t.some }) in record {
      lines = t.lines;
      left = g.left;
      cut = g.cut;
      some = g.some;
      begun = λ going. absurd (not_both (is_check_done asked s) done going);
      session = t.session;
    }

    -- ---- at the end

    pub all_taken : is_check_done asked s ≡ false → length line ≡ 0 → AreTraceLinesTaken asked source read written s text
    all_taken going none = let r = t.begun going in
        subst (λ (x : List (List ℕ)). IsSession asked source fresh_session (map kept_of_line x) (written ++ text) s)
        (sym (lines_without read t.lines r.rest (begins r) (none_kept line r.rest r.is_kept none))) t.session

    pub last_taken : (new : List ℕ) (after : Session) → is_check_done asked s ≡ false → 0 < length line → TakesLine asked source line s after text new → AreTraceLinesTaken asked source read written after new
    last_taken new after going some k = let r = t.begun going in
        subst (λ (x : List (List ℕ)). IsSession asked source fresh_session (map kept_of_line x) (written ++ new) after)
        (sym (lines_with read t.lines r.rest (begins r) (some_kept line r.rest r.is_kept some)))
        (more_session t.lines line r.rest new after going t.session r.is_kept k)

    pub lines_split : taken_lines read ≡ map kept_of_line t.lines ++ map kept_of_line (without_empty_last t.left)
    lines_split = ap (map kept_of_line) (lines_are read t.lines t.left t.cut t.some) ∙ map-append kept_of_line t.lines (without_empty_last t.left)

    pub done_all : is_check_done asked s ≡ true → AreTraceLinesTaken asked source read written s text
    done_all done =
        subst (λ (x : List (List ℕ)). IsSession asked source fresh_session x (written ++ text) s) (sym lines_split)
        (session_done asked source fresh_session (map kept_of_line t.lines) (map kept_of_line (without_empty_last t.left)) (written ++ text) s t.session done)
