-- A proof that a run of `check` that cannot count another line has read at least 2^64 - 1 bytes.
use Rattle.std.proofs.Common.{◌≡◌, ℕ, ◌+◌, ◌-◌, ◌<◌, ◌≤◌, ◌==◌, List, [], ◌∷◌, ◌++◌, length, map, refl, sym, ap, subst, ◌∙◌, arith, zero-le, length-append, inl, inr}
use Rattle.std.specs.Prelude.{◌^◌, Result, Ok, Err, IsErrAnd}
use Rattle.std.proofs.lemmas.List.{length-map}
use Rattle.std.proofs.lemmas.List.Splits.{length-slice_split}
use Rattle.std.proofs.lemmas.List.Sums.{count_by-le-length}
use Rattle.checked_io.specs.Lines.{parts_of}
use Rattle.command_line.specs.declared.rmitrace.TraceSubcommand.{TraceSubcommand}
use Rattle.command_line.specs.declared.rmitrace.TraceSubcommand.TheVariants as asks
use Rattle.rmm_trace.specs.declared.line.LineKind.{LineKind}
use Rattle.rmm_trace.specs.declared.line.LineKind.TheVariants.{Remark, Question, Neither}
use Rattle.rmm_trace.specs.declared.word.TraceWord.{TraceWord}
use Rattle.trace_program.specs.Counting.{IsCountFull, count_of, with_line_counted}
use Rattle.trace_program.specs.LineText.{trace_line_of}
use Rattle.trace_program.specs.Reading.{IsTraceLineTaken, kept_of_line}
use Rattle.trace_program.specs.Session.{IsSession, IsTooMany, after_line, fresh_session, performed, performed_by, verdict_on}
use Rattle.trace_program.specs.declared.counts.Counts.{Counts}
use Rattle.trace_program.specs.declared.counts.LineVerdict.{LineVerdict}
use Rattle.trace_program.specs.declared.counts.LineVerdict.TheVariants.{NotCompared, Same, Allowed, Wrong}
use Rattle.trace_program.specs.declared.fault.TraceError.{TraceError}
use Rattle.trace_program.specs.declared.session.Session.{Session}
use Rattle.trace_program.proofs.Fronts.{HasFront}

-- ---- counts

-- each count is at most `most`
record AreWithin (most : ℕ) (c : Counts) : Type 0 where
  pub lines : c.lines ≤ most
  pub same : c.same ≤ most
  pub allowed : c.allowed ≤ most
  pub wrong : c.wrong ≤ most

within_more : (a b : ℕ) (c : Counts) → a ≤ b → AreWithin a c → AreWithin b c
within_more a b c le w = record {
  lines = omega (arith, le, w.lines);
  same = omega (arith, le, w.same);
  allowed = omega (arith, le, w.allowed);
  wrong = omega (arith, le, w.wrong);
}

counted : (most : ℕ) (c : Counts) (verdict : LineVerdict) → AreWithin most c → AreWithin (most + 1) (with_line_counted c verdict)
counted most c NotCompared w = record { lines = omega (arith, w.lines); same = omega (arith, w.same); allowed = omega (arith, w.allowed); wrong = omega (arith, w.wrong) }
counted most c Same w = record { lines = omega (arith, w.lines); same = omega (arith, w.same); allowed = omega (arith, w.allowed); wrong = omega (arith, w.wrong) }
counted most c Allowed w = record { lines = omega (arith, w.lines); same = omega (arith, w.same); allowed = omega (arith, w.allowed); wrong = omega (arith, w.wrong) }
counted most c Wrong w = record { lines = omega (arith, w.lines); same = omega (arith, w.same); allowed = omega (arith, w.allowed); wrong = omega (arith, w.wrong) }

count_within : (most : ℕ) (c : Counts) (verdict : LineVerdict) → AreWithin most c → count_of c verdict ≤ most
count_within most c NotCompared w = zero-le
count_within most c Same w = w.same
count_within most c Allowed w = w.allowed
count_within most c Wrong w = w.wrong

at_most : (a b c : ℕ) → a ≤ b → b ≤ c → a ≤ c
at_most a b c first then = omega (arith, first, then)

full_within : (most : ℕ) (c : Counts) (verdict : LineVerdict) → AreWithin most c → IsCountFull c verdict → 2 ^ 64 - 1 ≤ most
full_within most c verdict w full =
    elim full [
      | inl lines ↦ at_most (2 ^ 64 - 1) c.lines most lines w.lines
      | inr alike ↦ at_most (2 ^ 64 - 1) (count_of c verdict) most alike (count_within most c verdict w)
    ]

-- ---- sessions

performed_counts : (kind : LineKind) (q : List TraceWord) (s : Session) → (performed_by kind q s).counts ≡ s.counts
performed_counts Remark q s = refl
performed_counts Question q s = refl
performed_counts Neither q s = refl

performed_within : (most : ℕ) (bytes : List ℕ) (s : Session) → AreWithin most s.counts → AreWithin most (performed s (trace_line_of bytes)).counts
performed_within most bytes s w = let line = trace_line_of bytes in
    subst (λ (c : Counts). AreWithin most c) (sym (performed_counts line.kind line.words.items s)) w

after_within : (asked : TraceSubcommand) (most : ℕ) (bytes : List ℕ) (s : Session) → AreWithin most s.counts → AreWithin (most + 1) (after_line asked s bytes).counts
unfolding after_line
after_within asks.Answer most bytes s w = within_more most (most + 1) (performed s (trace_line_of bytes)).counts (omega arith) (performed_within most bytes s w)
after_within (asks.Check asked) most bytes s w =
    counted most (performed s (trace_line_of bytes)).counts (verdict_on asked bytes (performed s (trace_line_of bytes))) (performed_within most bytes s w)
after_within asks.Names most bytes s w = within_more most (most + 1) s.counts (omega arith) w
after_within asks.Why most bytes s w = within_more most (most + 1) (performed s (trace_line_of bytes)).counts (omega arith) (performed_within most bytes s w)

module _ (asked : TraceSubcommand) (source : List ℕ) where
  session_within : (old : Session) (lines : List (List ℕ)) (text : List ℕ) (last : Session) (most : ℕ) → AreWithin most old.counts → IsSession asked source old lines text last
      → AreWithin (most + length lines) last.counts
  session_within old [] text last most w is =
      subst (λ (s : Session). AreWithin (most + 0) s.counts) (sym is.1) (within_more most (most + 0) old.counts (omega arith) w)
  session_within old (l ∷ ls) text last most w is =
      elim is [
        | inl done ↦ subst (λ (s : Session). AreWithin (most + length (l ∷ ls)) s.counts) (sym done.2) (within_more most (most + length (l ∷ ls)) old.counts (omega arith) w)
        | inr goes ↦
            let it = goes.1 in
            within_more (most + 1 + length ls) (most + length (l ∷ ls)) last.counts (omega arith)
            (session_within (after_line asked old l) ls it.1 last (most + 1) (after_within asked most l old w) it.3)
      ]

none_counted : AreWithin 0 fresh_session.counts
none_counted = record { lines = zero-le; same = zero-le; allowed = zero-le; wrong = zero-le }

too_many : (asked : TraceSubcommand) (source : List ℕ) (lines : List (List ℕ)) (text bytes : List ℕ) (s : Session)
    → IsSession asked source fresh_session lines text s → IsTooMany asked bytes s → 2 ^ 64 - 1 ≤ length lines
too_many (asks.Check asked) source lines text bytes s is full =
    let within = within_more (0 + length lines) (length lines) s.counts (omega arith) (session_within (asks.Check asked) source fresh_session lines text s 0 none_counted is) in
    full_within (length lines) (performed s (trace_line_of bytes)).counts (verdict_on asked bytes (performed s (trace_line_of bytes)))
    (performed_within (length lines) bytes s within) full
too_many asks.Answer source lines text bytes s is full = absurd full
too_many asks.Names source lines text bytes s is full = absurd full
too_many asks.Why source lines text bytes s is full = absurd full

-- ---- bytes

-- a text has at least as many bytes as lines that end in a line feed
lines_few : (bytes : List ℕ) (lines left : List (List ℕ)) → parts_of bytes ≡ lines ++ left → 0 < length left → length lines ≤ length bytes
lines_few bytes lines left cut some =
    omega (arith, some, ap length cut, length-append lines left, length-slice_split (λ b. b == 10) bytes, count_by-le-length (λ b. b == 10) bytes)

pub taken_long : (asked : TraceSubcommand) (source read written : List ℕ) (s : Session) (line text bytes : List ℕ) → IsTraceLineTaken asked source read written s line text
    → IsTooMany asked bytes s → 2 ^ 64 - 1 ≤ length read
taken_long asked source read written s line text bytes t full =
    at_most (2 ^ 64 - 1) (length t.lines) (length read)
    (subst (λ n. 2 ^ 64 - 1 ≤ n) (length-map t.lines kept_of_line) (too_many asked source (map kept_of_line t.lines) (written ++ text) bytes s t.session full))
    (lines_few read t.lines t.left t.cut t.some)

pub part_long : (asked : TraceSubcommand) (source : List ℕ) (first : Session) (begun texts part rest : List ℕ) (s : Session) (line text : List ℕ)
    → HasFront asked source first begun texts part rest s line text → (bytes : List ℕ) → IsTooMany asked bytes s
    → (read written : List ℕ) → IsTraceLineTaken asked source read written first begun texts → 2 ^ 64 - 1 ≤ length (read ++ part)
part_long asked source first begun texts part rest s line text h bytes full read written t =
    at_most (2 ^ 64 - 1) (length (read ++ h.front)) (length (read ++ part))
    (taken_long asked source (read ++ h.front) written s line text bytes (h.taken read written t) full)
    (omega (arith, length-append read h.front, length-append read part, ap length h.split, length-append h.front rest))

pub longer : (count : ℕ) (read part : List ℕ) → count ≤ length read → count ≤ length (read ++ part)
longer count read part at_least = omega (arith, at_least, length-append read part)

-- ---- errors

-- if a call's result is the error `error`, and is also `Err asked`, then `Err error` equals `Err asked`
pub passed_on : {T S : Type 0} (result : Result T TraceError) (error asked : TraceError) → IsErrAnd result (λ other. other ≡ error) → result ≡ Err asked
    → ◌≡◌ {A = Result S TraceError} (Err error) (Err asked)
passed_on (Ok x) error asked same is = absurd same
passed_on (Err other) error asked same is = let that : other ≡ asked = cc in ap Err (sym same ∙ that)
