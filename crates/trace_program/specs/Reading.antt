-- The lines that a run of a trace reads, and the text that the run writes for them, up to the end of the input or an
-- error.
use Rattle.std.specs.Prelude.{◌≡◌, ℕ, ◌<◌, ◌≤◌, Bool, true, false, List, [], ◌∷◌, ◌++◌, length, map, take, Option, ◌⊎◌}
use Rattle.std.specs.Io.KnownBytes.{Appends, Consumes, IsAtEnd}
use Rattle.checked_io.specs.Lines.{lines_in, parts_of}
use Rattle.checked_io.specs.Whole.{AppendsFront}
use Rattle.command_line.specs.declared.rmitrace.TraceSubcommand.{TraceSubcommand}
use Rattle.command_line.specs.declared.rmitrace.TraceSubcommand.TheVariants as asks
use Rattle.trace_program.specs.declared.counts.TraceVerdict.{TraceVerdict}
use Rattle.trace_program.specs.declared.counts.TraceVerdict.TheVariants.{Agrees}
use Rattle.trace_program.specs.declared.session.Session.{Session}
use Rattle.trace_program.specs.Counting.{summary_text, trace_verdict}
use Rattle.trace_program.specs.Session.{IsSession, fresh_session, is_check_done}

-- The first 65,537 bytes of a line, which are all that a run keeps of the line. That is one more than a line with a
-- question may have, so a line that is too long is recognized.
unfoldable pub kept_of_line : List ℕ → List ℕ
kept_of_line line = take 65537 line

-- the lines of an input, each with only the bytes that are kept of it
abbrev pub taken_lines : List ℕ → List (List ℕ)
taken_lines bytes = map kept_of_line (lines_in bytes)

-- ---- bytes that were read

-- only the beginning of the next line is left, and `line` has the bytes that are kept of that line
pub record HasRest (left : List (List ℕ)) (line : List ℕ) : Type 0 where
  pub rest : List ℕ
  pub alone : left ≡ rest ∷ []
  pub is_kept : line ≡ kept_of_line rest

-- A run has taken lines that it read from the input, and the output texts of these lines are `written` followed by
-- `text`. Unless the check is done, only the beginning of the next line is left.
pub record IsTraceLineTaken (asked : TraceSubcommand) (source read written : List ℕ) (s : Session) (line text : List ℕ) : Type 0 where
  pub lines : List (List ℕ)
  pub left : List (List ℕ)
  pub cut : parts_of read ≡ lines ++ left
  pub some : 0 < length left
  pub begun : is_check_done asked s ≡ false → HasRest left line
  pub session : IsSession asked source fresh_session (map kept_of_line lines) (written ++ text) s

-- A run has taken the lines that it read, to the last one or until its check was done.
abbrev pub AreTraceLinesTaken : TraceSubcommand → (source read written : List ℕ) → Session → List ℕ → Type 0
AreTraceLinesTaken asked source read written s text = IsSession asked source fresh_session (taken_lines read) (written ++ text) s

-- a run under way has taken lines that it read from the input, and has written their output texts
pub record IsUnderway (asked : TraceSubcommand) (source : List ℕ) (input left old new : Option (List ℕ)) (s : Session) (line : List ℕ) : Type 0 where
  pub read : List ℕ
  pub consumed : Consumes input left read
  pub written : List ℕ
  pub taken : IsTraceLineTaken asked source read written s line []
  pub appended : Appends old new written

-- at least `count` bytes of the input were read
pub record HasRead (count : ℕ) (input left : Option (List ℕ)) : Type 0 where
  pub read : List ℕ
  pub consumed : Consumes input left read
  pub at_least : count ≤ length read

-- The bytes `before` of the input were read, and then at most 4,096 bytes more.
pub record HasReadPart (before : List ℕ) (input left : Option (List ℕ)) : Type 0 where
  pub part : List ℕ
  pub consumed : Consumes input left (before ++ part)
  pub short : length part ≤ 4096

-- The last part of the input that was read has at most 4,096 bytes, and the check was not done before that part.
pub record IsReadToStop (asked : TraceSubcommand) (source : List ℕ) (input left : Option (List ℕ)) : Type 0 where
  pub before : List ℕ
  pub last : HasReadPart before input left
  pub written : List ℕ
  pub s : Session
  pub line : List ℕ
  pub taken : IsTraceLineTaken asked source before written s line []
  pub going : is_check_done asked s ≡ false

-- ---- ends

-- A run has read the whole input or finished its check, and has written the texts of the lines that it has taken.
pub record IsOver (asked : TraceSubcommand) (source : List ℕ) (input left old new : Option (List ℕ)) (s : Session) : Type 0 where
  pub read : List ℕ
  pub consumed : Consumes input left read
  pub ended : IsAtEnd left ⊎ (is_check_done asked s ≡ true)
  pub text : List ℕ
  pub session : IsSession asked source fresh_session (taken_lines read) text s
  pub written : Appends old new text

-- if the run reads on, it is under way and its check is not done; otherwise it is over
abbrev pub ReadsOn : Bool → TraceSubcommand → (source : List ℕ) → (input left old new : Option (List ℕ)) → Session → List ℕ → Type 0
ReadsOn true asked source input left old new s line = IsUnderway asked source input left old new s line × (is_check_done asked s ≡ false)
ReadsOn false asked source input left old new s line = IsOver asked source input left old new s

-- the text after the texts of all lines: the counts for a check, and otherwise nothing
abbrev pub last_text : TraceSubcommand → Session → List ℕ
last_text (asks.Check asked) s = summary_text s.counts
last_text _ s = []

abbrev pub verdict_asked : TraceSubcommand → Session → TraceVerdict
verdict_asked (asks.Check asked) s = trace_verdict s.counts
verdict_asked _ s = Agrees

-- A complete run of a trace has taken its lines in sequence, to the end of the input or until the check is done. The
-- texts of these lines are written, and after them the counts if the run is a check.
pub record IsTraceRun (asked : TraceSubcommand) (source : List ℕ) (input left old new : Option (List ℕ)) (verdict : TraceVerdict) : Type 0 where
  pub read : List ℕ
  pub consumed : Consumes input left read
  pub last : Session
  pub ended : IsAtEnd left ⊎ (is_check_done asked last ≡ true)
  pub text : List ℕ
  pub session : IsSession asked source fresh_session (taken_lines read) text last
  pub is_verdict : verdict ≡ verdict_asked asked last
  pub written : Appends old new (text ++ last_text asked last)

-- A run that stops at an error has written the beginning of the text for the first lines of the input. For a check, the
-- counts are last in that text.
pub record IsCutShort (asked : TraceSubcommand) (source : List ℕ) (input left old new : Option (List ℕ)) : Type 0 where
  pub read : List ℕ
  pub consumed : Consumes input left read
  pub lines : List (List ℕ)
  pub more : List (List ℕ)
  pub split : taken_lines read ≡ lines ++ more
  pub last : Session
  pub text : List ℕ
  pub session : IsSession asked source fresh_session lines text last
  pub written : AppendsFront old new (text ++ last_text asked last)
