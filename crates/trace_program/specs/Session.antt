-- A session that takes the lines of a trace one after another, and the text that is written for each line.
use Rattle.std.specs.Prelude.{◌≡◌, ℕ, nat_lt, ◌&&◌, if◌then◌else◌, Bool, true, false, List, [], ◌∷◌, ◌++◌, codes, decimal, Option, Some, None, option_and_then, ◌⊎◌}
use Rattle.command_line.specs.declared.rmitrace.Comparison.{Comparison}
use Rattle.command_line.specs.declared.rmitrace.TraceSubcommand.{TraceSubcommand}
use Rattle.command_line.specs.declared.rmitrace.TraceSubcommand.TheVariants as asks
use Rattle.rmm_checks.specs.declared.evaluated.EvaluatedCheck.{EvaluatedCheck}
use Rattle.rmm_trace.specs.declared.line.RmmTraceLine.{RmmTraceLine}
use Rattle.rmm_trace.specs.declared.line.LineKind.{LineKind}
use Rattle.rmm_trace.specs.declared.line.LineKind.TheVariants.{Remark, Question, Neither}
use Rattle.rmm_trace.specs.declared.word.TraceWord.{TraceWord}
use Rattle.rmm_answers.specs.declared.reply.TraceReply.{TraceReply}
use Rattle.rmm_answers.specs.Answering.{answered, refused_checks}
use Rattle.rmm_answers.specs.Replies.{is_unanswered, no_answer, no_command, reply_text}
use Rattle.trace_program.specs.declared.counts.Counts.{Counts}
use Rattle.trace_program.specs.declared.counts.LineVerdict.{LineVerdict}
use Rattle.trace_program.specs.declared.counts.LineVerdict.TheVariants.{NotCompared, Same, Allowed, Wrong}
use Rattle.trace_program.specs.declared.session.Session.{Session}
use Rattle.trace_program.specs.Counting.{IsCountFull, with_line_counted}
use Rattle.trace_program.specs.Refusal.{TellsDecision}
use Rattle.trace_program.specs.Judged.{is_no_command, line_verdict}
use Rattle.trace_program.specs.LineText.{answered_text, trace_line_of, written_in, named_text}

-- a session before its first line
abbrev pub fresh_session : Session
fresh_session = record { machine = None; counts = record { lines = 0; same = 0; allowed = 0; wrong = 0 }; reply = no_answer }

-- ---- one line

-- the session after a line is performed, given the line's kind and words
abbrev pub performed_by : LineKind → List TraceWord → Session → Session
performed_by Remark q s = s
performed_by Question q s = record s { machine = (answered q s.machine).1; reply = (answered q s.machine).0 }
performed_by Neither q s = record s { reply = no_command }

-- The session after a line is performed, with the model's answer and the machine that the line leads to. A remark
-- changes nothing.
abbrev pub performed : Session → RmmTraceLine → Session
performed s line = performed_by line.kind line.words.items s

-- the verdict on a line that was performed
abbrev pub verdict_on : Comparison → List ℕ → Session → LineVerdict
verdict_on asked bytes s = line_verdict asked s.machine (written_in bytes) (trace_line_of bytes) s.reply

-- the session after the judgement of a line that was performed
abbrev pub judged : Comparison → List ℕ → Session → Session
judged asked bytes s = record s { counts = with_line_counted s.counts (verdict_on asked bytes s) }

-- the line that was performed cannot be counted, because a count that it would raise has reached its maximum
abbrev pub IsUncounted : Comparison → List ℕ → Session → Type 0
IsUncounted asked bytes s = IsCountFull s.counts (verdict_on asked bytes s)

-- The subcommand is a check, and the line cannot be counted, because a count that it would raise has reached its
-- maximum.
abbrev pub IsTooMany : TraceSubcommand → List ℕ → Session → Type 0
IsTooMany (asks.Check asked) bytes s = IsUncounted asked bytes (performed s (trace_line_of bytes))
IsTooMany _ bytes s = ⊥

-- The session after a subcommand takes a line. The subcommand that names calls leaves the session as it was, and
-- requires no RMM.
unfoldable pub after_line : TraceSubcommand → Session → List ℕ → Session
after_line asks.Answer s bytes = performed s (trace_line_of bytes)
after_line (asks.Check asked) s bytes = judged asked bytes (performed s (trace_line_of bytes))
after_line asks.Names s bytes = s
after_line asks.Why s bytes = performed s (trace_line_of bytes)

-- ---- texts

-- the checks of a refused RMI command, given the words of its line and the session after that line; none if no command
-- was refused
abbrev pub checks_refused : List TraceWord → Session → Option (List EvaluatedCheck)
checks_refused q s = option_and_then (refused_checks q s.reply) s.machine

-- The text that explains a refused call begins with the check that decides the answer; without a refused call the text
-- is empty.
abbrev pub IsRefusalText : List TraceWord → Session → List ℕ → Type 0
IsRefusalText q s text = (s.reply.refused ≡ None → text ≡ []) × TellsDecision (checks_refused q s) text

-- The text has the lines that belong below the answer to a trace line, given the session after that line. There are
-- none below a remark. Unless the answer is `no command`, there are none below a question that is not refused, and
-- those below a refused call begin with the check that decides.
abbrev pub AreReasons : LineKind → List TraceWord → Session → List ℕ → Type 0
AreReasons Remark q s text = text ≡ []
AreReasons Question q s text = is_no_command s.reply ≡ false → IsRefusalText q s text
AreReasons Neither q s text = Unit {0}

-- `text` is the line with its answer, followed by the lines that belong below the answer
pub record IsExplained (bytes : List ℕ) (after : Session) (text : List ℕ) : Type 0 where
  pub reasons : List ℕ
  pub are_reasons : AreReasons (trace_line_of bytes).kind (trace_line_of bytes).words.items after reasons
  pub whole : text ≡ answered_text bytes (trace_line_of bytes) after.reply ++ reasons

abbrev pub heading_text : List ℕ → ℕ → List ℕ → List ℕ
heading_text source number verdict = source ++ codes ":" ++ decimal number ++ codes ": " ++ verdict ++ codes "\n"

-- the text of the model's answer in a note
abbrev pub here_text : TraceReply → List ℕ
here_text reply = if is_unanswered reply then codes "no answer" else reply_text reply

-- `text` is a note on a line whose answer differs from the model's: the line, followed by the model's answer. Help
-- follows only if the line is not a command.
pub record IsDifference (bytes : List ℕ) (reply : TraceReply) (text : List ℕ) : Type 0 where
  pub help : List ℕ
  pub no_help : is_no_command reply ≡ false → help ≡ []
  pub whole : text ≡ bytes ++ 10 ∷ codes "here: " ++ here_text reply ++ 10 ∷ help

-- `text` is a heading, followed by a note on a difference. The heading has the trace's name, the number of the line
-- that is judged, and the verdict on that line.
pub record IsHeaded (source : List ℕ) (number : ℕ) (verdict bytes : List ℕ) (reply : TraceReply) (text : List ℕ) : Type 0 where
  pub rest : List ℕ
  pub is_rest : IsDifference bytes reply rest
  pub whole : text ≡ heading_text source number verdict ++ rest

-- The text is the note on a line with the verdict `Same`. This note is the heading alone if each verdict is asked for,
-- and otherwise empty.
abbrev pub IsSameNote : Bool → (source : List ℕ) → ℕ → List ℕ → Type 0
IsSameNote true source number text = text ≡ heading_text source number (codes "same")
IsSameNote false source number text = text ≡ []

-- The text is the note on a judged line, given the session after the line. The note is empty if the line is not
-- compared.
abbrev pub IsNote : Comparison → (source bytes : List ℕ) → Session → LineVerdict → List ℕ → Type 0
IsNote asked source bytes after NotCompared text = text ≡ []
IsNote asked source bytes after Same text = IsSameNote asked.is_each source after.counts.lines text
IsNote asked source bytes after Allowed text = IsHeaded source after.counts.lines (codes "allowed") bytes after.reply text
IsNote asked source bytes after Wrong text = IsHeaded source after.counts.lines (codes "wrong") bytes after.reply text

-- The text is the one that a subcommand writes for a line, given the sessions before and after the line. A check names
-- the trace.
abbrev pub IsLineText : TraceSubcommand → (source bytes : List ℕ) → Session → Session → List ℕ → Type 0
IsLineText asks.Answer source bytes before after text = text ≡ answered_text bytes (trace_line_of bytes) after.reply
IsLineText (asks.Check asked) source bytes before after text =
    IsNote asked source bytes after (verdict_on asked bytes (performed before (trace_line_of bytes))) text
IsLineText asks.Names source bytes before after text = text ≡ named_text bytes (trace_line_of bytes)
IsLineText asks.Why source bytes before after text = IsExplained bytes after text

-- the session after a line is the one that `after_line` gives, and the line's text is appended to the output
pub record TakesLine (asked : TraceSubcommand) (source bytes : List ℕ) (before after : Session) (old new : List ℕ) : Type 0 where
  pub session : after ≡ after_line asked before bytes
  pub text : List ℕ
  pub is_text : IsLineText asked source bytes before after text
  pub appended : new ≡ old ++ text

-- ---- lines in sequence

-- The subcommand is a check that stops at the first wrong line, and there was a wrong line.
abbrev pub is_check_done : TraceSubcommand → Session → Bool
is_check_done (asks.Check asked) s = asked.stops && nat_lt 0 s.counts.wrong
is_check_done _ s = false

-- Lines that are taken one after another, to the last one or until the check is done, lead to the given session and
-- text.
abbrev pub IsSession : TraceSubcommand → (source : List ℕ) → Session → List (List ℕ) → List ℕ → Session → Type 0
IsSession asked source s [] text new = (text ≡ []) × (new ≡ s)
IsSession asked source s (bytes ∷ more) text new =
    ((is_check_done asked s ≡ true) × (text ≡ []) × (new ≡ s))
    ⊎ ((is_check_done asked s ≡ false) × ((first : List ℕ) × (rest : List ℕ) × IsLineText asked source bytes s (after_line asked s bytes) first
    × IsSession asked source (after_line asked s bytes) more rest new × (text ≡ first ++ rest)))
