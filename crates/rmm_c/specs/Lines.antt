-- The effect of a trace line on the RMM of a C handle, and the answer text in the caller's buffer.
use Rattle.std.specs.Prelude.{◌≡◌, ◌⊎◌, ℕ, List, [], ◌∷◌, ◌++◌, length, take, drop, Option}
use Rattle.rmm_model.specs.Machine.{Machine}
use Rattle.rmm_trace.specs.declared.line.LineKind.{LineKind}
use Rattle.rmm_trace.specs.declared.line.LineKind.TheVariants.{Remark, Question, Neither}
use Rattle.rmm_trace.specs.declared.line.RmmTraceLine.{RmmTraceLine}
use Rattle.rmm_trace.specs.declared.word.TraceWord.{TraceWord}
use Rattle.rmm_trace.specs.declared.table.TheConstants.{GROUPS, START}
use Rattle.rmm_trace.specs.Lines.{line_in}
use Rattle.rmm_answers.specs.declared.reply.TraceReply.{TraceReply}
use Rattle.rmm_answers.specs.Answering.{answered}
use Rattle.rmm_answers.specs.Replies.{no_answer, no_command, reply_text}

abbrev pub answered_by : LineKind → List TraceWord → Option Machine → TraceReply × Option Machine
answered_by Remark q m = (no_answer, m)
answered_by Question q m = answered q m
answered_by Neither q m = (no_command, m)

-- the RMM's answer to a trace line, and the new machine; a blank line or a comment gets no answer and changes nothing
abbrev pub line_answered : RmmTraceLine → Option Machine → TraceReply × Option Machine
line_answered line m = answered_by line.kind line.words.items m

-- the RMM's answer to a trace line that is given by its bytes, and the new machine
abbrev pub on_line : List ℕ → Option Machine → TraceReply × Option Machine
on_line bytes m = line_answered (line_in GROUPS START bytes) m

-- a buffer after a text was written to it as C11's `snprintf` does: as much of the text as fits, then a zero
abbrev pub put_text : List ℕ → List ℕ → List ℕ
put_text text [] = []
put_text text (b ∷ bs) = let kept = take (length bs) text in kept ++ 0 ∷ drop (length kept) bs

-- After a trace line the buffer has as much of the RMM's answer as fits, and the answer's whole length is returned. The
-- machine changes as in the model.
pub record IsLineAnswered (bytes old : List ℕ) (before : Option Machine) (returned : ℕ) (new : List ℕ) (after : Option Machine) : Type 0 where
  pub count : returned ≡ length (reply_text (on_line bytes before).0)
  pub text : new ≡ put_text (reply_text (on_line bytes before).0) old
  pub machine : after ≡ (on_line bytes before).1

-- A line has no answer because allocation failed: the buffer is unchanged, and either the line was performed or nothing
-- changed.
pub record IsLineLost (bytes old : List ℕ) (before : Option Machine) (new : List ℕ) (after : Option Machine) : Type 0 where
  pub text : new ≡ old
  pub machine : (after ≡ before) ⊎ (after ≡ (on_line bytes before).1)
