-- The condition that the lines of a worker's report match the events of its build in a history.
use Rattle.std.specs.Prelude.{◌≡◌, ℕ, ◌-◌, ◌++◌, nat_lt, List, filter, map, length, take, Option, Some, None, slice_get, option_and_then, IsSomeAnd, if◌then◌else◌}
use Rattle.std.specs.Global.{Vec}
use Rattle.std.specs.List.{last_or}
use Rattle.host_commands.specs.Acts.{act_of}
use Rattle.host_commands.specs.Needs.{operands}
use Rattle.host_commands.specs.Replies.{reply_of}
use Rattle.host_commands.specs.declared.cmd.Cmd.{Cmd}
use Rattle.host_commands.specs.declared.cmd.Cmd.TheVariants.{Take}
use Rattle.host_commands.specs.declared.cmd.Step.{Step}
use Rattle.host_commands.specs.declared.reply.Allocated.{Allocated}
use Rattle.host_commands.specs.declared.reply.Reply.{Reply}
use Rattle.realm_model.specs.Kind.{act_kind}
use Rattle.realm_model.specs.History.{events_of, open_entries, pages_of}
use Rattle.host_commands.specs.declared.reply.Undone.{Undone}
use Rattle.realm_model.specs.Act.{reverse_of}
use Rattle.realm_model.specs.declared.act.Act.{Act}
use Rattle.realm_model.specs.declared.act.Act.TheVariants as acts
use Rattle.realm_model.specs.declared.act.Event.{Event}
use Rattle.build_seats.specs.Events.{is_accepted, question_at}
use Rattle.build_seats.specs.declared.ask.Question.{Question}
use Rattle.build_seats.specs.declared.ask.Question.TheVariants as question
use Rattle.build_seats.specs.declared.report.Answer.{Answer}
use Rattle.build_seats.specs.declared.report.Answer.TheVariants.{Replied, Undone as WasUndone, Marked, Nothing, Refused}
use Rattle.build_seats.specs.declared.report.ReportLine.{ReportLine}
use Rattle.build_seats.specs.declared.report.Report.{Report}

-- ---- commands

-- The granule of a build's page, given the list of the granules of the build's pages; None if the build has no such
-- page. A number of 4,096 or more is no granule, and gives None too.
abbrev pub granule_of_number : List ℕ → ℕ → Option ℕ
granule_of_number pages page = option_and_then (λ number. if nat_lt number 4096 then Some number else None) (slice_get pages page)

-- the build has all of the pages `numbers`, and `granules` are the granules of these pages, in sequence
abbrev pub AreGranules : List ℕ → List ℕ → List ℕ → Type 0
AreGranules pages numbers granules = map (granule_of_number pages) numbers ≡ map (λ granule. Some granule) granules

-- the build lacks one of the pages `numbers`, or one of these pages has a granule number of 4,096 or more
abbrev pub HaveNoGranules : List ℕ → List ℕ → Type 0
HaveNoGranules pages numbers = (granules : List ℕ) → ¬ AreGranules pages numbers granules

-- the list `after` is the list `before`, followed by the granules of the build's pages `numbers`
abbrev pub ArePushed : List ℕ → List ℕ → List ℕ → List ℕ → Type 0
ArePushed pages numbers before after = (granules : List ℕ) × (AreGranules pages numbers granules × (after ≡ before ++ granules))

-- The command asks for this operation on the granules of the command's pages, given some VMID, REC number and byte.
pub record IsMadeOf (pages : List ℕ) (cmd : Cmd) (act : Act) : Type 0 where
  pub granules : List ℕ
  pub allocated : Allocated
  pub are_granules : AreGranules pages (operands cmd) granules
  pub act_is : act_of cmd granules allocated ≡ Some act

-- The command `cmd` of a build with the pages `pages` can ask for the operation `act`. The block of a Take may be any.
abbrev pub IsFittingAct : List ℕ → Cmd → Act → Type 0
IsFittingAct pages (Take order) act = (first : ℕ) × (act ≡ acts.Take order first)
IsFittingAct pages cmd act = IsMadeOf pages cmd act

-- the command can ask for the operation `act`, and `reply` is the host's reply after `act`
pub record IsFittingReply (pages : List ℕ) (cmd : Cmd) (reply : Reply) (act : Act) : Type 0 where
  pub act_is : IsFittingAct pages cmd act
  pub reply_is : reply ≡ reply_of (length pages) act

-- ---- undos

-- The operation is the reverse of the newest open operation, and `undone` is the reply to that undo. The reply has the
-- kind of the operation that is undone, and the number of those left open.
pub record IsFittingUndo (opened : List Act) (undone : Undone) (act : Act) : Type 0 where
  pub act_is : option_and_then reverse_of (last_or None opened) ≡ Some act
  pub kind_is : option_and_then act_kind (last_or None opened) ≡ Some undone.kind
  pub left_is : undone.left ≡ length opened - 1

-- ---- lines

-- An answer matches the command, undo or mark that a build asked for, given the build's pages, open operations and next
-- event. A reply or an undo matches the next event. The answer to a mark is the number of open operations. An answer
-- that did nothing, or was a refusal, matches anywhere.
abbrev pub AnswerFits : List ℕ → List Act → Option Event → Question → Answer → Type 0
AnswerFits pages opened next (question.Do cmd) (Replied reply) = IsSomeAnd next (λ event. IsFittingReply pages cmd reply event.act)
AnswerFits pages opened next question.Undo (WasUndone undone) = IsSomeAnd next (λ event. IsFittingUndo opened undone event.act)
AnswerFits pages opened next question.Mark (Marked count) = count ≡ length opened
AnswerFits pages opened next asked Nothing = Unit {0}
AnswerFits pages opened next asked (Refused refusal) = Unit {0}
AnswerFits pages opened next asked answer = ⊥

-- A report line of the build matches the history, given that `count` events of the build come before the line. The line
-- has a question, and its answer matches the build's pages, open operations and next event there.
abbrev pub LineFits : ℕ → List Step → List Event → ℕ → ReportLine → Type 0
LineFits build steps history count line =
    let before = take count (events_of build history) in
    let next = slice_get (events_of build history) count in
    IsSomeAnd (question_at steps line.asked) (λ asked. AnswerFits (pages_of build before) (open_entries build before) next asked line.answer)

-- the number of lines that show an accepted command or undo
abbrev pub accepted_count : List ReportLine → ℕ
accepted_count lines = length (filter is_accepted lines)

-- The lines of a report match the history: each line matches after as many events of the build as there are accepted
-- lines before it. The build has as many events as the report has accepted lines.
pub record DoesFit (build : ℕ) (steps : List Step) (lines : List ReportLine) (history : List Event) : Type 0 where
  pub each : (place : ℕ) (line : ReportLine) → slice_get lines place ≡ Some line → LineFits build steps history (accepted_count (take place lines)) line
  pub as_many : accepted_count lines ≡ length (events_of build history)

-- a report, with the steps that are paired with it, matches the history
abbrev pub ReportFits : List Event → Report × Vec Step → Type 0
ReportFits history (report, steps) = DoesFit report.build steps.items report.lines.items history
