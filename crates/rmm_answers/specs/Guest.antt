-- The answers to a trace's questions about guests: queued steps, interrupts of running RECs, and the results of steps.
use Rattle.std.specs.Prelude.{ℕ, zero, suc, ◌+◌, ◌*◌, ◌%◌, ◌==◌, nat_le, nat_lt, Bool, ◌&&◌, ◌||◌, if◌then◌else◌, List, [], ◌∷◌, length, Option, Some, None, option_and_then, unwrap_or}
use Rattle.std.specs.List.{position_from}
use Rattle.rmi_abi.specs.declared.word.Word.{Word}
use Rattle.rmi_abi.specs.Word.{number}
use Rattle.rmm.specs.Reading.{word_shown}
use Rattle.rmm_model.specs.declared.rec.RmmRec.{RmmRec as Attributes}
use Rattle.rmm_model.specs.declared.step.Queued.{Queued}
use Rattle.rmm_model.specs.declared.step.Queued.TheVariants.{Queued as IsQueued, Full, NoRec}
use Rattle.rmm_model.specs.declared.step.StepWords.{StepWords}
use Rattle.rmm_model.specs.Command.RecEnter.{interrupted}
use Rattle.rmm_model.specs.Granule.{rec_of}
use Rattle.rmm_model.specs.Guest.{queued}
use Rattle.rmm_model.specs.Host.{state_shown}
use Rattle.rmm_model.specs.Machine.{Machine}
use Rattle.rmm_trace.specs.declared.place.TheConstants.{NONE, PSCI_DENIED, PSCI_SUCCESS, READ, SET_RIPAS}
use Rattle.rmm_trace.specs.declared.word.Atom.{Atom}
use Rattle.rmm_trace.specs.declared.word.Atom.TheVariants.{Name, Hexadecimal}
use Rattle.rmm_trace.specs.declared.word.TraceWord.{TraceWord}
use Rattle.rmm_trace.specs.Access.{operand_at}
use Rattle.rmm_trace.specs.Answers.{listed}
use Rattle.rmm_answers.specs.declared.guest.TheConstants.{STEPS}
use Rattle.rmm_answers.specs.declared.place.TheConstants.{ACCEPTED, DONE, FULL, IS_RUNNING, NO, NOT, NOTHING, PSCI_RESULT, QUEUED, REC_STATE, REJECTED, RETURNED, RSI_ERROR_INPUT, SEA}
use Rattle.rmm_answers.specs.declared.reply.TraceReply.{TraceReply}
use Rattle.rmm_answers.specs.Exit.{put_exit}
use Rattle.rmm_answers.specs.Outputs.{put_status}
use Rattle.rmm_answers.specs.Put.{◌▷◌, put_word}
use Rattle.rmm_answers.specs.Replies.{of_words, no_command}

-- ---- steps

-- the kind of guest step with this name, as a number from 0 to 14; 15 if there is no such kind
unfoldable pub step_kind : ℕ → ℕ
step_kind name = unwrap_or (position_from (λ step. step == name) 0 STEPS) 15

-- a guest step's fourth operand; for a RIPAS change, 1 if a fourth operand is given, which is `destroyed`, and 0 if not
abbrev pub last_operand : ℕ → List TraceWord → ℕ
last_operand name ws = if name == SET_RIPAS then (if nat_lt 3 (length ws) then 1 else 0) else operand_at ws 3 0

unfoldable pub step_words : ℕ → List TraceWord → StepWords
step_words name ws = record { kind = step_kind name; a = operand_at ws 0 0; b = operand_at ws 1 0; c = operand_at ws 2 0; d = last_operand name ws }

abbrev pub named_step : Atom → List TraceWord → Option StepWords
named_step (Name name) ws = if nat_lt 4 (length ws) then None else Some (step_words name ws)
named_step _ ws = None

-- The guest step that the words denote, if any. A host call of a guest here has at most three registers.
abbrev pub step_in : List TraceWord → Option StepWords
step_in [] = None
step_in (w ∷ ws) = named_step w.value ws

abbrev pub queued_words : Queued → List TraceWord
queued_words IsQueued = [] ▷ put_word (Name QUEUED)
queued_words Full = [] ▷ put_word (Name FULL)
queued_words NoRec = [] ▷ put_word (Name NO) ▷ put_word (Name REC_STATE)

abbrev pub stepped : ℕ → Option StepWords → Machine → TraceReply × Machine
stepped rec (Some step) m = (of_words (queued_words (queued m rec step).0), (queued m rec step).1)
stepped rec None m = (no_command, m)

-- The answer to the words `REC STEP OPERAND ..` of a guest step, and the resulting machine.
unfoldable pub guest_answered : List TraceWord → Machine → TraceReply × Machine
guest_answered [] m = (no_command, m)
guest_answered (rec ∷ ws) m = stepped (operand_at (rec ∷ ws) 0 0) (step_in ws) m

-- ---- the end of a run

-- the attributes of the REC at an address, if a REC is there
abbrev pub rec_named : Machine → ℕ → Option Attributes
rec_named m address = option_and_then rec_of (state_shown m address)

-- the address of the run page of a REC; 0 if there is no REC
abbrev pub run_of : Option Attributes → ℕ
run_of (Some rec) = rec.run
run_of None = 0

abbrev pub left : ℕ → ℕ → Machine → List TraceWord
left x0 run m = if x0 == 0 then ([] ▷ put_status x0 ▷ put_exit m run) else ([] ▷ put_status x0)

abbrev pub interrupt_words : Option Word → ℕ → Machine → List TraceWord
interrupt_words (Some w) run m = left (number w) run m
interrupt_words None run m = [] ▷ put_word (Name NOT) ▷ put_word (Name IS_RUNNING)

-- The answer to an interrupt of the REC at an address, and the resulting machine. If the REC is RUNNING, its run ends.
unfoldable pub interrupt_answered : ℕ → Machine → TraceReply × Machine
interrupt_answered address m =
    (of_words (interrupt_words (interrupted m address).0 (run_of (rec_named m address)) (interrupted m address).1), (interrupted m address).1)

-- ---- results of guest steps

-- the name for this kind of result of a guest step, as an index into the table of names
abbrev pub result_name : ℕ → ℕ
result_name kind =
    if kind == 0 then DONE else
    (if kind == 1 then READ else
    (if kind == 2 then SEA else
    (if kind == 3 then ACCEPTED else
    (if kind == 4 then REJECTED else
    (if kind == 5 then RETURNED else
    (if kind == 6 then PSCI_RESULT else RSI_ERROR_INPUT))))))

abbrev pub has_value : ℕ → Bool
has_value kind = kind == 1 || nat_le 3 kind && nat_le kind 6

-- the word that shows the value of a guest step's result: a name for the PSCI results SUCCESS and DENIED, and a number
-- otherwise
abbrev pub result_atom : ℕ → ℕ → Atom
result_atom kind v =
    if kind == 6 && v == 0 then Name PSCI_SUCCESS
    else (if kind == 6 && v == 0xFFFFFFFFFFFFFFFD then Name PSCI_DENIED else Hexadecimal v)

-- appends a guest step's result, with a comma before it unless the result is the first
unfoldable pub put_result : Bool → ℕ → ℕ → List TraceWord → List TraceWord
put_result is_further kind v ws =
    let named = listed is_further ws ▷ put_word (Name (result_name kind)) in
    if has_value kind then put_word (result_atom kind v) named else named

abbrev pub result_word : Machine → ℕ → ℕ → ℕ
result_word m rec i = unwrap_or (word_shown m rec i) 0

-- appends result k of a REC's guest steps, with a comma before it unless k is 0
abbrev pub put_result_at : Machine → ℕ → ℕ → List TraceWord → List TraceWord
put_result_at m rec k ws = put_result (nat_lt 0 k) (result_word m rec (128 + 2 * k)) (result_word m rec (128 + 2 * k + 1)) ws

-- the words for the first results of a REC's guest steps, as many as the given number
unfoldable pub results : Machine → ℕ → ℕ → List TraceWord
results m rec zero = []
results m rec (suc k) = put_result_at m rec k (results m rec k)

-- the answer to `saw`: one word if there is no REC or no result, and otherwise the results of guest steps since the REC
-- was last entered
unfoldable pub saw_words : Machine → ℕ → Option Attributes → List TraceWord
saw_words m rec (Some attributes) =
    if attributes.result_count % 32 == 0 then ([] ▷ put_word (Name NOTHING)) else results m rec (attributes.result_count % 32)
saw_words m rec None = [] ▷ put_word (Name NONE)
