-- The answer that the RMM model gives to each question of a trace, and the state of the machine afterwards.
use Rattle.std.specs.Prelude.{ℕ, ◌-◌, ◌==◌, nat_lt, Bool, ◌&&◌, ◌||◌, not, if◌then◌else◌, List, [], Option, Some, None}
use Rattle.rmm_checks.specs.declared.evaluated.EvaluatedCheck.{EvaluatedCheck}
use Rattle.rmm_model.specs.Host.{can_access, can_fill, loaded, state_shown, after_store}
use Rattle.rmm_model.specs.Machine.{Machine}
use Rattle.rmm_trace.specs.declared.place.TheConstants.{AFTER, FILL, GUEST, INTERRUPT, LOAD, PLATFORM, REALM, REALM_PARAMS, REC, REC_PARAMS, REC_RUN, REPEAT, RIM, SAW, SMC, STATE, STORE, SUM}
use Rattle.rmm_trace.specs.declared.word.Atom.{Atom}
use Rattle.rmm_trace.specs.declared.word.Atom.TheVariants.{Decimal}
use Rattle.rmm_trace.specs.declared.word.TraceWord.{TraceWord}
use Rattle.rmm_trace.specs.Access.{operand_at}
use Rattle.rmm_trace.specs.Compare.{rest_of}
use Rattle.rmm_answers.specs.declared.page.TheConstants.{REALM_FIELDS, RUN_FIELDS}
use Rattle.rmm_answers.specs.declared.reply.TraceReply.{TraceReply}
use Rattle.rmm_answers.specs.declared.rounds.LastCall.{LastCall}
use Rattle.rmm_answers.specs.Call.{call_reply, raw_reply, checks_at}
use Rattle.rmm_answers.specs.Guest.{guest_answered, interrupt_answered, rec_named, saw_words}
use Rattle.rmm_answers.specs.Memory.{access_atom, load_atom}
use Rattle.rmm_answers.specs.Page.{after_page, after_rec_params}
use Rattle.rmm_answers.specs.Platform.{machine_of_platform}
use Rattle.rmm_answers.specs.Put.{◌▷◌, put_word, put_value}
use Rattle.rmm_answers.specs.Reading.{state_atom, sum_atom, realm_named, realm_answer, rim_reply, rec_answer}
use Rattle.rmm_answers.specs.Replies.{of_words, no_answer, no_command}
use Rattle.rmm_answers.specs.Rounds.{asked, performed_rounds, filled_rounds}
use Rattle.rmm_answers.specs.Words.{first_place}

-- ---- calls and fills

-- the answer to an RMI call by name with the machine afterwards, given the result of the call's last repetition
abbrev pub call_reply_of : ℕ → List TraceWord → LastCall × Machine → TraceReply × Machine
call_reply_of place call after = (call_reply place (asked call after.0.round) after.0 after.1, after.1)

abbrev pub raw_reply_of : List TraceWord → LastCall × Machine → TraceReply × Machine
raw_reply_of call after = (raw_reply (asked call 0) after.0, after.1)

-- the answer to a page fill, repeated or not: `done`, or `fault` with the number of fills done before the fault, if any
abbrev pub fill_words : ℕ → Bool → List TraceWord
fill_words round is_done =
    if not is_done && not (round == 0) then ([] ▷ put_word (access_atom is_done) ▷ put_value AFTER (Decimal round)) else ([] ▷ put_word (access_atom is_done))

abbrev pub fill_reply_of : ℕ × Bool × Machine → TraceReply × Machine
fill_reply_of after = (of_words (fill_words after.0 after.1), after.2)

-- The answer to an RMI call by name or to a page fill, done once and at most `more` further times, and the resulting
-- machine. Any other name is not a command.
unfoldable pub rounds_answered : List TraceWord → ℕ → Machine → TraceReply × Machine
rounds_answered call more m =
    let place = first_place call in
    if place == FILL then fill_reply_of (filled_rounds more (rest_of call) m)
    else (if nat_lt place PLATFORM then call_reply_of place call (performed_rounds more call m) else (no_command, m))

-- ---- other questions, by the words after their names

-- an answer of a single word, with the unchanged machine
abbrev pub single : Atom → Machine → TraceReply × Machine
single a m = (of_words ([] ▷ put_word a), m)

-- the answer to a question `state`, `sum`, `realm`, `rim`, `rec` or `saw` about an address, and the unchanged machine;
-- `no command` for any other name
unfoldable pub reading_answered : ℕ → List TraceWord → Machine → TraceReply × Machine
reading_answered place ws m =
    let address = operand_at ws 0 0 in
    if place == STATE then single (state_atom (state_shown m address)) m else
    (if place == SUM then single (sum_atom m address (state_shown m address)) m else
    (if place == REALM then (of_words (realm_answer (realm_named m address) m.settings.base), m) else
    (if place == RIM then (rim_reply (realm_named m address), m) else
    (if place == REC then (of_words (rec_answer m address (rec_named m address)), m) else
    (if place == SAW then (of_words (saw_words m address (rec_named m address)), m) else (no_command, m))))))

abbrev pub page_reply : List TraceWord → Machine → TraceReply
page_reply ws m = of_words ([] ▷ put_word (access_atom (can_fill m (operand_at ws 0 0))))

unfoldable pub page_answered : ℕ → List TraceWord → Machine → TraceReply × Machine
page_answered place ws m =
    if place == REALM_PARAMS then (page_reply ws m, after_page REALM_FIELDS ws m) else
    (if place == REC_PARAMS then (page_reply ws m, after_rec_params ws m) else
    (if place == REC_RUN then (page_reply ws m, after_page RUN_FIELDS ws m) else reading_answered place ws m))

unfoldable pub other_answered : ℕ → List TraceWord → Machine → TraceReply × Machine
other_answered place ws m =
    let address = operand_at ws 0 0 in
    if place == STORE then single (access_atom (can_access m address)) (after_store m address (operand_at ws 1 0)) else
    (if place == LOAD then single (load_atom (loaded m address)) m else
    (if place == GUEST then guest_answered ws m else
    (if place == INTERRUPT then interrupt_answered address m else page_answered place ws m)))

-- ---- questions

-- The answer to a question of a trace on a given machine, and the resulting machine. A `platform` question is not a
-- command here.
unfoldable pub answered_on : List TraceWord → Machine → TraceReply × Machine
answered_on question m =
    let place = first_place question in
    if place == REPEAT then rounds_answered (rest_of (rest_of question)) (operand_at (rest_of question) 0 0 - 1) m else
    (if place == SMC then raw_reply_of question (performed_rounds 0 question m) else
    (if nat_lt place PLATFORM || place == FILL then rounds_answered question 0 m else other_answered place (rest_of question) m))

-- ---- the machine of a trace

-- the empty answer and the newly opened machine; if none was opened, the answer `no command` and the old machine
abbrev pub after_opening : Option Machine → Option Machine → TraceReply × Option Machine
after_opening (Some m) old = (no_answer, Some m)
after_opening None old = (no_command, old)

abbrev pub answered_in : List TraceWord → Option Machine → TraceReply × Option Machine
answered_in question (Some m) = ((answered_on question m).0, Some (answered_on question m).1)
answered_in question None = (no_command, None)

-- The answer to a question of a trace, and the resulting machine. A `platform` question opens a fresh machine, or is
-- not a command and changes nothing. Before the first platform that is opened, there is no machine.
unfoldable pub answered : List TraceWord → Option Machine → TraceReply × Option Machine
answered question m =
    if first_place question == PLATFORM then after_opening (machine_of_platform (rest_of question)) m else answered_in question m

-- ---- checks

-- a trace's question without a leading `repeat` and the count after it
abbrev pub unrepeated : List TraceWord → List TraceWord
unrepeated question = if first_place question == REPEAT then rest_of (rest_of question) else question

abbrev pub checks_in_round : List TraceWord → Machine → Option ℕ → Option (List EvaluatedCheck)
checks_in_round question m (Some round) = checks_at (asked (unrepeated question) round) m
checks_in_round question m None = None

-- The checks of the RMI call that was refused, evaluated on a machine; none if no RMI call was refused. Of a repeated
-- call, the refused repetition counts.
unfoldable pub refused_checks : List TraceWord → TraceReply → Machine → Option (List EvaluatedCheck)
refused_checks question reply m = checks_in_round question m reply.refused
