-- The answer to an RMI call in a trace: the status, the outputs, the REC exit, and the check that decided a refusal.
use Rattle.std.specs.Prelude.{ℕ, ◌+◌, ◌==◌, Bool, not, ◌&&◌, if◌then◌else◌, List, [], Option, Some, None, option_map, option_and_then}
use Rattle.rmi_abi.specs.declared.registers.Registers.{Registers}
use Rattle.rmi_abi.specs.Call.{call_in}
use Rattle.rmm_checks.specs.declared.evaluated.EvaluatedCheck.{EvaluatedCheck}
use Rattle.rmm_checks.specs.Evaluated.{evaluated}
use Rattle.rmm_model.specs.declared.condition.Condition.{Condition}
use Rattle.rmm_model.specs.Allowed.{condition_number}
use Rattle.rmm_model.specs.Call.{command_of}
use Rattle.rmm_model.specs.Check.{first_failing}
use Rattle.rmm_model.specs.Machine.{Machine}
use Rattle.rmm_trace.specs.declared.place.TheConstants.{AFTER, RMI_REC_ENTER}
use Rattle.rmm_trace.specs.declared.word.Atom.TheVariants.{Name, Decimal}
use Rattle.rmm_trace.specs.declared.word.TraceWord.{TraceWord}
use Rattle.rmm_answers.specs.declared.reply.TraceReply.{TraceReply}
use Rattle.rmm_answers.specs.declared.rounds.LastCall.{LastCall}
use Rattle.rmm_answers.specs.Exit.{put_exit}
use Rattle.rmm_answers.specs.Outputs.{command_place, put_status, put_outputs, put_registers}
use Rattle.rmm_answers.specs.Put.{◌▷◌, put_word, put_value}

-- ---- refusals

-- X0 says that a call is refused: X0 is neither RMI_SUCCESS nor the value that a trace writes as `RUNNING`
abbrev pub is_refused : ℕ → Bool
is_refused x0 = not (x0 == 0) && not (x0 == 0xFFFFFFFFFFFFFFFE)

-- the checks of the call in these registers, evaluated on a machine; none if the registers hold no call
unfoldable pub checks_at : Registers → Machine → Option (List EvaluatedCheck)
checks_at r m = option_map (λ call. evaluated (command_of call m).checks) (call_in r)

-- the condition of the first check that the call in these registers fails on a machine, if it fails any
unfoldable pub deciding : Registers → Machine → Option Condition
deciding r m = option_and_then (λ call. option_map (λ refusal. refusal.condition) (first_failing (command_of call m).checks)) (call_in r)

-- ---- the words of an answer

-- appends the name of the check with this condition, if a condition is given
abbrev pub put_check_name : Option Condition → List TraceWord → List TraceWord
put_check_name (Some condition) ws = put_word (Name (179 + condition_number condition)) ws
put_check_name None ws = ws

-- appends the name of the first check that the call fails, if X0 says that the call is refused. A refusal leaves the
-- machine unchanged.
unfoldable pub put_check : Registers → Machine → ℕ → List TraceWord → List TraceWord
put_check r m x0 ws = if is_refused x0 then put_check_name (deciding r m) ws else ws

-- appends the number of earlier repetitions of a call, unless the last repetition returned RMI_SUCCESS or was the first
unfoldable pub put_after : ℕ → ℕ → List TraceWord → List TraceWord
put_after x0 round ws = if not (x0 == 0) && not (round == 0) then put_value AFTER (Decimal round) ws else ws

-- appends the REC exit, if the call is an RMI_REC_ENTER that returned RMI_SUCCESS
unfoldable pub put_exit_of : ℕ → ℕ → ℕ → Machine → List TraceWord → List TraceWord
put_exit_of place x0 run m ws = if place == RMI_REC_ENTER && x0 == 0 then put_exit m run ws else ws

-- the number of a call's last repetition, counted from 0, if X0 says that this repetition is refused
abbrev pub refused_round : LastCall → Option ℕ
refused_round it = if is_refused it.after.x0 then Some it.round else None

-- The answer to an RMI call by name, given the result of the call's last repetition. The answer has the status and the
-- returned outputs. A REC exit follows an RMI_REC_ENTER with RMI_SUCCESS, and the name of the first failed check
-- follows a refusal. The number of earlier repetitions, if there are any, follows a status other than RMI_SUCCESS.
unfoldable pub call_reply : ℕ → Registers → LastCall → Machine → TraceReply
call_reply place r it m = record {
  words = record { items = [] ▷ put_status it.after.x0 ▷ put_outputs place it.after ▷ put_exit_of place it.after.x0 r.x2 m ▷ put_check r m it.after.x0 ▷ put_after it.after.x0 it.round };
  rim = None;
  refused = refused_round it;
}

-- the answer to a raw `smc` call: X0, and the registers in which the call's command has outputs
unfoldable pub raw_reply : Registers → LastCall → TraceReply
raw_reply r it = record {
  words = record { items = [] ▷ put_registers (command_place r.x0) it.after };
  rim = None;
  refused = refused_round it;
}
