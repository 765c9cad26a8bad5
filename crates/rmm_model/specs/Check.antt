-- The checks of RMI commands, and the answers to commands: the first check that fails decides. RMM 1.0, failure
-- conditions of RMI commands.
use Rattle.std.specs.Prelude.{ℕ, Bool, cond, List, [], ◌∷◌, Option, Some, None, Result, Ok, Err}
use Rattle.rmi_abi.specs.declared.registers.SmcResult.{SmcResult}
use Rattle.rmi_abi.specs.declared.word.Word.TheVariants.{Success, ErrorInput, ErrorRealm, ErrorRec, ErrorRtt}
use Rattle.rmi_abi.specs.Answer.{only}
use Rattle.rmm_model.specs.declared.answer.FailedCondition.{FailedCondition}
use Rattle.rmm_model.specs.declared.condition.Condition.{Condition}
use Rattle.rmm_model.specs.Machine.{Machine}

-- ---- answers without outputs

-- the answer RMI_SUCCESS without outputs
abbrev pub success : SmcResult
success = only Success

abbrev pub error_input : SmcResult
error_input = only ErrorInput

abbrev pub error_realm : SmcResult
error_realm = only (ErrorRealm 0)

abbrev pub error_rec : SmcResult
error_rec = only ErrorRec

abbrev pub error_rtt : ℕ → SmcResult
error_rtt level = only (ErrorRtt level)

-- RMI_ERROR_RTT with the level of a table, and in X2 the IPA of the next live entry, or of the table's end
abbrev pub error_rtt_top : ℕ → ℕ → SmcResult
error_rtt_top top level = record { word = ErrorRtt level; x1 = 0; x2 = top; x3 = 0; x4 = 0 }

-- ---- checks

-- A check of an RMI command: the failure conditions that come before it, whether the check fails, and the refusal if it
-- fails. The refusal has the condition that the check is for, and the answer.
pub record Check : Type 0 where
  pub after : List Condition
  pub fails : Bool
  pub refusal : FailedCondition

abbrev pub check : Condition → List Condition → Bool → SmcResult → Check
check condition after fails answer = record { after = after; fails = fails; refusal = record { condition = condition; answer = answer } }

-- the refusal by the first check that fails, if any fails
abbrev pub first_failing : List Check → Option FailedCondition
first_failing [] = None
first_failing (c ∷ cs) = cond c.fails (Some c.refusal) (first_failing cs)

-- ---- commands

-- A command as a list of checks, with the answer and the resulting machine if no check fails.
pub record Command : Type 0 where
  pub checks : List Check
  pub answer : SmcResult
  pub machine : Machine

-- the answer to a command, and the resulting machine: a refused command leaves the machine unchanged
abbrev pub decided : Option FailedCondition → Command → Machine → SmcResult × Machine
decided (Some refusal) command m = (refusal.answer, m)
decided None command m = (command.answer, command.machine)

abbrev pub outcome : Command → Machine → SmcResult × Machine
outcome command m = decided (first_failing command.checks) command m

-- the refusal in a result, if the result is an error
abbrev pub refusal_in : {X : Type 0} → Result X FailedCondition → Option FailedCondition
refusal_in (Ok x) = None
refusal_in (Err refusal) = Some refusal
