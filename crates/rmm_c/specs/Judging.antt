-- The check that decides an RMI call given by its registers, and the result words that an RMM may return. RMM 1.0,
-- failure conditions of RMI commands and their ordering.
use Rattle.std.specs.Prelude.{ℕ, ◌==◌, ◌-◌, ◌^◌, Bool, false, List, Option, Some, None}
use Rattle.std.specs.List.{list_any}
use Rattle.rmi_abi.specs.declared.call.Call.{Call}
use Rattle.rmi_abi.specs.declared.word.Word.{Word}
use Rattle.rmi_abi.specs.Call.{call_in}
use Rattle.rmi_abi.specs.Word.{number}
use Rattle.rmm_model.specs.declared.answer.FailedCondition.{FailedCondition}
use Rattle.rmm_model.specs.Allowed.{allowed_words, condition_number}
use Rattle.rmm_model.specs.Call.{command_of}
use Rattle.rmm_model.specs.Check.{first_failing}
use Rattle.rmm_model.specs.Machine.{Machine}
use Rattle.rmm_checks.specs.declared.evaluated.CheckOutcome.{CheckOutcome}
use Rattle.rmm_checks.specs.declared.evaluated.CheckOutcome.TheVariants.{Failed}
use Rattle.rmm_c.specs.declared.smc.SmcRegisters.{SmcRegisters}
use Rattle.rmm_c.specs.Smc.{call_of}

-- ---- the check that decides

-- the number of the check by which a call is refused; 0 if the call is not refused
abbrev pub check_number : Option FailedCondition → ℕ
check_number (Some refusal) = condition_number refusal.condition
check_number None = 0

-- the number of the first failing check of a call; 0 if no check fails, or if the call is for no RMI command
abbrev pub check_of_call : Option Call → Machine → ℕ
check_of_call (Some call) m = check_number (first_failing (command_of call m).checks)
check_of_call None m = 0

-- The number of the first failing check of a call that is given by its registers; 0 if none fails. A closed handle has
-- no checks, and neither has a function that is not a command.
abbrev pub deciding_check : SmcRegisters → Option Machine → ℕ
deciding_check r (Some m) = check_of_call (call_in (call_of r)) m
deciding_check r None = 0

-- ---- the words that are allowed

-- X0 has the value of one of the words in a list
abbrev pub is_among_words : ℕ → List Word → Bool
is_among_words x0 words = list_any (λ word. x0 == number word) words

-- X0 has a word that the command may return, or NOT_SUPPORTED if the call is for no RMI command
abbrev pub is_answer_of_call : Option Call → ℕ → Machine → Bool
is_answer_of_call (Some call) x0 m = is_among_words x0 (allowed_words (command_of call m))
is_answer_of_call None x0 m = x0 == 2 ^ 64 - 1

-- An RMM may answer a call with the given value of X0. A closed handle is firmware without an RMM.
abbrev pub may_answer : SmcRegisters → ℕ → Option Machine → Bool
may_answer r x0 (Some m) = is_answer_of_call (call_in (call_of r)) x0 m
may_answer r x0 None = x0 == 2 ^ 64 - 1

-- ---- evaluated checks

-- a check was made and failed, and its answer has the given value of X0
abbrev pub refuses_with : ℕ → CheckOutcome → Bool
refuses_with x0 (Failed answer) = x0 == number answer.word
refuses_with x0 _ = false
