-- The comparison of a trace's answer to a raw `smc` call with the model's answer, register by register. RMM 1.0, RMI
-- commands: outputs.
use Rattle.std.specs.Prelude.{ℕ, Bool, true, ◌&&◌, if◌then◌else◌, List, [], ◌∷◌}
use Rattle.rmm_trace.specs.declared.word.TraceWord.{TraceWord}
use Rattle.rmm_trace.specs.Access.{operand_at}
use Rattle.rmm_trace.specs.Compare.{first_of, rest_of, is_register, is_same_register}
use Rattle.rmm_answers.specs.declared.outputs.TheConstants.{NO_OUTPUT}
use Rattle.rmm_answers.specs.Outputs.{is_returned, outputs_of}

abbrev pub first_name : List ℕ → ℕ
first_name [] = NO_OUTPUT
first_name (name ∷ names) = name

abbrev pub names_after : List ℕ → List ℕ
names_after [] = []
names_after (name ∷ names) = names

-- The trace's word for a register is `-`, or agrees with the model's word; any number will do if the call returns no
-- output there. The standard says nothing about these registers.
abbrev pub is_same_output : Bool → TraceWord → TraceWord → Bool
is_same_output is_output written ours = if is_output then is_same_register written ours else is_register written

-- the trace's words for the registers from X1 on agree with the model's words, in each register in which the call
-- returns an output
abbrev pub are_outputs_same : ℕ → ℕ → List ℕ → List TraceWord → List TraceWord → Bool
are_outputs_same place x0 names [] ours = true
are_outputs_same place x0 names (w ∷ ws) ours =
    is_same_output (is_returned place x0 (first_name names)) w (first_of ours) && are_outputs_same place x0 (names_after names) ws (rest_of ours)

-- The registers that a trace gives as a command's answer agree with the model's in X0, and in each output that is
-- returned with that X0.
abbrev pub registers_agree : ℕ → List TraceWord → List TraceWord → Bool
registers_agree place [] ours = true
registers_agree place (w ∷ ws) ours =
    is_same_register w (first_of ours) && are_outputs_same place (operand_at ours 0 0) (outputs_of place) ws (rest_of ours)
