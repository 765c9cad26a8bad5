-- The repetitions of a call or page fill in a trace, up to the first repetition that does not succeed.
use Rattle.std.specs.Prelude.{ℕ, zero, suc, ◌+◌, ◌%◌, ◌==◌, Bool, if◌then◌else◌, List, slice_index, Option, Some, None}
use Rattle.rmi_abi.specs.declared.registers.Registers.{Registers}
use Rattle.rmm_model.specs.Call.{rmi}
use Rattle.rmm_model.specs.Host.{can_fill, after_fill}
use Rattle.rmm_model.specs.Machine.{Machine}
use Rattle.rmm_trace.specs.declared.word.TraceWord.{TraceWord}
use Rattle.rmm_trace.specs.Access.{operand_at, call_registers}
use Rattle.rmm_answers.specs.declared.rounds.LastCall.{LastCall}

-- ---- rounds of calls

-- the registers X0 to X6 with these values; all 0 if no values are given
abbrev pub registers_in : Option (List ℕ) → Registers
registers_in (Some xs) = record {
  x0 = slice_index xs 0;
  x1 = slice_index xs 1;
  x2 = slice_index xs 2;
  x3 = slice_index xs 3;
  x4 = slice_index xs 4;
  x5 = slice_index xs 5;
  x6 = slice_index xs 6;
}
registers_in None = record { x0 = 0; x1 = 0; x2 = 0; x3 = 0; x4 = 0; x5 = 0; x6 = 0 }

-- the input registers of a call in repetition number `round`, counted from 0
unfoldable pub asked : List TraceWord → ℕ → Registers
asked call round = registers_in (call_registers call round)

-- the number and the output registers of a call's last repetition, and the machine after that repetition
abbrev pub last : ℕ → Registers × Machine → LastCall × Machine
last round after = (record { round = round; after = after.0 }, after.1)

-- the last repetition of a call, given the repetition just done and how many may follow; another follows only after
-- RMI_SUCCESS
unfoldable pub more_rounds : ℕ → List TraceWord → ℕ → Registers × Machine → LastCall × Machine
more_rounds zero call round after = last round after
more_rounds (suc left) call round after =
    if after.0.x0 == 0 then more_rounds left call (round + 1) (rmi (asked call (round + 1)) after.1) else last round after

-- The last repetition of a call that is made once and at most `more` further times, and the resulting machine.
unfoldable pub performed_rounds : ℕ → List TraceWord → Machine → LastCall × Machine
performed_rounds more call m = more_rounds more call 0 (rmi (asked call 0) m)

-- ---- rounds of fills

-- whether the host may fill the page in this repetition of a page fill, and the machine afterwards
unfoldable pub filled : List TraceWord → ℕ → Machine → Bool × Machine
filled operands round m =
    let address = operand_at operands 0 round in
    (can_fill m address, after_fill m address (operand_at operands 1 round % 256))

abbrev pub last_fill : ℕ → Bool × Machine → ℕ × Bool × Machine
last_fill round after = (round, after.0, after.1)

unfoldable pub more_fills : ℕ → List TraceWord → ℕ → Bool × Machine → ℕ × Bool × Machine
more_fills zero operands round after = last_fill round after
more_fills (suc left) operands round after =
    if after.0 then more_fills left operands (round + 1) (filled operands (round + 1) after.1) else last_fill round after

-- The number of the last repetition of a page fill, whether the page was filled in it, and the resulting machine. The
-- fill is made once, and at most `more` times again.
unfoldable pub filled_rounds : ℕ → List TraceWord → Machine → ℕ × Bool × Machine
filled_rounds more operands m = more_fills more operands 0 (filled operands 0 m)
