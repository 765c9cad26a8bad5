-- A proof that the calling REC and the target REC of RMI_PSCI_COMPLETE are different granules if the command's checks
-- pass.
use Rattle.std.proofs.Common.{◌≡◌, ◌≢◌, ℕ, ◌-◌, ◌/◌, ◌%◌, ◌≤◌, ◌==◌, Bool, true, false, nat_le, nat_lt, not, cond, length, [], ◌∷◌, Option, Some, None, refl, arith}
use Rattle.std.proofs.lemmas.Bool.{and_parts, leb-true, eqb-true, eqb-false, not-false}
use Rattle.rmm_model.specs.declared.answer.FailedCondition.{FailedCondition}
use Rattle.rmm_model.specs.declared.condition.Condition.{Condition}
use Rattle.rmm_model.specs.declared.condition.Condition.TheVariants.{Alias, CallingAlign, CallingBound, CallingState}
use Rattle.rmm_model.specs.Check.{check, error_input, first_failing}
use Rattle.rmm_model.specs.Machine.{Machine, is_aligned, is_inside, number_of}
use Rattle.rmm_model.specs.Command.Operand.{rec_checks}

-- if a list of checks passes, its first check does not fail
cond_passes : (fails : Bool) (refusal : FailedCondition) (rest : Option FailedCondition) → None ≡ cond fails (Some refusal) rest → fails ≡ false
cond_passes true refusal rest passes = cc
cond_passes false refusal rest passes = refl

-- if a list of checks passes, so do the checks after the first one
cond_rest : (fails : Bool) (refusal : FailedCondition) (rest : Option FailedCondition) → None ≡ cond fails (Some refusal) rest → None ≡ rest
cond_rest true refusal rest passes = cc
cond_rest false refusal rest passes = passes

-- the address is a multiple of 4,096, and not below that of the first granule
record IsStart (m : Machine) (address : ℕ) : Type 0 where
  aligned : address % 4096 ≡ 0
  above : m.settings.base ≤ address

start : (m : Machine) (align bound state : Condition) (address : ℕ) → None ≡ first_failing (rec_checks align bound state m address) → IsStart m address
unfolding is_inside
start m align bound state address passes =
    let at_start = not-false (is_aligned address) (cond_passes (not (is_aligned address)) _ _ passes) in
    let rest = cond_rest (not (is_aligned address)) _ _ passes in
    let inside = not-false (is_inside m address) (cond_passes (not (is_inside m address)) _ _ rest) in
    record {
      aligned = eqb-true (address % 4096) 0 at_start;
      above = leb-true m.settings.base address (and_parts (nat_le m.settings.base address) (nat_lt ((address - m.settings.base) / 4096) (length m.granules)) inside).0;
    }

apart : (base a b : ℕ) → a % 4096 ≡ 0 → b % 4096 ≡ 0 → base ≤ a → base ≤ b → a ≢ b → (a - base) / 4096 ≢ (b - base) / 4096
apart base a b one two low_a low_b other = λ same. other (omega arith)

-- if the checks of the calling REC and of the target REC pass, the two RECs are different granules
pub two_recs : (m : Machine) (calling target : ℕ) (align bound state : Condition)
    → None ≡ first_failing (check Alias [] (calling == target) error_input ∷ rec_checks CallingAlign CallingBound CallingState m calling)
    → None ≡ first_failing (rec_checks align bound state m target) → number_of m calling ≢ number_of m target
unfolding number_of
two_recs m calling target align bound state first second =
    let other = eqb-false calling target (cond_passes (calling == target) _ _ first) in
    let one = start m CallingAlign CallingBound CallingState calling (cond_rest (calling == target) _ _ first) in
    let two = start m align bound state target second in
    apart m.settings.base calling target one.aligned two.aligned one.above two.above other
