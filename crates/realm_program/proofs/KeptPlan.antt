-- Proofs that parsing only the kept bytes of an input gives the same plan or fault as parsing all its bytes.
use Rattle.std.proofs.Common.{◌≡◌, ℕ, suc, ◌<◌, List, length, length-take-le, take, true, false, ltb, Option, Some, None, Result, Err, sym, ap, ◌∙◌, arith, inl, inr}
use Rattle.std.specs.Prelude.{IfSome}
use Rattle.std.proofs.lemmas.Bool.{cases_Bool, lt-ltb, ltb-true}
use Rattle.std.proofs.lemmas.List.{take_all}
use Rattle.realm_plan.specs.Outcome.{Fails}
use Rattle.realm_plan.specs.Plan.{Plan, plan_of}
use Rattle.realm_plan.specs.declared.fault.PlanError.{PlanError}
use Rattle.realm_plan.specs.declared.fault.PlanError.TheVariants as errors
use Rattle.realm_plan.specs.declared.fault.PlanFault.{PlanFault}
use Rattle.realm_program.specs.Fault.{fault_of_plan}
use Rattle.realm_program.specs.Whole.{kept_of}
use Rattle.realm_program.specs.declared.fault.Fault.TheVariants as told

-- an input of more than `most` bytes still has more than `most` if only its first `most + 1` bytes are kept
long_still : (most : ℕ) (xs : List ℕ) → ltb most (length xs) ≡ true → ltb most (length (take (suc most) xs)) ≡ true
long_still most xs long =
    let above : most < length xs = ltb-true most (length xs) long in
    lt-ltb most (length (take (suc most) xs)) (omega (arith, length-take-le (suc most) xs (omega arith)))

all_kept : (most : ℕ) (xs : List ℕ) → ltb most (length xs) ≡ false → take (suc most) xs ≡ xs
all_kept most xs short = take_all (suc most) xs (grind (arith, lt-ltb most (length xs), short))

-- parsing the kept bytes of an input gives the same plan or fault as parsing all its bytes
pub plan_of-kept_of : (bytes : List ℕ) → plan_of (kept_of bytes) ≡ plan_of bytes
unfolding plan_of kept_of
plan_of-kept_of bytes = elim (cases_Bool (ltb 1048576 (length bytes))) [
  | inl long ↦ rw (long, long_still 1048576 bytes long)
  | inr short ↦ ap plan_of (all_kept 1048576 bytes short)
]

-- if an input is known, parsing the whole input has the same result as parsing its kept bytes
pub plan_from_kept : (known : Option (List ℕ)) (bytes : List ℕ) (read : Result Plan PlanFault) → IfSome known (λ xs. bytes ≡ kept_of xs) → plan_of bytes ≡ read → IfSome known (λ xs. plan_of xs ≡ read)
plan_from_kept None bytes read kept is = tt
plan_from_kept (Some xs) bytes read kept is = sym (plan_of-kept_of xs) ∙ ap plan_of (sym kept) ∙ is

pub fault_from_kept : (known : Option (List ℕ)) (bytes : List ℕ) (error : PlanError) (fault : PlanFault) → IfSome known (λ xs. bytes ≡ kept_of xs)
    → Fails error (plan_of bytes) → fault_of_plan error ≡ told.Plan fault → IfSome known (λ xs. plan_of xs ≡ Err fault)
fault_from_kept known bytes errors.Memory fault kept fails same = absurd (cc)
fault_from_kept known bytes (errors.Fault found) fault kept fails same =
    let is : found ≡ fault = cc in
    plan_from_kept known bytes (Err fault) kept (fails ∙ ap Err is)
