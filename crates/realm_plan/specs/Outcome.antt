-- Definitions of what a call returns: the specified value or plan fault, or an error if an allocation fails.
use Rattle.std.specs.Prelude.{◌≡◌, Result, Ok, Err, Option, Some, None}
use Rattle.realm_plan.specs.declared.fault.PlanFault.{PlanFault}
use Rattle.realm_plan.specs.declared.fault.PlanError.{PlanError}
use Rattle.realm_plan.specs.declared.fault.PlanError.TheVariants as errors

infixl 10 ◌>>=◌
abbrev pub ◌>>=◌ : {A B : Type 0} → Result A PlanFault → (A → Result B PlanFault) → Result B PlanFault
(Ok x) >>= f = f x
(Err e) >>= f = Err e

-- the value, or the given fault if there is no value
abbrev pub or_fault : {A : Type 0} → PlanFault → Option A → Result A PlanFault
or_fault fault None = Err fault
or_fault fault (Some x) = Ok x

abbrev pub Fails : {Y : Type 0} → PlanError → Result Y PlanFault → Type 0
Fails errors.Memory read = Unit {0}
Fails (errors.Fault fault) read = read ≡ Err fault

-- A call returned the specified fault, the error `Memory`, or a value that `view` maps to the specified value. With
-- `Memory` nothing is stated of what was specified.
abbrev pub Gives : {X Y : Type 0} → (X → Y) → Result X PlanError → Result Y PlanFault → Type 0
Gives view (Ok x) read = read ≡ Ok (view x)
Gives view (Err e) read = Fails e read
