-- The possible outcomes of printing a text that is made from a plan. The parameters say which texts a plan has, and for
-- which faults it may have none.
use Rattle.std.specs.Prelude.{◌≡◌, ℕ, Bool, true, false, List, Option, IfSome, Result, Ok, Err}
use Rattle.std.specs.Io.KnownBytes.{Appends, Keeps}
use Rattle.realm_plan.specs.Plan.{Plan, plan_of}
use Rattle.checked_io.specs.Whole.{AppendsFront}
use Rattle.realm_program.specs.declared.fault.Fault.{Fault}
use Rattle.realm_program.specs.declared.fault.Fault.TheVariants.{Plan as PlanIsFaulty, Memory, Device}

-- ---- the input

-- if the bytes of the input are known, they are the text of this plan
abbrev pub IsPlanOf : Option (List ℕ) → Plan → Type 0
IsPlanOf input plan = IfSome input (λ bytes. plan_of bytes ≡ Ok plan)

-- The fault can be the reason why no plan is read: allocation failed, a read failed, or the input has the fault.
abbrev pub HasNoPlan : Option (List ℕ) → Fault → Type 0
HasNoPlan input (PlanIsFaulty fault) = IfSome input (λ bytes. plan_of bytes ≡ Err fault)
HasNoPlan input Memory = Unit {0}
HasNoPlan input Device = Unit {0}
HasNoPlan input fault = ⊥

-- ---- the text

-- the input is a plan, and the plan has this output text
pub record IsTextOf (texts : Plan → List ℕ → Type 0) (input : Option (List ℕ)) (text : List ℕ) : Type 0 where
  pub plan : Plan
  pub of_input : IsPlanOf input plan
  pub is_text : texts plan text

-- the input is a plan that has no output text, and the fault is the reason
pub record HasNoText (without : Plan → Fault → Type 0) (input : Option (List ℕ)) (fault : Fault) : Type 0 where
  pub plan : Plan
  pub of_input : IsPlanOf input plan
  pub no_text : without plan fault

-- the whole output text of the input's plan was written
pub record IsPrinted (texts : Plan → List ℕ → Type 0) (input old new : Option (List ℕ)) : Type 0 where
  pub text : List ℕ
  pub text_of : IsTextOf texts input text
  pub written : Appends old new text

-- a prefix of the output text of the input's plan was written
pub record IsCut (texts : Plan → List ℕ → Type 0) (input old new : Option (List ℕ)) : Type 0 where
  pub text : List ℕ
  pub text_of : IsTextOf texts input text
  pub written : AppendsFront old new text

-- the fault is neither a faulty plan nor a failed device, so it can be the reason why a plan has no output text
abbrev pub IsFaultOfText : Fault → Type 0
IsFaultOfText (PlanIsFaulty fault) = ⊥
IsFaultOfText Device = ⊥
IsFaultOfText fault = Unit {0}

-- ---- the end

-- a device failed: nothing was written if a read failed, and a prefix of the text if a write failed
abbrev pub IsEndOfDevice : (Plan → List ℕ → Type 0) → Bool → Option (List ℕ) → Option (List ℕ) → Option (List ℕ) → Type 0
IsEndOfDevice texts true input old new = Keeps old new
IsEndOfDevice texts false input old new = IsCut texts input old new

-- The text is printed whole or not at all, unless a write fails. `unread` is whether a read failed.
abbrev pub IsEnd : (Plan → List ℕ → Type 0) → (Plan → Fault → Type 0) → Bool → Option (List ℕ) → Option (List ℕ) → Option (List ℕ) → Result (Unit {0}) Fault → Type 0
IsEnd texts without unread input old new (Ok _) = IsPrinted texts input old new
IsEnd texts without unread input old new (Err (PlanIsFaulty fault)) = HasNoPlan input (PlanIsFaulty fault) × Keeps old new
IsEnd texts without unread input old new (Err Memory) = Keeps old new
IsEnd texts without unread input old new (Err Device) = IsEndOfDevice texts unread input old new
IsEnd texts without unread input old new (Err fault) = HasNoText without input fault × Keeps old new
