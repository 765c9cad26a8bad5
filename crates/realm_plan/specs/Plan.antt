-- The plan that a list of bytes spells, or the fault that makes the bytes an invalid plan.
use Rattle.std.specs.Prelude.{ℕ, ◌+◌, ℤ, pos, negsuc, nat_lt, nat_le, Bool, false, ◌&&◌, List, [], ◌∷◌, length, if◌then◌else◌, Option, Some, None, Result, Ok, Err}
use Rattle.std.specs.List.{list_all}
use Rattle.std.specs.Str.{is_utf8}
use Rattle.toml.specs.Data.{Members}
use Rattle.toml.specs.Parse.{parse_document}
use Rattle.realm_plan.specs.Steps.{step_of}
use Rattle.realm_plan.specs.declared.step.PlanStep.{PlanStep}
use Rattle.realm_plan.specs.Contents.{Contents, contents_of}
use Rattle.realm_plan.specs.Outcome.{◌>>=◌, or_fault}
use Rattle.realm_plan.specs.declared.fault.PlanFault.{PlanFault}
use Rattle.realm_plan.specs.declared.fault.PlanFault.TheVariants as fault
use Rattle.realm_plan.specs.declared.limits.Numbers.{Numbers}

-- ---- steps and turns

-- the steps of build b from its k-th text on, or the fault of the first text that is not a step
abbrev pub steps_of : ℕ → ℕ → List (List ℕ) → Result (List PlanStep) PlanFault
steps_of b k [] = Ok []
steps_of b k (text ∷ texts) = or_fault (fault.Step b k) (step_of text) >>= (λ s. steps_of b (k + 1) texts >>= (λ ss. Ok (s ∷ ss)))

-- the steps of each build from the b-th on, or the first fault
abbrev pub builds_of : ℕ → List (List (List ℕ)) → Result (List (List PlanStep)) PlanFault
builds_of b [] = Ok []
builds_of b (texts ∷ more) = steps_of b 0 texts >>= (λ ss. builds_of (b + 1) more >>= (λ bs. Ok (ss ∷ bs)))

-- the build that an entry of the schedule names, if that build is one of `count` builds
abbrev pub build_named : ℕ → ℤ → Option ℕ
build_named count (pos n) = if nat_lt n count then Some n else None
build_named count (negsuc n) = None

-- the builds that the schedule names from index k on, or the fault of the first entry that names no build
abbrev pub order_of : ℕ → ℕ → List ℤ → Result (List ℕ) PlanFault
order_of count k [] = Ok []
order_of count k (entry ∷ entries) = or_fault (fault.Order k) (build_named count entry) >>= (λ b. order_of count (k + 1) entries >>= (λ bs. Ok (b ∷ bs)))

-- ---- limits

-- the number, if it is from `low` to `high`, and otherwise the fault `Limit`
abbrev pub between : ℕ → ℕ → ℤ → Result ℕ PlanFault
between low high (pos n) = if nat_le low n && nat_le n high then Ok n else Err fault.Limit
between low high (negsuc n) = Err fault.Limit

abbrev pub within : Bool → Result (Unit {0}) PlanFault
within holds = if holds then Ok tt else Err fault.Limit

-- the values of a plan's four integer keys, if each is within its limits, and otherwise the fault `Limit`
unfoldable pub plan_numbers_of : Contents → Result Numbers PlanFault
plan_numbers_of c =
    between 1 4096 c.pages >>= (λ pages.
    between 1 255 c.vmids >>= (λ vmids.
    between 0 16 c.aux >>= (λ aux.
    between 16 16384 c.history >>= (λ history.
    Ok (record { pages = pages; vmids = vmids; aux = aux; history = history })))))

-- success if a plan has 1 to 8 builds, each of up to 1024 steps, and up to 16384 turns; otherwise the fault `Limit`
unfoldable pub check_lengths : List (List PlanStep) → List ℕ → Result (Unit {0}) PlanFault
check_lengths builds order =
    within (nat_le 1 (length builds) && nat_le (length builds) 8) >>= (λ _.
    within (list_all (λ steps. nat_le (length steps) 1024) builds) >>= (λ _.
    within (nat_le (length order) 16384)))

-- ---- the plan

-- A plan, with the settings of its machine, the steps of each build, and a schedule. If the plan gives up, a build
-- whose step is refused leaves out its remaining steps, and aborts.
pub record Plan : Type 0 where
  pub pages : ℕ
  pub vmids : ℕ
  pub aux : ℕ
  pub history : ℕ
  pub builds : List (List PlanStep)
  pub order : List ℕ
  pub gives_up : Bool

-- The plan that the contents make, or their first fault: in the steps, then in the schedule, then in the limits. The
-- plan does not give up, since no key of a document sets that.
unfoldable pub plan_of_contents : Contents → Result Plan PlanFault
plan_of_contents c =
    builds_of 0 c.builds >>= (λ builds.
    order_of (length builds) 0 c.order >>= (λ order.
    plan_numbers_of c >>= (λ n.
    check_lengths builds order >>= (λ _.
    Ok (record { pages = n.pages; vmids = n.vmids; aux = n.aux; history = n.history; builds = builds; order = order; gives_up = false })))))

-- the document that the bytes spell, if they are UTF-8 and can be parsed
unfoldable pub document_of : List ℕ → Option Members
document_of bytes = if is_utf8 bytes then parse_document bytes else None

-- The plan that the bytes spell, or the fault that makes the bytes an invalid plan. Of several faults, the first in the
-- sequence of their numbers counts. But too many bytes are the fault `Limit`, whatever else is wrong.
unfoldable pub plan_of : List ℕ → Result Plan PlanFault
plan_of bytes =
    if nat_lt 1048576 (length bytes) then Err fault.Limit
    else or_fault fault.Syntax (document_of bytes) >>= (λ ms. or_fault fault.Key (contents_of ms) >>= plan_of_contents)
