-- The test whether the last turn of a schedule has the property that a question asks for, such as the refusal of a
-- given step.
use Rattle.std.specs.Prelude.{ℕ, ◌==◌, nat_le, Bool, true, false, not, ◌&&◌, List, length, map, sum, Option, Some, None, slice_get}
use Rattle.std.specs.List.{list_any, range_with_len}
use Rattle.host_commands.specs.declared.refusal.Refusal.{Refusal}
use Rattle.host_commands.specs.declared.refusal.Refusal.TheVariants.{NoBlock, NoVmid}
use Rattle.host_ledger.specs.View.{HostView, pages_of_build}
use Rattle.plan_states.specs.LabelProperties.{refuses_step}
use Rattle.plan_states.specs.declared.edges.Label.{Label}
use Rattle.plan_states.specs.declared.question.TurnQuestion.{TurnQuestion}
use Rattle.plan_states.specs.declared.question.TurnQuestion.TheVariants.{Refused, Waiting, Leased}
use Rattle.plan_states.specs.declared.step_end.EndOfStep.{EndOfStep}

-- the number of pages that each build of a host holds
abbrev pub pages_of_builds : HostView → List ℕ
pages_of_builds host = map (λ build. length (pages_of_build host build)) (range_with_len 0 8)

-- ---- by the outcome of a turn's step, and the number of pages that each build holds after it

-- there is a refusal, and it is for lack of a shared resource: no block of the order is free, or no VMID is free
abbrev pub is_of_shared : Option Refusal → Bool
is_of_shared (Some (NoBlock order)) = true
is_of_shared (Some NoVmid) = true
is_of_shared _ = false

-- a step of the build is refused for lack of a block or a VMID
abbrev pub waits : ℕ → Option EndOfStep → Bool
waits build None = false
waits build (Some end) = end.build == build && is_of_shared end.refusal

abbrev pub is_other_with : ℕ → ℕ → Option ℕ → Bool
is_other_with build other None = false
is_other_with build other (Some pages) = not (other == build) && pages == 0

-- `other` is a build other than `build`, and holds no page
abbrev pub is_other_without_pages : ℕ → List ℕ → ℕ → Bool
is_other_without_pages build held other = is_other_with build other (slice_get held other)

abbrev pub has_other_without_pages : ℕ → ℕ → List ℕ → Bool
has_other_without_pages builds build held = list_any (is_other_without_pages build held) (range_with_len 0 builds)

-- the answer to the question is yes for a turn with this step outcome and these page counts, in a plan of `builds`
-- builds
abbrev pub is_answer : ℕ → TurnQuestion → Option EndOfStep → List ℕ → Bool
is_answer builds (Refused build step) end held = refuses_step build step end
is_answer builds (Waiting build) end held = waits build end && has_other_without_pages builds build held
is_answer builds (Leased granules) end held = nat_le granules (sum held)

-- ---- by a label

-- the step outcome with this number, if there is one
abbrev pub end_numbered : List EndOfStep → Option ℕ → Option EndOfStep
end_numbered ends None = None
end_numbered ends (Some number) = slice_get ends number

abbrev pub is_answer_with : ℕ → TurnQuestion → Option EndOfStep → Option (List ℕ) → Bool
is_answer_with builds question end None = false
is_answer_with builds question end (Some held) = is_answer builds question end held

-- the answer to the question is yes for the turn that the label describes
abbrev pub is_answer_at : List EndOfStep → List (List ℕ) → ℕ → TurnQuestion → Label → Bool
is_answer_at ends held builds question label =
    is_answer_with builds question (end_numbered ends label.end) (slice_get held label.held)
