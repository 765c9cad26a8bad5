-- The text of a schedule, and the text of a plan whose schedule is replaced.
use Rattle.std.specs.Prelude.{◌≡◌, ℕ, ◌+◌, ◌%◌, ◌==◌, nat_eq, nat_lt, Bool, false, if◌then◌else◌, List, [], ◌∷◌, ◌++◌, length, codes}
use Rattle.std.specs.List.{ends_with}
use Rattle.std.specs.Fmt.{decimal}
use Rattle.realm_plan.specs.Plan.{Plan}
use Rattle.plan_states.specs.OrderText.{turns_after}

-- ---- the schedule

-- the builds of a schedule's turns, with commas between them
abbrev pub turns_on_one_line : List ℕ → List ℕ
turns_on_one_line [] = []
turns_on_one_line (build ∷ turns) = decimal build ++ turns_after turns

-- the turn at an index, with a comma after it; a new line begins before turn 0 and then before every 32nd turn
abbrev pub turn_in_lines : ℕ → ℕ → List ℕ
turn_in_lines place build = (if place % 32 == 0 then codes "\n    " else codes " ") ++ (decimal build ++ codes ",")

-- the turns of a schedule from this index on, in lines of up to 32 turns
abbrev pub turns_in_lines : ℕ → List ℕ → List ℕ
turns_in_lines place [] = []
turns_in_lines place (build ∷ turns) = turn_in_lines place build ++ turns_in_lines (place + 1) turns

-- The schedule as a TOML array. Up to 30 turns are on one line, and more turns are in lines of up to 32.
abbrev pub order_array : List ℕ → List ℕ
order_array order =
    if nat_lt 30 (length order) then codes "[" ++ (turns_in_lines 0 order ++ codes "\n]")
    else codes "[" ++ (turns_on_one_line order ++ codes "]")

-- ---- the plan

-- the plan with this schedule in place of its own, and with builds that do not give up
abbrev pub with_schedule : List ℕ → Plan → Plan
with_schedule order plan = record plan { order = order; gives_up = false }

-- a line break, unless the text before it is empty or ends with one
abbrev pub line_break_after : List ℕ → List ℕ
line_break_after [] = []
line_break_after (byte ∷ bytes) = if ends_with nat_eq (byte ∷ bytes) (10 ∷ []) then [] else codes "\n"

-- a line with the key `order` and the schedule, below the text `front`
abbrev pub order_line : List ℕ → List ℕ → List ℕ
order_line front order = line_break_after front ++ (codes "order = " ++ (order_array order ++ codes "\n"))

-- the schedule alone if it replaces the value of the key `order`, and otherwise a line with the key and the schedule
abbrev pub order_part : Bool → List ℕ → List ℕ → List ℕ
order_part is_value front order = if is_value then order_array order else order_line front order

-- The text is a plan's text with this schedule put in: in place of a part of the text, or in a new line with the key
-- `order`. The rest is as it was.
pub record IsWithOrder (order bytes text : List ℕ) : Type 0 where
  pub front : List ℕ
  pub removed : List ℕ
  pub back : List ℕ
  pub is_value : Bool
  pub line_is_more : is_value ≡ false → removed ≡ []
  pub of_bytes : bytes ≡ front ++ (removed ++ back)
  pub of_text : text ≡ front ++ (order_part is_value front order ++ back)
