-- The text of a plan's run, with the reason for each refusal.
use Rattle.std.specs.Prelude.{◌≡◌, ℕ, Bool, List, [], ◌∷◌, ◌++◌, map, string_bytes, Option, Some, None}
use Rattle.std.specs.List.{filter_map, flat_map, range_with_len}
use Rattle.host_ledger.specs.View.{HostView}
use Rattle.realm_plan.specs.Plan.{Plan}
use Rattle.plan_replay.specs.Run.{map_text}
use Rattle.explain.specs.Explained.{report_of, IsExplainedRun}
use Rattle.explain.specs.Unfinished.{unfinished_abort, abort_lines}
use Rattle.explain.specs.Words.{AreReasonLines}
use Rattle.explain.specs.declared.explained.ExplainedTurn.{ExplainedTurn}
use Rattle.explain.specs.declared.explained.Explanation.{Explanation}
use Rattle.realm_program.specs.Replay.{opening_host}

-- the text consists of the lines of a reason, including the checks that passed if these are requested; it is empty if
-- there is no reason
abbrev pub AreLinesBelow : Bool → Option Explanation → List ℕ → Type 0
AreLinesBelow all None below = below ≡ []
AreLinesBelow all (Some reason) below = AreReasonLines reason all below

-- the text is the line of a turn, followed by the lines of the reason for the refusal, if the turn is refused
pub record IsTurnText (all : Bool) (turn : ExplainedTurn) (text : List ℕ) : Type 0 where
  pub below : List ℕ
  pub of_reason : AreLinesBelow all turn.reason below
  pub whole : text ≡ string_bytes turn.line ++ below

-- the text consists of the texts of the turns, one after another
abbrev pub AreTurnTexts : Bool → List ExplainedTurn → List ℕ → Type 0
AreTurnTexts all [] text = text ≡ []
AreTurnTexts all (turn ∷ turns) text =
    (first : List ℕ) × (rest : List ℕ) × IsTurnText all turn first × AreTurnTexts all turns rest × (text ≡ first ++ rest)

-- for each abort under way, the error line with the number of turns that it still needs, and the help line
abbrev pub unfinished_lines : HostView → List ℕ
unfinished_lines host = flat_map abort_lines (filter_map (unfinished_abort host) (range_with_len 0 8))

-- The text shows some run of the plan: the line of each turn and, below the line of a refused turn, the reason. Then
-- the map of the world that the run ends in, and the lines of the aborts that are under way.
pub record IsWhyText (all : Bool) (plan : Plan) (text : List ℕ) : Type 0 where
  pub last : HostView
  pub turns : List ExplainedTurn
  pub run : IsExplainedRun plan (opening_host plan) last (map report_of turns)
  pub lines : List ℕ
  pub of_turns : AreTurnTexts all turns lines
  pub whole : text ≡ lines ++ (map_text last ++ unfinished_lines last)

-- ---- the text of a turn, or of turns, is appended

-- `new` is `old` with the text of a turn at its end
pub record AppendsTurn (all : Bool) (turn : ExplainedTurn) (old new : List ℕ) : Type 0 where
  pub text : List ℕ
  pub is_text : IsTurnText all turn text
  pub appended : new ≡ old ++ text

pub record AppendsTurns (all : Bool) (turns : List ExplainedTurn) (old new : List ℕ) : Type 0 where
  pub lines : List ℕ
  pub of_turns : AreTurnTexts all turns lines
  pub appended : new ≡ old ++ lines
