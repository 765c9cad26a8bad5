-- The text that reports the outcomes of a plan's schedules, as counted in its state graph.
use Rattle.std.specs.Prelude.{◌≡◌, ◌⊎◌, ℕ, List, [], ◌∷◌, ◌++◌, codes, length}
use Rattle.std.specs.Fmt.{decimal}
use Rattle.realm_plan.specs.Plan.{Plan}
use Rattle.plan_states.specs.Exploration.{IsGraphWithin}
use Rattle.plan_states.specs.Lines.{outcomes_text}
use Rattle.plan_states.specs.Tallies.{AreOutcomes}
use Rattle.plan_states.specs.declared.graph.Graph.{Graph}
use Rattle.plan_states.specs.declared.tally.Outcomes.{Outcomes}

-- the text reports the outcomes that are counted in a plan's graph
pub record IsGraphText (plan : Plan) (graph : Graph) (text : List ℕ) : Type 0 where
  pub outcomes : Outcomes
  pub are_outcomes : AreOutcomes (length plan.builds) graph outcomes
  pub whole : text ≡ outcomes_text plan graph.maps.items outcomes

-- the line that says that a plan has more than `most` states
abbrev pub too_many_line : ℕ → List ℕ
too_many_line most = codes "states more than " ++ (decimal most ++ 10 ∷ [])

-- the text reports the outcomes in a graph of the plan with at most `most` states, or the text is the line that says
-- that there are more states
abbrev pub IsStatesText : ℕ → Plan → List ℕ → Type 0
IsStatesText most plan text = ((graph : Graph) × IsGraphWithin plan most graph × IsGraphText plan graph text) ⊎ (text ≡ too_many_line most)
