use Rattle.schedule_graph.proofs.States.{same_step, turn_too, turns_too, same_text}
use Rattle.schedule_graph.proofs.law.a_state_decides_its_turns.Goals as goal

pub returns-clause-steps : goal.returns-clause-steps
returns-clause-steps c = λ plan one other same build. same_step one other same plan build

pub returns-clause-turn : goal.returns-clause-turn
returns-clause-turn c = λ plan one other turn to same is. turn_too one other same plan turn to is

pub returns-clause-turns : goal.returns-clause-turns
returns-clause-turns c = turns_too

pub returns-clause-map : goal.returns-clause-map
returns-clause-map c = λ one other same. same_text one other same
