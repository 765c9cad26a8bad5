-- The printed line of a turn: the build, the step and the answer.
use Rattle.std.specs.Prelude.{ℕ, List, [], ◌∷◌, ◌++◌, codes}
use Rattle.std.specs.Fmt.{decimal}
use Rattle.realm_plan.specs.Answers.{then_number, kind_word, refusal_text, reply_text}
use Rattle.realm_plan.specs.StepsWritten.{spelling}
use Rattle.realm_plan.specs.declared.step.PlanStep.{PlanStep}
use Rattle.plan_replay.specs.declared.answer.TurnAnswer.{TurnAnswer}
use Rattle.plan_replay.specs.declared.answer.TurnAnswer.TheVariants.{Replied, Marked, Undone, Ended, Nothing, Refused}

abbrev pub answer_text : TurnAnswer → List ℕ
answer_text (Replied reply) = reply_text reply
answer_text (Marked length) = codes "ok" ++ then_number length
answer_text (Undone kind) = codes "ok " ++ kind_word kind
answer_text (Ended kind) = codes "done " ++ kind_word kind
answer_text Nothing = codes "done"
answer_text (Refused refusal) = codes "no " ++ refusal_text refusal

-- the output line of a turn: the build, the step as it is in the plan, and the answer
abbrev pub turn_line : ℕ → PlanStep → TurnAnswer → List ℕ
turn_line build step answer = decimal build ++ (32 ∷ spelling step ++ (codes " = " ++ (answer_text answer ++ 10 ∷ [])))
