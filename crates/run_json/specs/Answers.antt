-- The numbers that represent a host's answer to a turn.
use Rattle.std.specs.Prelude.{ℕ, List, [], ◌∷◌, Bool, true, false}
use Rattle.host_commands.specs.declared.refusal.Refusal.{Refusal}
use Rattle.host_commands.specs.declared.refusal.Refusal.TheVariants as refusal
use Rattle.realm_plan.specs.Answers.{reply_numbers, refusal_numbers}
use Rattle.plan_replay.specs.declared.answer.TurnAnswer.{TurnAnswer}
use Rattle.plan_replay.specs.declared.answer.TurnAnswer.TheVariants.{Replied, Marked, Undone, Ended, Nothing, Refused}

abbrev pub refusal_number : Refusal → ℕ
refusal_number refusal.NoBuild = 1
refusal_number refusal.Aborting = 2
refusal_number refusal.BadOrder = 3
refusal_number (refusal.NotLeased page) = 4
refusal_number refusal.RealmThere = 5
refusal_number refusal.NoRealm = 6
refusal_number refusal.NothingToUndo = 7
refusal_number refusal.RecRunning = 8
refusal_number refusal.JournalFull = 9
refusal_number refusal.HistoryFull = 10
refusal_number (refusal.NoBlock order) = 11
refusal_number refusal.NoVmid = 12
refusal_number (refusal.Rmi rmi) = 13

-- the numbers of an answer, in the sequence in which the answer's text has them
abbrev pub answer_numbers : TurnAnswer → List ℕ
answer_numbers (Replied reply) = reply_numbers reply
answer_numbers (Marked length) = length ∷ []
answer_numbers (Undone kind) = []
answer_numbers (Ended kind) = []
answer_numbers Nothing = []
answer_numbers (Refused refusal) = refusal_number refusal ∷ refusal_numbers refusal

abbrev pub is_accepted_answer : TurnAnswer → Bool
is_accepted_answer (Refused refusal) = false
is_accepted_answer _ = true
