use Rattle.plan_replay.proofs.Aborts.{told}
use Rattle.plan_replay.proofs.law.aborts_are_reported.Goals as goal

pub returns : goal.returns
returns c = λ plan host order turns from to turn answer legal run is_turn tells. told plan host order turns from to turn answer legal run is_turn tells
