use Rattle.history_calls.proofs.Decided.{decided_before}
use Rattle.history_calls.proofs.law.decided_before.Goals as goal

pub returns : goal.returns
returns c = λ place host build run cmd. decided_before place host build run cmd
