use Rattle.history_calls.proofs.Decided.{refused_as_asked}
use Rattle.history_calls.proofs.law.refused_as_asked.Goals as goal

pub returns : goal.returns
returns c = λ place host build run cmd. refused_as_asked place host build run cmd
