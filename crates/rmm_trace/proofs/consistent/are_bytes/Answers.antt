use Rattle.std.proofs.Common.{◌∙◌}
use Rattle.rmm_trace.proofs.Rounds.{one_byte}
use Rattle.rmm_trace.proofs.consistent.are_bytes.Goals as goal

pub rounds-preserved : goal.rounds-preserved
rounds-preserved c = one_byte c.rounds.left c.args.word c.number_at.result c.rounds-test.true c.number_at.ensures c.if-number_at-gt255.false ∙ c.rounds.invariant
