use Rattle.std.proofs.Common.{◌≡◌, ◌<◌, length, arith}
use Rattle.std.proofs.lemmas.Result.{on_ok_weaker}
use Rattle.std.proofs.lemmas.Grind.{common_steps}
use Rattle.trace_program.proofs.Long.{taken_long}
use Rattle.trace_program.proofs.Taken.{all_taken, last_taken}
use Rattle.trace_program.proofs.reading.Reading.end.Goals as goal

pub returns-then-is_empty-clause-ok : goal.returns-then-is_empty-clause-ok
returns-then-is_empty-clause-ok c = λ read written t.
    let none : length c.args.self.now.line.items ≡ 0 = grind (arith, common_steps) in
    all_taken _ _ read written _ _ _ t c.requires none

pub returns-clause-ok : goal.returns-clause-ok
returns-clause-ok c =
    let some : 0 < length c.args.self.now.line.items = grind (arith, common_steps) in
    on_ok_weaker c.end_line.result (λ k. λ read written t. last_taken _ _ read written _ _ _ t _ _ c.requires some k) c.end_line.ensures.ok

pub returns-clause-long : goal.returns-clause-long
returns-clause-long c = λ long read written t. taken_long _ _ read written _ _ _ c.args.self.now.line.items t (c.end_line.ensures.long long)
