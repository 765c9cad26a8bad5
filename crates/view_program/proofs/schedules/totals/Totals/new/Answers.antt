use mathlib.Core.Bool.{beq}
use Rattle.std.specs.Prelude.{nat_eq}
use Rattle.view_program.specs.Same.{same_end}
use Rattle.view_program.specs.Totals.{same_text}
use Rattle.view_program.proofs.Counted.{counted-none}
use Rattle.view_program.proofs.schedules.totals.Totals.new.Goals as goal

pub returns : goal.returns
returns c = λ builds. record {
  schedule_count = c.zero.ensures;
  by_refusal = counted-none beq c.new.result.items c.new.ensures.items;
  ends = counted-none same_end c.new-2.result.items c.new-2.ensures.items;
  maps = counted-none same_text c.new-4.result.items c.new-4.ensures.items;
  never_refused = counted-none nat_eq c.new-3.result.items c.new-3.ensures.items;
}
