use Rattle.std.proofs.Common.{◌∙◌}
use Rattle.schedule_graph.proofs.Numbers.{from_none}
use Rattle.schedule_graph.proofs.number.Count.of.Goals as goal

pub returns : goal.returns
returns c = c.in_ok-push_carry.ensures.number ∙ from_none c.new-digits.result.items c.args.number c.new-digits.ensures.items
