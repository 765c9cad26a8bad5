use Rattle.std.proofs.Common.{◌<◌, ◌%◌, ◌+◌, length, length-set, get_or, ◌∙◌, arith}
use Rattle.std.proofs.lemmas.List.Elements.{All-set}
use Rattle.schedule_graph.proofs.Numbers.{carry_step}
use Rattle.schedule_graph.proofs.number.carry_from.Goals as goal

pub loop-at-preserved : goal.loop-at-preserved
loop-at-preserved c =
    let digits = c.loop-at.digits in
    let at = c.loop-at.at in
    let (number, small, long, carry) = c.loop-at.invariant in
    let inside : at < length digits = omega (arith, long) in
    let digit : get_or digits at 0 < 10 = small at 0 inside in (
      carry_step digits at c.loop-at.carry inside ∙ number,
      All-set (λ digit. digit < 10) digits at ((get_or digits at 0 + c.loop-at.carry) % 10) (omega arith) small,
      length-set digits at _ ∙ long,
      omega (arith, digit, carry),
    )
