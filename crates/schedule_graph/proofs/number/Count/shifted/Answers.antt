use Rattle.std.proofs.Common.{◌≡◌, ◌*◌, ◌^◌, ap, ◌∙◌, arith, mul_comm}
use Rattle.schedule_graph.proofs.Numbers.{doubled}
use Rattle.schedule_graph.proofs.number.Count.shifted.Goals as goal

pub loop-double-init : goal.loop-double-init
loop-double-init c = omega (arith, c.in_ok-shifted.ensures)

pub loop-double-preserved : goal.loop-double-preserved
loop-double-preserved c =
    omega (arith, c.in_ok-add.ensures, c.in_ok-copy.ensures, c.loop-double.invariant, doubled c.args.self.now c.loop-double._double)

pub returns : goal.returns
returns c =
    let all : c.loop-double._double ≡ 128 = (let past = c.loop-double-test.false in let most = c.loop-double.auto._double-end in omega arith) in
    c.loop-double.invariant ∙ ap (λ k. c.args.self.now * 2 ^ k) all ∙ mul_comm c.args.self.now (2 ^ 128)
