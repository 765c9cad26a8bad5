use Rattle.std.proofs.Common.{arith}
use Rattle.realm_program.proofs.Held.{granule_of_number-block}
use Rattle.realm_program.proofs.pages.held_granule.Goals as goal

pub overflow_add-number : goal.overflow_add-number
overflow_add-number c = omega arith

pub returns-in-Take : goal.returns-in-Take
returns-in-Take c =
    granule_of_number-block c.args.act.now c.in-Take.order c.in-Take.first c.args.place c.number.result c.new.result c.in-Take.is c.number.ensures.value c.requires.there c.new.ensures
