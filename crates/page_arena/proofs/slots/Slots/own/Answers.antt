use Rattle.std.proofs.Common.{arith}
use Rattle.page_arena.proofs.InSlots.{room_of_next, one_owner_more}
use Rattle.page_arena.proofs.slots.Slots.own.Goals as goal

pub overflow_add-self : goal.overflow_add-self
overflow_add-self c =
    let was = c.args.self.now in let room = room_of_next was.of.items was.used was.own c.args.page c.requires.inside c.requires.shared in
    let few = c.requires.few in omega arith

pub invariant_of-self : goal.invariant_of-self
invariant_of-self c = let was = c.args.self.now in record { own = one_owner_more was.of.items was.used was.own c.args.page c.requires.inside c.requires.shared }

pub returns-clause-room : goal.returns-clause-room
returns-clause-room c = let was = c.args.self.now in room_of_next was.of.items was.used was.own c.args.page c.requires.inside c.requires.shared
