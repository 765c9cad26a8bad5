use Rattle.std.proofs.Common.{ap, sym, ◌∙◌}
use Rattle.std.specs.Prelude.{is_some}
use Rattle.std.proofs.lemmas.Option.{same_Some}
use Rattle.realm_host.proofs.Taken.{new_is}
use Rattle.history_calls.proofs.FreeBlocks.{not_refused, refused}
use Rattle.history_calls.proofs.free_block.block_refusal.Goals as goal

pub unwrap-order-requires : goal.unwrap-order-requires
unwrap-order-requires g c = ap is_some (new_is c.args.host.now c.args.build c.args.order c.requires.passed c.new.result c.new.ensures)

pub returns-then-has_block : goal.returns-then-has_block
returns-then-has_block g c =
    not_refused c.args.host.now c.args.order _
    (same_Some _ _ (sym c.unwrap-order.ensures ∙ new_is c.args.host.now c.args.build c.args.order c.requires.passed c.new.result c.new.ensures))
    c.if-has_block.ensures

pub returns-else-has_block : goal.returns-else-has_block
returns-else-has_block g c =
    refused c.args.host.now c.args.order _
    (same_Some _ _ (sym c.unwrap-order.ensures ∙ new_is c.args.host.now c.args.build c.args.order c.requires.passed c.new.result c.new.ensures))
    c.if-has_block.ensures
