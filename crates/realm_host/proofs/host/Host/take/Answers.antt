use Rattle.std.proofs.Common.{sym, ap, ◌∙◌, length}
use Rattle.std.specs.Prelude.{is_some}
use Rattle.std.proofs.lemmas.Option.{same_Some}
use Rattle.host_ledger.specs.View.{HostView, pages_of_build}
use Rattle.realm_host.proofs.Taken.{new_is, room_of, low_of, told_none, told_some}
use Rattle.realm_host.proofs.host.Host.take.Goals as goal

pub unwrap-order-requires : goal.unwrap-order-requires
unwrap-order-requires g c = ap is_some (new_is c.args.self.now c.args.build c.args.order c.requires.passed c.new.result c.new.ensures)

pub take_block-requires-clause-low : goal.take_block-requires-clause-low
take_block-requires-clause-low g c =
    low_of c.args.self.now c.args.build c.args.order c.requires.passed _ (same_Some _ _ (sym c.unwrap-order.ensures
    ∙ new_is c.args.self.now c.args.build c.args.order c.requires.passed c.new.result c.new.ensures))

pub take_block-requires-clause-room : goal.take_block-requires-clause-room
take_block-requires-clause-room g c =
    room_of c.args.self.now c.args.build c.args.order c.requires.passed _ (same_Some _ _ (sym c.unwrap-order.ensures
    ∙ new_is c.args.self.now c.args.build c.args.order c.requires.passed c.new.result c.new.ensures))

pub returns-in-None : goal.returns-in-None
returns-in-None g c =
    told_none c.args.self.now c.args.build c.args.order c.requires.passed _
    (same_Some _ _ (sym c.unwrap-order.ensures ∙ new_is c.args.self.now c.args.build c.args.order c.requires.passed c.new.result c.new.ensures)) c.take_block.new.self c.in-None.ensures

pub returns-in-Some : goal.returns-in-Some
returns-in-Some g c =
    told_some c.args.self.now c.args.build c.args.order c.requires.passed _
    (same_Some _ _ (sym c.unwrap-order.ensures ∙ new_is c.args.self.now c.args.build c.args.order c.requires.passed c.new.result c.new.ensures))
    c.in-Some._first c.page_count-page.result c.take_block.new.self
    (c.page_count-page.ensures ∙ ap (λ (h : HostView). length (pages_of_build h c.args.build)) c.self.view_is) c.in-Some.ensures
