use Rattle.std.proofs.Common.{◌+◌, ◌<◌, length, set, ap, subst, ◌∙◌, sym}
use Rattle.buddy.specs.Heads.{head_at, buddy_at}
use Rattle.buddy.specs.InHand.{HasChecked}
use Rattle.buddy.proofs.Checking.{check_split, check_taken, check_on}
use Rattle.buddy.proofs.blocks.check_order.Goals as goal

pub put-requires-clause-inside : goal.put-requires-clause-inside
put-requires-clause-inside g c =
    let order = c.args.order in let heads = c.args.lists.now.heads in
    let other = c.other_half.ensures ∙ ap (λ start. buddy_at start order) c.start_of-start.ensures in
    subst (λ n. n < length heads) (sym other) (check_split heads g.flags c.args.granule order (subst (HasChecked heads g.flags c.args.granule (order + 1)) c.if-found.true c.requires.1.1)).1

pub put-requires-clause-no_head : goal.put-requires-clause-no_head
put-requires-clause-no_head g c =
    let order = c.args.order in let heads = c.args.lists.now.heads in
    let other = c.other_half.ensures ∙ ap (λ start. buddy_at start order) c.start_of-start.ensures in
    ap (head_at heads) other ∙ (check_split heads g.flags c.args.granule order (subst (HasChecked heads g.flags c.args.granule (order + 1)) c.if-found.true c.requires.1.1)).0

pub returns-then-found-clause-checked : goal.returns-then-found-clause-checked
returns-then-found-clause-checked g c =
    let order = c.args.order in let heads = c.args.lists.now.heads in
    let other = c.other_half.ensures ∙ ap (λ start. buddy_at start order) c.start_of-start.ensures in
    let put = c.put.ensures.heads ∙ ap (λ n. set heads n (order + 1)) other in
    subst (λ now. HasChecked now g.flags c.args.granule order _) (sym put)
    (check_split heads g.flags c.args.granule order (subst (HasChecked heads g.flags c.args.granule (order + 1)) c.if-found.true c.requires.1.1)).2

pub returns-then-head-order-clause-checked : goal.returns-then-head-order-clause-checked
returns-then-head-order-clause-checked g c =
    let order = c.args.order in let heads = c.args.lists.now.heads in
    check_on heads g.flags c.args.granule order (subst (HasChecked heads g.flags c.args.granule (order + 1)) c.if-found.false c.requires.1.1)
    (λ is. c.if-head-order.true (c.head.ensures ∙ ap (head_at heads) c.start_of-start.ensures ∙ is))

pub returns-clause-checked : goal.returns-clause-checked
returns-clause-checked g c =
    let order = c.args.order in let heads = c.args.lists.now.heads in
    let head = ap (head_at heads) (sym c.start_of-start.ensures) ∙ sym c.head.ensures ∙ c.if-head-order.false in
    let out = c.take_out.ensures ∙ ap (λ n. set heads n 0) c.start_of-start.ensures in
    subst (λ now. HasChecked now g.flags c.args.granule order _) (sym out)
    (check_taken heads g.flags c.args.granule order (subst (HasChecked heads g.flags c.args.granule (order + 1)) c.if-found.false c.requires.1.1) c.requires.1.0 head)
