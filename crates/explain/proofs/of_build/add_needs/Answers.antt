use Rattle.std.proofs.Common.{◌∷◌, [], ap}
use Rattle.std.specs.List.{cons_option}
use Rattle.std.proofs.lemmas.Result.{on_ok_weaker}
use Rattle.explain.proofs.Lists.{added}
use Rattle.explain.proofs.Needs.{needs_added}
use Rattle.explain.proofs.of_build.add_needs.Goals as goal

pub returns : goal.returns
returns g c =
    let l1 = c.add_all.new.checks.items in
    let l2 = c.add_some.new.checks.items in
    let l3 = c.add_pages.new.checks.items in
    let l4 = c.add_some-2.new.checks.items in
    let l5 = c.add_some-3.new.checks.items in
    let l6 = c.add.new.checks.items in
    let l7 = c.add_some-4.new.checks.items in
    on_ok_weaker c.add_some-4.result
    (λ last. needs_added c.args.host.now c.args.build c.args.cmd.now c.needs-needs.result c.args.pages.now c.args.checks.now.items
    l1 l2 l3 l4 l5 l6 l7 c.needs-needs.ensures
    (added c.args.checks.now.items c.checks_of_build.result _ l1 c.in_ok-add_all.ensures c.checks_of_build.ensures)
    (added l1 (cons_option c.order_check.result []) _ l2 c.in_ok-add_some.ensures c.order_check.ensures)
    c.in_ok-add_pages.ensures
    (added l3 (cons_option c.realm_check.result []) _ l4 c.in_ok-add_some-2.ensures c.realm_check.ensures)
    (added l4 (cons_option c.journal_check.result []) _ l5 c.in_ok-add_some-3.ensures c.journal_check.ensures)
    (added l5 (c.room_check.result ∷ []) _ l6 c.in_ok-add.ensures (ap (λ l. l ∷ []) c.room_check.ensures))
    (added l6 (cons_option c.vmid_check.result []) _ l7 last c.vmid_check.ensures))
    c.add_some-4.ensures
