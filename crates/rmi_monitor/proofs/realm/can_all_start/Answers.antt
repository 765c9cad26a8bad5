use Rattle.std.proofs.Common.{◌+◌, ◌<◌, sym, ap, ◌∙◌, subst, arith}
use Rattle.granule_addr.specs.Root.{start_count}
use Rattle.rmi_monitor.specs.Places.{is_fit_to_start}
use Rattle.rmi_monitor.proofs.Starting.{all_start, one_does_not}
use Rattle.rmi_monitor.proofs.realm.can_all_start.Goals as goal

pub returns-then-not-can_start : goal.returns-then-not-can_start
returns-then-not-can_start c =
    let few : c.loop-number.number < start_count c.args.tables.now.root.width = subst (λ n. c.loop-number.number < n) c.start_count-number-end.ensures.value c.loop-number-test.true in
    sym (one_does_not (is_fit_to_start c.args.granules.now c.args.tables.now.rd) c.args.tables.now.root c.loop-number.number few
    (ap (λ first. is_fit_to_start c.args.granules.now c.args.tables.now.rd (first + c.loop-number.number)) (sym c.number.ensures.value) ∙ sym c.can_start.ensures ∙ c.if-not-can_start.true))

pub returns : goal.returns
returns c =
    sym (all_start (is_fit_to_start c.args.granules.now c.args.tables.now.rd) c.args.tables.now.root (λ number few.
    let some : number < c.start_count-number-end.result = subst (λ n. number < n) (sym c.start_count-number-end.ensures.value) few in
    let end = c.loop-number-test.false in
    c.loop-number.invariant number (omega (arith, some, end))))
