use Rattle.std.proofs.Common.{◌≡◌, ◌↔◌, List, true, false, nat_eq, length, subst, sym, ap, ◌∙◌, arith}
use Rattle.std.specs.Prelude.{slice_get}
use Rattle.realm_model.specs.declared.act.Event.{Event}
use Rattle.realm_model.specs.Stack.{pushed}
use Rattle.build_seats.specs.declared.report.ReportLine.{ReportLine}
use Rattle.realm_program.specs.Fitting.{DoesFit}
use Rattle.realm_program.proofs.Reading.{fits_here_of, next_there, read_none, read_stop, read_other, read_done, read_all}
use Rattle.realm_program.proofs.audit.fits.Goals.{then-is_done+in_ok-follow, else-is_done}
use Rattle.realm_program.proofs.audit.fits.Goals as goal

pub loop-line-init : goal.loop-line-init
loop-line-init c =
    read_none c.args.report.now.build c.args.steps.now c.as_slice-line-items.result.now c.args.history.now c.next_of-next.result c.new-opened.result.items
    c.next_of-next.ensures.within c.next_of-next.ensures.same c.next_of-next.ensures.own c.new-opened.ensures.items

pub returns-then-not-line_fits : goal.returns-then-not-line_fits
returns-then-not-line_fits c =
    let says =
    fits_here_of c.args.steps.now c.as_slice.result.now c.loop-line.opened.items (slice_get c.args.history.now c.loop-line.next) c.line-item.result c.line_fits.result
    c.as_slice.ensures.value c.line_fits.ensures in (
      (λ t. absurd (let no : false ≡ true = t in cc)),
      (λ does. absurd (read_stop c.loop-line.invariant c.line-item.result c.line_fits.result c.loop-line-test.true c.line-item.is says c.if-not-line_fits.true
          (subst (λ (lines : List ReportLine). DoesFit c.args.report.now.build c.args.steps.now lines c.args.history.now) (sym c.as_slice-line-items.ensures.value) does))),
    )

pub bounds-history-next : goal.bounds-history-next
bounds-history-next c =
    let says =
    fits_here_of c.args.steps.now c.as_slice.result.now c.loop-line.opened.items (slice_get c.args.history.now c.loop-line.next) c.line-item.result c.line_fits.result
    c.as_slice.ensures.value c.line_fits.ensures in
    next_there c.args.steps.now c.loop-line.opened.items c.args.history.now c.loop-line.next c.line-item.result (says.0 c.if-not-line_fits.false) (sym c.is_done.ensures ∙ c.if-is_done.true)

pub next_of-next-requires-then-is_done : goal.next_of-next-requires-then-is_done
next_of-next-requires-then-is_done c =
    let says =
    fits_here_of c.args.steps.now c.as_slice.result.now c.loop-line.opened.items (slice_get c.args.history.now c.loop-line.next) c.line-item.result c.line_fits.result
    c.as_slice.ensures.value c.line_fits.ensures in
    let there = next_there c.args.steps.now c.loop-line.opened.items c.args.history.now c.loop-line.next c.line-item.result (says.0 c.if-not-line_fits.false)
    (sym c.is_done.ensures ∙ c.if-is_done.true) in
    omega arith

pub loop-line-preserved : goal.loop-line-preserved
loop-line-preserved c =
    let says =
    fits_here_of c.args.steps.now c.as_slice.result.now c.loop-line.opened.items (slice_get c.args.history.now c.loop-line.next) c.line-item.result c.line_fits.result
    c.as_slice.ensures.value c.line_fits.ensures in
    elim c.if-is_done.branch [
      | then-is_done+in_ok-follow w ↦ rw (w.next-is, w.opened-is)
          (read_done c.loop-line.invariant c.line-item.result w.index-history-next.result w.next_of-next-then-is_done.result w.follow.new.opened.items
          c.loop-line-test.true c.line-item.is (says.0 c.if-not-line_fits.false) (sym c.is_done.ensures ∙ w.if-is_done.true) w.index-history-next.is
          (w.in_ok-follow.ensures ∙ ap (λ (event : Event). pushed c.loop-line.opened.items event.act) (sym w.index-history-next.is))
          w.next_of-next-then-is_done.ensures.within w.next_of-next-then-is_done.ensures.same w.next_of-next-then-is_done.ensures.own)
      | else-is_done w ↦ rw (w.next-is, w.opened-is)
          (read_other c.loop-line.invariant c.line-item.result c.loop-line-test.true c.line-item.is (says.0 c.if-not-line_fits.false) (sym c.is_done.ensures ∙ w.if-is_done.false))
    ]

pub returns : goal.returns
returns c =
    subst (λ (lines : List ReportLine). (nat_eq c.loop-line.next (length c.args.history.now) ≡ true) ↔ DoesFit c.args.report.now.build c.args.steps.now lines c.args.history.now)
    c.as_slice-line-items.ensures.value (read_all c.loop-line.invariant c.loop-line-test.false)
