use Rattle.std.proofs.Common.{◌<◌, length, take, ap, sym, ◌∙◌, arith}
use Rattle.std.proofs.lemmas.List.{take_all}
use Rattle.schedule_graph.specs.Number.{trimmed}
use Rattle.schedule_graph.proofs.Trimmed.{take_trimmed, grown-zero, grown-more}
use Rattle.schedule_graph.proofs.number.trimmed.Goals.{then-digits-place-ne0, else-digits-place-ne0}
use Rattle.schedule_graph.proofs.number.trimmed.Goals as goal

pub loop-place-preserved : goal.loop-place-preserved
loop-place-preserved c =
    let digits = c.args.digits.now in
    let place = c.loop-place.place in
    let inside : place < length digits = omega (arith, c.loop-place-test.true) in
    elim c.if-digits-place-ne0.branch [
      | then-digits-place-ne0 w ↦ (w.count-is ∙ sym (grown-more digits place inside (λ e. omega (arith, e, w.if-digits-place-ne0.true))), omega (arith, w.count-is, inside))
      | else-digits-place-ne0 w ↦ (
        w.count-is ∙ c.loop-place.invariant.0 ∙ sym (grown-zero digits place inside (omega (arith, w.if-digits-place-ne0.false))),
        omega (arith, w.count-is, c.loop-place.invariant.1),
      )
    ]

pub returns : goal.returns
returns c =
    ap (λ k. take k c.args.digits.now) (c.loop-place.invariant.0 ∙ ap (λ ds. length (trimmed ds)) (take_all c.loop-place.place c.args.digits.now c.loop-place-test.false))
    ∙ take_trimmed c.args.digits.now
