use Rattle.std.proofs.Common.{◌≡◌, ◌+◌, ◌<◌, ◌||◌, length, get_or, take, sym, ◌∙◌, arith}
use Rattle.view_program.specs.Tally.{is_known}
use Rattle.view_program.proofs.Tallies.{AreBumped-once, AreBumped-same, is_known-more, or_same, or_other, all_bumped}
use Rattle.view_program.proofs.schedules.count.bump.Goals as goal
use Rattle.view_program.proofs.schedules.count.bump.Goals.{then-eq+in_ok-add_one, else-eq, After-eq}
use Rattle.view_program.proofs.schedules.count.bump.Given.{Over}

pub returns-clause-bumped : goal.returns-clause-bumped
returns-clause-bumped g c =
    all_bumped g.K.PartialEq.eq c.args.outcome.now c.args.tallies.now c.loop-tally.tally-index c.loop-tally.tallies (omega (arith, c.loop-tally-test.false)) c.loop-tally.invariant.0

module _ (g : Over) (c : After-eq g) where
  inside : c.loop-tally.tally-index < length c.loop-tally.tallies
  inside = let all = c.loop-tally.invariant.0.all in omega (arith, c.loop-tally-test.true)

  known :
      is_known g.K.PartialEq.eq c.args.outcome.now (take (c.loop-tally.tally-index + 1) c.args.tallies.now)
      ≡ (is_known g.K.PartialEq.eq c.args.outcome.now (take c.loop-tally.tally-index c.args.tallies.now)
      || g.K.PartialEq.eq (get_or c.loop-tally.tallies c.loop-tally.tally-index c.tally-item.result).outcome c.args.outcome.now)
  known = is_known-more g.K.PartialEq.eq c.args.outcome.now c.args.tallies.now c.loop-tally.tally-index c.loop-tally.tallies c.tally-item.result c.loop-tally.invariant.0 inside

pub loop-tally-preserved : goal.loop-tally-preserved
loop-tally-preserved g c =
    let at = (goal.at.loop-tally-preserved g c).After-eq in
    let before = is_known g.K.PartialEq.eq c.args.outcome.now (take c.loop-tally.tally-index c.args.tallies.now) in
    elim c.if-eq.branch [
      | then-eq+in_ok-add_one w ↦ (let same = sym c.eq.ensures ∙ w.if-eq.true in (
        AreBumped-once g.K.PartialEq.eq c.args.outcome.now c.args.tallies.now c.loop-tally.tally-index c.loop-tally.tallies c.tally-item.result
            w.add_one.new.self c.if-eq.tallies c.loop-tally.invariant.0 (inside g at) same w.tallies-is w.in_ok-add_one.ensures,
        w.is_known-is ∙ sym (known g at ∙ or_same before _ same),
      ))
      | else-eq w ↦ (let other = sym c.eq.ensures ∙ w.if-eq.false in (
        AreBumped-same g.K.PartialEq.eq c.args.outcome.now c.args.tallies.now c.loop-tally.tally-index c.loop-tally.tallies c.tally-item.result
            c.if-eq.tallies c.loop-tally.invariant.0 (inside g at) other w.tallies-is,
        w.is_known-is ∙ c.loop-tally.invariant.1 ∙ sym (known g at ∙ or_other before _ other),
      ))
    ]
