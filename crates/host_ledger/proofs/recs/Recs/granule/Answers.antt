use Rattle.std.proofs.Common.{◌+◌, ◌-◌, ◌/◌, ◌<◌, ℕ, List, refl, sym, ap, ◌∙◌, arith}
use Rattle.realm_model.specs.RecsOpen.{granule_in}
use Rattle.host_ledger.proofs.Halving.{none_between, found_there, upper_half}
use Rattle.host_ledger.proofs.recs.Recs.granule.Goals as goal

pub returns-then-found-wanted : goal.returns-then-found-wanted
returns-then-found-wanted c =
    let inside = c.loop-low.invariant.inside in
    let between = c.loop-low-test.true in
    sym (ap (granule_in c.self.inside.entries.items) (sym c.number-wanted.ensures ∙ sym c.if-found-wanted.true ∙ c.number-found.ensures)
    ∙ found_there c.self.inside.entries.items (c.loop-low.low + (c.loop-low.high - c.loop-low.low) / 2) c.index.result.now c.index.result.now c.self.invariant.2 (omega arith) c.index.ensures)
    ∙ ap (λ (recs : List (ℕ × ℕ)). granule_in recs c.args.number) c.self.view_is

pub loop-low-preserved-then-found-wanted-2 : goal.loop-low-preserved-then-found-wanted-2
loop-low-preserved-then-found-wanted-2 c =
    let between = c.loop-low-test.true in
    let less : c.index.result.now.0 < c.args.number = omega (arith, c.if-found-wanted-2.true, c.number-found.ensures, c.number-wanted.ensures) in
    upper_half c.self.inside.entries.items c.args.number c.loop-low.low c.loop-low.high (c.loop-low.low + (c.loop-low.high - c.loop-low.low) / 2)
    c.index.result.now c.index.result.now c.self.invariant.2 c.loop-low.invariant (omega arith) (omega arith) c.index.ensures _ refl less

pub returns : goal.returns
returns c =
    sym (none_between c.self.inside.entries.items c.args.number c.loop-low.low c.loop-low.high c.loop-low.invariant c.loop-low-test.false)
    ∙ ap (λ (recs : List (ℕ × ℕ)). granule_in recs c.args.number) c.self.view_is
