use Rattle.std.proofs.Common.{◌-◌, sym, ap, ◌∙◌, arith}
use Rattle.rmm_model.specs.declared.realm.RttWalk.{RttWalk}
use Rattle.rmm_model.specs.Walk.{table_below, walk_from, start_of, walk}
use Rattle.rmm_granules.proofs.Steps.{at, walk_on, walk_ends, walk_reached}
use Rattle.rmm_granules.proofs.walking.walk.Goals as goal
use Rattle.rmm_granules.proofs.walking.walk.Goals.{else-levels-test, then-levels-test+in-None}

pub levels-init : goal.levels-init
unfolding start_of
levels-init g c = record {
  goes_on = ap (λ (p : RttWalk). walk_from c.args.granules.now c.args.ipa (c.args.to - p.level) p) c.start_of-start.ensures.value;
  inside = omega (arith, c.count.ensures.value, c.start_of-start.ensures.inside);
}

pub levels-preserved : goal.levels-preserved
levels-preserved g c =
    let m = c.args.granules.now in
    record {
      goes_on = sym (walk_on m c.args.ipa c.levels.table c.levels.level c.args.to c.in-Some.child (omega arith) (ap (table_below m) (sym c.entry_at.ensures.value) ∙ sym c.in-Some.ensures.value))
          ∙ c.levels.invariant.goes_on;
      inside = c.in-Some.ensures.inside;
    }

pub returns-clause-value : goal.returns-clause-value
unfolding walk
returns-clause-value g c =
    let m = c.args.granules.now in
    elim c.levels-test.branch [
      | else-levels-test w ↦ sym (walk_reached m c.args.ipa c.levels.level c.args.to (at c.levels.table c.levels.level) (omega arith)) ∙ c.levels.invariant.goes_on
      | then-levels-test+in-None w ↦ sym (walk_ends m c.args.ipa (c.args.to - c.levels.level) (at c.levels.table c.levels.level) (ap (table_below m) (sym w.entry_at.ensures.value) ∙ sym w.in-None.ensures.value))
          ∙ c.levels.invariant.goes_on
    ]
