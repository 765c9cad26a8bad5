use Rattle.std.proofs.Common.{ℕ, Option, [], map, vec_items, sym, ap}
use Rattle.std.specs.Prelude.{option_and_then, slice_index_or}
use Rattle.plan_states.specs.declared.runs.Visit.{Visit}
use Rattle.plan_states.proofs.RunLogs.{nothing_at_place, seen_at_place}
use Rattle.plan_states.proofs.runs.Walk.snapshot_at.Goals as goal

abbrev snapshot_if : Option Visit → Option ℕ
snapshot_if visit = option_and_then (λ (it : Visit). it.snapshot) visit

pub returns-in-Some : goal.returns-in-Some
returns-in-Some c =
    let states = slice_index_or (map vec_items c.args.self.now.visits.items) c.args.depth [] in
    sym (ap snapshot_if (seen_at_place states c.visits_at.result.now c.args.state c.in-Some.visit.now c.visits_at.ensures c.in-Some.ensures.lookup.3.0 c.in-Some.ensures.lookup.1))

pub returns-in-None : goal.returns-in-None
returns-in-None c =
    let states = slice_index_or (map vec_items c.args.self.now.visits.items) c.args.depth [] in
    sym (ap snapshot_if (nothing_at_place states c.visits_at.result.now c.args.state c.visits_at.ensures c.in-None.ensures.lookup.3))
