use Rattle.std.proofs.Common.{refl, sym, ap}
use Rattle.std.proofs.lemmas.Option.{slice_get_past}
use Rattle.plan_states.specs.Whole.{is_of_build}
use Rattle.plan_states.proofs.RunLogs.{seen_at_place}
use Rattle.plan_states.proofs.whole.is_of_build.Goals as goal

pub returns-in-Some : goal.returns-in-Some
returns-in-Some c =
    ap (is_of_build c.args.build) (sym (seen_at_place c.args.edges.now c.args.edges.now c.args.at c.in-Some.edge.now refl
    c.in-Some.ensures.lookup.3.0 c.in-Some.ensures.lookup.1))

pub returns-in-None : goal.returns-in-None
returns-in-None c = sym (ap (is_of_build c.args.build) (slice_get_past c.args.edges.now c.args.at c.in-None.ensures.lookup.3))
