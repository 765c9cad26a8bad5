use Rattle.std.proofs.Common.{◌≡◌}
use Rattle.std.proofs.lemmas.Bool.{OnTrue_from}
use Rattle.std.proofs.lemmas.Bool.Decides.{Decides-eqb}
use Rattle.std.proofs.lemmas.Slice.Eq.{slice_eq-Decides}
use Rattle.plan_states.proofs.run_log.is_same_held.Goals as goal

pub returns : goal.returns
returns c = OnTrue_from c.eq.result (c.args.one.now ≡ c.args.other.now)
    (slice_eq-Decides Decides-eqb c.args.one.now c.args.other.now c.eq.result c.eq.ensures).0
