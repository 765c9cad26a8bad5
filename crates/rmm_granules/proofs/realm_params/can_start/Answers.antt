use Rattle.std.proofs.Common.{arith}
use Rattle.rmm_granules.proofs.realm_params.can_start.Goals as goal

pub overflow_cast-p : goal.overflow_cast-p
overflow_cast-p g c =
    let fits = c.is_range_inside.ensures.fits c.if-not-is_range_inside.false in
    let few = c.is_range_inside.ensures.few in
    omega arith

pub are_delegated-requires-clause-inside : goal.are_delegated-requires-clause-inside
are_delegated-requires-clause-inside g c =
    let fits = c.is_range_inside.ensures.fits c.if-not-is_range_inside.false in
    let first = c.number_of-first.ensures.value in
    omega arith
