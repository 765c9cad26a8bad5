use Rattle.rmm_granules.proofs.Widths.{space_fits}
use Rattle.rmm_checks.proofs.walking.find.Goals as goal
use Rattle.std.proofs.Common.{arith}

pub returns-else-ipa-realm-clause-low : goal.returns-else-ipa-realm-clause-low
returns-else-ipa-realm-clause-low g c = space_fits c.in-Some.realm.s2sz c.args.ipa c.in-Some.ensures.served.width (omega (arith, c.if-ipa-realm.false))
