use Rattle.rmm.proofs.UpperHalf.{from_half, before_half}
use Rattle.rmm.proofs.operand.is_unprotected.Goals as goal

pub returns-then-ipa-half : goal.returns-then-ipa-half
returns-then-ipa-half c = from_half c.args.realm.now.s2sz c.args.ipa c.requires c.if-ipa-half.true

pub returns-else-ipa-half : goal.returns-else-ipa-half
returns-else-ipa-half c = before_half c.args.realm.now.s2sz c.args.ipa c.requires c.if-ipa-half.false
