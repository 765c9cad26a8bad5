use Rattle.std.proofs.Common.{sym, map}
use Rattle.realm_plan.proofs.Fronts.{has_only-keys}
use Rattle.realm_plan.proofs.contents.has_only_keys.Goals as goal

pub loop-key-init : goal.loop-key-init
loop-key-init c = rw (c.into_iter-key-iterator.ensures.into_iter_gives, c.keys-key-items.ensures.rest) (sym (has_only-keys (map (λ n. n.now) c.args.names.now) c.args.table.now.entries))
