use Rattle.builders.proofs.Orders.{if_closed}
use Rattle.builders.proofs.shared.Shared.close.Goals as goal

pub returns-clause-order : goal.returns-clause-order
returns-clause-order g c = if_closed g.L.Ledgers.opened c.args.seats.items c.close.result c.close.ensures.closed c.close.ensures.given_back
