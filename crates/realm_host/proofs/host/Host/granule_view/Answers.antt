use Rattle.realm_host.proofs.Readings.{no_granule, granule_inside, granule_is}
use Rattle.realm_host.proofs.host.Host.granule_view.Goals as goal

pub returns-then-number-pages : goal.returns-then-number-pages
returns-then-number-pages g c =
    no_granule c.self.inside.ledger c.self.inside.monitor c.self.invariant c.args.self.now c.self.view_is c.args.granule c.number.result c.pages.result
    c.number.ensures.value c.pages.ensures.value c.if-number-pages.true

pub state-requires : goal.state-requires
state-requires g c =
    granule_inside c.self.inside.ledger c.self.inside.monitor c.self.invariant c.args.self.now c.self.view_is c.args.granule c.number.result c.pages.result
    c.number.ensures.value c.pages.ensures.value c.if-number-pages.false

pub realm_of-requires : goal.realm_of-requires
realm_of-requires g c =
    granule_inside c.self.inside.ledger c.self.inside.monitor c.self.invariant c.args.self.now c.self.view_is c.args.granule c.number.result c.pages.result
    c.number.ensures.value c.pages.ensures.value c.if-number-pages.false

pub returns : goal.returns
returns g c =
    granule_is c.self.inside.ledger c.self.inside.monitor c.self.invariant c.args.self.now c.self.view_is c.args.granule c.state.result c.holder.result c.realm_of.result
    (granule_inside c.self.inside.ledger c.self.inside.monitor c.self.invariant c.args.self.now c.self.view_is c.args.granule c.number.result c.pages.result
    c.number.ensures.value c.pages.ensures.value c.if-number-pages.false)
    c.state.ensures c.holder.ensures c.realm_of.ensures
