use Rattle.std.proofs.Common.{◌∙◌}
use Rattle.realm_host.proofs.Realms.{inside}
use Rattle.realm_host.proofs.Readings.{no_end, row_seen, ipa_small, past}
use Rattle.realm_host.proofs.host.Host.row.Goals as goal

pub walk-requires : goal.walk-requires
walk-requires g c = inside c.self.inside.ledger c.self.inside.monitor c.self.invariant c.args.self.now c.self.view_is c.in_ok-rd.rd c.in_ok-rd.ensures.inside

pub returns-in_err-end-clause-value : goal.returns-in_err-end-clause-value
returns-in_err-end-clause-value g c =
    c.from_residual-in_err-end.ensures
    ∙ no_end c.self.inside.ledger c.self.inside.monitor c.self.invariant c.args.self.now c.self.view_is c.args.build c.args.ipa c.args.to c.in_ok-rd.rd
    c.in_ok-rd.ensures.value c.in_err-end.ensures

pub first_covered-requires : goal.first_covered-requires
first_covered-requires g c =
    ipa_small c.self.inside.ledger c.self.inside.monitor c.self.invariant c.args.self.now c.self.view_is c.args.build c.args.ipa c.args.to c.in_ok-rd.rd
    c.in_ok-rd.ensures.value c.in_ok-end.end c.in_ok-end.ensures

pub returns-clause-value : goal.returns-clause-value
returns-clause-value g c =
    row_seen c.self.inside.ledger c.self.inside.monitor c.self.invariant c.args.self.now c.self.view_is c.args.build c.args.ipa c.args.to c.in_ok-rd.rd
    c.in_ok-rd.ensures.value c.in_ok-end.end c.in_ok-end.ensures c.end.inside.level c.end.inside.entry c.first_covered.result c.end.view_is c.first_covered.ensures

pub returns-clause-past : goal.returns-clause-past
returns-clause-past g c = past c.end.inside.level c.args.ipa c.first_covered.result c.first_covered.ensures
