use Rattle.std.proofs.Common.{not, Some, None, refl, sym, ap, ◌∙◌}
use Rattle.std.specs.Option.{option_copied}
use Rattle.realm_host.proofs.Runs.{inside_rec, told_there, runs_told}
use Rattle.realm_host.proofs.host.Host.is_running.Goals as goal

pub rec_at-requires : goal.rec_at-requires
rec_at-requires g c = inside_rec c.self.inside.ledger c.self.inside.monitor c.self.invariant c.args.self.now c.self.view_is c.args.build c.in-Rec.number c.in-Some.granule c.in-Some.ensures

pub unreachable-requires : goal.unreachable-requires
unreachable-requires g c =
    told_there c.self.inside.ledger c.self.inside.monitor c.self.invariant c.args.self.now c.self.view_is c.args.build c.in-Rec.number c.in-Some.granule c.in-Some.ensures None c.in-None.ensures refl

pub returns : goal.returns
returns g c = ap not c.is_ready.ensures ∙ runs_told c.self.inside.ledger c.self.inside.monitor c.self.invariant c.args.self.now c.self.view_is c.args.build
    c.in-Rec.number c.in-Rec.granule c.in-Rec.auxiliaries c.args.act.now c.in-Rec.is c.in-Some.granule c.in-Some.ensures (Some c.in-Some-rec_at.rec.now)
    (ap option_copied (sym c.in-Some-rec_at.is) ∙ c.rec_at.ensures)
