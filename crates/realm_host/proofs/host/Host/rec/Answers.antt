use Rattle.std.proofs.Common.{None, refl}
use Rattle.realm_host.proofs.Runs.{inside_rec, told_there}
use Rattle.realm_host.proofs.Readings.{rec_told}
use Rattle.realm_host.proofs.host.Host.rec.Goals as goal

pub rec_at-requires : goal.rec_at-requires
rec_at-requires g c =
    inside_rec c.self.inside.ledger c.self.inside.monitor c.self.invariant c.args.self.now c.self.view_is c.args.build c.args.number c.in_ok-granule.granule
    c.in_ok-granule.ensures

pub returns-in_err-rec : goal.returns-in_err-rec
returns-in_err-rec g c =
    absurd (told_there c.self.inside.ledger c.self.inside.monitor c.self.invariant c.args.self.now c.self.view_is c.args.build c.args.number c.in_ok-granule.granule
    c.in_ok-granule.ensures None c.in_err-rec.ensures refl)

pub returns : goal.returns
returns g c =
    rec_told c.self.inside.ledger c.self.inside.monitor c.self.invariant c.args.self.now c.self.view_is c.args.build c.args.number c.in_ok-granule.granule
    c.in_ok-granule.ensures c.in_ok-rec.rec.now c.in_ok-rec.ensures
