use Rattle.std.proofs.Common.{sym, subst, arith}
use Rattle.host_commands.proofs.Refused.{none_of}
use Rattle.host_commands.specs.Checks.{build_checks}
use Rattle.host_ledger.specs.Summary.{summary_of}
use Rattle.host_ledger.specs.View.{HostView}
use Rattle.realm_host.specs.Abort.{GoesOn}
use Rattle.realm_host.specs.Host.{IsWhole}
use Rattle.realm_host.proofs.Aborts.{goes_on}
use Rattle.realm_host.proofs.Calls.{whole_begun, there_of}
use Rattle.realm_host.proofs.host.Host.begin_abort.Goals as goal

pub invariant_of-self : goal.invariant_of-self
invariant_of-self g c =
    subst (λ (h : HostView). IsWhole h c.self.inside.monitor) (sym c.begin_abort.ensures.begun) (whole_begun c.self.inside.ledger c.self.inside.monitor c.self.invariant c.args.build)

pub returns-clause-goes_on : goal.returns-clause-goes_on
returns-clause-goes_on g c =
    let runs = c.running.ensures in
    let zero = c.if-running-gt0.false in
    subst (λ (h : HostView). GoesOn h c.args.build) c.self.view_is
    (goes_on c.self.inside.ledger c.self.invariant.mirror.legal c.args.build (omega (arith, runs, zero))
    (there_of c.self.inside.ledger c.args.build (none_of (build_checks (summary_of c.self.inside.ledger) c.args.build) c.in_ok-check_build.ensures)))
