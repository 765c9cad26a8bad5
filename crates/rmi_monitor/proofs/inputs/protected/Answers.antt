use Rattle.rmi_monitor.proofs.Protected.{outside_unprotected}
use Rattle.rmi_monitor.proofs.inputs.protected.Goals as goal

pub returns-in_err-granule : goal.returns-in_err-granule
returns-in_err-granule c =
    outside_unprotected c.args.ipa c.args.width c.number.result c.number.ensures.value c.number.ensures.at_least c.number.ensures.at_most c.in_err-granule.ensures
    c.from_residual.result c.from_residual.ensures
