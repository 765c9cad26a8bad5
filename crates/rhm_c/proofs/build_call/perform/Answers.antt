use Rattle.std.proofs.Common.{sym, subst}
use Rattle.rhm_c.specs.Undoing.{IsCalledHere}
use Rattle.rhm_c.specs.declared.build_call.BuildCall.{BuildCall}
use Rattle.rhm_c.proofs.build_call.perform.Goals as goal

pub returns-in-Mark : goal.returns-in-Mark
returns-in-Mark c =
    subst (λ (call : BuildCall). IsCalledHere call c.args.host.now c.args.build c.mark.result c.mark.new.host) (sym c.in-Mark.is) c.mark.ensures
