-- A check of the RMM, with the required fact, whether the check fails, and the RMI result of a failure.
use Rattle.std.specs.Prelude.{Bool}
use Rattle.host_commands.specs.declared.refusal.Refusal.TheVariants.{Rmi}
use Rattle.realm_model.specs.declared.rmi.Rmi as answer
use Rattle.explain.specs.declared.check.Fact.{Fact}
use Rattle.explain.specs.declared.check.Check.{Check}

abbrev pub rmi_check : Fact → Bool → answer.Rmi → Check
rmi_check asks fails rmi = record { fact = asks; fails = fails; refusal = Rmi rmi }
