use Rattle.std.proofs.Common.{ap}
use Rattle.std.proofs.lemmas.Bool.{false≢true}
use Rattle.realm_plan.specs.Outcome.{or_fault}
use Rattle.realm_plan.specs.declared.fault.PlanFault.TheVariants.{Syntax}
use Rattle.realm_plan.proofs.Documents.{document_some, document_none}
use Rattle.realm_plan.proofs.plan.Plan.document_of.Goals as goal

pub returns-in-Ok : goal.returns-in-Ok
returns-in-Ok c = ap (or_fault Syntax) (document_some c.args.bytes.now _ c.in-Ok.ensures.ok.0 c.in-Ok.ensures.ok.1)

pub returns-else-is_memory : goal.returns-else-is_memory
returns-else-is_memory c =
    let none = document_none c.args.bytes.now (c.in-Err.ensures.refused (λ is. false≢true (c.if-is_memory.ensures.1 is))) in
    ap (or_fault Syntax) none
