use Rattle.std.proofs.Common.{◌≡◌, IfSome, IfErr, Ok, Err, ap, sym, ◌∙◌, subst}
use Rattle.std.proofs.lemmas.Result.{err_from_is_err_and}
use Rattle.realm_plan.specs.PlanView.{plan_view}
use Rattle.realm_program.specs.Printed.{HasNoPlan}
use Rattle.realm_program.specs.Whole.{kept_of}
use Rattle.realm_program.proofs.Ends.{faulty_plan}
use Rattle.realm_program.proofs.KeptPlan.{plan_from_kept}
use Rattle.realm_program.proofs.source.plan_in.Goals as goal

pub returns-in_err-from_bytes-clause-err : goal.returns-in_err-from_bytes-clause-err
returns-in_err-from_bytes-clause-err g c =
    let told = err_from_is_err_and c.from_residual-in_err-from_bytes.result c.from_residual-in_err-from_bytes.ensures.1 in
    let input = g.R.Read.remaining c.args.input.now.device in
    let kept = subst (λ bytes. IfSome input (λ xs. bytes ≡ kept_of xs)) (sym c.deref.ensures.value) c.in_ok-bytes.ensures.bytes in
    subst (λ r. IfErr r (HasNoPlan input)) (sym (told.1 ∙ ap Err told.2)) (faulty_plan input c.deref.result.now c.in_err-from_bytes.field-0.0 kept c.in_err-from_bytes.ensures.value)

pub returns-clause-ok : goal.returns-clause-ok
returns-clause-ok g c =
    let input = g.R.Read.remaining c.args.input.now.device in
    let kept = subst (λ bytes. IfSome input (λ xs. bytes ≡ kept_of xs)) (sym c.deref.ensures.value) c.in_ok-bytes.ensures.bytes in
    plan_from_kept input c.deref.result.now (Ok (plan_view c.in_ok-from_bytes.field-0)) kept c.in_ok-from_bytes.ensures.value
