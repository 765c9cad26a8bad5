use Rattle.std.proofs.Common.{Err, ap, sym, ◌∙◌, subst}
use Rattle.std.specs.Io.KnownBytes.{Appends}
use Rattle.std.proofs.lemmas.Result.{err_from_is_err_and}
use Rattle.realm_plan.specs.PlanView.{plan_view}
use Rattle.checked_io.specs.Whole.{AppendsFront}
use Rattle.realm_program.specs.Printed.{IsEnd}
use Rattle.realm_program.proofs.Ends.{no_plan, no_text, read_well, printed, cut}
use Rattle.realm_program.proofs.printing.print.Goals as goal

pub returns-in_err-plan-clause-end : goal.returns-in_err-plan-clause-end
returns-in_err-plan-clause-end g c =
    let told = err_from_is_err_and c.from_residual.result c.from_residual.ensures.1 in
    let input = g.R.Read.remaining c.args.input.now.device in
    let output = g.W.Write.contents c.args.output.now.device in
    let texts = g.T.PlanText.is_text c.args.asked.now in
    let without = g.T.PlanText.is_without c.args.asked.now in
    let unread = c.plan_in.new.input.failed in
    subst (IsEnd texts without unread input output output) (sym (told.1 ∙ ap Err told.2))
    (no_plan texts without unread input output c.in_err-plan.field-0.0 c.in_err-plan.ensures.err (λ is. c.in_err-plan.ensures.told.1 (ap Err is)))

pub returns-in_err-text-clause-end : goal.returns-in_err-text-clause-end
returns-in_err-text-clause-end g c =
    let told = err_from_is_err_and c.from_residual-in_err-text.result c.from_residual-in_err-text.ensures.1 in
    let input = g.R.Read.remaining c.args.input.now.device in
    let output = g.W.Write.contents c.args.output.now.device in
    let texts = g.T.PlanText.is_text c.args.asked.now in
    let without = g.T.PlanText.is_without c.args.asked.now in
    let unread = c.plan_in.new.input.failed in
    subst (IsEnd texts without unread input output output) (sym (told.1 ∙ ap Err told.2))
    (no_text texts without unread input output (plan_view c.in_ok-plan.plan) c.in_err-text.field-0.0 c.in_ok-plan.ensures.ok c.in_err-text.ensures.err c.in_err-text.ensures.kind)

pub returns-in_err-write_whole-clause-end : goal.returns-in_err-write_whole-clause-end
returns-in_err-write_whole-clause-end g c =
    let told = err_from_is_err_and c.from_residual-in_err-write_whole.result c.from_residual-in_err-write_whole.ensures.1 in
    let input = g.R.Read.remaining c.args.input.now.device in
    let old = g.W.Write.contents c.args.output.now.device in
    let new = g.W.Write.contents c.write_whole.new.self.device in
    let texts = g.T.PlanText.is_text c.args.asked.now in
    let without = g.T.PlanText.is_without c.args.asked.now in
    let unread = c.plan_in.new.input.failed in
    subst (IsEnd texts without unread input old new) (sym (told.1 ∙ ap Err told.2))
    (cut texts without unread input old new (plan_view c.in_ok-plan.plan) c.in_ok-text.text.items (read_well unread c.in_ok-plan.plan c.in_ok-plan.ensures.told)
    c.in_ok-plan.ensures.ok c.in_ok-text.ensures.ok (subst (AppendsFront old new) c.as_slice.ensures.value c.in_err-write_whole.ensures.err))

pub returns-clause-end : goal.returns-clause-end
returns-clause-end g c =
    let input = g.R.Read.remaining c.args.input.now.device in
    let old = g.W.Write.contents c.args.output.now.device in
    let new = g.W.Write.contents c.write_whole.new.self.device in
    printed (g.T.PlanText.is_text c.args.asked.now) (g.T.PlanText.is_without c.args.asked.now) c.plan_in.new.input.failed input old new (plan_view c.in_ok-plan.plan) c.in_ok-text.text.items
    c.in_ok-plan.ensures.ok c.in_ok-text.ensures.ok (subst (Appends old new) c.as_slice.ensures.value c.in_ok-write_whole.ensures.ok)
