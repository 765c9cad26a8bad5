use Rattle.std.proofs.Common.{ℕ, List, Err, ap, sym, ◌∙◌, subst}
use Rattle.std.specs.Io.KnownBytes.{Appends}
use Rattle.std.proofs.lemmas.Result.{err_from_is_err_and}
use Rattle.realm_plan.specs.Plan.{plan_of}
use Rattle.realm_plan.specs.PlanView.{plan_view}
use Rattle.checked_io.specs.Whole.{AppendsFront}
use Rattle.checked_io.proofs.Read.{keeps_same}
use Rattle.view_program.specs.Checked.{GivesNoPlan}
use Rattle.view_program.specs.Printed.{IsPlanEnd}
use Rattle.view_program.proofs.CheckEnds.{bytes_read_well}
use Rattle.view_program.proofs.PlanEnds.{unread_plan, no_plan, cut, input_is, text_from}
use Rattle.view_program.proofs.printing.print.Goals as goal

pub returns-in_err-bytes-clause-end : goal.returns-in_err-bytes-clause-end
returns-in_err-bytes-clause-end g c =
    let told = err_from_is_err_and c.from_residual.result c.from_residual.ensures.1 in
    let input = g.R.Read.remaining c.args.input.now.device in
    let output = g.W.Write.contents c.args.output.now.device in
    let texts = g.T.ViewText.is_text c.args.asked.now in
    let without = g.T.ViewText.is_without c.args.asked.now in
    let unread = c.read_whole.new.input.failed in
    subst (IsPlanEnd texts without c.args.source.now unread input output output) (sym (told.1 ∙ ap Err told.2))
    (unread_plan texts without c.args.source.now unread input output c.in_err-bytes.field-0.0 (λ is. c.in_err-bytes.ensures.told.1 (ap Err is)))

pub returns-in_err-plan-clause-end : goal.returns-in_err-plan-clause-end
returns-in_err-plan-clause-end g c =
    let told = err_from_is_err_and c.from_residual-in_err-plan.result c.from_residual-in_err-plan.ensures.1 in
    let input = g.R.Read.remaining c.args.input.now.device in
    let output = g.W.Write.contents c.args.output.now.device in
    let texts = g.T.ViewText.is_text c.args.asked.now in
    let without = g.T.ViewText.is_without c.args.asked.now in
    let unread = c.read_whole.new.input.failed in
    subst (IsPlanEnd texts without c.args.source.now unread input output output) (sym (told.1 ∙ ap Err told.2))
    (no_plan texts without c.args.source.now unread input output c.in_ok-bytes.bytes.items c.in_err-plan.field-0.0 c.in_ok-bytes.ensures.bytes
    (subst (λ (bytes : List ℕ). GivesNoPlan c.args.source.now bytes c.in_err-plan.field-0.0) c.deref.ensures.value c.in_err-plan.ensures.err))

pub returns-in_err-text-clause-end : goal.returns-in_err-text-clause-end
returns-in_err-text-clause-end g c =
    let told = err_from_is_err_and c.from_residual-in_err-text.result c.from_residual-in_err-text.ensures.1 in
    let input = g.R.Read.remaining c.args.input.now.device in
    let output = g.W.Write.contents c.args.output.now.device in
    let texts = g.T.ViewText.is_text c.args.asked.now in
    let without = g.T.ViewText.is_without c.args.asked.now in
    let unread = c.read_whole.new.input.failed in
    subst (IsPlanEnd texts without c.args.source.now unread input output output) (sym (told.1 ∙ ap Err told.2)) (
      record {
        plan = plan_view c.in_ok-plan.plan;
        of_input = input_is input c.in_ok-bytes.bytes.items c.deref.result.now (plan_view c.in_ok-plan.plan) c.in_ok-bytes.ensures.bytes c.deref.ensures.value c.in_ok-plan.ensures.ok;
        no_text = c.in_err-text.ensures.err;
      },
      keeps_same output,
    )

pub returns-in_err-write_whole-clause-end : goal.returns-in_err-write_whole-clause-end
returns-in_err-write_whole-clause-end g c =
    let told = err_from_is_err_and c.from_residual-in_err-write_whole.result c.from_residual-in_err-write_whole.ensures.1 in
    let input = g.R.Read.remaining c.args.input.now.device in
    let old = g.W.Write.contents c.args.output.now.device in
    let new = g.W.Write.contents c.write_whole.new.self.device in
    let texts = g.T.ViewText.is_text c.args.asked.now in
    let without = g.T.ViewText.is_without c.args.asked.now in
    let unread = c.read_whole.new.input.failed in
    subst (IsPlanEnd texts without c.args.source.now unread input old new) (sym (told.1 ∙ ap Err told.2))
    (cut texts without c.args.source.now unread input old new (plan_view c.in_ok-plan.plan) c.in_ok-text.text.items (bytes_read_well unread c.in_ok-bytes.bytes c.in_ok-bytes.ensures.told)
    (input_is input c.in_ok-bytes.bytes.items c.deref.result.now (plan_view c.in_ok-plan.plan) c.in_ok-bytes.ensures.bytes c.deref.ensures.value c.in_ok-plan.ensures.ok)
    (text_from texts input c.in_ok-bytes.bytes.items c.deref-2.result.now (plan_view c.in_ok-plan.plan) c.in_ok-text.text.items c.in_ok-bytes.ensures.bytes
    c.deref-2.ensures.value (ap plan_of (sym c.deref.ensures.value) ∙ c.in_ok-plan.ensures.ok) c.in_ok-text.ensures.ok)
    (subst (AppendsFront old new) c.as_slice.ensures.value c.in_err-write_whole.ensures.err))

pub returns-clause-end : goal.returns-clause-end
returns-clause-end g c =
    let input = g.R.Read.remaining c.args.input.now.device in
    let old = g.W.Write.contents c.args.output.now.device in
    let new = g.W.Write.contents c.write_whole.new.self.device in
    record {
      text = c.in_ok-text.text.items;
      text_of = record {
        plan = plan_view c.in_ok-plan.plan;
        of_input = input_is input c.in_ok-bytes.bytes.items c.deref.result.now (plan_view c.in_ok-plan.plan) c.in_ok-bytes.ensures.bytes c.deref.ensures.value c.in_ok-plan.ensures.ok;
        is_text = text_from (g.T.ViewText.is_text c.args.asked.now) input c.in_ok-bytes.bytes.items c.deref-2.result.now (plan_view c.in_ok-plan.plan) c.in_ok-text.text.items
            c.in_ok-bytes.ensures.bytes c.deref-2.ensures.value (ap plan_of (sym c.deref.ensures.value) ∙ c.in_ok-plan.ensures.ok) c.in_ok-text.ensures.ok;
      };
      written = subst (Appends old new) c.as_slice.ensures.value c.in_ok-write_whole.ensures.ok;
    }
