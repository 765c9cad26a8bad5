use Rattle.std.proofs.Common.{ℕ, List, Err, ap, sym, ◌∙◌, subst}
use Rattle.std.specs.Io.KnownBytes.{Appends}
use Rattle.std.proofs.lemmas.Result.{err_from_is_err_and}
use Rattle.realm_plan.specs.Plan.{plan_of}
use Rattle.realm_plan.specs.PlanView.{plan_view}
use Rattle.checked_io.specs.Whole.{AppendsFront}
use Rattle.view_program.specs.Checked.{GivesNoPlan}
use Rattle.view_program.specs.Reordered.{IsReorderedText, IsNotReordered, IsReorderEnd}
use Rattle.view_program.proofs.CheckEnds.{bytes_read_well}
use Rattle.view_program.proofs.ReorderEnds.{unread_order, no_plan_to_order, not_reordered, reordered_in, cut_reordered}
use Rattle.view_program.proofs.plan_order.reorder.Goals as goal

pub returns-in_err-bytes-clause-end : goal.returns-in_err-bytes-clause-end
returns-in_err-bytes-clause-end g c =
    let told = err_from_is_err_and c.from_residual.result c.from_residual.ensures.1 in
    let input = g.R.Read.remaining c.args.input.now.device in
    let output = g.W.Write.contents c.args.output.now.device in
    let unread = c.read_whole.new.input.failed in
    subst (IsReorderEnd c.args.turns c.args.source.now unread input output output) (sym (told.1 ∙ ap Err told.2))
    (unread_order c.args.turns c.args.source.now unread input output c.in_err-bytes.field-0.0 (λ is. c.in_err-bytes.ensures.told.1 (ap Err is)))

pub returns-in_err-plan-clause-end : goal.returns-in_err-plan-clause-end
returns-in_err-plan-clause-end g c =
    let told = err_from_is_err_and c.from_residual-in_err-plan.result c.from_residual-in_err-plan.ensures.1 in
    let input = g.R.Read.remaining c.args.input.now.device in
    let output = g.W.Write.contents c.args.output.now.device in
    let unread = c.read_whole.new.input.failed in
    subst (IsReorderEnd c.args.turns c.args.source.now unread input output output) (sym (told.1 ∙ ap Err told.2))
    (no_plan_to_order c.args.turns c.args.source.now unread input output c.in_ok-bytes.bytes.items c.in_err-plan.field-0.0 c.in_ok-bytes.ensures.bytes
    (subst (λ (bytes : List ℕ). GivesNoPlan c.args.source.now bytes c.in_err-plan.field-0.0) c.deref.ensures.value c.in_err-plan.ensures.err))

pub returns-in_err-text-clause-end : goal.returns-in_err-text-clause-end
returns-in_err-text-clause-end g c =
    let told = err_from_is_err_and c.from_residual-in_err-text.result c.from_residual-in_err-text.ensures.1 in
    let input = g.R.Read.remaining c.args.input.now.device in
    let output = g.W.Write.contents c.args.output.now.device in
    let unread = c.read_whole.new.input.failed in
    let plan = plan_view c.in_ok-plan.plan in
    subst (IsReorderEnd c.args.turns c.args.source.now unread input output output) (sym (told.1 ∙ ap Err told.2))
    (not_reordered c.args.turns c.args.source.now unread input output c.in_ok-bytes.bytes.items plan c.in_err-text.field-0.0 c.in_ok-bytes.ensures.bytes
    (ap plan_of (sym c.deref.ensures.value) ∙ c.in_ok-plan.ensures.ok)
    (subst (λ (bytes : List ℕ). IsNotReordered c.args.turns plan bytes c.in_err-text.field-0.0) c.deref-2.ensures.value c.in_err-text.ensures.err))

pub returns-in_err-write_whole-clause-end : goal.returns-in_err-write_whole-clause-end
returns-in_err-write_whole-clause-end g c =
    let told = err_from_is_err_and c.from_residual-in_err-write_whole.result c.from_residual-in_err-write_whole.ensures.1 in
    let input = g.R.Read.remaining c.args.input.now.device in
    let old = g.W.Write.contents c.args.output.now.device in
    let new = g.W.Write.contents c.write_whole.new.self.device in
    let unread = c.read_whole.new.input.failed in
    let plan = plan_view c.in_ok-plan.plan in
    let text = c.in_ok-text.text.items in
    subst (IsReorderEnd c.args.turns c.args.source.now unread input old new) (sym (told.1 ∙ ap Err told.2))
    (cut_reordered c.args.turns c.args.source.now unread input old new text (bytes_read_well unread c.in_ok-bytes.bytes c.in_ok-bytes.ensures.told)
    (reordered_in c.args.turns c.args.source.now unread input c.in_ok-bytes.bytes.items text plan c.in_ok-bytes.ensures.bytes
    (ap plan_of (sym c.deref.ensures.value) ∙ c.in_ok-plan.ensures.ok) c.in_ok-text.ensures.ok
    (subst (λ (bytes : List ℕ). IsReorderedText c.args.turns plan bytes text) c.deref-2.ensures.value c.in_ok-text.ensures.text))
    (subst (AppendsFront old new) c.deref-3.ensures.value c.in_err-write_whole.ensures.err))

pub returns-clause-end : goal.returns-clause-end
returns-clause-end g c =
    let input = g.R.Read.remaining c.args.input.now.device in
    let old = g.W.Write.contents c.args.output.now.device in
    let new = g.W.Write.contents c.write_whole.new.self.device in
    let unread = c.read_whole.new.input.failed in
    let plan = plan_view c.in_ok-plan.plan in
    let text = c.in_ok-text.text.items in
    record {
      text = text;
      is_text = reordered_in c.args.turns c.args.source.now unread input c.in_ok-bytes.bytes.items text plan c.in_ok-bytes.ensures.bytes
          (ap plan_of (sym c.deref.ensures.value) ∙ c.in_ok-plan.ensures.ok) c.in_ok-text.ensures.ok
          (subst (λ (bytes : List ℕ). IsReorderedText c.args.turns plan bytes text) c.deref-2.ensures.value c.in_ok-text.ensures.text);
      written = subst (Appends old new) c.deref-3.ensures.value c.in_ok-write_whole.ensures.ok;
    }
