use Rattle.std.proofs.Common.{Err, ap, subst, string_bytes}
use Rattle.std.specs.Io.KnownBytes.{Appends}
use Rattle.std.proofs.lemmas.Result.{err_from_is_err_and}
use Rattle.realm_program.proofs.Orders.{schedule_is_not_revealed}
use Rattle.realm_plan.specs.PlanView.{plan_view}
use Rattle.realm_program.specs.Replay.{opening_host}
use Rattle.checked_io.specs.Whole.{AppendsFront}
use Rattle.realm_program.specs.Threads.{IsThreadsText, IsWithoutThreadsText}
use Rattle.realm_program.proofs.Faults.{threads_fault}
use Rattle.realm_program.proofs.Ends.{no_plan, no_text, read_well, printed, cut}
use Rattle.realm_program.proofs.running.run.Goals as goal

pub returns-in_err-plan-clause-end : goal.returns-in_err-plan-clause-end
returns-in_err-plan-clause-end g c =
    let told = err_from_is_err_and c.from_residual.result c.from_residual.ensures.1 in
    let passes = g.G.Gate.passes c.args.gate.now in
    let stops = g.G.Gate.stops c.args.gate.now in
    rw (told.1, told.2)
    (no_plan (IsThreadsText passes stops) (IsWithoutThreadsText passes stops) c.plan_in.new.input.failed (g.R.Read.remaining c.args.input.now.device) (g.W.Write.contents c.args.output.now.device)
    c.in_err-plan.field-0.0 c.in_err-plan.ensures.err (λ is. c.in_err-plan.ensures.told.1 (ap Err is)))

pub returns-in_err-text-clause-end : goal.returns-in_err-text-clause-end
returns-in_err-text-clause-end g c =
    let told = err_from_is_err_and c.from_residual-in_err-text.result c.from_residual-in_err-text.ensures.1 in
    let passes = g.G.Gate.passes c.args.gate.now in
    let stops = g.G.Gate.stops c.args.gate.now in
    let plan = plan_view c.in_ok-plan.plan in
    let fault = c.in_err-text.field-0.0 in
    let without = c.in_err-text.ensures.err in
    rw (told.1, told.2)
    (no_text (IsThreadsText passes stops) (IsWithoutThreadsText passes stops) c.plan_in.new.input.failed (g.R.Read.remaining c.args.input.now.device) (g.W.Write.contents c.args.output.now.device)
    plan fault c.in_ok-plan.ensures.ok without (threads_fault passes stops plan fault without))

pub returns-in_err-write_whole-clause-end : goal.returns-in_err-write_whole-clause-end
returns-in_err-write_whole-clause-end g c =
    let told = err_from_is_err_and c.from_residual-in_err-write_whole.result c.from_residual-in_err-write_whole.ensures.1 in
    let passes = g.G.Gate.passes c.args.gate.now in
    let stops = g.G.Gate.stops c.args.gate.now in
    let old = g.W.Write.contents c.args.output.now.device in
    let new = g.W.Write.contents c.write_whole.new.self.device in
    let unread = c.plan_in.new.input.failed in
    rw (told.1, told.2)
    (cut (IsThreadsText passes stops) (IsWithoutThreadsText passes stops) unread (g.R.Read.remaining c.args.input.now.device) old new (plan_view c.in_ok-plan.plan) (string_bytes c.in_ok-text.text)
    (read_well unread c.in_ok-plan.plan c.in_ok-plan.ensures.told) c.in_ok-plan.ensures.ok c.in_ok-text.ensures.ok
    (subst (AppendsFront old new) c.as_bytes.ensures.value c.in_err-write_whole.ensures.err))

pub returns-clause-end : goal.returns-clause-end
returns-clause-end g c =
    let passes = g.G.Gate.passes c.args.gate.now in
    let stops = g.G.Gate.stops c.args.gate.now in
    let old = g.W.Write.contents c.args.output.now.device in
    let new = g.W.Write.contents c.write_whole.new.self.device in
    printed (IsThreadsText passes stops) (IsWithoutThreadsText passes stops) c.plan_in.new.input.failed (g.R.Read.remaining c.args.input.now.device) old new
    (plan_view c.in_ok-plan.plan) (string_bytes c.in_ok-text.text)
    c.in_ok-plan.ensures.ok c.in_ok-text.ensures.ok (subst (Appends old new) c.as_bytes.ensures.value c.in_ok-write_whole.ensures.ok)

pub returns-in_err-plan-clause-order : goal.returns-in_err-plan-clause-order
returns-in_err-plan-clause-order g c = λ plan. schedule_is_not_revealed plan (g.G.Gate.passes c.args.gate.now) (g.G.Gate.stops c.args.gate.now) (opening_host plan)

pub returns-in_err-text-clause-order : goal.returns-in_err-text-clause-order
returns-in_err-text-clause-order g c = λ plan. schedule_is_not_revealed plan (g.G.Gate.passes c.args.gate.now) (g.G.Gate.stops c.args.gate.now) (opening_host plan)

pub returns-in_err-write_whole-clause-order : goal.returns-in_err-write_whole-clause-order
returns-in_err-write_whole-clause-order g c = λ plan. schedule_is_not_revealed plan (g.G.Gate.passes c.args.gate.now) (g.G.Gate.stops c.args.gate.now) (opening_host plan)

pub returns-clause-order : goal.returns-clause-order
returns-clause-order g c = λ plan. schedule_is_not_revealed plan (g.G.Gate.passes c.args.gate.now) (g.G.Gate.stops c.args.gate.now) (opening_host plan)
