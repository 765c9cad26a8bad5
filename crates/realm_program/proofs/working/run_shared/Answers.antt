use Rattle.std.proofs.Common.{◌++◌, string_bytes, ap, ◌∙◌, sym, subst}
use Rattle.std.specs.List.{flat_map}
use Rattle.std.specs.Prelude.{All}
use Rattle.realm_plan.specs.PlanView.{plan_view}
use Rattle.plan_replay.specs.Run.{map_text}
use Rattle.realm_program.specs.Fitting.{ReportFits}
use Rattle.realm_program.specs.Text.{report_lines, audit_line}
use Rattle.realm_program.proofs.Ended.{not_closed, misfit, is_text, with_both, without_text}
use Rattle.realm_program.proofs.working.run_shared.Goals as goal

pub returns-in_default-clause-err : goal.returns-in_default-clause-err
returns-in_default-clause-err g c =
    not_closed (plan_view c.args.plan.now) (g.G.Gate.passes c.args.gate.now) (g.G.Gate.stops c.args.gate.now) g.L.Ledgers.opened _ _ c.in_ok-seats.ensures.ok
    _ c.in_default.ensures.host c.in_default.field-0.0 c.in_default.ensures.fault

pub returns-clause-err : goal.returns-clause-err
returns-clause-err g c =
    let plan = plan_view c.args.plan.now in
    let passes = g.G.Gate.passes c.args.gate.now in
    let stops = g.G.Gate.stops c.args.gate.now in
    let fits = ReportFits c.in-Ok.host.history in
    without_text plan passes stops g.L.Ledgers.opened c.audited_text_of.result _
    (λ bad. misfit plan passes stops g.L.Ledgers.opened _ _ c.in_ok-seats.ensures.ok c.in-Ok.host c.in-Ok.ensures.host
    (λ fit. bad (subst (All fits) (sym c.as_slice.ensures.value) fit)))
    c.audited_text_of.ensures.err

pub returns-clause-ok : goal.returns-clause-ok
returns-clause-ok g c =
    let plan = plan_view c.args.plan.now in
    let host = c.in-Ok.host in
    with_both c.audited_text_of.result
    (λ text fit whole. is_text plan (g.G.Gate.passes c.args.gate.now) (g.G.Gate.stops c.args.gate.now) g.L.Ledgers.opened _ _ c.in_ok-seats.ensures.ok
    host c.in-Ok.ensures.host (string_bytes text) c.in-Ok.ensures.closed
    (subst (All (ReportFits host.history)) c.as_slice.ensures.value fit)
    (whole ∙ ap (λ rs. flat_map (report_lines plan) rs ++ (map_text host ++ audit_line)) c.as_slice.ensures.value))
    c.audited_text_of.ensures.fit c.audited_text_of.ensures.text
