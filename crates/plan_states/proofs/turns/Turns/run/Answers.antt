use Rattle.std.proofs.Common.{All, Vec, Global, sym, subst, ◌∙◌}
use Rattle.realm_plan.specs.PlanView.{plan_view}
use Rattle.plan_states.specs.Reached.{IsEndOfRun}
use Rattle.plan_states.specs.declared.step_end.EndOfStep.{EndOfStep}
use Rattle.plan_states.proofs.Reached.{ends_more}
use Rattle.plan_states.proofs.turns.Turns.run.Goals as goal

pub returns-clause-ok : goal.returns-clause-ok
returns-clause-ok c =
    let plan = plan_view c.args.plan.now in
    subst (λ (ends : Vec EndOfStep Global). All (IsEndOfRun plan) ends.items) (sym (c.in_ok-note.ensures ∙ c.in_ok-did.ensures))
    (ends_more plan c.args.schedule.now c.in-Ok.ensures.ok.at c.in-Ok.ensures.ok.to c.args.build c.in-Ok.taken
    c.args.self.now.ends.items c.place_for.new.self.ends.items c.in-Ok.ensures.ok.reached c.in-Ok.ensures.ok.is_taken
    c.in_ok-end.ensures c.requires)
