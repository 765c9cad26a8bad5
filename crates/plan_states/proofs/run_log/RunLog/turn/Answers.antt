use Rattle.std.proofs.Common.{Vec, Global, [], ◌∷◌, ◌++◌, refl, ap, ◌∙◌}
use Rattle.std.proofs.lemmas.Bool.{OnTrue_at}
use Rattle.realm_plan.specs.PlanView.{plan_view}
use Rattle.plan_states.specs.RunLog.{position_of}
use Rattle.plan_states.specs.declared.run_log.LoggedTurn.{LoggedTurn}
use Rattle.plan_states.proofs.RunLogs.{log_more, shown_after}
use Rattle.plan_states.proofs.run_log.RunLog.turn.Goals as goal

pub returns-clause-log : goal.returns-clause-log
returns-clause-log c =
    log_more (plan_view c.args.plan.now) c.args.graph.now.ends.items c.args.graph.now.held.items c.args.graph.now.maps.items c.args.self.now.snapshots.items
    c.number_of.new.self.snapshots.items c.args.self.now.turns.items c.in_ok-snapshot.snapshot c.args.label c.args.from c.in_ok-to.to
    (position_of c.args.running.now) (position_of c.take_labelled.new.running) c.requires.log.boot c.requires.log.turns c.requires.at
    (OnTrue_at c.if-not-branch.false c.in_ok-take_labelled.ensures) c.in_ok-snapshot.ensures.of_host c.in_ok-snapshot.ensures.builds
    c.in_ok-to.ensures.more c.in_ok-to.ensures.number
    (record { snapshots = c.number_of.new.self.snapshots; turns = c.push.new.items }) refl
    (c.in_ok-push.ensures
    ∙ ap (λ (turns : Vec LoggedTurn Global). turns.items ++ record { label = c.args.label; from = c.args.from; to = c.in_ok-to.to } ∷ []) c.in_ok-to.ensures.turns)

pub returns-clause-at : goal.returns-clause-at
returns-clause-at c =
    shown_after (plan_view c.args.plan.now) c.args.graph.now.ends.items c.args.graph.now.held.items c.args.graph.now.maps.items c.args.self.now.snapshots.items
    c.number_of.new.self.snapshots.items c.args.self.now.turns.items c.in_ok-snapshot.snapshot c.args.label c.args.from c.in_ok-to.to
    (position_of c.args.running.now) (position_of c.take_labelled.new.running) c.requires.log.boot c.requires.log.turns c.requires.at
    (OnTrue_at c.if-not-branch.false c.in_ok-take_labelled.ensures) c.in_ok-snapshot.ensures.of_host c.in_ok-snapshot.ensures.builds
    c.in_ok-to.ensures.more c.in_ok-to.ensures.number
