use Rattle.std.proofs.Common.{Some, Err, refl, ap, sym, subst, rules}
use Rattle.std.specs.List.{All}
use Rattle.std.proofs.lemmas.List.Elements.{All-tail}
use Rattle.realm_model.specs.declared.act.Act.{Act}
use Rattle.realm_model.specs.Act.{named}
use Rattle.realm_model.specs.Command.Check.{error_input}
use Rattle.rmi_monitor.specs.View.{IsTaken, Answers, after_command}
use Rattle.rmi_monitor.specs.Performing.{IsNumberReady, IsRecReadyAt}
use Rattle.realm_model.specs.Places.{rec_named}
use Rattle.rmi_monitor.proofs.OnRecs.{nothing_there}
use Rattle.rmi_monitor.proofs.realm_operation.in_realm.Goals as goal

pub rec_create-requires-clause-auxiliaries_taken : goal.rec_create-requires-clause-auxiliaries_taken
unfolding named
rec_create-requires-clause-auxiliaries_taken g c =
    let all = subst (λ (a : Act). All (IsTaken c.args.monitor.now) (named a)) c.in-Rec.is c.requires.ready.granules in
    subst (All (IsTaken c.args.monitor.now)) (ap (λ x. x.items) (sym c.clone_granules.ensures))
    (All-tail (IsTaken c.args.monitor.now) c.in-Rec.granule c.in-Rec.auxiliaries.items all)

pub rec_create-requires-clause-numbers : goal.rec_create-requires-clause-numbers
rec_create-requires-clause-numbers g c = subst (IsNumberReady c.args.monitor.now (Some c.args.rd)) c.in-Rec.is c.requires.ready.number

pub returns-in-None-clause-answer : goal.returns-in-None-clause-answer
returns-in-None-clause-answer g c =
    let none = subst (IsRecReadyAt c.args.monitor.now (Some c.args.rd) (rec_named c.args.act.now)) c.in-None.is c.requires.ready.rec in
    let is = nothing_there c.args.monitor.now c.args.rd c.args.act.now (search rules) none in
    subst (Answers {A = Unit {0}} (Err error_input)) (sym is) refl

pub returns-in-None-clause-machine : goal.returns-in-None-clause-machine
returns-in-None-clause-machine g c =
    let none = subst (IsRecReadyAt c.args.monitor.now (Some c.args.rd) (rec_named c.args.act.now)) c.in-None.is c.requires.ready.rec in
    ap (λ o. after_command o c.args.monitor.now) (sym (nothing_there c.args.monitor.now c.args.rd c.args.act.now (search rules) none))
