use Rattle.std.proofs.Common.{refl, sym, ap, ◌∙◌, ◌||◌}
use Rattle.std.specs.List.{list_any}
use Rattle.std.proofs.lemmas.List.{take_all}
use Rattle.std.proofs.lemmas.List.Folds.{list_any_more}
use Rattle.realm_model.specs.Running.{is_running}
use Rattle.realm_model.specs.World.{realm_of}
use Rattle.host_ledger.specs.View.{world_of}
use Rattle.realm_host.proofs.host.Host.is_any_running.Goals as goal

pub loop-act-init : goal.loop-act-init
loop-act-init g c = refl

pub loop-act-preserved : goal.loop-act-preserved
loop-act-preserved g c =
    list_any_more (is_running (realm_of c.args.build (world_of c.args.self.now))) c.args.acts.now c.loop-act.act-index c.act-item.result c.loop-act-test.true
    ∙ (λ i. c.loop-act.invariant i || (ap (is_running (realm_of c.args.build (world_of c.args.self.now))) (sym c.act-item.is) ∙ sym c.if-is_running.ensures) i)

pub returns : goal.returns
returns g c = sym (ap (list_any (is_running (realm_of c.args.build (world_of c.args.self.now)))) (sym (take_all c.loop-act.act-index c.args.acts.now c.loop-act-test.false)) ∙ c.loop-act.invariant)
