use Rattle.std.proofs.Common.{ℕ, subst}
use Rattle.rmi_monitor.specs.View.{IsOnRec}
use Rattle.realm_model.specs.Command.Rec.{guest_write}
use Rattle.rmi_monitor.proofs.OnRecs.{done}
use Rattle.rmi_monitor.proofs.realm_operation.on_rec.Goals as goal

pub returns-in-UnRec : goal.returns-in-UnRec
returns-in-UnRec g c = done c.args.monitor.now _ c.rec_destroy.result c.args.rd c.args.rec c.args.act.now _ c.in-UnRec.is c.requires.kind c.requires.ready.rec c.rec_destroy.ensures

pub returns-in-Enter : goal.returns-in-Enter
returns-in-Enter g c = done c.args.monitor.now _ c.rec_enter.result c.args.rd c.args.rec c.args.act.now _ c.in-Enter.is c.requires.kind c.requires.ready.rec c.rec_enter.ensures

pub returns-in-Exit : goal.returns-in-Exit
returns-in-Exit g c = done c.args.monitor.now _ c.rec_exit.result c.args.rd c.args.rec c.args.act.now _ c.in-Exit.is c.requires.kind c.requires.ready.rec c.rec_exit.ensures

pub returns-in-Poke : goal.returns-in-Poke
returns-in-Poke g c =
    let on = subst (λ (ipa : ℕ). IsOnRec (λ rd n. guest_write rd n ipa c.in-Poke.offset c.in-Poke.value) c.args.monitor.now c.args.rec c.guest_write.result c.guest_write.new.self)
    c.number.ensures.value c.guest_write.ensures in
    done c.args.monitor.now _ c.guest_write.result c.args.rd c.args.rec c.args.act.now _ c.in-Poke.is c.requires.kind c.requires.ready.rec on
