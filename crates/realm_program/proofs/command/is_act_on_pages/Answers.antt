use Rattle.std.specs.List.{flat_map}
use Rattle.realm_model.specs.History.{pages_held}
use Rattle.realm_program.proofs.Done.{made_same, made_none}
use Rattle.realm_program.proofs.command.is_act_on_pages.Goals as goal

pub returns-in-Some-act_of : goal.returns-in-Some-act_of
returns-in-Some-act_of c =
    made_same (flat_map pages_held c.args.opened.now) c.args.cmd.now c.args.act.now c.in-Some.granules.items c.allocated_for.result c.act_of.result
    c.in-Some.ensures.some c.allocated_for.ensures c.act_of.ensures.act c.in-Some-act_of.made c.is_same.result c.in-Some-act_of.is c.is_same.ensures

pub returns-in-None : goal.returns-in-None
returns-in-None c =
    made_none (flat_map pages_held c.args.opened.now) c.args.cmd.now c.args.act.now c.in-Some.granules.items c.allocated_for.result c.act_of.result
    c.in-Some.ensures.some c.allocated_for.ensures c.act_of.ensures.act c.in-None.is
