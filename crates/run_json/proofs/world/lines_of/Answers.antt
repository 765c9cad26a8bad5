use Rattle.std.proofs.Common.{[], ap, ◌∙◌}
use Rattle.std.proofs.lemmas.List.{take_all}
use Rattle.realm_model.specs.declared.act.Act.{Act}
use Rattle.run_json.specs.Worlds.{open_lines}
use Rattle.run_json.specs.declared.world.EventLine.{EventLine}
use Rattle.run_json.proofs.Lists.{one_element_more}
use Rattle.run_json.proofs.world.lines_of.Goals as goal

pub loop-act-preserved : goal.loop-act-preserved
loop-act-preserved c =
    let line : Act → EventLine = λ act. record { 0 = record { build = c.args.build; act = act } } in
    one_element_more line c.args.acts.now c.loop-act.act-index c.act-item.result (line c.clone-act.result) [] c.loop-act.items.items c.push.new.self.items
    c.loop-act-test.true c.act-item.is c.loop-act.invariant c.in_ok-push.ensures.items (ap line c.clone-act.ensures)

pub returns : goal.returns
returns c = c.loop-act.invariant ∙ ap (open_lines c.args.build) (take_all c.loop-act.act-index c.args.acts.now c.loop-act-test.false)
