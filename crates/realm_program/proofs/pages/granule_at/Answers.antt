use Rattle.std.proofs.Common.{sym, ◌∙◌, arith, rules}
use Rattle.realm_program.proofs.Held.{granule_here, granule_later}
use Rattle.realm_program.proofs.pages.granule_at.Goals as goal

pub returns-then-left-count : goal.returns-then-left-count
returns-then-left-count c =
    c.held_granule.ensures
    ∙ sym (granule_here c.args.opened.now c.loop-act.act-index c.act-item.result (search (rules, arith)) c.act-item.is c.loop-act.left (omega arith))
    ∙ sym c.loop-act.invariant

pub loop-act-preserved : goal.loop-act-preserved
loop-act-preserved c =
    c.loop-act.invariant
    ∙ granule_later c.args.opened.now c.loop-act.act-index c.act-item.result (search (rules, arith)) c.act-item.is c.loop-act.left _ (omega arith)
