use Rattle.std.proofs.Common.{Some, None, refl, sym, subst}
use Rattle.host_ledger.specs.View.{world_of}
use Rattle.run_json.proofs.RowRuns.{row_read, IsSoFar, so_far_none, so_far_more, so_far_all}
use Rattle.run_json.proofs.rows.rows_of.Goals as goal

pub loop-row-init : goal.loop-row-init
loop-row-init g c = so_far_none (world_of c.args.host.now) c.args.build c.new-items.result.items c.new-items.ensures.items

pub loop-row-preserved : goal.loop-row-preserved
loop-row-preserved g c =
    let world = world_of c.args.host.now in
    let build = c.args.build in
    let row = c.in-Some.row in
    let next = c.loop-row.next in
    let new = c.push.new.self.items in
    subst (λ ipa. IsSoFar world build ipa new) (sym c.count_same-count.ensures.next)
    (so_far_more world build next c.loop-row.items.items c.push_rows_above.new.items.items new
    (record { row = row; count = c.count_same-count.result.0 }) c.loop-row.invariant
    (sym (row_read world build (Some row) next next c.last.result 3 c.in-Some.ensures.value refl c.last.ensures))
    c.count_same-count.ensures.run c.in_ok-push_rows_above.ensures c.in_ok-push.ensures.items)

pub returns : goal.returns
returns g c =
    let world = world_of c.args.host.now in
    let build = c.args.build in
    let next = c.loop-row.next in
    so_far_all world build next c.loop-row.items.items c.loop-row.invariant
    (sym (row_read world build None next next c.last.result 3 c.in_default.ensures.value refl c.last.ensures))
