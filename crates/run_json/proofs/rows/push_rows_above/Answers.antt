use Rattle.std.proofs.Common.{◌≡◌, ◌++◌, ◌-◌, ℕ, sym, ◌∙◌, subst, arith}
use Rattle.std.specs.List.{flat_map, range_with_len}
use Rattle.host_ledger.specs.View.{world_of}
use Rattle.realm_host.specs.Readings.{row_at}
use Rattle.run_json.specs.Rows.{beginning_at}
use Rattle.run_json.proofs.Lists.{levels_more}
use Rattle.run_json.proofs.RowRuns.{some_of, row_read}
use Rattle.run_json.proofs.rows.push_rows_above.Goals as goal

pub loop-number-preserved : goal.loop-number-preserved
loop-number-preserved g c =
    let world = world_of c.args.host.now in
    let build = c.args.build in
    let first = c.args.row.now.first in
    let mid = c.loop-number.items.items in
    let new = c.push_beginning.new.items.items in
    let above = row_read world build c.row-above.result c.number.result first c.unwrap-level.result c.loop-number.number
    c.row-above.ensures.value c.number.ensures.value (some_of _ c.loop-number.number c.unwrap-level.result (sym c.unwrap-level.ensures ∙ c.new.ensures))
    in
    levels_more (λ level. beginning_at first (row_at world build first level)) c.loop-number.number c.args.items.now.items mid new
    c.loop-number.auto.number c.loop-number.invariant
    (subst (λ row. new ≡ mid ++ beginning_at first row) above c.in_ok-push_beginning.ensures)

pub returns : goal.returns
returns g c =
    let row = c.args.row.now in
    let beginning = λ (level : ℕ). beginning_at row.first (row_at (world_of c.args.host.now) c.args.build row.first level) in
    let all : c.loop-number.number ≡ row.level = omega arith in
    subst (λ number. c.loop-number.items.items ≡ c.args.items.now.items ++ flat_map beginning (range_with_len 1 (number - 1))) all
    c.loop-number.invariant
