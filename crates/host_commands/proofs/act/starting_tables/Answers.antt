use Rattle.std.proofs.Common.{◌∷◌, [], ◌++◌, sym, ap, ◌∙◌, arith}
use Rattle.std.specs.List.{range_with_len}
use Rattle.std.proofs.lemmas.List.{take_all, take_more}
use Rattle.host_commands.proofs.Tables.{are_tables, too_few, not_adjacent}
use Rattle.granule_addr.proofs.Runs.{range_with_len_more}
use Rattle.host_commands.proofs.act.starting_tables.Goals as goal

pub returns-then-tables-start_count : goal.returns-then-tables-start_count
returns-then-tables-start_count c =
    too_few c.args.width c.args.tables.now c.in_ok-first.first c.in_ok-width.width c.in_ok-first.ensures c.in_ok-width.ensures
    (λ same. let other = c.if-tables-start_count.true in let count = c.start_count.ensures.value in absurd (omega arith))

pub returns-then-number : goal.returns-then-number
returns-then-number c =
    not_adjacent c.args.width c.args.tables.now c.in_ok-first.first c.in_ok-width.width c.in_ok-first.ensures c.in_ok-width.ensures c.tables.table-index c.table-item.result
    (omega arith) c.table-item.is (λ same. let other = c.if-number.true in let at = c.tables.invariant.number in absurd (omega arith))

pub tables-preserved : goal.tables-preserved
tables-preserved c = record {
  run =
      take_more c.args.tables.now c.tables.table-index c.table-item.result c.tables-test.true
      ∙ (λ i. c.tables.invariant.run i ++ sym c.table-item.is i ∷ [])
      ∙ sym (range_with_len_more c.in_ok-first.first c.tables.table-index c.table-item.result (omega arith));
  number = omega arith;
}

pub returns : goal.returns
returns c = are_tables c.args.width c.args.tables.now c.in_ok-first.first c.in_ok-width.width c.in_ok-first.ensures c.in_ok-width.ensures (
    sym (take_all c.tables.table-index c.args.tables.now c.tables-test.false)
    ∙ c.tables.invariant.run
    ∙ ap (range_with_len c.in_ok-first.first) (let count = c.start_count.ensures.value in omega arith)
    )
