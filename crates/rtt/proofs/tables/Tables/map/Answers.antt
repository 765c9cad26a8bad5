use Rattle.std.proofs.Common.{◌≡◌, Some, set, length, refl, sym, ap, arith, inl, inr, unwrap_or, ◌∙◌}
use Rattle.std.proofs.lemmas.Bool.{OnTrue_at}
use Rattle.std.proofs.lemmas.Option.{same_Some}
use Rattle.rtt.specs.declared.granule.Granule.{Granule}
use Rattle.page_arena.specs.Words.{length-with_word}
use Rattle.realm_model.specs.declared.states.GranuleState.TheVariants.{Data as InData}
use Rattle.realm_model.specs.declared.states.Ripas.{Ripas}
use Rattle.realm_model.specs.Rows.{Row, assigned, is_unassigned, put_row}
use Rattle.rtt.specs.Tables.{rows}
use Rattle.rtt.specs.Word.{entry_word}
use Rattle.rtt.proofs.DataPages.{Mapped, mapped}
use Rattle.rtt.proofs.FoundRows.{row_passed, row_refused}
use Rattle.rtt.proofs.Kept.{delegated_used, table_taken, keeps_moved}
use Rattle.rtt.proofs.OtherRealms.{all_kept}
use Rattle.rtt.proofs.tables.Tables.map.Given.{Over}
use Rattle.rtt.proofs.tables.Tables.map.Goals as goal
use Rattle.rtt.proofs.tables.Tables.map.Goals.{then-number-ne3-via-then-number-ne3, then-number-ne3-via-else-number-ne3+then-not-is_unassigned}

pub find-table-requires : goal.find-table-requires
find-table-requires g c = record { as_many = c.requires.backed.as_many; tables = c.requires.tables; inside = c.requires.inside }

pub write-requires : goal.write-requires
write-requires g c = record {
  inside = c.find-table.ensures.within;
  taken = table_taken c.requires.backed c.find-table.result.level c.args.ipa c.find-table.result.table c.requires.tables c.find-table.ensures.inside c.find-table.ensures.table;
  index = c.index_at.ensures.below;
}

pub shift-requires : goal.shift-requires
shift-requires g c = c.requires.delegated.inside

granules_are : (g : Over) (c : goal.After-shift g) → c.shift.new.self ≡ set c.args.granules.now c.args.page (record { state = InData; realm = Some c.args.self.now.rd })
granules_are g c = OnTrue_at (c.shift.ensures.answer.1 (ap (λ (x : Granule). x.state) c.requires.delegated.is)) c.shift.ensures.shifted

done : (g : Over) (c : goal.After-shift g)
    → Mapped (g.S.PageStore.page_bytes c.args.store.now) (g.S.PageStore.page_bytes c.write.new.store) c.args.granules.now c.shift.new.self c.args.self.now.rd c.args.self.now.root c.args.ipa
    c.find-table.result.entry (assigned c.unwrap_or-ripas.result c.args.page)
done g c =
    mapped (g.S.PageStore.page_bytes c.args.store.now) (g.S.PageStore.page_bytes c.write.new.store) (g.S.PageStore.free_flags c.args.store.now) c.args.granules.now c.shift.new.self
    c.args.self.now.rd c.args.self.now.root c.find-table.result.level c.args.ipa c.find-table.result.table c.index_at.result c.args.page c.unwrap_or-ripas.result
    c.find-table.result.entry c.assigned.result
    (g.met.S.PageStore.sized c.args.store.now) c.requires.backed c.requires.tables c.find-table.ensures.inside (omega arith) c.find-table.ensures.table
    c.find-table.ensures.within c.index_at.ensures.value
    c.find-table.ensures.entry (sym c.if-not-is_unassigned.ensures) c.requires.delegated c.assigned.ensures c.write.ensures.written (granules_are g c)

pub returns : goal.returns
returns g c =
    let pages = g.S.PageStore.page_bytes c.args.store.now in
    let is = done g c in
    let as_many = ap length c.write.ensures.written ∙ length-with_word pages c.find-table.result.table c.index_at.result (entry_word c.assigned.result) in
    record {
      answer = row_passed (rows pages c.args.self.now.root) c.args.ipa 3 c.last.result c.find-table.result.level c.find-table.result.entry
          c.last.ensures c.find-table.ensures.walk is_unassigned (omega arith) (sym c.if-not-is_unassigned.ensures);
      rows = λ row at. is.rows_are
          ∙ ap (λ (r : Ripas). put_row (rows pages c.args.self.now.root) 3 c.args.ipa (assigned r c.args.page))
          (c.unwrap_or-ripas.ensures ∙ ap (λ (r : Row). unwrap_or c.args.ripas r.ripas) (c.entry.view_is ∙ same_Some _ _ (sym is.was ∙ at)));
      moved = granules_are g c;
      unchanged = tt;
      others = is.others;
      keeps = keeps_moved c.requires.backed c.args.page _ as_many c.write.ensures.flags c.requires.delegated delegated_used (granules_are g c) is.tables is.other_realms;
    }

pub returns-then-number-ne3 : goal.returns-then-number-ne3
returns-then-number-ne3 g c = record {
  answer = row_refused (rows (g.S.PageStore.page_bytes c.args.store.now) c.args.self.now.root) c.args.ipa 3 c.last.result c.find-table.result.level
      c.find-table.result.entry c.last.ensures c.find-table.ensures.walk is_unassigned
      (elim c.then-number-ne3.branch [
        | then-number-ne3-via-then-number-ne3 w ↦ inl (omega arith)
        | then-number-ne3-via-else-number-ne3+then-not-is_unassigned w ↦ inr (sym w.if-not-is_unassigned.ensures)
      ]);
  rows = tt;
  moved = tt;
  unchanged = (refl, refl);
  others = λ granule apart. refl;
  keeps = all_kept c.requires.backed c.requires.tables;
}
