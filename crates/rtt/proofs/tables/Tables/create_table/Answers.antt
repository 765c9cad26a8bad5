use Rattle.std.proofs.Common.{◌≡◌, false, Some, set, length, refl, sym, ap, ◌∙◌, arith, ◌-◌, inl, inr, not}
use Rattle.std.proofs.lemmas.Bool.{OnTrue_at}
use Rattle.rtt.specs.declared.granule.Granule.{Granule}
use Rattle.page_arena.specs.Words.{length-with_word}
use Rattle.realm_model.specs.declared.states.GranuleState.TheVariants.{Rtt as InRtt}
use Rattle.realm_model.specs.Rows.{Row, is_table}
use Rattle.realm_model.proofs.TablePlaces.{table_place}
use Rattle.rtt.specs.Tables.{rows}
use Rattle.rtt.specs.Word.{entry_word}
use Rattle.rtt.proofs.FoundRows.{row_passed, row_refused}
use Rattle.rtt.proofs.Kept.{delegated_used, page_inside, page_taken, table_ready, keeps_moved}
use Rattle.rtt.proofs.NewTables.{Created, created}
use Rattle.rtt.proofs.OtherRealms.{all_kept}
use Rattle.rtt.proofs.tables.Tables.create_table.Given.{Over}
use Rattle.rtt.proofs.tables.Tables.create_table.Goals as goal
use Rattle.rtt.proofs.tables.Tables.create_table.Goals.{then-number-via-then-number, then-number-via-else-number+then-is_table}

pub above-wanted-requires : goal.above-wanted-requires
above-wanted-requires g c = let low = (table_place c.args.ipa c.args.level c.requires.place).low in omega arith

pub find-upper-requires : goal.find-upper-requires
find-upper-requires g c = record { as_many = c.requires.backed.as_many; tables = c.requires.tables; inside = c.requires.inside }

pub fill_entries-requires : goal.fill_entries-requires
fill_entries-requires g c = record {
  inside = page_inside c.requires.backed c.requires.delegated;
  taken = page_taken c.requires.backed c.requires.delegated delegated_used;
  fits = omega arith;
}

pub write-requires : goal.write-requires
write-requires g c =
    let ready = table_ready c.requires.backed (g.S.PageStore.page_bytes c.fill_entries.new.store) (g.S.PageStore.free_flags c.fill_entries.new.store)
    c.find-upper.result.level c.args.ipa c.find-upper.result.table
    c.fill_entries.ensures.pages c.fill_entries.ensures.flags c.requires.tables c.find-upper.ensures.inside c.find-upper.ensures.table c.find-upper.ensures.within in
    record { inside = ready.0; taken = ready.1; index = c.index_at.ensures.below }

pub shift-requires : goal.shift-requires
shift-requires g c = c.requires.delegated.inside

granules_are : (g : Over) (c : goal.After-shift g) → c.shift.new.self ≡ set c.args.granules.now c.args.table (record { state = InRtt; realm = Some c.args.self.now.rd })
granules_are g c = OnTrue_at (c.shift.ensures.answer.1 (ap (λ (x : Granule). x.state) c.requires.delegated.is)) c.shift.ensures.shifted

done : (g : Over) (c : goal.After-shift g) → Created (g.S.PageStore.page_bytes c.args.store.now) (g.S.PageStore.page_bytes c.write.new.store)
    c.args.granules.now c.shift.new.self c.args.self.now.rd c.args.self.now.root c.args.level c.args.ipa c.args.table
done g c =
    let plain : is_table c.find-upper.result.entry ≡ false = sym c.if-is_table.ensures in
    created (g.S.PageStore.page_bytes c.args.store.now) (g.S.PageStore.page_bytes c.fill_entries.new.store) (g.S.PageStore.page_bytes c.write.new.store)
    (g.S.PageStore.free_flags c.args.store.now) (g.S.PageStore.free_flags c.fill_entries.new.store)
    c.args.granules.now c.shift.new.self c.args.self.now.rd c.args.self.now.root c.args.level c.above-wanted.result c.find-upper.result.level c.args.ipa
    c.find-upper.result.table c.index_at.result c.args.table
    c.find-upper.result.entry c.unassigned.result c.table.result c.entry.inside.ripas
    (g.met.S.PageStore.sized c.fill_entries.new.store) c.requires.backed c.requires.tables c.above-wanted.ensures c.requires.place
    c.find-upper.ensures.inside (omega arith) c.find-upper.ensures.table c.find-upper.ensures.within c.index_at.ensures.value c.find-upper.ensures.entry plain c.requires.delegated
    (ap (λ (r : Row). r.ripas) c.entry.view_is) c.unassigned.ensures c.table.ensures c.fill_entries.ensures.written c.fill_entries.ensures.others
    c.fill_entries.ensures.pages c.write.ensures.written (granules_are g c)

pub returns : goal.returns
returns g c =
    let is = done g c in
    let as_many = ap length c.write.ensures.written
    ∙ length-with_word (g.S.PageStore.page_bytes c.fill_entries.new.store) c.find-upper.result.table c.index_at.result (entry_word c.table.result) ∙ c.fill_entries.ensures.pages in
    let flags_are = c.write.ensures.flags ∙ c.fill_entries.ensures.flags in
    record {
      answer = row_passed (rows (g.S.PageStore.page_bytes c.args.store.now) c.args.self.now.root) c.args.ipa (c.args.level - 1) c.above-wanted.result c.find-upper.result.level
          c.find-upper.result.entry (omega arith) c.find-upper.ensures.walk (λ row. not (is_table row))
          (omega arith) (ap not (sym c.if-is_table.ensures));
      rows = is.rows_are;
      moved = granules_are g c;
      unchanged = tt;
      others = is.others;
      keeps = keeps_moved c.requires.backed c.args.table _ as_many flags_are c.requires.delegated delegated_used (granules_are g c) is.tables is.other_realms;
    }

pub returns-then-number : goal.returns-then-number
returns-then-number g c = record {
  answer = row_refused (rows (g.S.PageStore.page_bytes c.args.store.now) c.args.self.now.root) c.args.ipa (c.args.level - 1) c.above-wanted.result
      c.find-upper.result.level c.find-upper.result.entry (omega arith) c.find-upper.ensures.walk (λ row. not (is_table row))
      (elim c.then-number.branch [
        | then-number-via-then-number w ↦ inl (omega arith)
        | then-number-via-else-number+then-is_table w ↦ inr (ap not (sym w.if-is_table.ensures))
      ]);
  rows = tt;
  moved = tt;
  unchanged = (refl, refl);
  others = λ granule more apart. refl;
  keeps = all_kept c.requires.backed c.requires.tables;
}
