use Rattle.std.proofs.Common.{◌≡◌, None, set, length, refl, sym, ap, ◌∙◌, arith, inl, inr}
use Rattle.std.proofs.lemmas.Bool.{OnTrue_at}
use Rattle.std.proofs.lemmas.List.{length-set}
use Rattle.granule_addr.specs.Page.{zero_page}
use Rattle.rtt.specs.declared.granule.Granule.{Granule}
use Rattle.page_arena.specs.Words.{length-with_word}
use Rattle.realm_model.specs.declared.states.GranuleState.TheVariants.{Delegated}
use Rattle.realm_model.specs.Rows.{Row, is_assigned, unmapped_ripas}
use Rattle.rtt.specs.Tables.{rows}
use Rattle.rtt.specs.Word.{entry_word}
use Rattle.rtt.proofs.DataPages.{Unmapped, ripas_after_unmap}
use Rattle.rtt.proofs.EntryKinds.{data_of-none, data_of-leads}
use Rattle.rtt.proofs.FoundRows.{row_passed, row_refused}
use Rattle.rtt.proofs.Kept.{data_used, page_inside, page_taken, table_beside, keeps_moved}
use Rattle.rtt.proofs.OtherRealms.{all_kept}
use Rattle.rtt.proofs.Written.{IsEntry-read}
use Rattle.rtt.proofs.tables.Tables.unmap.Given.{Over}
use Rattle.rtt.proofs.tables.Tables.unmap.Goals as goal

pub find-table-requires : goal.find-table-requires
find-table-requires g c = record { as_many = c.requires.backed.as_many; tables = c.requires.tables; inside = c.requires.inside }

pub fill-requires : goal.fill-requires
fill-requires g c =
    let lies = c.find-table.ensures.page c.in-Some.page (sym c.in-Some.ensures) in
    record { inside = page_inside c.requires.backed lies; taken = page_taken c.requires.backed lies data_used }

pub write-requires : goal.write-requires
write-requires g c =
    let ready = table_beside c.requires.backed c.in-Some.page zero_page c.find-table.result.level c.args.ipa c.find-table.result.table
    c.fill.ensures.filled c.fill.ensures.flags c.requires.tables c.find-table.ensures.inside c.find-table.ensures.table c.find-table.ensures.within in
    record { inside = ready.0; taken = ready.1; index = c.index_at.ensures.below }

pub shift-requires : goal.shift-requires
shift-requires g c = (c.find-table.ensures.page c.in-Some.page (sym c.in-Some.ensures)).inside

granules_are : (g : Over) (c : goal.After-shift g) → c.shift.new.self ≡ set c.args.granules.now c.in-Some.page (record { state = Delegated; realm = None })
granules_are g c =
    let lies = c.find-table.ensures.page c.in-Some.page (sym c.in-Some.ensures) in
    OnTrue_at (c.shift.ensures.answer.1 (ap (λ (x : Granule). x.state) lies.is)) c.shift.ensures.shifted

done : (g : Over) (c : goal.After-shift g) → Unmapped (g.S.PageStore.page_bytes c.args.store.now) (g.S.PageStore.page_bytes c.write.new.store)
    c.args.granules.now c.shift.new.self c.args.self.now.rd c.args.self.now.root c.args.ipa
done g c =
    let lies = c.find-table.ensures.page c.in-Some.page (sym c.in-Some.ensures) in
    ripas_after_unmap (g.S.PageStore.page_bytes c.args.store.now) (g.S.PageStore.page_bytes c.fill.new.self) (g.S.PageStore.page_bytes c.write.new.store)
    (g.S.PageStore.free_flags c.args.store.now) (g.S.PageStore.free_flags c.fill.new.self)
    c.args.granules.now c.shift.new.self c.args.self.now.rd c.args.self.now.root c.find-table.result.level c.args.ipa c.find-table.result.table
    c.index_at.result c.in-Some.page c.find-table.result.entry c.unassigned.result c.ripas_after_unmap-ripas.result
    (g.met.S.PageStore.sized c.fill.new.self) c.requires.backed c.requires.tables c.find-table.ensures.inside (omega arith) c.find-table.ensures.table
    c.find-table.ensures.within c.index_at.ensures.value
    c.find-table.ensures.entry c.in-Some.ensures lies (c.ripas_after_unmap-ripas.ensures ∙ ap (λ (r : Row). unmapped_ripas r.ripas) c.entry.view_is) c.unassigned.ensures
    c.fill.ensures.filled c.write.ensures.written (granules_are g c)

pub returns : goal.returns
returns g c =
    let pages = g.S.PageStore.page_bytes c.args.store.now in
    let mid = g.S.PageStore.page_bytes c.fill.new.self in
    let is = done g c in
    let as_many = ap length c.write.ensures.written ∙ length-with_word mid c.find-table.result.table c.index_at.result (entry_word c.unassigned.result)
    ∙ ap length c.fill.ensures.filled ∙ length-set pages c.in-Some.page zero_page in
    let lies = c.find-table.ensures.page c.in-Some.page (sym c.in-Some.ensures) in
    record {
      answer = row_passed (rows pages c.args.self.now.root) c.args.ipa 3 c.last.result c.find-table.result.level c.find-table.result.entry
          c.last.ensures c.find-table.ensures.walk is_assigned
          (omega arith) (ap is_assigned (data_of-leads c.find-table.result.entry c.in-Some.page (sym c.in-Some.ensures)));
      rows = is.rows_are;
      moved = is.moved;
      cleared = is.cleared;
      unchanged = tt;
      others = is.others;
      keeps = keeps_moved c.requires.backed c.in-Some.page _ as_many (c.write.ensures.flags ∙ c.fill.ensures.flags) lies data_used (granules_are g c) is.tables is.other_realms;
    }

pub returns-then-number-ne3 : goal.returns-then-number-ne3
returns-then-number-ne3 g c = record {
  answer = row_refused (rows (g.S.PageStore.page_bytes c.args.store.now) c.args.self.now.root) c.args.ipa 3 c.last.result c.find-table.result.level
      c.find-table.result.entry c.last.ensures c.find-table.ensures.walk is_assigned (inl (omega arith));
  rows = tt;
  moved = tt;
  cleared = tt;
  unchanged = (refl, refl);
  others = λ granule more apart. refl;
  keeps = all_kept c.requires.backed c.requires.tables;
}

pub returns-in_default : goal.returns-in_default
returns-in_default g c = record {
  answer = row_refused (rows (g.S.PageStore.page_bytes c.args.store.now) c.args.self.now.root) c.args.ipa 3 c.last.result c.find-table.result.level
      c.find-table.result.entry c.last.ensures c.find-table.ensures.walk is_assigned
      (inr (data_of-none c.find-table.result.entry (IsEntry-read _ _ _ c.find-table.ensures.entry) (sym c.page.ensures ∙ c.in_default.is)));
  rows = tt;
  moved = tt;
  cleared = tt;
  unchanged = (refl, refl);
  others = λ granule more apart. refl;
  keeps = all_kept c.requires.backed c.requires.tables;
}
