use Rattle.std.proofs.Common.{true, false, refl, arith, inl, inr}
use Rattle.realm_model.specs.Rows.{is_unassigned, all_rows}
use Rattle.rtt.specs.Tables.{rows}
use Rattle.rtt.proofs.FoundRows.{row_passed, row_refused}
use Rattle.rtt.proofs.Kept.{table_taken, keeps_same}
use Rattle.rtt.proofs.OtherRealms.{all_kept}
use Rattle.rtt.proofs.RamPages.{fits_table, pages_unused, RamGiven, ram_given}
use Rattle.rtt.proofs.tables.Tables.init_ripas.Given.{Over}
use Rattle.rtt.proofs.tables.Tables.init_ripas.Goals as goal

pub find-place-requires : goal.find-place-requires
find-place-requires g c = record { as_many = c.requires.backed.as_many; tables = c.requires.tables; inside = c.requires.inside }

pub all_unassigned-requires : goal.all_unassigned-requires
all_unassigned-requires g c = record {
  inside = c.find-place.ensures.within;
  fits = fits_table c.args.ipa c.find-place.result.level c.index_at-first.result c.args.count (omega arith) c.index_at-first.ensures.value c.requires.run;
}

pub fill_entries-requires : goal.fill_entries-requires
fill_entries-requires g c = record {
  inside = c.find-place.ensures.within;
  taken = table_taken c.requires.backed c.find-place.result.level c.args.ipa c.find-place.result.table c.requires.tables c.find-place.ensures.inside c.find-place.ensures.table;
  fits = fits_table c.args.ipa c.find-place.result.level c.index_at-first.result c.args.count (omega arith) c.index_at-first.ensures.value c.requires.run;
}

done : (g : Over) (c : goal.After-fill_entries g) → RamGiven (g.S.PageStore.page_bytes c.args.store.now) (g.S.PageStore.page_bytes c.fill_entries.new.store)
    c.args.granules.now c.args.self.now.rd c.args.self.now.root c.args.ipa c.args.count
done g c =
    ram_given (g.S.PageStore.page_bytes c.args.store.now) (g.S.PageStore.page_bytes c.fill_entries.new.store) c.args.granules.now c.args.self.now.rd c.args.self.now.root
    c.find-place.result.level c.args.ipa c.find-place.result.table c.index_at-first.result c.args.count c.unassigned.result
    c.requires.tables c.find-place.ensures.inside (omega arith) c.find-place.ensures.table c.index_at-first.ensures.value
    (fits_table c.args.ipa c.find-place.result.level c.index_at-first.result c.args.count (omega arith) c.index_at-first.ensures.value c.requires.run) c.unassigned.ensures
    (c.if-not-all_unassigned.ensures.0 refl) c.fill_entries.ensures.written c.fill_entries.ensures.kept c.fill_entries.ensures.others

pub returns : goal.returns
returns g c =
    let pages = g.S.PageStore.page_bytes c.args.store.now in
    let is = done g c in
    record {
      answer = row_passed (rows pages c.args.self.now.root) c.args.ipa 3 c.last.result c.find-place.result.level c.find-place.result.entry
          c.last.ensures c.find-place.ensures.walk (λ _. all_rows is_unassigned (rows pages c.args.self.now.root) 3 c.args.ipa c.args.count) (omega arith)
          (pages_unused pages c.args.self.now.root c.find-place.result.level c.args.ipa c.find-place.result.table
          c.index_at-first.result c.args.count true c.find-place.ensures.inside (omega arith) c.find-place.ensures.table
          c.index_at-first.ensures.value
          (fits_table c.args.ipa c.find-place.result.level c.index_at-first.result c.args.count (omega arith) c.index_at-first.ensures.value c.requires.run)
          c.if-not-all_unassigned.ensures);
      rows = is.rows_are;
      unchanged = tt;
      others = is.others;
      keeps = keeps_same c.requires.backed c.fill_entries.ensures.pages c.fill_entries.ensures.flags is.tables is.other_realms;
    }

pub returns-then-not-all_unassigned : goal.returns-then-not-all_unassigned
returns-then-not-all_unassigned g c =
    let pages = g.S.PageStore.page_bytes c.args.store.now in
    record {
      answer = row_refused (rows pages c.args.self.now.root) c.args.ipa 3 c.last.result c.find-place.result.level c.find-place.result.entry
          c.last.ensures c.find-place.ensures.walk (λ _. all_rows is_unassigned (rows pages c.args.self.now.root) 3 c.args.ipa c.args.count)
          (inr (pages_unused pages c.args.self.now.root c.find-place.result.level c.args.ipa c.find-place.result.table
          c.index_at-first.result c.args.count false c.find-place.ensures.inside (omega arith) c.find-place.ensures.table
          c.index_at-first.ensures.value
          (fits_table c.args.ipa c.find-place.result.level c.index_at-first.result c.args.count (omega arith) c.index_at-first.ensures.value c.requires.run)
          c.if-not-all_unassigned.ensures));
      rows = tt;
      unchanged = refl;
      others = λ granule apart. refl;
      keeps = all_kept c.requires.backed c.requires.tables;
    }

pub returns-then-number-ne3 : goal.returns-then-number-ne3
returns-then-number-ne3 g c =
    let pages = g.S.PageStore.page_bytes c.args.store.now in
    record {
      answer = row_refused (rows pages c.args.self.now.root) c.args.ipa 3 c.last.result c.find-place.result.level c.find-place.result.entry
          c.last.ensures c.find-place.ensures.walk (λ _. all_rows is_unassigned (rows pages c.args.self.now.root) 3 c.args.ipa c.args.count) (inl (omega arith));
      rows = tt;
      unchanged = refl;
      others = λ granule apart. refl;
      keeps = all_kept c.requires.backed c.requires.tables;
    }
