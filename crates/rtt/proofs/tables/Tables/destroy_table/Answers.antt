use Rattle.std.proofs.Common.{◌≡◌, true, false, None, set, length, refl, sym, ap, arith, inl, inr, ◌∙◌}
use Rattle.std.proofs.lemmas.Bool.{OnTrue_at}
use Rattle.std.proofs.lemmas.List.{length-set}
use Rattle.granule_addr.specs.Page.{zero_page}
use Rattle.rtt.specs.declared.granule.Granule.{Granule}
use Rattle.page_arena.specs.Words.{length-with_word}
use Rattle.realm_model.specs.declared.states.GranuleState.TheVariants.{Delegated}
use Rattle.realm_model.proofs.TablePlaces.{table_place}
use Rattle.rtt.specs.Tables.{rows}
use Rattle.rtt.specs.Word.{entry_word}
use Rattle.rtt.proofs.EntryKinds.{table_of-leads, table_of-none}
use Rattle.rtt.proofs.FoundRows.{table_missed, table_passed, table_refused}
use Rattle.rtt.proofs.Kept.{rtt_used, page_inside, page_taken, table_beside, keeps_moved}
use Rattle.rtt.proofs.OldTables.{is_unused, Gone, gone}
use Rattle.rtt.proofs.OtherRealms.{all_kept}
use Rattle.rtt.proofs.Written.{IsEntry-read}
use Rattle.rtt.proofs.tables.Tables.destroy_table.Given.{Over}
use Rattle.rtt.proofs.tables.Tables.destroy_table.Goals as goal

pub above-wanted-requires : goal.above-wanted-requires
above-wanted-requires g c = let low = (table_place c.args.ipa c.args.level c.requires.place).low in omega arith

pub find-upper-requires : goal.find-upper-requires
find-upper-requires g c = record { as_many = c.requires.backed.as_many; tables = c.requires.tables; inside = c.requires.inside }

pub all_unassigned-requires : goal.all_unassigned-requires
all_unassigned-requires g c =
    let lies = c.find-upper.ensures.child c.in-Some.table (omega arith) (sym c.in-Some.ensures) in
    record { inside = page_inside c.requires.backed lies; fits = omega arith }

pub fill-requires : goal.fill-requires
fill-requires g c =
    let lies = c.find-upper.ensures.child c.in-Some.table (omega arith) (sym c.in-Some.ensures) in
    record { inside = page_inside c.requires.backed lies; taken = page_taken c.requires.backed lies rtt_used }

pub write-requires : goal.write-requires
write-requires g c =
    let ready = table_beside c.requires.backed c.in-Some.table zero_page c.find-upper.result.level c.args.ipa c.find-upper.result.table
    c.fill.ensures.filled c.fill.ensures.flags c.requires.tables c.find-upper.ensures.inside c.find-upper.ensures.table c.find-upper.ensures.within in
    record { inside = ready.0; taken = ready.1; index = c.index_at.ensures.below }

pub shift-requires : goal.shift-requires
shift-requires g c = (c.find-upper.ensures.child c.in-Some.table (omega arith) (sym c.in-Some.ensures)).inside

granules_are : (g : Over) (c : goal.After-shift g) → c.shift.new.self ≡ set c.args.granules.now c.in-Some.table (record { state = Delegated; realm = None })
granules_are g c =
    let lies = c.find-upper.ensures.child c.in-Some.table (omega arith) (sym c.in-Some.ensures) in
    OnTrue_at (c.shift.ensures.answer.1 (ap (λ (x : Granule). x.state) lies.is)) c.shift.ensures.shifted

done : (g : Over) (c : goal.After-shift g) → Gone (g.S.PageStore.page_bytes c.args.store.now) (g.S.PageStore.page_bytes c.write.new.store) c.args.granules.now
    c.shift.new.self c.args.self.now.rd c.args.self.now.root c.args.level c.args.ipa
done g c =
    let lies = c.find-upper.ensures.child c.in-Some.table (omega arith) (sym c.in-Some.ensures) in
    let there = lies.inside in
    let as_many = c.requires.backed.as_many in
    gone (g.S.PageStore.page_bytes c.args.store.now) (g.S.PageStore.page_bytes c.fill.new.self) (g.S.PageStore.page_bytes c.write.new.store)
    (g.S.PageStore.free_flags c.args.store.now) (g.S.PageStore.free_flags c.fill.new.self)
    c.args.granules.now c.shift.new.self c.args.self.now.rd c.args.self.now.root c.args.level c.above-wanted.result c.find-upper.result.level c.args.ipa
    c.find-upper.result.table c.index_at.result c.in-Some.table
    c.find-upper.result.entry c.unassigned.result
    (g.met.S.PageStore.sized c.fill.new.self) c.requires.backed c.requires.tables c.above-wanted.ensures c.requires.place
    c.find-upper.ensures.inside (omega arith) c.find-upper.ensures.table c.find-upper.ensures.within c.index_at.ensures.value c.find-upper.ensures.entry c.in-Some.ensures (omega arith)
    (c.if-not-all_unassigned.ensures.0 refl) c.unassigned.ensures c.fill.ensures.filled c.write.ensures.written (granules_are g c)

pub returns : goal.returns
returns g c =
    let pages = g.S.PageStore.page_bytes c.args.store.now in
    let mid = g.S.PageStore.page_bytes c.fill.new.self in
    let is = done g c in
    let as_many = ap length c.write.ensures.written ∙ length-with_word mid c.find-upper.result.table c.index_at.result (entry_word c.unassigned.result)
    ∙ ap length c.fill.ensures.filled ∙ length-set pages c.in-Some.table zero_page in
    let lies = c.find-upper.ensures.child c.in-Some.table (omega arith) (sym c.in-Some.ensures) in
    record {
      answer = table_passed (rows pages c.args.self.now.root) c.args.ipa c.args.level c.above-wanted.result c.find-upper.result.level
          c.find-upper.result.entry (omega arith) c.find-upper.ensures.walk (omega arith)
          (table_of-leads c.find-upper.result.entry c.in-Some.table (sym c.in-Some.ensures)).0
          (is_unused pages c.args.self.now.root c.args.level c.above-wanted.result c.find-upper.result.level c.args.ipa
          c.find-upper.result.table c.in-Some.table c.find-upper.result.entry true
          c.above-wanted.ensures c.requires.place c.find-upper.ensures.inside (omega arith) c.find-upper.ensures.table c.find-upper.ensures.entry c.in-Some.ensures c.if-not-all_unassigned.ensures);
      rows = is.rows_are;
      moved = is.moved;
      cleared = is.cleared;
      unchanged = tt;
      others = is.others;
      keeps = keeps_moved c.requires.backed c.in-Some.table _ as_many (c.write.ensures.flags ∙ c.fill.ensures.flags) lies rtt_used (granules_are g c) is.tables is.other_realms;
    }

pub returns-then-number : goal.returns-then-number
returns-then-number g c = record {
  answer = table_missed (rows (g.S.PageStore.page_bytes c.args.store.now) c.args.self.now.root) c.args.ipa c.args.level c.above-wanted.result c.find-upper.result.level
      c.find-upper.result.entry (omega arith) c.find-upper.ensures.walk (inl (omega arith));
  rows = tt;
  moved = tt;
  cleared = tt;
  unchanged = (refl, refl);
  others = λ granule apart. refl;
  keeps = all_kept c.requires.backed c.requires.tables;
}

pub returns-in_default : goal.returns-in_default
returns-in_default g c = record {
  answer = table_missed (rows (g.S.PageStore.page_bytes c.args.store.now) c.args.self.now.root) c.args.ipa c.args.level c.above-wanted.result c.find-upper.result.level
      c.find-upper.result.entry (omega arith) c.find-upper.ensures.walk
      (inr (table_of-none c.find-upper.result.entry (IsEntry-read _ _ _ c.find-upper.ensures.entry) (sym c.child.ensures ∙ c.in_default.is)));
  rows = tt;
  moved = tt;
  cleared = tt;
  unchanged = (refl, refl);
  others = λ granule apart. refl;
  keeps = all_kept c.requires.backed c.requires.tables;
}

pub returns-then-not-all_unassigned : goal.returns-then-not-all_unassigned
returns-then-not-all_unassigned g c =
    let pages = g.S.PageStore.page_bytes c.args.store.now in
    record {
      answer = table_refused (rows pages c.args.self.now.root) c.args.ipa c.args.level c.above-wanted.result c.find-upper.result.level
          c.find-upper.result.entry (omega arith) c.find-upper.ensures.walk (omega arith)
          (table_of-leads c.find-upper.result.entry c.in-Some.table (sym c.in-Some.ensures)).0
          (is_unused pages c.args.self.now.root c.args.level c.above-wanted.result c.find-upper.result.level c.args.ipa
          c.find-upper.result.table c.in-Some.table c.find-upper.result.entry false
          c.above-wanted.ensures c.requires.place c.find-upper.ensures.inside (omega arith) c.find-upper.ensures.table c.find-upper.ensures.entry c.in-Some.ensures c.if-not-all_unassigned.ensures);
      rows = tt;
      moved = tt;
      cleared = tt;
      unchanged = (refl, refl);
      others = λ granule apart. refl;
      keeps = all_kept c.requires.backed c.requires.tables;
    }
