use Rattle.std.proofs.Common.{ℕ, ◌+◌, Some, inl, inr, sym, ap, ◌∙◌, arith}
use Rattle.rtt.specs.Realm.{IsInside}
use Rattle.rtt.specs.Tables.{entries_of}
use Rattle.rtt.proofs.Walks.{table_at-start, table_at-below, table_inside, start_inside, child_in, page_in, walk_found}
use Rattle.rtt.proofs.tables.find.Goals as goal
use Rattle.rtt.proofs.tables.find.Goals.{else-levels-test, then-levels-test+in-None}

pub starting_table-table-requires : goal.starting_table-table-requires
starting_table-table-requires g c =
    let lies = start_inside (g.S.PageStore.page_bytes c.args.store.now) c.args.granules.now c.args.tables.rd c.args.tables.root c.args.ipa c.requires.as_many c.requires.tables c.requires.inside in
    let few = (g.met.S.PageStore.sized c.args.store.now).few_pages in
    omega arith

pub read-entry-requires : goal.read-entry-requires
read-entry-requires g c =
    let lies = start_inside (g.S.PageStore.page_bytes c.args.store.now) c.args.granules.now c.args.tables.rd c.args.tables.root c.args.ipa c.requires.as_many c.requires.tables c.requires.inside in
    record { inside = omega arith; index = c.index_at.ensures.below }

pub levels-init : goal.levels-init
levels-init g c = record {
  low = omega arith;
  below = omega arith;
  table = table_at-start (entries_of (g.S.PageStore.page_bytes c.args.store.now)) c.args.tables.root c.start-level.result c.args.ipa c.start-level.ensures
      ∙ ap (λ (t : ℕ). Some t) (sym (c.starting_table-table.ensures ∙ ap (λ (n : ℕ). c.args.tables.root.first + n) c.start_table.ensures.value));
  entry = rw (sym c.index_at.ensures.value) c.read-entry.ensures;
}

pub read-entry-requires-in-Some : goal.read-entry-requires-in-Some
read-entry-requires-in-Some g c = record {
  inside = table_inside (g.S.PageStore.page_bytes c.args.store.now) c.args.granules.now c.args.tables.rd c.args.tables.root c.below-level.result c.args.ipa
      c.in-Some.child c.requires.as_many c.requires.tables
      (record { least = omega arith; most = omega arith; below = omega arith })
      (table_at-below (entries_of (g.S.PageStore.page_bytes c.args.store.now)) c.args.tables.root c.levels.level c.below-level.result c.args.ipa c.levels.table c.in-Some.child c.levels.entry
      c.levels.invariant.low c.below-level.ensures c.levels.invariant.table c.levels.invariant.entry c.in-Some.ensures);
  index = c.index_at-in-Some.ensures.below;
}

pub levels-preserved : goal.levels-preserved
levels-preserved g c = record {
  low = omega arith;
  below = omega arith;
  table = table_at-below (entries_of (g.S.PageStore.page_bytes c.args.store.now)) c.args.tables.root c.levels.level c.below-level.result c.args.ipa c.levels.table c.in-Some.child c.levels.entry
      c.levels.invariant.low c.below-level.ensures c.levels.invariant.table c.levels.invariant.entry c.in-Some.ensures;
  entry = rw (sym c.index_at-in-Some.ensures.value) c.read-entry-in-Some.ensures;
}

pub returns : goal.returns
returns g c =
    let pages = g.S.PageStore.page_bytes c.args.store.now in
    let root = c.args.tables.root in
    let level = c.levels.level in
    let table = c.levels.table in
    let at = c.levels.invariant.table in
    let is = c.levels.invariant.entry in
    let inside : IsInside root.width level c.args.ipa = record { least = c.levels.invariant.low; most = omega arith; below = c.requires.inside } in
    record {
      walk = walk_found pages root level c.args.to c.args.ipa table c.levels.entry inside (omega arith) (omega arith) at is
          (elim c.levels-test.branch [ else-levels-test w ↦ inl (omega arith) | then-levels-test+in-None w ↦ inr (sym w.in-None.ensures) ]);
      table = at;
      entry = is;
      within = table_inside pages c.args.granules.now c.args.tables.rd root level c.args.ipa table c.requires.as_many c.requires.tables inside at;
      child = λ child high leads. child_in pages c.args.granules.now c.args.tables.rd root level c.args.ipa table child c.levels.entry c.requires.tables inside high at is leads;
      page = λ page leads. page_in pages c.args.granules.now c.args.tables.rd root level c.args.ipa table page c.levels.entry c.requires.tables inside at is leads;
      inside = inside;
      level = omega arith;
      to = omega arith;
    }
