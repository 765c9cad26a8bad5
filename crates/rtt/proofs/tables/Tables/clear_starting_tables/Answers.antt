use Rattle.std.proofs.Common.{◌≡◌, ℕ, ◌+◌, Bool, List, length, set, inr, refl, sym, ap, ◌∙◌, add-one, arith, rules}
use Rattle.std.specs.List.{range_with_len}
use Rattle.granule_addr.specs.Page.{zero_page}
use Rattle.granule_addr.specs.Root.{start_count, starting_tables}
use Rattle.rtt.specs.Granules.{granule_at, undelegated}
use Rattle.rtt.specs.declared.granule.Granule.{Granule}
use Rattle.page_arena.specs.Page.{is_free}
use Rattle.realm_model.specs.StepLaw.{set_each}
use Rattle.realm_model.proofs.SetEach.{length-set_each}
use Rattle.rtt.proofs.StartTables.{set_each-range_more, get_or-set_each_beside}
use Rattle.rtt.proofs.tables.Tables.clear_starting_tables.Given.{Over}
use Rattle.rtt.proofs.tables.Tables.clear_starting_tables.Goals as goal

pub loop-number-init : goal.loop-number-init
unfolding set_each
loop-number-init g c = record { cleared = refl; moved = refl; flags = refl }

pub starting_table-table-requires : goal.starting_table-table-requires
starting_table-table-requires g c =
    let as_many = c.requires.backed.as_many in
    let few = (g.met.S.PageStore.sized c.args.store.now).few_pages in
    omega arith

pub fill-requires-clause-inside : goal.fill-requires-clause-inside
fill-requires-clause-inside g c =
    let count : length (g.S.PageStore.page_bytes c.loop-number.store) ≡ length (g.S.PageStore.page_bytes c.args.store.now) =
    ap length c.loop-number.invariant.cleared ∙ length-set_each zero_page (range_with_len c.args.self.now.root.first c.loop-number.number) (g.S.PageStore.page_bytes c.args.store.now) in
    let as_many = c.requires.backed.as_many in
    omega arith

pub fill-requires-clause-taken : goal.fill-requires-clause-taken
fill-requires-clause-taken g c =
    ap (λ (flags : List Bool). is_free flags c.starting_table-table.result) c.loop-number.invariant.flags
    ∙ ap (is_free (g.S.PageStore.free_flags c.args.store.now)) c.starting_table-table.ensures
    ∙ c.requires.backed.taken (c.args.self.now.root.first + c.loop-number.number) (omega arith)
    (λ free. c.requires.used (sym (c.requires.state c.loop-number.number (omega arith)) ∙ free))

-- the next starting table that the loop changes still has the state `from`
was : (g : Over) (c : goal.After-shift g) → (granule_at c.loop-number.granules c.starting_table-table.result).state ≡ c.args.from
was g c =
    ap (λ (k : ℕ). (granule_at c.loop-number.granules k).state) c.starting_table-table.ensures
    ∙ ap (λ (granules : List Granule). (granule_at granules (c.args.self.now.root.first + c.loop-number.number)).state) c.loop-number.invariant.moved
    ∙ ap (λ (x : Granule). x.state) (get_or-set_each_beside c.args.to.now c.args.self.now.root.first c.loop-number.number c.args.granules.now
    (c.args.self.now.root.first + c.loop-number.number) undelegated (inr (omega arith)))
    ∙ c.requires.state c.loop-number.number (omega arith)

pub shift-requires : goal.shift-requires
shift-requires g c =
    let count : length c.loop-number.granules ≡ length c.args.granules.now =
    ap length c.loop-number.invariant.moved ∙ length-set_each c.args.to.now (range_with_len c.args.self.now.root.first c.loop-number.number) c.args.granules.now in
    omega arith

pub loop-number-preserved : goal.loop-number-preserved
loop-number-preserved g c =
    let from_state = was g c in
    let shifted : c.shift.new.self ≡ set c.loop-number.granules c.starting_table-table.result c.args.to.now = search rules in
    record {
      cleared = c.fill.ensures.filled
          ∙ (λ i. set (c.loop-number.invariant.cleared i) (c.starting_table-table.ensures i) zero_page)
          ∙ sym (ap (λ (n : ℕ). set_each zero_page (range_with_len c.args.self.now.root.first n) (g.S.PageStore.page_bytes c.args.store.now)) (add-one c.loop-number.number)
          ∙ set_each-range_more zero_page c.args.self.now.root.first c.loop-number.number (g.S.PageStore.page_bytes c.args.store.now));
      moved = shifted
          ∙ (λ i. set (c.loop-number.invariant.moved i) (c.starting_table-table.ensures i) c.args.to.now)
          ∙ sym (ap (λ (n : ℕ). set_each c.args.to.now (range_with_len c.args.self.now.root.first n) c.args.granules.now) (add-one c.loop-number.number)
          ∙ set_each-range_more c.args.to.now c.args.self.now.root.first c.loop-number.number c.args.granules.now);
      flags = c.fill.ensures.flags ∙ c.loop-number.invariant.flags;
    }

-- after the last starting table, the pages of all starting tables are cleared
pub returns-clause-cleared : goal.returns-clause-cleared
unfolding starting_tables
returns-clause-cleared g c =
    let all : c.loop-number.number ≡ start_count c.args.self.now.root.width = omega arith in
    c.loop-number.invariant.cleared ∙ ap (λ (n : ℕ). set_each zero_page (range_with_len c.args.self.now.root.first n) (g.S.PageStore.page_bytes c.args.store.now)) all

-- after the last starting table, the granules of all starting tables have the new state and the new realm
pub returns-clause-moved : goal.returns-clause-moved
unfolding starting_tables
returns-clause-moved g c =
    let all : c.loop-number.number ≡ start_count c.args.self.now.root.width = omega arith in
    let moved : List Granule = set_each c.args.to.now (range_with_len c.args.self.now.root.first c.loop-number.number) c.args.granules.now in
    ◌∙◌ {b = moved} c.loop-number.invariant.moved (ap (λ (n : ℕ). set_each c.args.to.now (range_with_len c.args.self.now.root.first n) c.args.granules.now) all)
