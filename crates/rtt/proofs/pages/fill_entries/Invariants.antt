use Rattle.std.proofs.Common.{◌≡◌, ◌≢◌, ◌<◌, ◌≤◌, ◌⊎◌, ℕ, length}
use Rattle.page_arena.specs.Page.{page_at}
use Rattle.page_arena.specs.Word.{word_at}
use Rattle.rtt.proofs.pages.fill_entries.Given as goal

abbrev pub invariant-loop-index : goal.invariant-loop-index
invariant-loop-index g l =
    let pages = g.S.PageStore.page_bytes in
    record {
      written : (k : ℕ) → l.first ≤ k → k < l.index → word_at (pages l.store) l.table k ≡ l.word;
      kept : (k : ℕ) → k < 512 → ((k < l.first) ⊎ (l.index ≤ k)) → word_at (pages l.store) l.table k ≡ word_at (pages l.fn.store) l.table k;
      others : (granule : ℕ) → granule ≢ l.table → page_at (pages l.store) granule ≡ page_at (pages l.fn.store) granule;
      pages : length (pages l.store) ≡ length (pages l.fn.store);
      flags : g.S.PageStore.free_flags l.store ≡ g.S.PageStore.free_flags l.fn.store;
    }
