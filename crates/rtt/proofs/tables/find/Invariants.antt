use Rattle.std.proofs.Common.{◌≡◌, ◌≤◌, ◌-◌, Some}
use Rattle.granule_addr.specs.Ipa.{entry_index}
use Rattle.rtt.specs.Tables.{entries_of, table_at}
use Rattle.rtt.proofs.tables.find.Given as goal

abbrev pub invariant-levels : goal.invariant-levels
invariant-levels g l =
    let entries = entries_of (g.S.PageStore.page_bytes l.store) in
    record {
      low : 1 ≤ l.level;
      below : l.level ≤ l.last;
      table : table_at entries l.fn.tables.root l.level l.ipa ≡ Some l.table;
      entry : l.entry ≡ entries l.table (entry_index l.level l.ipa);
    }

abbrev pub decreases-levels : goal.decreases-levels
decreases-levels g l = 3 - l.level
