use Rattle.std.proofs.Common.{◌≡◌, ◌+◌, ◌*◌}
use Rattle.granule_addr.specs.Page.{zero_page}
use Rattle.rmm_model.specs.Entry.{entry_word}
use Rattle.rmm_model.specs.Machine.{with_page}
use Rattle.rmm_model.specs.Command.RealmCreate.{start_entry}
use Rattle.rmm_model.specs.Table.{with_words}
use Rattle.rmm.proofs.realm_create.write_start_page.Given as goal

abbrev pub invariant-loop-index : goal.invariant-loop-index
invariant-loop-index g l =
    l.granules ≡ with_page l.fn.granules l.table (with_words l.index (λ i. entry_word (start_entry l.realm (l.k * 512 + i))) zero_page)
