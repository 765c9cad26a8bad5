use Rattle.std.proofs.Common.{◌≡◌}
use Rattle.granule_addr.specs.Page.{zero_page}
use Rattle.rmm_model.specs.Machine.{page_in, with_page}
use Rattle.rmm_model.specs.Command.RecCreate.{rec_word}
use Rattle.rmm_model.specs.Table.{with_words}
use Rattle.rmm.proofs.rec_create.write_rec_page.Given as goal

abbrev pub invariant-loop-k : goal.invariant-loop-k
invariant-loop-k g l = l.granules ≡ with_page l.fn.granules l.rec (with_words l.k (rec_word (page_in l.fn.granules l.source)) zero_page)
