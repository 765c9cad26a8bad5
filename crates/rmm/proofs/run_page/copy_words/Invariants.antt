use Rattle.std.proofs.Common.{◌≡◌, ◌<◌, length}
use Rattle.rmm_model.specs.Machine.{granule_count, page_in}
use Rattle.rmm_model.specs.Command.RecEnter.{with_copied}
use Rattle.rmm.proofs.run_page.copy_words.Given as goal

abbrev pub invariant-loop-k : goal.invariant-loop-k
invariant-loop-k g l = record {
  made : l.granules ≡ with_copied l.fn.granules l.from l.first l.to l.place l.k;
  count : granule_count l.granules ≡ granule_count l.fn.granules;
  known : 0 < l.k → length (page_in l.fn.granules l.to) ≡ 4096;
}
