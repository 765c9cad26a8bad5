use Rattle.std.proofs.Common.{ap, ◌∙◌}
use Rattle.rmm_model.specs.Machine.{page_in, with_page}
use Rattle.rmm.proofs.SideBySide.{upper_half}
use Rattle.rmm.proofs.run_page.clear_exit.Goals as goal

pub returns-clause-cleared : goal.returns-clause-cleared
returns-clause-cleared g c =
    let m = c.args.granules.now in
    c.write.ensures.written ∙ ap (with_page m c.args.page) (upper_half (page_in m c.args.page) c.write.ensures.whole)
