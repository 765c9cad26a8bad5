use Rattle.std.proofs.Common.{ℕ, set, replicate, ap, ◌∙◌}
use Rattle.granule_addr.specs.Page.{page_of}
use Rattle.page_arena.proofs.plain.pages.fill_page.Goals as goal

pub returns : goal.returns
unfolding page_of
returns c =
    ap (set c.args.pages.now c.args.page)
    (c.fill.ensures.after (λ y is. is) ∙ ap (λ (n : ℕ). replicate n c.args.value) (c.told-pages c.args.page c.requires))
