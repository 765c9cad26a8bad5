use Rattle.std.proofs.Common.{◌++◌, ◌∷◌, [], List, ℕ, ap, ◌∙◌}
use Rattle.std.proofs.lemmas.List.{replicate_more}
use Rattle.granule_addr.specs.Page.{page_of, zero_page}
use Rattle.page_arena.proofs.plain.pages.zero_pages.Goals as goal

pub loop-i-preserved : goal.loop-i-preserved
unfolding page_of
loop-i-preserved c =
    c.in_ok-push.ensures.items ∙ ap (λ (pages : List (List ℕ)). pages ++ zero_page ∷ []) c.loop-i.invariant ∙ replicate_more c.loop-i._i zero_page
