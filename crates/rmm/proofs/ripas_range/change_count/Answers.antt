use Rattle.std.proofs.Common.{◌≡◌, ◌+◌, ◌-◌, ℕ, List, ap, ◌∙◌, arith}
use Rattle.rmm_model.specs.Machine.{page_in}
use Rattle.rmm_model.specs.Table.{first_fixed}
use Rattle.rmm_model.specs.Command.RipasRange.{change_count, entries_below}
use Rattle.rmm.proofs.ripas_range.change_count.Goals as goal

pub returns-clause-value : goal.returns-clause-value
unfolding change_count
returns-clause-value g c =
    let which = c.args.changeable in
    let place = c.args.found.now in
    let page : List ℕ = page_in c.args.granules.now place.table in
    let first : ℕ = c.entry_index-first.result in
    let below : ℕ = entries_below place c.args.base c.args.top in
    let rest : first + c.entries_below.result - first ≡ c.entries_below.result = omega arith in
    ap (λ (stop : ℕ). stop - first)
    (c.first_fixed.ensures.value
    ∙ ap (λ (p : List ℕ). first_fixed which p (first + c.entries_below.result - first) first) c.page.ensures.value
    ∙ ap (λ (n : ℕ). first_fixed which page n first) (rest ∙ c.entries_below.ensures.value))
    ∙ ap (λ (i : ℕ). first_fixed which page below i - i) c.entry_index-first.ensures.value
