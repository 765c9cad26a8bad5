use Rattle.std.proofs.Common.{◌≡◌, ◌<◌, ℕ, List, [], length, ap, sym, ◌∙◌, arith}
use Rattle.std.proofs.lemmas.List.Elements.{All-get_or}
use Rattle.rmm_model.specs.Machine.{Machine, page_in}
use Rattle.rmm_granules.proofs.granules.Granules.write.Goals as goal

pub returns-clause-whole : goal.returns-clause-whole
returns-clause-whole g c =
    let pages : List (List ℕ) = g.S.PageStore.page_bytes c.self.inside.store in
    let sized = g.met.S.PageStore.sized c.self.inside.store in
    let count : length c.args.self.now.granules ≡ length c.self.inside.granules.items = sym (ap (λ (m : Machine). length m.granules) c.self.view_is) in
    let inside : c.args.granule < length pages = omega (arith, count, c.self.invariant.as_many, c.requires.inside) in
    ap (λ (m : Machine). length (page_in m c.args.granule)) (sym c.self.view_is)
    ∙ All-get_or (λ (page : List ℕ). length page ≡ 4096) pages c.args.granule [] inside sized.whole
