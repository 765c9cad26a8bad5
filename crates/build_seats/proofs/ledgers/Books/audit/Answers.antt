use Rattle.std.proofs.Common.{ℕ, set, sym, ap, ◌∙◌, add-zero}
use Rattle.std.proofs.lemmas.List.{set-get_or}
use Rattle.build_seats.proofs.ledgers.Books.audit.Goals as goal

-- adding 0 to a build's event count leaves `books` and the `Pass` unchanged
pub returns-clause-same : goal.returns-clause-same
returns-clause-same g c =
    let pass = c.args.pass.now in
    let books = c.args.self.now in
    let none = add-zero pass.count in (
      c.add.ensures.book ∙ ap (set books pass.build) (none ∙ sym c.add.ensures.count) ∙ set-get_or books pass.build 0,
      c.add.ensures.pass ∙ ap (λ (n : ℕ). record pass { count = n }) none,
    )
