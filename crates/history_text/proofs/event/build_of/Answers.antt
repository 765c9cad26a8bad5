use Rattle.std.proofs.Common.{◌≡◌, ◌+◌, [], ◌∷◌, sym, ◌∙◌, arith}
use Rattle.history_text.proofs.EventTexts.{digit_first, build_found, build_none}
use Rattle.history_text.proofs.event.build_of.Goals as goal

pub returns-then-digit-lt48-clause-none : goal.returns-then-digit-lt48-clause-none
returns-then-digit-lt48-clause-none c = λ build below is.
    let same : (48 + build) ∷ [] ≡ c.args.digit ∷ [] = sym (digit_first build below) ∙ is in
    let digit : 48 + build ≡ c.args.digit = cc in
    omega (arith, digit, c.if-digit-lt48.true)

pub returns-clause-found : goal.returns-clause-found
returns-clause-found c = build_found c.args.digit c.new.result c.if-digit-lt48.false c.new.ensures

pub returns-clause-none : goal.returns-clause-none
returns-clause-none c = build_none c.args.digit c.new.result c.if-digit-lt48.false c.new.ensures
