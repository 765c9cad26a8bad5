use Rattle.std.proofs.Common.{◌≡◌, take, lit<, sym, arith, ◌∙◌}
use Rattle.std.proofs.lemmas.Str.Pattern.{find_char}
use Rattle.decimal_text.proofs.Cuts.{before_space_none, from_space_none, before_space_at, from_space_at}
use Rattle.decimal_text.proofs.number.cut_at_space.Goals as goal

pub returns-in-Some-clause-before : goal.returns-in-Some-clause-before
returns-in-Some-clause-before c =
    let found = rw c.in-Some.is at (find_char 32 c.args.text.now c.find.result c.find.ensures.cases (lit< tt)) in
    let front : c.range.result.now ≡ take c.in-Some.end c.args.text.now = grind (arith, c.range.ensures.value) in
    front ∙ before_space_at _ _ found.0 found.1 found.2

pub returns-in-Some-clause-from : goal.returns-in-Some-clause-from
returns-in-Some-clause-from c =
    let found = rw c.in-Some.is at (find_char 32 c.args.text.now c.find.result c.find.ensures.cases (lit< tt)) in
    c.range_from.ensures.value ∙ from_space_at _ _ found.0 found.1 found.2

pub returns-in-None-clause-before : goal.returns-in-None-clause-before
returns-in-None-clause-before c =
    let none = rw c.in-None.is at (find_char 32 c.args.text.now c.find.result c.find.ensures.cases (lit< tt)) in
    sym (before_space_none _ none)

pub returns-in-None-clause-from : goal.returns-in-None-clause-from
returns-in-None-clause-from c =
    let none = rw c.in-None.is at (find_char 32 c.args.text.now c.find.result c.find.ensures.cases (lit< tt)) in
    sym (from_space_none _ none)
