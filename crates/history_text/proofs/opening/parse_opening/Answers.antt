use Rattle.std.proofs.Common.{codes, IsUtf8, sym, ◌∙◌, subst}
use Rattle.std.proofs.lemmas.Bool.{false≢true}
use Rattle.std.proofs.lemmas.Bool.Decides.{Decides-eqb}
use Rattle.std.proofs.lemmas.Slice.Eq.{strip_prefix_is}
use Rattle.decimal_text.specs.Ranges.{AreAtMost}
use Rattle.history_text.specs.Histories.{opening_numbers, opening_maxima}
use Rattle.history_text.proofs.OpeningTexts.{five_numbers, IsUtf8-opening, same_rest, same_numbers, enough_from_text}
use Rattle.history_text.proofs.opening.parse_opening.Goals as goal

pub returns-in_default-from_utf8-clause-none : goal.returns-in_default-from_utf8-clause-none
returns-in_default-from_utf8-clause-none c = λ opening is.
    let split = rw c.in-Some.is at (strip_prefix_is Decides-eqb c.args.line.now (codes "history 1") _ c.strip_prefix.ensures.cases) in
    c.in_default-from_utf8.ensures.cases.0 (subst IsUtf8 (sym (same_rest c.args.line.now c.in-Some.rest.now opening split is)) (IsUtf8-opening opening is.size.at_most))

pub returns-in_err-numbers-clause-none : goal.returns-in_err-numbers-clause-none
returns-in_err-numbers-clause-none c =
    let split = rw c.in-Some.is at (strip_prefix_is Decides-eqb c.args.line.now (codes "history 1") _ c.strip_prefix.ensures.cases) in
    rw c.from_residual.ensures (λ opening is.
    c.in_err-numbers.ensures.none (opening_numbers opening) (five_numbers opening is.size.at_most)
    (c.in-Ok.ensures.cases.0 ∙ same_rest c.args.line.now c.in-Some.rest.now opening split is))

pub returns-in_err-numbers-2-clause-none : goal.returns-in_err-numbers-2-clause-none
returns-in_err-numbers-2-clause-none c =
    let split = rw c.in-Some.is at (strip_prefix_is Decides-eqb c.args.line.now (codes "history 1") _ c.strip_prefix.ensures.cases) in
    rw c.from_residual-in_err-numbers-2.ensures (λ opening is.
    let same = same_numbers c.args.line.now c.in-Some.rest.now c.in_ok-numbers.numbers.items opening c.in_ok-numbers.ensures.found.0 split
    (sym c.in-Ok.ensures.cases.0 ∙ c.in_ok-numbers.ensures.found.1) is in
    c.in_err-numbers-2.ensures.none (subst (λ ns. AreAtMost ns opening_maxima) (sym (c.as_slice.ensures.value ∙ same)) is.size.at_most))

pub returns-else-has_enough-clause-none : goal.returns-else-has_enough-clause-none
returns-else-has_enough-clause-none c = λ opening is.
    let split = rw c.in-Some.is at (strip_prefix_is Decides-eqb c.args.line.now (codes "history 1") _ c.strip_prefix.ensures.cases) in
    let numbers = c.of-opening.ensures ∙ sym c.in_ok-numbers-2.ensures.found.0 ∙ c.as_slice.ensures.value in
    let enough = enough_from_text c.args.line.now c.in-Some.rest.now c.in_ok-numbers.numbers.items c.of-opening.result opening c.in_ok-numbers.ensures.found.0 split
    (sym c.in-Ok.ensures.cases.0 ∙ c.in_ok-numbers.ensures.found.1) numbers is in
    false≢true (c.if-has_enough.ensures.1 enough)
