use Rattle.std.proofs.Common.{ℕ, ◌+◌, ◌<◌, ◌∙◌, bit_or, refl, arith}
use Rattle.std.proofs.lemmas.Bool.{OnTrue_from}
use Rattle.std.proofs.lemmas.Nat.{le_or_l, le_or_r}
use borrow.Author.Tests.{ltb-true}
use Rattle.rmm_model.proofs.LiveEntries.{first_live_past}
use Rattle.rmm_model.proofs.table.are_low.Goals as goal

-- if the bitwise or of two numbers is below a bound, so is the first number
low_first : (a b n : ℕ) → bit_or a b < n → a < n
low_first a b n low =
    let most = le_or_l a b in
    omega arith

-- if the bitwise or of two numbers is below a bound, so is the second number
low_second : (a b n : ℕ) → bit_or a b < n → b < n
low_second a b n low =
    let most = le_or_r a b in
    omega arith

pub returns : goal.returns
returns c =
    let page = c.args.page.now in
    let i = c.args.first in
    OnTrue_from _ _ (λ low.
    let eight = ltb-true _ _ low in
    let seven = low_first _ _ _ eight in
    let six = low_first _ _ _ seven in
    let five = low_first _ _ _ six in
    let four = low_first _ _ _ five in
    let three = low_first _ _ _ four in
    let two = low_first _ _ _ three in
    first_live_past page i (i + 1) c.word_in-a.result refl (omega arith) c.word_in-a.ensures (low_first _ _ _ two)
    ∙ first_live_past page (i + 1) (i + 2) c.word_in-b.result (omega arith) (omega arith) c.word_in-b.ensures (low_second _ _ _ two)
    ∙ first_live_past page (i + 2) (i + 3) c.word_in-c.result (omega arith) (omega arith) c.word_in-c.ensures (low_second _ _ _ three)
    ∙ first_live_past page (i + 3) (i + 4) c.word_in-d.result (omega arith) (omega arith) c.word_in-d.ensures (low_second _ _ _ four)
    ∙ first_live_past page (i + 4) (i + 5) c.word_in-e.result (omega arith) (omega arith) c.word_in-e.ensures (low_second _ _ _ five)
    ∙ first_live_past page (i + 5) (i + 6) c.word_in-f.result (omega arith) (omega arith) c.word_in-f.ensures (low_second _ _ _ six)
    ∙ first_live_past page (i + 6) (i + 7) c.word_in-g.result (omega arith) (omega arith) c.word_in-g.ensures (low_second _ _ _ seven)
    ∙ first_live_past page (i + 7) (i + 8) c.word_in-h.result (omega arith) (omega arith) c.word_in-h.ensures (low_second _ _ _ eight))
