use Rattle.std.proofs.Common.{◌≡◌, length, refl, ◌∙◌, arith}
use Rattle.history_text.proofs.spelling.numbers.Goals as goal

pub unwrap-requires : goal.unwrap-requires
unwrap-requires c =
    let empty : length c.new-numbers.result.items ≡ 0 = rw c.new-numbers.ensures refl in
    c.try_extend_from_slice.ensures.variant.1 (omega (arith, empty))

pub returns : goal.returns
returns c =
    let more = rw c.unwrap.ensures at c.try_extend_from_slice.ensures.ok in
    more ∙ rw c.new-numbers.ensures refl
