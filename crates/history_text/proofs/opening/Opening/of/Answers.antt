use Rattle.std.proofs.Common.{[], ◌∷◌, arith}
use Rattle.history_text.proofs.RowsMake.{first_low, second_low, third_low, fourth_low, fifth_low}
use Rattle.history_text.proofs.opening.Opening.of.Goals as goal

pub overflow_cast-result : goal.overflow_cast-result
overflow_cast-result c =
    let low = first_low c.args.numbers 4096 (255 ∷ 16 ∷ 16384 ∷ 8 ∷ []) c.requires in
    omega arith

pub overflow_cast-result-2 : goal.overflow_cast-result-2
overflow_cast-result-2 c =
    let low = second_low c.args.numbers 4096 255 (16 ∷ 16384 ∷ 8 ∷ []) c.requires in
    omega arith

pub overflow_cast-result-3 : goal.overflow_cast-result-3
overflow_cast-result-3 c =
    let low = third_low c.args.numbers 4096 255 16 (16384 ∷ 8 ∷ []) c.requires in
    omega arith

pub overflow_cast-result-4 : goal.overflow_cast-result-4
overflow_cast-result-4 c =
    let low = fourth_low c.args.numbers 4096 255 16 16384 (8 ∷ []) c.requires in
    omega arith

pub overflow_cast-result-5 : goal.overflow_cast-result-5
overflow_cast-result-5 c =
    let low = fifth_low c.args.numbers 4096 255 16 16384 8 [] c.requires in
    omega arith
