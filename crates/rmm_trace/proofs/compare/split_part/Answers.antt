use Rattle.std.proofs.Common.{◌≡◌, ◌∷◌, sym}
use Rattle.rmm_trace.proofs.Compared.{split_is, none_left, first_ends, in_first_more, first_is_all}
use Rattle.rmm_trace.proofs.compare.split_part.Goals as goal

pub returns-then-ends_part-clause-parts : goal.returns-then-ends_part-clause-parts
returns-then-ends_part-clause-parts c =
    let is : c.part.left.now ≡ c.split_word.result.0 ∷ c.split_word.result.1.now = split_is _ _ _ c.part-test.true c.split_word.ensures.first c.split_word.ensures.rest in
    λ some. first_ends c.args.words.now c.part.end c.part.left.now _ _ is (sym c.if-ends_part.ensures) c.part.invariant

pub part-preserved : goal.part-preserved
part-preserved c =
    let is : c.part.left.now ≡ c.split_word.result.0 ∷ c.split_word.result.1.now = split_is _ _ _ c.part-test.true c.split_word.ensures.first c.split_word.ensures.rest in
    in_first_more c.args.words.now c.part.end c.part.left.now _ _ is (sym c.if-ends_part.ensures) c.part.invariant

pub returns-clause-parts : goal.returns-clause-parts
returns-clause-parts c = λ some. first_is_all c.args.words.now c.part.end c.part.left.now some (none_left _ c.part-test.false) c.part.invariant
