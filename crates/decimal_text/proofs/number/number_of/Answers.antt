use Rattle.std.proofs.Common.{◌<◌, ◌^◌, refl, arith}
use Rattle.std.proofs.lemmas.Bool.{false≢true}
use Rattle.decimal_text.proofs.Decimals.{plain_decimal, found_from_parse, none_from_parse}
use Rattle.decimal_text.proofs.number.number_of.Goals as goal

-- a text that `is_plain` refuses, such as one with leading zeros, is the decimal text of no 32-bit number
pub returns-then-not-is_plain-clause-none : goal.returns-then-not-is_plain-clause-none
returns-then-not-is_plain-clause-none c = λ n small same.
    let wide : n < 2 ^ 64 = omega arith in
    false≢true (c.if-not-is_plain.ensures.1 (rw (c.as_bytes.ensures.value, same) (plain_decimal n wide)))

pub returns-clause-found : goal.returns-clause-found
returns-clause-found c =
    found_from_parse c.args.text.now c.parse.result c.ok.result
    (rw c.as_bytes.ensures.value at (c.if-not-is_plain.ensures.0 refl)) c.parse.ensures.value.0 c.ok.ensures.value

pub returns-clause-none : goal.returns-clause-none
returns-clause-none c = none_from_parse c.args.text.now c.parse.result c.ok.result c.parse.ensures.value.0 c.ok.ensures.value
