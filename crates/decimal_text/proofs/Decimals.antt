-- A proof that a text without a leading `+` or leading zeros parses as a 32-bit number n if and only if the text is n
-- in decimal.
use Rattle.std.proofs.Common.{◌≡◌, ◌≢◌, ℕ, ◌<◌, ◌^◌, List, length, true, Result, Ok, Err, Option, sym, ◌∙◌, ap, refl, inl, inr, arith}
use Rattle.std.specs.Prelude.{IfSome, IfNone}
use Rattle.std.specs.Result.{result_ok}
use Rattle.std.specs.Str.{all_ascii_digits}
use Rattle.std.specs.Str.Parse.{ParsesUnsigned, digits_value}
use Rattle.std.specs.Fmt.{decimal}
use Rattle.std.proofs.lemmas.Bool.{cases_lt}
use Rattle.std.proofs.lemmas.Str.Parse.{IsNumeralModel, numerals_by_value, tells_all_ascii_digits, not_in_digits, parse_plain}
use Rattle.std.proofs.lemmas.Fmt.{digits_decimal, decimal_nonempty, decimal_digit, first_decimal, decimal-digits_value, parse-decimal}
use Rattle.std.proofs.lemmas.Result.{OkIff-at_ok}
use Rattle.decimal_text.specs.Numbers.{IsPlain}

-- strings of ASCII digits, with their decimal values, satisfy `IsNumeralModel`
pub ascii_numerals : IsNumeralModel (λ ds. all_ascii_digits ds ≡ true) (digits_value 10)
ascii_numerals = numerals_by_value (λ ds. all_ascii_digits ds ≡ true) tells_all_ascii_digits

pub plain_decimal : (n : ℕ) → n < 2 ^ 64 → IsPlain (decimal n)
plain_decimal n small = (
  not_in_digits ascii_numerals (decimal n) 43 (digits_decimal ascii_numerals n small) (λ r. omega (arith, r)) 0 (decimal_nonempty n small),
  λ zero_first. elim (cases_lt 0 n) [
    | inl some ↦ absurd (omega (arith, first_decimal n some small))
    | inr none ↦ let small' : n < 10 = omega arith in ap length (decimal_digit n small')
  ],
)

decimal_from_parse : {E : Type 0} (bs : List ℕ) (r : Result ℕ E) (n : ℕ) → IsPlain bs → ParsesUnsigned 32 10 bs r → r ≡ Ok n → bs ≡ decimal n
decimal_from_parse bs r n plain parsed is =
    let gave = OkIff-at_ok r _ _ n (parse_plain ascii_numerals 32 bs r parsed plain.0) is in
    let wide : digits_value 10 bs < 2 ^ 64 = omega (arith, gave.0.2) in
    sym (decimal-digits_value ascii_numerals bs gave.0.0 gave.0.1 plain.1 wide) ∙ ap decimal (sym gave.1)

pub found_from_parse : {E : Type 0} (bs : List ℕ) (r : Result ℕ E) (o : Option ℕ) → IsPlain bs → ParsesUnsigned 32 10 bs r → o ≡ result_ok r → IfSome o (λ n. bs ≡ decimal n)
found_from_parse {E} bs (Ok n) o plain parsed is = rw is (decimal_from_parse {E = E} bs (Ok n) n plain parsed refl)
found_from_parse bs (Err e) o plain parsed is = rw is tt

pub none_from_parse : {E : Type 0} (bs : List ℕ) (r : Result ℕ E) (o : Option ℕ) → ParsesUnsigned 32 10 bs r → o ≡ result_ok r → IfNone o ((n : ℕ) → n < 2 ^ 32 → bs ≢ decimal n)
none_from_parse bs (Ok n) o parsed is = rw is tt
none_from_parse bs (Err e) o parsed is = rw is (λ n small same. let wide : n < 2 ^ 64 = omega arith in let gave = parse-decimal 32 n bs (Err e) small wide same parsed in cc)
