-- Proofs that the printed digits of a 64-bit number are read back as the same number, and have no bytes but those of
-- digits.
use Rattle.std.proofs.Common.{◌≡◌, ℕ, zero, suc, ◌+◌, ◌*◌, ◌/◌, ◌%◌, ◌^◌, ◌<◌, ◌≤◌, List, [], ◌∷◌, length, Bool, true, false, not, cond, eqb, ltb, leb, Some, refl, sym, ap, ◌∙◌, arith}
use Rattle.std.proofs.Common.{mod-lt, div-add-mod', div-lt_iff_lt-mul, div-le_self, pow-suc, mul-le-mul_left, le-leb, lt-ltb, ltb-true, ltb-false, eqb-true, ne_eqb, nat_eq}
use Rattle.std.proofs.lemmas.Bool.{lt-leb, eqb-false}
use Rattle.std.proofs.Math.Bool.{and-false}
use Rattle.std.specs.List.{list_all, starts_with}
use Rattle.std.specs.Fmt.{digit_glyph, digits_onto, digits}
use Rattle.rmm_trace.specs.Numbers.{digit_of, value_after, is_plain, plain_value}

-- ---- one digit

digit_by : (d : ℕ) (t : Bool) → d < 16 → ltb d 10 ≡ t → digit_of (cond t (48 + d) (87 + d)) ≡ d
digit_by d true small e =
    let l = ltb-true d 10 e in
    let a : leb 48 (48 + d) ≡ true = le-leb 48 (48 + d) (omega arith) in
    let b : leb (48 + d) 57 ≡ true = le-leb (48 + d) 57 (omega arith) in
    rw (a, b) (omega arith)
digit_by d false small e =
    let g = ltb-false d 10 e in
    let a : leb 48 (87 + d) ≡ true = le-leb 48 (87 + d) (omega arith) in
    let b : leb (87 + d) 57 ≡ false = lt-leb (87 + d) 57 (omega arith) in
    let c : leb 97 (87 + d) ≡ true = le-leb 97 (87 + d) (omega arith) in
    let e : leb (87 + d) 102 ≡ true = le-leb (87 + d) 102 (omega arith) in
    rw (a, b, c, e) (omega arith)

digit_of-glyph : (d : ℕ) → d < 16 → digit_of (digit_glyph false d) ≡ d
digit_of-glyph d small = digit_by d (ltb d 10) small refl

-- no digit above 0 is printed as `0`
glyph_by : (d : ℕ) (t : Bool) → 0 < d → eqb (cond t (48 + d) (87 + d)) 48 ≡ false
glyph_by d true some = ne_eqb (48 + d) 48 (λ e. omega arith)
glyph_by d false some = ne_eqb (87 + d) 48 (λ e. omega arith)

glyph_not_zero : (d : ℕ) → 0 < d → eqb (digit_glyph false d) 48 ≡ false
glyph_not_zero d some = glyph_by d (ltb d 10) some

-- no digit is printed as a byte with a code below that of `0`; `sign_by` says that none is printed as `=`
low_by : (mark d : ℕ) (t : Bool) → mark < 48 → eqb (cond t (48 + d) (87 + d)) mark ≡ false
low_by mark d true low = ne_eqb (48 + d) mark (λ e. omega arith)
low_by mark d false low = ne_eqb (87 + d) mark (λ e. omega arith)

pub glyph_not_low : (mark d : ℕ) → mark < 48 → eqb (digit_glyph false d) mark ≡ false
glyph_not_low mark d low = low_by mark d (ltb d 10) low

sign_by : (d : ℕ) (t : Bool) → ltb d 10 ≡ t → eqb (cond t (48 + d) (87 + d)) 61 ≡ false
sign_by d true e = let l = ltb-true d 10 e in ne_eqb (48 + d) 61 (λ e. omega arith)
sign_by d false e = ne_eqb (87 + d) 61 (λ e. omega arith)

pub glyph_not_sign : (d : ℕ) → eqb (digit_glyph false d) 61 ≡ false
glyph_not_sign d = sign_by d (ltb d 10) refl

-- ---- digits

-- a digit `r` that is read after the number `q` gives the number `n`, which is `q * base + r` and fits in 64 bits
value_more : (base q r n b : ℕ) (bs : List ℕ) → digit_of b ≡ r → r < base → q * base + r ≡ n → n < 2 ^ 64 → value_after base q (b ∷ bs) ≡ value_after base n bs
value_more base q r n b bs is small whole fits =
    let a : ltb r base ≡ true = lt-ltb r base small in
    let c : ltb n (2 ^ 64) ≡ true = lt-ltb n (2 ^ 64) fits in
    rw (is, whole, a, c) refl

module _ (base : ℕ) (low : 2 ≤ base) (high : base ≤ 16) where
  some_base : 0 < base
  some_base = omega arith

  rest_small : (n : ℕ) → n % base < base
  rest_small n = mod-lt n some_base

  rest_digit : (n : ℕ) → digit_of (digit_glyph false (n % base)) ≡ n % base
  rest_digit n = digit_of-glyph (n % base) (omega (arith, rest_small n))

  half : (k n : ℕ) → n < 2 ^ suc k → n / base < 2 ^ k
  half k n small =
      let wide : n < 2 ^ k * base = omega (arith, pow-suc 2 k, mul-le-mul_left (2 ^ k) low) in
      (div-lt_iff_lt-mul some_base).1 wide

  last_whole : (n : ℕ) → eqb (n / base) 0 ≡ true → 0 * base + n % base ≡ n
  last_whole n e = ap (λ q. q * base + n % base) (sym (eqb-true (n / base) 0 e)) ∙ div-add-mod' n base

  reads_step : (k n : ℕ) (acc : List ℕ) (t : Bool) → n < 2 ^ 64 → eqb (n / base) 0 ≡ t
      → value_after base 0 (digits_onto k base false (n / base) (digit_glyph false (n % base) ∷ acc)) ≡ value_after base (n / base) (digit_glyph false (n % base) ∷ acc)
      → value_after base 0 (cond t (digit_glyph false (n % base) ∷ acc) (digits_onto k base false (n / base) (digit_glyph false (n % base) ∷ acc))) ≡ value_after base n acc
  reads_step k n acc true fits e back = value_more base 0 (n % base) n (digit_glyph false (n % base)) acc (rest_digit n) (rest_small n) (last_whole n e) fits
  reads_step k n acc false fits e back =
      back ∙ value_more base (n / base) (n % base) n (digit_glyph false (n % base)) acc (rest_digit n) (rest_small n) (div-add-mod' n base) fits

  reads_back : (k n : ℕ) (acc : List ℕ) → n < 2 ^ k → n < 2 ^ 64 → value_after base 0 (digits_onto k base false n acc) ≡ value_after base n acc
  reads_back zero n acc small fits = ap (λ m. value_after base m acc) {x = 0} {y = n} (omega arith)
  reads_back (suc k) n acc small fits =
      let next : n / base < 2 ^ 64 = omega (arith, div-le_self n base) in
      reads_step k n acc (eqb (n / base) 0) fits refl (reads_back k (n / base) (digit_glyph false (n % base) ∷ acc) (half k n small) next)

  -- the text is not empty, and its first byte is not `0`
  starts_above : List ℕ → Bool
  starts_above [] = false
  starts_above (b ∷ bs) = not (eqb b 48)

  starts_step : (k n : ℕ) (acc : List ℕ) (t : Bool) → 0 < n → eqb (n / base) 0 ≡ t
      → (0 < n / base → starts_above (digits_onto k base false (n / base) (digit_glyph false (n % base) ∷ acc)) ≡ true)
      → starts_above (cond t (digit_glyph false (n % base) ∷ acc) (digits_onto k base false (n / base) (digit_glyph false (n % base) ∷ acc))) ≡ true
  unfolding starts_above
  starts_step k n acc true some e more =
      let whole = last_whole n e in
      let above : 0 < n % base = omega arith in
      rw (glyph_not_zero (n % base) above) refl
  starts_step k n acc false some e more =
      let apart = eqb-false (n / base) 0 e in
      more (omega arith)

  starts : (k n : ℕ) (acc : List ℕ) → 0 < n → n < 2 ^ k → starts_above (digits_onto k base false n acc) ≡ true
  starts zero n acc some small = absurd (omega arith)
  starts (suc k) n acc some small =
      starts_step k n acc (eqb (n / base) 0) some refl (λ above. starts k (n / base) (digit_glyph false (n % base) ∷ acc) above (half k n small))

  plain-starts : (ds : List ℕ) → starts_above ds ≡ true → is_plain ds ≡ true
  unfolding starts_above
  plain-starts [] h = h
  plain-starts (b ∷ []) h = refl
  plain-starts (b ∷ c ∷ ds) h = h

  pub is_plain-digits : is_plain (digits base false 0) ≡ true → (n : ℕ) → n < 2 ^ 64 → is_plain (digits base false n) ≡ true
  unfolding digits
  is_plain-digits at_zero zero small = at_zero
  is_plain-digits at_zero (suc n) small = plain-starts (digits_onto 64 base false (suc n) []) (starts 64 (suc n) [] (omega arith) small)

  pub plain_value-digits : is_plain (digits base false 0) ≡ true → (n : ℕ) → n < 2 ^ 64 → plain_value base (digits base false n) ≡ Some n
  unfolding digits
  plain_value-digits at_zero n small =
      let plain : is_plain (digits_onto 64 base false n []) ≡ true = is_plain-digits at_zero n small in
      let back : value_after base 0 (digits_onto 64 base false n []) ≡ Some n = reads_back 64 n [] small small in
      rw (plain, back) refl

  -- if two texts lack the byte `mark`, the digits printed so far and the same with more in front, so does the text that
  -- `t` selects
  unmarked_step : (mark k n : ℕ) (acc : List ℕ) (t : Bool) → list_all (λ b. not (eqb b mark)) (digit_glyph false (n % base) ∷ acc) ≡ true
      → list_all (λ b. not (eqb b mark)) (digits_onto k base false (n / base) (digit_glyph false (n % base) ∷ acc)) ≡ true
      → list_all (λ b. not (eqb b mark)) (cond t (digit_glyph false (n % base) ∷ acc) (digits_onto k base false (n / base) (digit_glyph false (n % base) ∷ acc))) ≡ true
  unmarked_step mark k n acc true here more = here
  unmarked_step mark k n acc false here more = more

  unmarked : (mark k n : ℕ) (acc : List ℕ) → ((d : ℕ) → eqb (digit_glyph false d) mark ≡ false) → list_all (λ b. not (eqb b mark)) acc ≡ true → list_all (λ b. not (eqb b mark)) (digits_onto k base false n acc) ≡ true
  unmarked mark zero n acc apart h = h
  unmarked mark (suc k) n acc apart h =
      let here : list_all (λ b. not (eqb b mark)) (digit_glyph false (n % base) ∷ acc) ≡ true = rw (apart (n % base), h) refl in
      unmarked_step mark k n acc (eqb (n / base) 0) here (unmarked mark k (n / base) (digit_glyph false (n % base) ∷ acc) apart here)

  -- if no digit is printed as the byte `mark`, no printed number has that byte
  pub digits_unmarked : (mark n : ℕ) → ((d : ℕ) → eqb (digit_glyph false d) mark ≡ false) → list_all (λ b. not (eqb b mark)) (digits base false n) ≡ true
  unfolding digits
  digits_unmarked mark n apart = unmarked mark 64 n [] apart refl

-- if `is_plain` holds of a text, the text is not empty
pub some-plain : (ds : List ℕ) → is_plain ds ≡ true → 0 < length ds
some-plain [] h = absurd (cc)
some-plain (b ∷ ds) h = omega arith

-- if `is_plain` holds of a text, the text does not begin with `0x`, as a hexadecimal number does
pub not_hexadecimal : (ds : List ℕ) → is_plain ds ≡ true → starts_with nat_eq ds (48 ∷ 120 ∷ []) ≡ false
not_hexadecimal [] h = refl
not_hexadecimal (b ∷ []) h = and-false (eqb 48 b)
not_hexadecimal (b ∷ c ∷ ds) h =
    let apart : eqb b 48 ≡ false = elim (eqb b 48) as (λ t. not t ≡ true → t ≡ false) [ true ↦ λ e. absurd (cc) | false ↦ λ e. refl ] h in
    let other : eqb 48 b ≡ false = ne_eqb 48 b (λ e. eqb-false b 48 apart (sym e)) in
    rw other refl
