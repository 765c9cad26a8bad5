-- Lemmas on the test that each value of a repeated fill is a byte: the test fails if the last value exceeds 255, and
-- otherwise the earlier values decide.
use Rattle.std.proofs.Common.{◌≡◌, ℕ, zero, suc, ◌-◌, ◌<◌, ◌≤◌, Bool, true, false, ◌&&◌, leb, sym, ap, ◌∙◌, arith}
use Rattle.std.proofs.lemmas.Bool.{lt-leb, le-leb}
use Rattle.rmm_trace.specs.declared.word.TraceWord.{TraceWord}
use Rattle.rmm_trace.specs.Access.{number_at}
use Rattle.rmm_trace.specs.Consistent.{are_bytes}

last_round : (rounds : ℕ) (w : TraceWord) → 0 < rounds → are_bytes rounds w ≡ leb (number_at w (rounds - 1)) 255 && are_bytes (rounds - 1) w
last_round zero w some = absurd (omega arith)
last_round (suc k) w some = ap (λ j. leb (number_at w j) 255 && are_bytes j w) {x = k} {y = suc k - 1} (omega arith)

pub no_byte : (rounds : ℕ) (w : TraceWord) (n : ℕ) → 0 < rounds → n ≡ number_at w (rounds - 1) → 255 < n → false ≡ are_bytes rounds w
no_byte rounds w n some is above =
    let test : leb (number_at w (rounds - 1)) 255 ≡ false = ap (λ m. leb m 255) (sym is) ∙ lt-leb n 255 above in
    sym (last_round rounds w some ∙ ap (λ (t : Bool). t && are_bytes (rounds - 1) w) test)

pub one_byte : (rounds : ℕ) (w : TraceWord) (n : ℕ) → 0 < rounds → n ≡ number_at w (rounds - 1) → n ≤ 255 → are_bytes (rounds - 1) w ≡ are_bytes rounds w
one_byte rounds w n some is below =
    let test : leb (number_at w (rounds - 1)) 255 ≡ true = ap (λ m. leb m 255) (sym is) ∙ le-leb n 255 below in
    sym (last_round rounds w some ∙ ap (λ (t : Bool). t && are_bytes (rounds - 1) w) test)
