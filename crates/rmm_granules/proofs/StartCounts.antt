-- Proofs that, if the level and the number of a realm's starting tables are valid, the tables cover the realm's whole
-- address space.
use Rattle.std.proofs.Common.{◌≡◌, ℕ, ◌+◌, ◌-◌, ◌*◌, ◌/◌, ◌^◌, ◌<◌, ◌≤◌, ◌&&◌, Bool, true, nat_le, nat_lt, nat_eq, subst, sym, arith}
use Rattle.std.proofs.lemmas.Bool.{and_parts, leb-true, eqb-true}
use Rattle.std.proofs.lemmas.Nat.{pow_pos, div-add-mod', mod_below, le-div}
use Rattle.rmm_model.specs.Level.{entry_size}
use Rattle.rmm_model.specs.Realm.{is_start, start_count}
use Rattle.rmm_granules.proofs.Starts.{entry_size-positive}

-- each of four Booleans is true
pub record AllFour (a b c d : Bool) : Type 0 where
  pub first : a ≡ true
  pub second : b ≡ true
  pub third : c ≡ true
  pub fourth : d ≡ true

pub all_four : (a b c d : Bool) → (a && b && c && d) ≡ true → AllFour a b c d
all_four a b c d h =
    let last = and_parts (a && b && c) d h in
    let middle = and_parts (a && b) c last.0 in
    let front = and_parts a b middle.0 in
    record { first = front.0; second = front.1; third = middle.1; fourth = last.1 }

-- `n` divided by `d` and rounded up, times `d`, is at least `n`
ceiling : (n d : ℕ) → 0 < d → n ≤ (n + (d - 1)) / d * d
ceiling n d some =
    let whole = div-add-mod' (n + (d - 1)) d in
    let rest = mod_below (n + (d - 1)) d some in
    omega arith

some_part : (n d : ℕ) → 0 < n → 0 < d → 0 < (n + (d - 1)) / d
some_part n d positive some =
    let one : 1 * d ≤ n + (d - 1) = omega arith in
    let part = le-div 1 (n + (d - 1)) d some one in
    omega arith

pub record Starts (width at count : ℕ) : Type 0 where
  pub level : at ≤ 3
  pub most : count ≤ 16
  pub some : 0 < count
  pub served : 2 ^ width ≤ count * (512 * entry_size at)

pub starts : (width at count : ℕ) → is_start width at count ≡ true → Starts width at count
unfolding is_start start_count
starts width at count h =
    let parts = all_four (nat_le at 3) (nat_lt (entry_size at) (2 ^ width)) (nat_le count 16) (nat_eq count (start_count width at)) h in
    let size = entry_size-positive at in
    let some_served : 0 < 512 * entry_size at = omega arith in
    let same : count ≡ start_count width at = eqb-true count (start_count width at) parts.fourth in
    record {
      level = leb-true at 3 parts.first;
      most = leb-true count 16 parts.third;
      some = subst (λ (n : ℕ). 0 < n) (sym same) (some_part (2 ^ width) (512 * entry_size at) (pow_pos width) some_served);
      served = subst (λ (n : ℕ). 2 ^ width ≤ n * (512 * entry_size at)) (sym same) (ceiling (2 ^ width) (512 * entry_size at) some_served);
    }
