-- Proofs that the two halves of a block are aligned, disjoint, and buddies of each other.
use Rattle.std.proofs.Common.{◌≡◌, ℕ, ◌+◌, ◌*◌, ◌/◌, ◌%◌, ◌^◌, ◌<◌, ◌⊎◌, inl, inr, refl, sym, ap, ◌∙◌, arith}
use Rattle.std.specs.Prelude.{bit_xor}
use Rattle.std.specs.Int.Bits.{xor_add_and, xor_zero_r}
use Rattle.std.proofs.Math.Nat.{add-mul, mul-add, one-mul}
use Rattle.std.proofs.lemmas.Nat.{and_mask, pow_pos, shr-shr, xor_block}
use Rattle.std.proofs.lemmas.Bool.{cases_lt}
use Rattle.buddy.specs.Halves.{AreHalves}
use Rattle.buddy.specs.Heads.{buddy_at, start_at}
use Rattle.buddy.specs.MaximalBlock.{LiesWithin}
use Rattle.buddy.specs.InHand.{LiesIn}
use Rattle.buddy.proofs.Aligned.{double, mod_lower, mod_plus, Apart, nested, start_aligned}

-- the halves of an aligned block begin at its first granule and 2^order granules later
pub lower_first : (order base : ℕ) → base % 2 ^ (order + 1) ≡ 0 → AreHalves order base base (base + 2 ^ order)
lower_first order base aligned = record { aligned = aligned; sides = inl (refl, refl) }

module _ (order base one other : ℕ) (halves : AreHalves order base one other) where
  pub swapped : AreHalves order base other one
  swapped = record { aligned = halves.aligned; sides = elim halves.sides [ inl s ↦ inr s | inr s ↦ inl s ] }

  pub half_aligned : one % 2 ^ order ≡ 0
  half_aligned =
      let low : base % 2 ^ order ≡ 0 = mod_lower base (order + 1) order (omega arith) halves.aligned in
      elim halves.sides [
        | inl s ↦ ap (λ (n : ℕ). n % 2 ^ order) s.0 ∙ low
        | inr s ↦ ap (λ (n : ℕ). n % 2 ^ order) s.1 ∙ mod_plus base (2 ^ order) low
      ]

  pub half_within : LiesWithin order one (order + 1) base
  half_within =
      let d = double order in
      elim halves.sides [ inl s ↦ (omega arith, omega arith) | inr s ↦ (omega arith, omega arith) ]

  pub halves_apart : Apart order one order other
  halves_apart = elim halves.sides [ inl s ↦ inl (omega arith) | inr s ↦ inr (omega arith) ]

  pub in_half : (x : ℕ) → LiesIn x (order + 1) base → LiesIn x order one ⊎ LiesIn x order other
  in_half x inside =
      let d = double order in
      elim (cases_lt x (base + 2 ^ order)) [
        | inl l ↦ elim halves.sides [ inl s ↦ inl (omega arith, omega arith) | inr s ↦ inr (omega arith, omega arith) ]
        | inr l ↦ elim halves.sides [ inl s ↦ inr (omega arith, omega arith) | inr s ↦ inl (omega arith, omega arith) ]
      ]

  -- an aligned block of a higher order that contains one half of a block contains both halves
  pub holds_both : (larger start : ℕ) → order < larger → start % 2 ^ larger ≡ 0 → LiesWithin order one larger start → LiesWithin (order + 1) base larger start
  holds_both larger start above aligned within =
      let some = pow_pos order in
      let half = half_within in
      nested (order + 1) base larger start (omega arith) halves.aligned aligned (omega arith) (omega arith)

-- the block of order `order` that contains granule `x` and the buddy that `buddy_at` gives are the two halves of the
-- next larger block
module _ (x order : ℕ) where
  abbrev size : ℕ
  size = 2 ^ order

  abbrev index : ℕ
  index = x / size

  flipped : buddy_at (start_at x order) order ≡ bit_xor index 1 * size
  flipped =
      let some = pow_pos order in
      let whole : index * size ≡ index * size + 0 = omega arith in
      let one : size ≡ 1 * size + 0 = omega (arith, one-mul size) in
      let none : bit_xor 0 0 ≡ 0 = xor_zero_r 0 in
      (λ i. bit_xor (whole i) (one i)) ∙ xor_block order index 1 0 0 some some ∙ omega arith

  odd_or_even : bit_xor index 1 + index % 2 * 2 ≡ index + 1
  odd_or_even = ap (λ (n : ℕ). bit_xor index 1 + n * 2) (sym (and_mask index 1)) ∙ xor_add_and index 1

  base_is : start_at x (order + 1) ≡ index / 2 * size + index / 2 * size
  base_is =
      let half : x / 2 ^ (order + 1) ≡ index / 2 = sym (shr-shr x order 1) in
      let twice : 2 ^ (order + 1) ≡ size + size = double order in
      (λ i. half i * twice i) ∙ mul-add (index / 2) size size

  pairs : (index / 2 + index / 2) * size ≡ start_at x (order + 1)
  pairs = add-mul (index / 2) (index / 2) size ∙ sym base_is

  one_more : (index / 2 + index / 2 + 1) * size ≡ start_at x (order + 1) + size
  one_more =
      let more = add-mul (index / 2 + index / 2) 1 size in
      let one = one-mul size in
      let p = pairs in
      omega arith

  pub buddies : AreHalves order (start_at x (order + 1)) (start_at x order) (buddy_at (start_at x order) order)
  buddies =
      let o = odd_or_even in
      record {
        aligned = start_aligned x (order + 1);
        sides = elim (cases_lt (index % 2) 1) [
          | inl even ↦
              let here : index ≡ index / 2 + index / 2 = omega arith in
              let there : bit_xor index 1 ≡ index / 2 + index / 2 + 1 = omega arith in
              inl (ap (λ (n : ℕ). n * size) here ∙ pairs, flipped ∙ ap (λ (n : ℕ). n * size) there ∙ one_more)
          | inr odd ↦
              let here : index ≡ index / 2 + index / 2 + 1 = omega arith in
              let there : bit_xor index 1 ≡ index / 2 + index / 2 = omega arith in
              inr (flipped ∙ ap (λ (n : ℕ). n * size) there ∙ pairs, ap (λ (n : ℕ). n * size) here ∙ one_more)
        ];
      }
