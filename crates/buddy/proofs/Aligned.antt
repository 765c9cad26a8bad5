-- Proofs that each granule lies in exactly one aligned block of each order, and that any two aligned blocks are nested
-- or disjoint.
use Rattle.std.proofs.Common.{◌≡◌, ℕ, suc, ◌+◌, ◌-◌, ◌*◌, ◌/◌, ◌%◌, ◌^◌, ◌<◌, ◌≤◌, ◌⊎◌, inl, inr, sym, ap, ◌∙◌, arith}
use Rattle.std.proofs.Math.Nat.{div-add-mod', div-mul-le_self, lt-div-mul-add, mul-le-mul_right, mul-mod_left, suc-mul, zero-mod, add-mod_right}
use Rattle.std.proofs.Math.Pow.{mod-mod-pow}
use Rattle.std.proofs.lemmas.Nat.{pow_pos, pow-add}
use Rattle.std.proofs.lemmas.Bool.{cases_lt}
use Rattle.buddy.specs.MaximalBlock.{LiesWithin}
use Rattle.buddy.specs.Heads.{start_at}
use Rattle.buddy.specs.InHand.{LiesIn}

pub double : (k : ℕ) → 2 ^ (k + 1) ≡ 2 ^ k + 2 ^ k
double k = let e : 2 ^ (k + 1) ≡ 2 ^ k * 2 = pow-add 2 k 1 in omega arith

-- two different multiples of m lie at least m apart
pub step_apart : (m a b : ℕ) → a % m ≡ 0 → b % m ≡ 0 → a < b → a + m ≤ b
step_apart m a b whole_a whole_b less =
    let parts_a : a / m * m + a % m ≡ a = div-add-mod' a m in
    let parts_b : b / m * m + b % m ≡ b = div-add-mod' b m in
    elim (cases_lt (a / m) (b / m)) [
      | inl l ↦
          let more : suc (a / m) * m ≤ b / m * m = mul-le-mul_right m l in
          let next : suc (a / m) * m ≡ a / m * m + m = suc-mul (a / m) m in
          omega arith
      | inr l ↦
          let more : b / m * m ≤ a / m * m = mul-le-mul_right m l in
          absurd (omega arith)
    ]

pub mod_lower : (g k j : ℕ) → j ≤ k → g % 2 ^ k ≡ 0 → g % 2 ^ j ≡ 0
mod_lower g k j le whole =
    let sum : k - j + j ≡ k = omega arith in
    sym (mod-mod-pow g (k - j) j) ∙ ap (λ (i : ℕ). g % 2 ^ i % 2 ^ j) sum ∙ ap (λ (r : ℕ). r % 2 ^ j) whole ∙ zero-mod (2 ^ j)

pub mod_plus : (g m : ℕ) → g % m ≡ 0 → (g + m) % m ≡ 0
mod_plus g m whole = add-mod_right g m ∙ whole

-- ---- the block of an order that holds a granule

module _ (x order : ℕ) where
  pub start_holds : LiesIn x order (start_at x order)
  start_holds = (div-mul-le_self x (2 ^ order), lt-div-mul-add (pow_pos order))

  pub start_aligned : start_at x order % 2 ^ order ≡ 0
  start_aligned = mul-mod_left (x / 2 ^ order) (2 ^ order)

  pub start_is : (first : ℕ) → first % 2 ^ order ≡ 0 → LiesIn x order first → start_at x order ≡ first
  start_is first whole inside =
      let s = start_holds in
      elim (cases_lt (start_at x order) first) [
        | inl l ↦ let far : start_at x order + 2 ^ order ≤ first = step_apart (2 ^ order) (start_at x order) first start_aligned whole l in absurd (omega arith)
        | inr l ↦
            elim (cases_lt first (start_at x order)) [
              | inl h ↦ let far : first + 2 ^ order ≤ start_at x order = step_apart (2 ^ order) first (start_at x order) whole start_aligned h in absurd (omega arith)
              | inr h ↦ omega arith
            ]
      ]

-- ---- two blocks

-- two blocks share no granule
abbrev pub Apart : ℕ → ℕ → ℕ → ℕ → Type 0
Apart k g j h = (g + 2 ^ k ≤ h) ⊎ (h + 2 ^ j ≤ g)

-- if two aligned blocks share a granule, the one of lower or equal order lies within the other
pub nested : (k g j h : ℕ) → k ≤ j → g % 2 ^ k ≡ 0 → h % 2 ^ j ≡ 0 → h < g + 2 ^ k → g < h + 2 ^ j → LiesWithin k g j h
nested k g j h le whole_g whole_h first last =
    let low : h % 2 ^ k ≡ 0 = mod_lower h j k le whole_h in
    let ends : (h + 2 ^ j) % 2 ^ k ≡ 0 = mod_lower (h + 2 ^ j) j k le (mod_plus h (2 ^ j) whole_h) in (
      elim (cases_lt g h) [
        | inl l ↦ let far : g + 2 ^ k ≤ h = step_apart (2 ^ k) g h whole_g low l in absurd (omega arith)
        | inr l ↦ l
      ],
      step_apart (2 ^ k) g (h + 2 ^ j) whole_g ends last,
    )

pub nested_or_apart : (k g j h : ℕ) → g % 2 ^ k ≡ 0 → h % 2 ^ j ≡ 0 → ((k ≤ j) × LiesWithin k g j h) ⊎ (((j < k) × LiesWithin j h k g) ⊎ Apart k g j h)
nested_or_apart k g j h whole_g whole_h =
    elim (cases_lt h (g + 2 ^ k)) [
      | inr above ↦ inr (inr (inl above))
      | inl first ↦
          elim (cases_lt g (h + 2 ^ j)) [
            | inr above ↦ inr (inr (inr above))
            | inl last ↦
                elim (cases_lt j k) [
                  | inl l ↦ inr (inl (l, nested j h k g (omega arith) whole_h whole_g last first))
                  | inr l ↦ inl (l, nested k g j h l whole_g whole_h first last)
                ]
          ]
    ]

-- if two blocks share no granule, a granule of the second is outside of the first
pub outside_of : (k g j h x : ℕ) → Apart k g j h → LiesIn x j h → (x < g) ⊎ (g + 2 ^ k ≤ x)
outside_of k g j h x (inl l) inside = inr (omega arith)
outside_of k g j h x (inr l) inside = inl (omega arith)

-- a block lies within itself
pub within_itself : (k g : ℕ) → LiesWithin k g k g
within_itself k g = (omega arith, omega arith)
