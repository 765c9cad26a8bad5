-- Lemmas on the bit mask of nonempty free lists: its lowest set bit at or above an order, and its value after a block
-- is inserted or removed.
use Rattle.std.proofs.Common.{◌≡◌, ◌≢◌, ℕ, ◌+◌, ◌-◌, ◌*◌, ◌/◌, ◌%◌, ◌^◌, ◌<◌, ◌≤◌, ◌↔◌, List, length, set, inl, inr, sym, ap, ◌∙◌, subst, arith, w16, bit_and, bit_or}
use Rattle.std.specs.Prelude.{Option, None, Some, is_some, true, false, IfSome, IfNone}
use Rattle.std.specs.Int.{bit_at, bit_not, trailing_zeros}
use Rattle.std.proofs.Math.Nat.{div-le_self}
use Rattle.std.proofs.lemmas.Bool.{cases_eq, cases_lt, true≢false}
use Rattle.std.proofs.lemmas.List.{get_or-set_same, get_or-set_other, get_or_past}
use Rattle.std.proofs.lemmas.Nat.{and_le_l, one_shl, or_lt, pow_below, shr-shr}
use Rattle.std.proofs.lemmas.Nat.Bits.{bit_at-zero, bit_at-trailing_zeros, bit_at_above, bit_at_set_same, bit_at_set_other, bit_at_clear_same, bit_at_clear_other}
use Rattle.buddy.specs.Heads.{head_at}
use Rattle.buddy.specs.Links.{HasHead, IsMask}

-- bit `k` of a mask is bit `k - order` of the mask shifted right by `order`
shifted : (mask order k : ℕ) → order ≤ k → bit_at mask k ≡ bit_at (mask / 2 ^ order) (k - order)
shifted mask order k le =
    let sum : order + (k - order) ≡ k = omega arith in
    ap (bit_at mask) (sym sum) ∙ ap (λ (n : ℕ). n % 2) (sym (shr-shr mask order (k - order)))

module _ (mask : ℕ) (heads : List ℕ) (m : IsMask mask heads) (order : ℕ) where
  abbrev above : ℕ
  above = mask / 2 ^ order

  pub none_above : above ≡ 0 → (k : ℕ) → order ≤ k → k < 10 → ¬ (HasHead heads k)
  none_above none k le low has =
      let one : bit_at mask k ≡ 1 = (m.each k low).1 has in
      let zero : bit_at mask k ≡ 0 = shifted mask order k le ∙ ap (λ (n : ℕ). bit_at n (k - order)) none ∙ bit_at-zero (k - order) in
      omega arith

  module _ (some : 0 < above) where
    abbrev found : ℕ
    found = order + trailing_zeros w16 above

    lowest : (trailing_zeros w16 above < 16) × (bit_at above (trailing_zeros w16 above) ≡ 1) × ((i : ℕ) → i < trailing_zeros w16 above → bit_at above i ≡ 0)
    lowest =
        let ten = m.ten in
        let less : above ≤ mask = div-le_self mask (2 ^ order) in
        bit_at-trailing_zeros w16 above some (omega arith)

    found_set : bit_at mask found ≡ 1
    found_set =
        let rest : found - order ≡ trailing_zeros w16 above = omega arith in
        shifted mask order found (omega arith) ∙ ap (bit_at above) rest ∙ lowest.1

    pub found_low : found < 10
    found_low =
        elim (cases_lt found 10) [
          | inl low ↦ low
          | inr high ↦ let zero : bit_at mask found ≡ 0 = bit_at_above mask 10 found m.ten high in let one = found_set in absurd (omega arith)
        ]

    pub found_head : HasHead heads found
    found_head = (m.each found found_low).0 found_set

    pub none_below : (k : ℕ) → order ≤ k → k < found → ¬ (HasHead heads k)
    none_below k le less has =
        let low = found_low in
        let one : bit_at mask k ≡ 1 = (m.each k (omega arith)).1 has in
        let zero : bit_at mask k ≡ 0 = shifted mask order k le ∙ lowest.2 (k - order) (omega arith) in
        omega arith

-- ---- heads are added and removed

-- a granule at which a listed block begins is one of the granules of the machine
pub head_inside : (heads : List ℕ) (g k : ℕ) → head_at heads g ≡ k + 1 → g < length heads
head_inside heads g k head =
    elim (cases_lt g (length heads)) [ inl within ↦ within | inr outside ↦ let past : head_at heads g ≡ 0 = get_or_past heads g 0 outside in absurd (omega arith) ]

-- if `found` is None, and `IfNone` holds of `found` and a statement, the statement holds
pub of_none : {P : Type 0} (found : Option ℕ) → is_some found ≡ false → IfNone found P → P
of_none None is p = p
of_none (Some first) is p = absurd (true≢false is)

-- if `found` is not None, and `IfSome` holds of `found` and a property, some number has the property
pub of_some : {P : ℕ → Type 0} (found : Option ℕ) → is_some found ≡ true → IfSome found P → (first : ℕ) × P first
of_some None is p = absurd (true≢false (sym is))
of_some (Some first) is p = (first, p)

-- a change of the block listed at a granule leaves `HasHead` for order k as it is, if neither the old block nor the new
-- one has order k
other_order : (heads : List ℕ) (g head k : ℕ) → head_at heads g ≢ k + 1 → head ≢ k + 1 → g < length heads → HasHead (set heads g head) k ↔ HasHead heads k
other_order heads g head k was is inside = (
  λ (has : HasHead (set heads g head) k). elim (cases_eq has.0 g) [
    | inl same ↦
        let here : head_at (set heads g head) g ≡ head = get_or-set_same heads g head 0 inside in
        let there : head_at (set heads g head) has.0 ≡ head_at (set heads g head) g = ap (head_at (set heads g head)) same in
        let one = has.1 in
        absurd (is (omega arith))
    | inr differs ↦ (has.0, sym (get_or-set_other heads g has.0 head 0 differs) ∙ has.1)
  ],
  λ (has : HasHead heads k). (has.0, get_or-set_other heads g has.0 head 0 (λ same. was (ap (head_at heads) (sym same) ∙ has.1)) ∙ has.1),
)

module _ (mask : ℕ) (heads : List ℕ) (m : IsMask mask heads) (g order : ℕ) (inside : g < length heads) (low : order < 10) where
  abbrev bit : ℕ
  bit = 1 * 2 ^ order % 2 ^ 16

  bit_is : bit ≡ 2 ^ order
  bit_is = one_shl order 16 (omega arith)

  -- after a block is inserted, the mask with the bit of the block's order set is the mask of the lists
  pub mask_put : head_at heads g ≡ 0 → IsMask (bit_or mask bit) (set heads g (order + 1))
  mask_put vacant = record {
    ten =
        let small : 2 ^ order < 2 ^ 10 = pow_below order 10 low in
        let is = bit_is in
        or_lt 10 mask bit m.ten (omega arith);
    each = λ k k_low.
        elim (cases_eq k order) [
          | inl same ↦ (
            λ _. (g, get_or-set_same heads g (order + 1) 0 inside ∙ ap (λ (n : ℕ). n + 1) (sym same)),
            λ _. ap (bit_at (bit_or mask bit)) same ∙ bit_at_set_same w16 mask order (omega arith),
          )
          | inr apart ↦
              let still : bit_at (bit_or mask bit) k ≡ bit_at mask k = bit_at_set_other w16 mask order (omega arith) k apart in
              let heads_still = other_order heads g (order + 1) k (omega arith) (λ same. apart (omega arith)) inside in
              (λ set. heads_still.1 ((m.each k k_low).0 (sym still ∙ set)), λ has. still ∙ (m.each k k_low).1 (heads_still.0 has))
        ];
  }

  module _ (head : head_at heads g ≡ order + 1) where
    -- if the list of a removed block still has a block, the unchanged mask is the mask of the lists
    pub mask_kept : HasHead (set heads g 0) order → IsMask mask (set heads g 0)
    mask_kept some = record {
      ten = m.ten;
      each = λ k k_low.
          elim (cases_eq k order) [
            | inl same ↦ (λ _. subst (HasHead (set heads g 0)) (sym same) some, λ _. ap (bit_at mask) same ∙ (m.each order low).1 (g, head))
            | inr apart ↦
                let heads_still = other_order heads g 0 k (λ same. apart (omega arith)) (omega arith) inside in
                (λ set. heads_still.1 ((m.each k k_low).0 set), λ has. (m.each k k_low).1 (heads_still.0 has))
          ];
    }

    -- if the removal of a block empties its list, the mask with the bit of the block's order cleared is the mask of the
    -- lists
    pub mask_cleared : ¬ (HasHead (set heads g 0) order) → IsMask (bit_and mask (bit_not w16 bit)) (set heads g 0)
    mask_cleared none = record {
      ten = let less = and_le_l mask (bit_not w16 bit) in let ten = m.ten in omega arith;
      each = λ k k_low.
          elim (cases_eq k order) [
            | inl same ↦
                let zero : bit_at (bit_and mask (bit_not w16 bit)) k ≡ 0 = ap (bit_at (bit_and mask (bit_not w16 bit))) same ∙ bit_at_clear_same w16 mask order (omega arith) in
                (λ set. absurd (omega arith), λ has. absurd (none (subst (HasHead (set heads g 0)) same has)))
            | inr apart ↦
                let still : bit_at (bit_and mask (bit_not w16 bit)) k ≡ bit_at mask k = bit_at_clear_other w16 mask order (omega arith) k (omega arith) apart in
                let heads_still = other_order heads g 0 k (λ same. apart (omega arith)) (omega arith) inside in
                (λ set. heads_still.1 ((m.each k k_low).0 (sym still ∙ set)), λ has. still ∙ (m.each k k_low).1 (heads_still.0 has))
          ];
    }
