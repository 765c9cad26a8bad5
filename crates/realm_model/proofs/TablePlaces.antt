-- Proofs that the 512 rows of a table cover exactly the IPA granules that the row leading to the table covers.
use Rattle.std.proofs.Common.{◌≡◌, ℕ, ◌+◌, ◌-◌, ◌*◌, ◌/◌, ◌%◌, ◌<◌, ◌≤◌, true, false, ◌||◌, refl, sym, subst, arith, lit≤}
use Rattle.std.specs.Prelude.{◌==◌}
use Rattle.std.proofs.lemmas.Bool.{and_parts, and_from, eqb-true, eq-eqb, lt-ltb, le-leb, ltb-true, leb-true}
use Rattle.granule_addr.specs.Ipa.{covered_count, first_covered}
use Rattle.granule_addr.specs.Root.{start_count, served_space}
use Rattle.realm_model.specs.Rows.{is_table_place}
use Rattle.realm_model.specs.Sound.{IsPlace}
use Rattle.realm_model.proofs.Rows.{is_among}

by_level : (P : ℕ → Type 0) (level : ℕ) → (level == 2 || level == 3) ≡ true → P 2 → P 3 → P level
by_level P level h two three = elim (level == 2) as (λ t. (level == 2) ≡ t → (t || level == 3) ≡ true → P level) [
  | true ↦ λ e h. subst P (sym (eqb-true level 2 e)) two
  | false ↦ λ e h. subst P (sym (eqb-true level 3 h)) three
] refl h

-- the level is 2 or 3, and the IPA granule is the first that an entry of the level above covers; the other fields
-- follow from this
pub record IsTablePlace (ipa level : ℕ) : Type 0 where
  pub low : (1 ≤ level - 1) × (level - 1 ≤ 2) × (level - 1 + 1 ≡ level)
  pub first : first_covered (level - 1) ipa ≡ ipa
  pub among : (i : ℕ) → first_covered (level - 1) i ≡ ipa → is_among level ipa (512 * covered_count level) (level, i) ≡ true
  pub from_among : (i : ℕ) → is_among level ipa (512 * covered_count level) (level, i) ≡ true → first_covered (level - 1) i ≡ ipa
  pub below : (k : ℕ) → k < 512 → first_covered (level - 1) (ipa + k * covered_count level) ≡ ipa
  pub aligned : (i : ℕ) → first_covered (level - 1) (first_covered level i) ≡ ipa → (k : ℕ) × (k < 512) × (first_covered level i ≡ ipa + k * covered_count level)
  pub places : (width : ℕ) → ipa < served_space width → (k : ℕ) → k < 512 → IsPlace width (level, ipa + k * covered_count level)

among_from : (level ipa n i : ℕ) → ipa ≤ i → i < ipa + n → is_among level ipa n (level, i) ≡ true
among_from level ipa n i h k = and_from _ _ (and_from _ _ (eq-eqb level level refl) (le-leb ipa i h)) (lt-ltb i (ipa + n) k)

among_to : (level ipa n i : ℕ) → is_among level ipa n (level, i) ≡ true → (ipa ≤ i) × (i < ipa + n)
among_to level ipa n i h = let both = and_parts _ _ h in (leb-true ipa i (and_parts _ _ both.0).1, ltb-true i (ipa + n) both.1)

-- The arithmetic facts below hold of a table that covers `big` IPA granules by 512 entries of `small` IPA granules
-- each.
record IsGrid (big small : ℕ) : Type 0 where
  first : (ipa : ℕ) → ipa % big ≡ 0 → ipa / big * big ≡ ipa
  inside : (ipa i : ℕ) → ipa % big ≡ 0 → i / big * big ≡ ipa → (ipa ≤ i) × (i < ipa + 512 * small)
  outside : (ipa i : ℕ) → ipa % big ≡ 0 → ipa ≤ i → i < ipa + 512 * small → i / big * big ≡ ipa
  entry : (ipa i : ℕ) → ipa % big ≡ 0 → i / small * small / big * big ≡ ipa → (k : ℕ) × (k < 512) × (i / small * small ≡ ipa + k * small)
  place : (ipa k : ℕ) → ipa % big ≡ 0 → (ipa + k * small) / small * small ≡ ipa + k * small
  within : (ipa k : ℕ) → k < 512 → (ipa ≤ ipa + k * small) × (ipa + k * small < ipa + 512 * small)
  below : (tables ipa k : ℕ) → ipa % big ≡ 0 → ipa < tables * 134217728 → k < 512 → ipa + k * small < tables * 134217728

grid_two : IsGrid 262144 512
grid_two = record {
  first = λ ipa whole. omega arith;
  inside = λ ipa i whole at. (omega arith, omega arith);
  outside = λ ipa i whole low high. omega arith;
  entry = λ ipa i whole at. (i / 512 - ipa / 512, omega arith, omega arith);
  place = λ ipa k whole. omega arith;
  within = λ ipa k few. (omega arith, omega arith);
  below = λ tables ipa k whole low few. omega arith;
}

grid_three : IsGrid 512 1
grid_three = record {
  first = λ ipa whole. omega arith;
  inside = λ ipa i whole at. (omega arith, omega arith);
  outside = λ ipa i whole low high. omega arith;
  entry = λ ipa i whole at. (i / 1 - ipa, omega arith, omega arith);
  place = λ ipa k whole. omega arith;
  within = λ ipa k few. (omega arith, omega arith);
  below = λ tables ipa k whole low few. omega arith;
}

placed : (ipa level : ℕ) → (1 ≤ level - 1) × (level - 1 ≤ 2) × (level - 1 + 1 ≡ level) → IsGrid (covered_count (level - 1)) (covered_count level)
    → ipa % covered_count (level - 1) ≡ 0 → IsTablePlace ipa level
placed ipa level low grid whole = record {
  low = low;
  first = grid.first ipa whole;
  among = λ i h. let within = grid.inside ipa i whole h in among_from level ipa (512 * covered_count level) i within.0 within.1;
  from_among = λ i h. let within = among_to level ipa (512 * covered_count level) i h in grid.outside ipa i whole within.0 within.1;
  below = λ k few. let within = grid.within ipa k few in grid.outside ipa (ipa + k * covered_count level) whole within.0 within.1;
  aligned = λ i h. grid.entry ipa i whole h;
  places = λ width inside k few. record {
    least = omega arith;
    most = omega arith;
    first = grid.place ipa k whole;
    inside = grid.below (start_count width) ipa k whole inside few;
  };
}

pub table_place : (ipa level : ℕ) → is_table_place ipa level ≡ true → IsTablePlace ipa level
table_place ipa level h =
    let both = and_parts _ _ h in
    placed ipa level
    (by_level (λ l. (1 ≤ l - 1) × (l - 1 ≤ 2) × (l - 1 + 1 ≡ l)) level both.0 (lit≤ tt, lit≤ tt, refl) (lit≤ tt, lit≤ tt, refl))
    (by_level (λ l. IsGrid (covered_count (l - 1)) (covered_count l)) level both.0 grid_two grid_three)
    (eqb-true (ipa % covered_count (level - 1)) 0 both.1)
