-- Lemmas on the arithmetic of IPA granules: the entry that covers an IPA granule at each level, and the table of that
-- entry.
use Rattle.std.proofs.Common.{◌≡◌, ◌≢◌, ℕ, zero, suc, ◌+◌, ◌*◌, ◌/◌, ◌%◌, ◌<◌, ◌≤◌, Bool, true, false, ◌&&◌, eqb, Option, Some, None, ◌⊎◌, inl, inr, ⊎_elim, refl, sym, ap, ◌∙◌, arith, lit≤}
use Rattle.std.specs.Prelude.{◌==◌}
use Rattle.std.proofs.Math.Nat.{div-div-eq-div-mul, div-add-mod, mul-div_cancel, div-mul-le_self}
use Rattle.std.proofs.lemmas.Nat.{div-mul-add}
use Rattle.std.proofs.lemmas.Bool.{and_parts, and_from, leb-true, le-leb, ltb-true, lt-ltb, eqb-true, eq-eqb}
use Rattle.std.proofs.lemmas.Bool.Decides.{eqb_tells}
use Rattle.granule_addr.specs.Ipa.{covered_count, first_covered, entry_index, served_count}
use Rattle.granule_addr.specs.Root.{served_space}
use Rattle.realm_model.specs.Sound.{IsPlace}
use Rattle.realm_model.proofs.Rows.{covered_pos}
use Rattle.rtt.specs.Tables.{is_place}
use Rattle.rtt.specs.Realm.{IsInside}

pub option_cases : {A : Type 0} (o : Option A) → (o ≡ None) ⊎ ((x : A) × (o ≡ Some x))
option_cases None = inl refl
option_cases (Some x) = inr (x, refl)

-- ---- the entry that covers an IPA granule

pub index_below : (level ipa : ℕ) → entry_index level ipa < 512
index_below level ipa = let q = ipa / covered_count level in let h : q % 512 < 512 = omega arith in h

-- if one entry covers two IPA granules, one table covers both
pub table_of_entry : (level ipa other : ℕ) → ipa / covered_count level ≡ other / covered_count level → ipa / served_count level ≡ other / served_count level
table_of_entry level ipa other e =
    sym (div-div-eq-div-mul ipa (covered_count level) 512) ∙ ap (λ (q : ℕ). q / 512) e ∙ div-div-eq-div-mul other (covered_count level) 512

-- if one entry covers two IPA granules, both have the same index in the table
pub index_of_entry : (level ipa other : ℕ) → ipa / covered_count level ≡ other / covered_count level → entry_index level ipa ≡ entry_index level other
index_of_entry level ipa other e = ap (λ (q : ℕ). q % 512) e

-- if one table covers two IPA granules, and both have the same index in the table, one entry covers both
pub entry_of_index : (level ipa other : ℕ) → ipa / served_count level ≡ other / served_count level → entry_index level ipa ≡ entry_index level other
    → ipa / covered_count level ≡ other / covered_count level
entry_of_index level ipa other t i =
    let a = div-add-mod (ipa / covered_count level) 512 in
    let b = div-add-mod (other / covered_count level) 512 in
    let q : ipa / covered_count level / 512 ≡ other / covered_count level / 512 =
    div-div-eq-div-mul ipa (covered_count level) 512 ∙ t ∙ sym (div-div-eq-div-mul other (covered_count level) 512) in
    omega arith

-- a table of the next level covers as many IPA granules as an entry of this level
pub served_below : (level : ℕ) → 1 ≤ level → level < 3 → served_count (suc level) ≡ covered_count level
served_below zero low high = absurd (omega arith)
served_below (suc zero) low high = refl
served_below (suc (suc zero)) low high = refl
served_below (suc (suc (suc level))) low high = absurd (omega arith)

-- ---- places

pub place_facts : (width level ipa : ℕ) → is_place width level ipa ≡ true → IsPlace width (level, ipa)
unfolding is_place
place_facts width level ipa e =
    let a = and_parts _ _ e in
    let b = and_parts _ _ a.0 in
    let c = and_parts _ _ b.0 in
    record {
      least = leb-true 1 level c.0;
      most = leb-true level 3 c.1;
      first = eqb-true (first_covered level ipa) ipa a.1;
      inside = ltb-true ipa (served_space width) b.1;
    }

pub inside_place : (width level ipa : ℕ) → is_place width level ipa ≡ true → IsInside width level ipa
inside_place width level ipa e = let facts = place_facts width level ipa e in record { least = facts.least; most = facts.most; below = facts.inside }

pub is_place_from : (width level ipa : ℕ) → IsInside width level ipa → first_covered level ipa ≡ ipa → is_place width level ipa ≡ true
unfolding is_place
is_place_from width level ipa inside first =
    and_from _ _ (and_from _ _ (and_from _ _ (le-leb 1 level inside.least) (le-leb level 3 inside.most))
    (lt-ltb ipa (served_space width) inside.below))
    (eq-eqb (first_covered level ipa) ipa first)

-- the entry that covers an IPA granule also covers `first_covered` of that IPA granule
pub first_covers : (level ipa : ℕ) → first_covered level ipa / covered_count level ≡ ipa / covered_count level
first_covers level ipa = mul-div_cancel (ipa / covered_count level) (covered_pos level)

pub first_first : (level ipa : ℕ) → first_covered level (first_covered level ipa) ≡ first_covered level ipa
first_first level ipa = ap (λ (q : ℕ). q * covered_count level) (first_covers level ipa)

pub first_inside : (width level ipa : ℕ) → IsInside width level ipa → IsInside width level (first_covered level ipa)
first_inside width level ipa inside =
    let le : first_covered level ipa ≤ ipa = div-mul-le_self ipa (covered_count level) in
    let lt = inside.below in
    record { least = inside.least; most = inside.most; below = omega arith }

pub first_is_place : (width level ipa : ℕ) → IsInside width level ipa → is_place width level (first_covered level ipa) ≡ true
first_is_place width level ipa inside = is_place_from width level (first_covered level ipa) (first_inside width level ipa inside) (first_first level ipa)

-- if the entry of a level that covers `ipa` also covers the place `other` of that level, `other` is the first IPA
-- granule of that entry
pub place_is_first : (level ipa other : ℕ) → first_covered level other ≡ other → other / covered_count level ≡ ipa / covered_count level → other ≡ first_covered level ipa
place_is_first level ipa other first same = sym first ∙ ap (λ (q : ℕ). q * covered_count level) same

-- ---- an entry of a level, and those one level down

-- a place is of level `wanted`, and the entry of level `level` that covers `ipa` covers the place's IPA granule too
abbrev pub is_under : ℕ → ℕ → ℕ → ℕ → ℕ → Bool
is_under wanted level ipa other_level other = other_level == wanted && other / covered_count level == ipa / covered_count level

pub under_cases : (wanted level ipa other_level other : ℕ)
    → ((is_under wanted level ipa other_level other ≡ true) × (other_level ≡ wanted) × (other / covered_count level ≡ ipa / covered_count level))
    ⊎ ((is_under wanted level ipa other_level other ≡ false) × (other_level ≡ wanted → other / covered_count level ≢ ipa / covered_count level))
under_cases wanted level ipa other_level other =
    let test = eqb (other / covered_count level) (ipa / covered_count level) in
    elim (eqb_tells other_level wanted) [
      | inl t ↦ elim (eqb_tells (other / covered_count level) (ipa / covered_count level)) [
        | inl u ↦ inl (ap (λ b. b && test) t.0 ∙ u.0, t.1, u.1)
        | inr u ↦ inr (ap (λ b. b && test) t.0 ∙ u.0, λ _. u.1)
      ]
      | inr t ↦ inr (ap (λ b. b && test) t.0, λ e. absurd (t.1 e))
    ]

pub under_true : (wanted level ipa other_level other : ℕ) → other_level ≡ wanted → other / covered_count level ≡ ipa / covered_count level
    → is_under wanted level ipa other_level other ≡ true
under_true wanted level ipa other_level other e c = ⊎_elim (λ u. u.0) (λ u. absurd (u.1 e c)) (under_cases wanted level ipa other_level other)

pub under_false : (wanted level ipa other_level other : ℕ) → (other_level ≡ wanted → other / covered_count level ≢ ipa / covered_count level)
    → is_under wanted level ipa other_level other ≡ false
under_false wanted level ipa other_level other n = ⊎_elim (λ u. absurd (n u.1 u.2)) (λ u. u.0) (under_cases wanted level ipa other_level other)

-- for each index below 512, the table below an entry has a place with that index, and the place is under the entry
pub below_is_place : (width level ipa index : ℕ) → IsInside width level ipa → level < 3 → index < 512
    → ((first_covered level ipa + index * covered_count (suc level)) / covered_count level ≡ ipa / covered_count level)
    × (is_place width (suc level) (first_covered level ipa + index * covered_count (suc level)) ≡ true)
    × (entry_index (suc level) (first_covered level ipa + index * covered_count (suc level)) ≡ index)
below_is_place width zero ipa index inside high few = let low : 1 ≤ 0 = inside.least in absurd (omega arith)
below_is_place width (suc zero) ipa index inside high few =
    let lt : ipa < served_space width = inside.below in
    let n = ipa / 262144 * 262144 + index * 512 in
    (div-mul-add (ipa / 262144) 262144 (index * 512) (omega arith), is_place_from width 2 n (record { least = lit≤ tt; most = lit≤ tt; below = omega arith }) (omega arith), omega arith)
below_is_place width (suc (suc zero)) ipa index inside high few =
    let lt : ipa < served_space width = inside.below in
    let n = ipa / 512 * 512 + index * 1 in
    (div-mul-add (ipa / 512) 512 (index * 1) (omega arith), is_place_from width 3 n (record { least = lit≤ tt; most = lit≤ tt; below = omega arith }) (omega arith), omega arith)
below_is_place width (suc (suc (suc level))) ipa index inside high few = absurd (omega arith)

pub place_is_below : (level ipa other : ℕ) → 1 ≤ level → level < 3 → first_covered (suc level) other ≡ other → other / covered_count level ≡ ipa / covered_count level
    → other ≡ first_covered level ipa + entry_index (suc level) other * covered_count (suc level)
place_is_below zero ipa other low high first same = absurd (omega arith)
place_is_below (suc zero) ipa other low high first same =
    let f : other / 512 * 512 ≡ other = first in
    let s : other / 262144 ≡ ipa / 262144 = same in
    let e : other ≡ ipa / 262144 * 262144 + other / 512 % 512 * 512 = omega arith in e
place_is_below (suc (suc zero)) ipa other low high first same =
    let s : other / 512 ≡ ipa / 512 = same in
    let e : other ≡ ipa / 512 * 512 + other / 1 % 512 * 1 = omega arith in e
place_is_below (suc (suc (suc level))) ipa other low high first same = absurd (omega arith)
