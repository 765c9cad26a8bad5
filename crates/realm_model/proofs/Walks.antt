-- Lemmas on the level at which an RTT walk ends, and on the row at that level.
use Rattle.std.proofs.Common.{◌≡◌, ℕ, zero, suc, ◌≤◌, Some, None, refl, sym, ap, ◌∙◌, arith}
use Rattle.std.proofs.lemmas.Option.{same_Some}
use Rattle.realm_model.specs.Rows.{Row, Rows, Walk, walk, row_at}

pub walk_within : (rows : Rows) (ipa level : ℕ) (end : Walk) → walk rows ipa level ≡ Some end → end.level ≤ level
unfolding walk
walk_within rows ipa zero end e = cc
walk_within rows ipa (suc level) end e =
    elim (row_at rows (suc level) ipa) as (λ o. elim o [ Some row ↦ Some (record { level = suc level; row = row }) | None ↦ walk rows ipa level ] ≡ Some end → end.level ≤ suc level) [
      | Some row ↦ λ e. let same : suc level ≡ end.level = ap (λ (x : Walk). x.level) (same_Some _ _ e) in omega arith
      | None ↦ λ e. let less : end.level ≤ level = walk_within rows ipa level end e in omega arith
    ] e

pub walk_at : (rows : Rows) (ipa level : ℕ) (end : Walk) → walk rows ipa level ≡ Some end → end.level ≡ level → row_at rows level ipa ≡ Some end.row
unfolding walk
walk_at rows ipa zero end e same = cc
walk_at rows ipa (suc level) end e same =
    elim (row_at rows (suc level) ipa) as (λ o. elim o [ Some row ↦ Some (record { level = suc level; row = row }) | None ↦ walk rows ipa level ] ≡ Some end → o ≡ Some end.row) [
      | Some row ↦ λ e. ap (λ (x : Walk). Some x.row) (same_Some _ _ e)
      | None ↦ λ e. let less : end.level ≤ level = walk_within rows ipa level end e in absurd (omega arith)
    ] e

pub walk_end : (rows : Rows) (ipa level : ℕ) (end : Walk) → walk rows ipa level ≡ Some end → row_at rows end.level ipa ≡ Some end.row
unfolding walk
walk_end rows ipa zero end e = cc
walk_end rows ipa (suc level) end e =
    elim (row_at rows (suc level) ipa) as (λ o. row_at rows (suc level) ipa ≡ o
    → elim o [ Some row ↦ Some (record { level = suc level; row = row }) | None ↦ walk rows ipa level ] ≡ Some end → row_at rows end.level ipa ≡ Some end.row) [
      | Some row ↦ λ there e. let same = same_Some _ _ e in ap (λ (x : Walk). row_at rows x.level ipa) (sym same) ∙ there ∙ ap (λ (x : Walk). Some x.row) same
      | None ↦ λ there e. walk_end rows ipa level end e
    ] refl e

-- if a level has no row that covers the IPA granule, a walk to that level ends where a walk to the level above ends
pub walk_above : (rows : Rows) (ipa level : ℕ) → row_at rows (suc level) ipa ≡ None → walk rows ipa (suc level) ≡ walk rows ipa level
unfolding walk
walk_above rows ipa level none = ap (λ o. elim o [ Some row ↦ Some (record { level = suc level; row = row }) | None ↦ walk rows ipa level ]) none

pub walk_there : (rows : Rows) (ipa level : ℕ) (row : Row) → 1 ≤ level → row_at rows level ipa ≡ Some row → walk rows ipa level ≡ Some (record { level = level; row = row })
unfolding walk
walk_there rows ipa zero row low h = absurd (omega arith)
walk_there rows ipa (suc level) row low h = ap (λ o. elim o [ Some row ↦ Some (record { level = suc level; row = row }) | None ↦ walk rows ipa level ]) h
