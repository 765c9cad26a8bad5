-- Lemmas on the rows of translation tables by entry state: which granule a row leads to, and in which state that
-- granule is.
use Rattle.std.proofs.Common.{◌≡◌, ℕ, ◌≤◌, true, false, Option, Some, None, refl, ap, subst, arith}
use Rattle.std.specs.Prelude.{option_map}
use Rattle.std.specs.FinMap.{get}
use Rattle.std.proofs.lemmas.Option.{same_Some}
use Rattle.realm_model.specs.declared.states.GranuleState.TheVariants.{Data as InData, Rtt as InRtt}
use Rattle.realm_model.specs.declared.states.EntryState.{EntryState}
use Rattle.realm_model.specs.declared.states.EntryState.TheVariants.{Unassigned, Assigned, Table}
use Rattle.realm_model.specs.Rows.{Row, Rows, is_unassigned, is_assigned, is_unassigned_state, is_assigned_state, is_table_state}
use Rattle.realm_model.specs.Ownership.{mapping_of_row, Mapping, mapping}
use Rattle.realm_model.specs.Sound.{mapping_at, IsKind, IsShaped, is_table_kind, IsSoundRows}
use Rattle.realm_model.specs.Roles.{kind_target}

abbrev pub Vacant : Mapping
Vacant = mapping Unassigned None

pub mapping_get : (o : Option Row) (p : Mapping) → option_map mapping_of_row o ≡ Some p → (row : Row) × (o ≡ Some row) × (mapping_of_row row ≡ p)
mapping_get None p e = cc
mapping_get (Some row) p e = (row, refl, same_Some _ _ e)

pub free_unassigned : (level : ℕ) (h : EntryState) (g : Option ℕ) → IsKind level h g → is_unassigned_state h ≡ true → mapping h g ≡ Vacant
free_unassigned level Unassigned g k e = ap (mapping Unassigned) k
free_unassigned level Assigned g k e = cc
free_unassigned level Table g k e = cc

pub free_above : (level : ℕ) (h : EntryState) (g : Option ℕ) → level ≤ 2 → IsKind level h g → is_table_state h ≡ false → mapping h g ≡ Vacant
free_above level Unassigned g low k e = ap (mapping Unassigned) k
free_above level Assigned g low k e = let three : level ≡ 3 = k.0 in absurd (omega arith)
free_above level Table g low k e = cc

-- in sound rows, each row has a granule or none, as its level and state require (`IsKind`)
pub shape_of : {width : ℕ} (rows : Rows) (place : ℕ × ℕ) (row : Row) → IsSoundRows width (mapping_at rows) → get rows place ≡ Some row → IsKind place.0 row.state row.granule
shape_of rows place row sound there = subst (IsShaped place.0) (ap (option_map mapping_of_row) there) (sound.shaped place)

-- ---- tables

pub plain_unassigned : (row : Row) → is_unassigned row ≡ true → is_table_kind (Some (mapping_of_row row)) ≡ false
plain_unassigned row h =
    elim row.state as (λ x. is_unassigned_state x ≡ true → is_table_kind (Some (mapping x row.granule)) ≡ false) [ Unassigned ↦ λ h. refl | Assigned ↦ λ h. cc | Table ↦ λ h. cc ] h

pub plain_assigned : (row : Row) → is_assigned row ≡ true → is_table_kind (Some (mapping_of_row row)) ≡ false
plain_assigned row h = elim row.state as (λ x. is_assigned_state x ≡ true → is_table_kind (Some (mapping x row.granule)) ≡ false) [ Unassigned ↦ λ h. cc | Assigned ↦ λ h. refl | Table ↦ λ h. cc ] h

-- ---- the granules that rows lead to

pub table_target : (h : EntryState) (g : Option ℕ) (pa : ℕ) → is_table_state h ≡ true → g ≡ Some pa → kind_target h g ≡ Some (pa, InRtt)
table_target Unassigned g pa t e = cc
table_target Assigned g pa t e = cc
table_target Table g pa t e = ap (option_map (λ n. (n, InRtt))) e

pub assigned_target : (h : EntryState) (g : Option ℕ) (pa : ℕ) → is_assigned_state h ≡ true → g ≡ Some pa → kind_target h g ≡ Some (pa, InData)
assigned_target Unassigned g pa t e = cc
assigned_target Assigned g pa t e = ap (option_map (λ n. (n, InData))) e
assigned_target Table g pa t e = cc

pub unassigned_target : (h : EntryState) (g : Option ℕ) → is_unassigned_state h ≡ true → kind_target h g ≡ None
unassigned_target Unassigned g t = refl
unassigned_target Assigned g t = cc
unassigned_target Table g t = cc

-- at levels up to 2, a row that is not TABLE leads to no granule
pub above_target : (level : ℕ) (h : EntryState) (g : Option ℕ) → level ≤ 2 → IsKind level h g → is_table_state h ≡ false → kind_target h g ≡ None
above_target level Unassigned g low k t = refl
above_target level Assigned g low k t = let three : level ≡ 3 = k.0 in absurd (omega arith)
above_target level Table g low k t = cc
