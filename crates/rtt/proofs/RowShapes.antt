-- Proofs that the invariant of a realm's rows holds after a page is mapped or unmapped.
use Rattle.std.proofs.Common.{◌≡◌, ℕ, false, Some, refl, ap, ◌∙◌}
use Rattle.std.specs.Prelude.{option_map, is_some}
use Rattle.granule_addr.specs.Ipa.{first_covered}
use Rattle.realm_model.specs.declared.states.Ripas.{Ripas}
use Rattle.realm_model.specs.Rows.{Row, Rows, row_at, unassigned, assigned, is_table, put_row}
use Rattle.realm_model.specs.Sound.{mapping_at, is_table_kind, IsSoundRows}
use Rattle.realm_model.specs.Ownership.{mapping_of_row}
use Rattle.realm_model.proofs.SoundRows.{put_sound}

kind_table : (row : Row) → is_table row ≡ false → is_table_kind (Some (mapping_of_row row)) ≡ false
kind_table row plain = plain

module _ {width : ℕ} (rows : Rows) (ipa : ℕ) (row : Row) (sound : IsSoundRows width (mapping_at rows)) (at : row_at rows 3 ipa ≡ Some row) (plain : is_table row ≡ false) where
  seen : mapping_at rows (3, first_covered 3 ipa) ≡ Some (mapping_of_row row)
  seen = ap (option_map mapping_of_row) at

  pub mapped_sound : (ripas : Ripas) (page : ℕ) → IsSoundRows width (mapping_at (put_row rows 3 ipa (assigned ripas page)))
  mapped_sound ripas page = put_sound rows (3, first_covered 3 ipa) (assigned ripas page) sound (ap is_some seen) (ap is_table_kind seen ∙ kind_table row plain) (refl, refl)

  pub unmapped_sound : (ripas : Ripas) → IsSoundRows width (mapping_at (put_row rows 3 ipa (unassigned ripas)))
  unmapped_sound ripas = put_sound rows (3, first_covered 3 ipa) (unassigned ripas) sound (ap is_some seen) (ap is_table_kind seen ∙ kind_table row plain) refl
