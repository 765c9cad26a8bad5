-- The checks and effects of RMI_DATA_CREATE, RMI_DATA_CREATE_UNKNOWN and RMI_DATA_DESTROY.
use Rattle.std.specs.Prelude.{ℕ, [], ◌∷◌, ◌&&◌, Ok}
use Rattle.realm_model.specs.declared.states.GranuleState.TheVariants.{Data}
use Rattle.realm_model.specs.declared.states.Ripas.TheVariants.{Ram}
use Rattle.realm_model.specs.Rows.{unassigned, assigned, unmapped_ripas, put_row}
use Rattle.realm_model.specs.Measurement.{measurement_after, data_event}
use Rattle.realm_model.specs.Machine.{Seen, left, held}
use Rattle.realm_model.specs.Update.{Outcome, Put}
use Rattle.realm_model.specs.Command.Check.{check, error_input, error_realm, is_undelegated, is_delegated, is_new, is_protected, with_realm, with_granule, put_realm}
use Rattle.realm_model.specs.Command.Found.{with_free_page, with_mapped_page}

-- A DELEGATED granule becomes a DATA granule of a NEW realm, with the bytes of an UNDELEGATED granule. RMM 1.0,
-- RMI_DATA_CREATE.
abbrev pub data_create : Seen → Seen → ℕ → Seen → Outcome
data_create rd g ipa source =
    with_realm rd (λ realm.
    check (is_delegated g && is_undelegated source && is_protected realm ipa) error_input
    (check (is_new realm.state) error_realm
    (with_free_page realm.rows ipa (λ row.
    Ok (Put g.number (record (held Data rd.number) { bytes = source.cell.bytes })
    ∷ put_realm rd (record realm {
      rows = put_row realm.rows 3 ipa (assigned Ram g.number);
      measurement = measurement_after realm.measurement (data_event ipa source.cell.bytes);
    }) ∷ [])))))

-- A DELEGATED granule becomes a DATA granule of a realm, filled with zeros; the RIPAS of its IPA does not change. RMM
-- 1.0, RMI_DATA_CREATE_UNKNOWN.
abbrev pub data_create_unknown : Seen → Seen → ℕ → Outcome
data_create_unknown rd g ipa =
    with_realm rd (λ realm.
    check (is_delegated g && is_protected realm ipa) error_input
    (with_free_page realm.rows ipa (λ row.
    Ok (Put g.number (held Data rd.number)
    ∷ put_realm rd (record realm { rows = put_row realm.rows 3 ipa (assigned row.ripas g.number) }) ∷ []))))

-- A DATA granule leaves its realm and becomes DELEGATED; if its IPA had the RIPAS RAM, the IPA now has DESTROYED. RMM
-- 1.0, RMI_DATA_DESTROY.
abbrev pub data_destroy : Seen → ℕ → Outcome
data_destroy rd ipa =
    with_realm rd (λ realm.
    check (is_protected realm ipa) error_input
    (with_mapped_page realm.rows ipa (λ row. with_granule row (λ granule.
    Ok (Put granule left ∷ put_realm rd (record realm { rows = put_row realm.rows 3 ipa (unassigned (unmapped_ripas row.ripas)) }) ∷ [])))))
