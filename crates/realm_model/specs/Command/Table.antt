-- The checks and effects of RMI_RTT_CREATE, RMI_RTT_DESTROY and RMI_RTT_INIT_RIPAS.
use Rattle.std.specs.Prelude.{ℕ, [], ◌∷◌, ◌&&◌, Ok}
use Rattle.realm_model.specs.declared.states.GranuleState.TheVariants.{Rtt}
use Rattle.realm_model.specs.Rows.{is_table_place, is_page_run, with_table, without_table, with_ram}
use Rattle.realm_model.specs.Measurement.{measurement_after, ripas_event}
use Rattle.realm_model.specs.Machine.{Seen, left, held}
use Rattle.realm_model.specs.Update.{Outcome, Put}
use Rattle.realm_model.specs.Command.Check.{check, error_input, error_realm, is_delegated, is_new, is_protected, with_realm, with_granule, put_realm}
use Rattle.realm_model.specs.Command.Found.{with_room_for_table, with_unused_table, with_free_pages}

-- A DELEGATED granule becomes a table of level 2 or 3. RMM 1.0, RMI_RTT_CREATE.
abbrev pub rtt_create : Seen → Seen → ℕ → ℕ → Outcome
rtt_create rd g ipa level =
    with_realm rd (λ realm.
    check (is_delegated g && is_table_place ipa level && is_protected realm ipa) error_input
    (with_room_for_table realm.rows ipa level (λ above.
    Ok (Put g.number (held Rtt rd.number)
    ∷ put_realm rd (record realm { rows = with_table realm.rows level ipa g.number above.ripas }) ∷ []))))

-- A table with no ASSIGNED and no TABLE entry is removed; its granule becomes DELEGATED. RMM 1.0, RMI_RTT_DESTROY.
abbrev pub rtt_destroy : Seen → ℕ → ℕ → Outcome
rtt_destroy rd ipa level =
    with_realm rd (λ realm.
    check (is_table_place ipa level && is_protected realm ipa) error_input
    (with_unused_table realm.rows ipa level (λ above. with_granule above (λ granule.
    Ok (Put granule left ∷ put_realm rd (record realm { rows = without_table realm.rows level ipa }) ∷ [])))))

-- In a NEW realm, adjacent UNASSIGNED entries of one table of level 3 get the RIPAS RAM, all or none. RMM 1.0,
-- RMI_RTT_INIT_RIPAS. A count of pages, and level 3 alone, is this profile's own.
abbrev pub rtt_init_ripas : Seen → ℕ → ℕ → Outcome
rtt_init_ripas rd ipa count =
    with_realm rd (λ realm.
    check (is_page_run ipa count && is_protected realm ipa) error_input
    (check (is_new realm.state) error_realm
    (with_free_pages realm.rows ipa count (λ row.
    Ok (put_realm rd (record realm {
      rows = with_ram realm.rows ipa count;
      measurement = measurement_after realm.measurement (ripas_event ipa count);
    }) ∷ [])))))
