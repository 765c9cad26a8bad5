-- Encodings that let contracts use rows, RECs, realms, granules and machines as the values of structs.
use Rattle.std.specs.Prelude.{ℕ, List, Option, refl}
use Rattle.std.specs.Coded.{Coded, code_by, coded×, coded_ℕ, coded_list, coded_option}
use Rattle.std.specs.FinMap as map
use Rattle.std.specs.Ordering.{nat_cmp}
use Rattle.granule_addr.specs.declared.width.Root.{Root}
use Rattle.realm_model.specs.declared.states.GranuleState.{GranuleState}
use Rattle.realm_model.specs.declared.states.RealmState.{RealmState}
use Rattle.realm_model.specs.declared.states.RecState.{RecState}
use Rattle.realm_model.specs.declared.states.EntryState.{EntryState}
use Rattle.realm_model.specs.declared.states.Ripas.{Ripas}
use Rattle.realm_model.specs.contracts.states.GranuleState as granule_state
use Rattle.realm_model.specs.contracts.states.RealmState as realm_state
use Rattle.realm_model.specs.contracts.states.RecState as rec_state
use Rattle.realm_model.specs.contracts.states.EntryState as entry_state
use Rattle.realm_model.specs.contracts.states.Ripas as ripas
use Rattle.realm_model.specs.Rows.{Row, Rows}
use Rattle.realm_model.specs.Machine.{RecRow, RealmRow, Cell, Machine}

abbrev pub row_code : Coded Row
row_code = code_by (EntryState × (Ripas × Option ℕ)) (coded× entry_state.the_row.coded (coded× ripas.the_row.coded (coded_option coded_ℕ)))
    (λ r. (r.state, (r.ripas, r.granule))) (λ p. record { state = p.0; ripas = p.1.0; granule = p.1.1 }) (λ _. refl)

abbrev pub rows_code : Coded Rows
rows_code = map.code (coded× coded_ℕ coded_ℕ) row_code

abbrev pub rec_row_code : Coded RecRow
rec_row_code = code_by (ℕ × (List ℕ × RecState)) (coded× coded_ℕ (coded× (coded_list coded_ℕ) rec_state.the_row.coded))
    (λ r. (r.granule, (r.auxiliaries, r.state))) (λ p. record { granule = p.0; auxiliaries = p.1.0; state = p.1.1 }) (λ _. refl)

abbrev pub root_code : Coded Root
root_code = code_by (ℕ × ℕ) (coded× coded_ℕ coded_ℕ) (λ r. (r.first, r.width)) (λ p. record { first = p.0; width = p.1 }) (λ _. refl)

abbrev pub realm_row_code : Coded RealmRow
realm_row_code = code_by (RealmState × (ℕ × (Root × (ℕ × (List ℕ × (map.FinMap nat_cmp RecRow × Rows))))))
    (coded× realm_state.the_row.coded (coded× coded_ℕ (coded× root_code (coded× coded_ℕ (coded× (coded_list coded_ℕ) (coded× (map.code coded_ℕ rec_row_code) rows_code))))))
    (λ r. (r.state, (r.vmid, (r.root, (r.next, (r.measurement, (r.recs, r.rows)))))))
    (λ p. record { state = p.0; vmid = p.1.0; root = p.1.1.0; next = p.1.1.1.0; measurement = p.1.1.1.1.0; recs = p.1.1.1.1.1.0; rows = p.1.1.1.1.1.1 }) (λ _. refl)

abbrev pub cell_code : Coded Cell
cell_code = code_by (GranuleState × (Option ℕ × (List ℕ × Option RealmRow)))
    (coded× granule_state.the_row.coded (coded× (coded_option coded_ℕ) (coded× (coded_list coded_ℕ) (coded_option realm_row_code))))
    (λ c. (c.state, (c.realm, (c.bytes, c.descriptor)))) (λ p. record { state = p.0; realm = p.1.0; bytes = p.1.1.0; descriptor = p.1.1.1 }) (λ _. refl)

abbrev pub machine_code : Coded Machine
machine_code = coded_list cell_code
