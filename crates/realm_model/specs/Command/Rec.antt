-- The checks and effects of commands on RECs: creation, entry, exit, destruction, and a guest's write. The host names a
-- REC by its number in the realm.
use Rattle.std.specs.Prelude.{ℕ, ◌+◌, ◌==◌, [], ◌∷◌, ◌++◌, List, map, length, not, ◌&&◌, Ok}
use Rattle.std.specs.List.{list_all}
use Rattle.std.specs.FinMap.{insert, remove}
use Rattle.realm_model.specs.declared.states.GranuleState.TheVariants.{Rec as InRec, RecAux}
use Rattle.realm_model.specs.declared.states.RecState.TheVariants.{Ready, Running}
use Rattle.realm_model.specs.Rows.{is_assigned}
use Rattle.realm_model.specs.Measurement.{measurement_after, rec_event}
use Rattle.realm_model.specs.Machine.{Seen, numbers_of, left, held}
use Rattle.realm_model.specs.Update.{Outcome, Put, PutByte}
use Rattle.realm_model.specs.Command.Check.{check, error_input, error_realm, error_rec, error_rtt, is_delegated, are_distinct, is_new}
use Rattle.realm_model.specs.Command.Check.{is_ready, is_protected, with_realm, with_rec, with_end, with_granule, put_realm, put_rec}

-- DELEGATED granules become a REC of a NEW realm and the REC's `aux` auxiliary granules. The REC gets the realm's next
-- number.
-- RMM 1.0, RMI_REC_CREATE.
abbrev pub rec_create : ℕ → Seen → Seen → List Seen → Outcome
rec_create aux rd g auxiliaries =
    with_realm rd (λ realm.
    check (list_all is_delegated (g ∷ auxiliaries) && are_distinct (numbers_of (g ∷ auxiliaries)) && length auxiliaries == aux) error_input
    (check (is_new realm.state) error_realm
    (Ok (Put g.number (held InRec rd.number)
    ∷ map (λ a. Put a.number (held RecAux rd.number)) auxiliaries
    ++ put_realm rd (record realm {
      recs = insert realm.recs realm.next (record { granule = g.number; auxiliaries = numbers_of auxiliaries; state = Ready });
      next = realm.next + 1;
      measurement = measurement_after realm.measurement (rec_event realm.next);
    }) ∷ []))))

-- A READY REC of an ACTIVE realm becomes RUNNING. RMM 1.0, RMI_REC_ENTER.
abbrev pub rec_enter : Seen → ℕ → Outcome
rec_enter rd number =
    with_realm rd (λ realm. with_rec realm number (λ rec.
    check (not (is_new realm.state)) error_realm
    (check (is_ready rec.state) error_rec
    (Ok (put_rec rd realm number (record rec { state = Running }) ∷ [])))))

-- A RUNNING REC becomes READY. RMM 1.0, REC exit; as a command of its own it is this profile's.
abbrev pub rec_exit : Seen → ℕ → Outcome
rec_exit rd number =
    with_realm rd (λ realm. with_rec realm number (λ rec.
    check (not (is_ready rec.state)) error_rec
    (Ok (put_rec rd realm number (record rec { state = Ready }) ∷ []))))

-- A READY REC is removed; its granules become DELEGATED. Numbers are not used again. RMM 1.0, RMI_REC_DESTROY.
abbrev pub rec_destroy : Seen → ℕ → Outcome
rec_destroy rd number =
    with_realm rd (λ realm. with_rec realm number (λ rec.
    check (is_ready rec.state) error_rec
    (Ok (Put rec.granule left ∷ map (λ a. Put a left) rec.auxiliaries
    ++ put_realm rd (record realm { recs = remove realm.recs number }) ∷ []))))

-- A RUNNING REC writes a byte of a DATA granule of its realm, whatever the RIPAS of the IPA. This profile's own, for
-- guest instructions.
abbrev pub guest_write : Seen → ℕ → ℕ → ℕ → ℕ → Outcome
guest_write rd number ipa offset value =
    with_realm rd (λ realm. with_rec realm number (λ rec.
    check (is_protected realm ipa) error_input
    (check (not (is_ready rec.state)) error_rec
    (with_end realm.rows ipa 3 (λ end.
    check (is_assigned end.row) (error_rtt end.level)
    (with_granule end.row (λ granule. Ok (PutByte granule offset value ∷ []))))))))
