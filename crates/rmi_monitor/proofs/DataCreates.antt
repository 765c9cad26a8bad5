-- Proofs that RMI_DATA_CREATE, on the fields of an RMM, is refused as the model says, or turns a DELEGATED granule into
-- a realm's page with another granule's bytes.
use Rattle.std.proofs.Common.{◌≡◌, ◌≢◌, ℕ, ◌<◌, ◌&&◌, Bool, true, false, List, [], ◌∷◌, length, set, get_or, Option, option_map, Some, None, Ok, Err, refl, sym, ap, ◌∙◌, subst, arith}
use Rattle.std.proofs.lemmas.Bool.{and_from, and_left, and_right, and_parts}
use Rattle.std.proofs.lemmas.List.{get_or-set_other}
use Rattle.granule_addr.specs.Ipa.{is_protected_at}
use Rattle.rtt.specs.Granules.{granule_at}
use Rattle.rtt.specs.declared.granule.Granule.{Granule}
use Rattle.page_arena.specs.Page.{page_at}
use Rattle.realm_model.specs.declared.states.GranuleState.{GranuleState}
use Rattle.realm_model.specs.declared.states.GranuleState.TheVariants.{Undelegated, Delegated, Data as InData, Rtt as InRtt}
use Rattle.realm_model.specs.declared.states.Ripas.TheVariants.{Ram}
use Rattle.realm_model.specs.Rows.{Row, Rows, is_unassigned, assigned, put_row}
use Rattle.realm_model.specs.Measurement.{measurement_after, data_event}
use Rattle.realm_model.specs.Machine.{Cell, RealmRow, held}
use Rattle.realm_model.specs.Update.{Put, Outcome}
use Rattle.realm_model.specs.Command.Check.{check, error_input, error_realm, error_rtt, is_delegated, is_undelegated, is_new, put_realm}
use Rattle.realm_model.specs.Command.Data.{data_create}
use Rattle.realm_model.proofs.Outcomes.{check_true, check_false}
use Rattle.rmi_monitor.specs.Attributes.{RealmAttributes, realm_row}
use Rattle.rtt.specs.declared.tables.Tables.{Tables}
use Rattle.rtt.specs.Tables.{rows}
use Rattle.realm_model.specs.Command.Found.{with_free_page}
use Rattle.rmi_monitor.specs.View.{MonitorView, IsTaken, seen_in}
use Rattle.rmi_monitor.specs.Inside.{Fields, realm_at, bytes_of}
use Rattle.rmi_monitor.specs.Located.{IsLocated, LocatesNew}
use Rattle.rmi_monitor.specs.Places.{measured_by, is_delegated_at, is_undelegated_at}
use Rattle.rmi_monitor.proofs.Checks.{delegated_state, undelegated_state}
use Rattle.rmi_monitor.proofs.Granules.{HasFields, in_granules, cell_is, seen_delegated, seen_undelegated, states_apart}
use Rattle.rmi_monitor.proofs.DataMaps.{MapCall, map_call_at, mapped_by, rows_kept, page_written, mapped_written}
use Rattle.rmi_monitor.proofs.Located.{Stands, stands, stands_new}
use Rattle.rmi_monitor.proofs.Refusals.{Passes, passed_row, row_passes}
use Rattle.rmi_monitor.proofs.RealmCommands.{with_call, Done, Moves, moves_done}
use Rattle.rmi_monitor.proofs.RealmAfter.{Keeps}
use Rattle.rmi_monitor.proofs.RealmPlaces.{no_table}
use Rattle.rmi_monitor.proofs.RealmFound.{row_of, nowhere, somewhere, measured_there}

-- the RD, the new page and the source that the command names are granules of the machine that are not free
abbrev pub AreNamed : MonitorView → ℕ → ℕ → ℕ → Type 0
AreNamed monitor rd g source = record { rd_taken : IsTaken monitor rd; page_taken : IsTaken monitor g; source_taken : IsTaken monitor source }

module _ {monitor : MonitorView} {fields : Fields} (has : HasFields monitor fields) (rd g ipa source : ℕ) (named : AreNamed monitor rd g source) where
  abbrev outcome : Outcome
  outcome = data_create (seen_in monitor rd) (seen_in monitor g) ipa (seen_in monitor source)

  pub create_no_realm : realm_at fields rd ≡ None → outcome ≡ Err error_input
  create_no_realm none = nowhere monitor fields has.view_is has.whole rd named.rd_taken.inside none _

  delegated_seen : is_delegated (seen_in monitor g) ≡ is_delegated_at fields.granules g
  delegated_seen = seen_delegated monitor fields has.view_is has.whole g named.page_taken

  undelegated_seen : is_undelegated (seen_in monitor source) ≡ is_undelegated_at fields.granules source
  undelegated_seen = seen_undelegated monitor fields has.view_is has.whole source named.source_taken

  abbrev may_copy : Bool
  may_copy = is_delegated_at fields.granules g && is_undelegated_at fields.granules source

  -- if granule `g` is DELEGATED and the source is UNDELEGATED in the fields, both have these states in the machine too
  pub fit_seen : may_copy ≡ true → (is_delegated (seen_in monitor g) && is_undelegated (seen_in monitor source)) ≡ true
  fit_seen h = (λ k. delegated_seen k && undelegated_seen k) ∙ h

  module _ {realm : RealmAttributes} (there : realm_at fields rd ≡ Some realm) where
    abbrev row : RealmRow
    row = row_of fields rd realm

    abbrev old_rows : Rows
    old_rows = rows fields.pages realm.root

    abbrev inputs : Bool
    inputs = is_delegated (seen_in monitor g) && is_undelegated (seen_in monitor source) && is_protected_at ipa realm.root.width

    abbrev bytes_there : List ℕ
    bytes_there = (seen_in monitor source).cell.bytes

    abbrev made : RealmRow
    made = record row {
      rows = put_row old_rows 3 ipa (assigned Ram g);
      measurement = measurement_after row.measurement (data_event ipa bytes_there);
    }

    abbrev on_row : Row → Outcome
    on_row r = Ok (Put g (record (held InData rd) { bytes = bytes_there }) ∷ put_realm (seen_in monitor rd) made ∷ [])

    refused_input : inputs ≡ false → outcome ≡ Err error_input
    refused_input h = somewhere monitor fields has.view_is has.whole rd realm there _ ∙ check_false inputs error_input _ h

    pub create_unprotected : is_protected_at ipa realm.root.width ≡ false → outcome ≡ Err error_input
    create_unprotected h = refused_input (and_right _ _ h)

    pub create_unfit : may_copy ≡ false → outcome ≡ Err error_input
    create_unfit h = refused_input (and_left _ _ ((λ k. delegated_seen k && undelegated_seen k) ∙ h))

    module _ {at : Tables × ℕ} (located : IsLocated realm rd ipa at) (fit : may_copy ≡ true) where
      delegated : is_delegated_at fields.granules g ≡ true
      delegated = (and_parts _ _ fit).0

      undelegated : is_undelegated_at fields.granules source ≡ true
      undelegated = (and_parts _ _ fit).1

      passed : outcome ≡ check (is_new row.state) error_realm (with_free_page old_rows ipa on_row)
      passed =
          somewhere monitor fields has.view_is has.whole rd realm there _
          ∙ check_true inputs error_input _ (and_from _ _ (fit_seen fit) located.protected)

      pub create_not_new : is_new row.state ≡ false → outcome ≡ Err error_realm
      create_not_new h = passed ∙ check_false (is_new row.state) error_realm _ h

      module _ (is_fresh : is_new row.state ≡ true) where
        decided : outcome ≡ with_free_page old_rows ipa on_row
        decided = passed ∙ check_true (is_new row.state) error_realm _ is_fresh

        create_refused : {l : ℕ} → ((f : Row → Outcome) → with_free_page (rows fields.pages at.0.root) at.1 f ≡ Err (error_rtt l)) → outcome ≡ Err (error_rtt l)
        create_refused refused = decided ∙ (λ k. with_free_page (rows fields.pages (sym located.tables k).root) (sym located.same k) on_row) ∙ refused on_row

        -- three calls have mapped the page, copied the source, and extended the measurement
        module _ {granules : List Granule} {pages : List (List ℕ)} {free : List Bool}
            (given_call : MapCall at.0 fields.pages fields.free fields.granules pages free granules g at.1 (Some Ram))
            {copied : List (List ℕ)} (copies : copied ≡ set pages g (page_at pages source)) {kept : List Bool} (keeps : kept ≡ free)
            {event bytes : List ℕ} (read : bytes ≡ page_at copied source) (event_is : event ≡ data_event at.1 bytes)
            {now : RealmAttributes} (measured : now ≡ record realm { measurement = measurement_after realm.measurement event })
            {realms : List (Option RealmAttributes)} (put : realms ≡ set fields.realms rd (Some now)) where
          call : MapCall (record { rd = rd; root = realm.root }) fields.pages fields.free fields.granules pages free granules g ipa (Some Ram)
          call = map_call_at located given_call

          found : Passes old_rows ipa 3 is_unassigned
          found = (passed_row old_rows ipa 3 is_unassigned on_row _ (call.answer.1 on_row)).0

          created : outcome ≡ on_row found.row
          created = decided ∙ row_passes old_rows ipa 3 is_unassigned on_row found

          was : (granule_at fields.granules g).state ≡ Delegated
          was = delegated_state (granule_at fields.granules g).state delegated

          source_was : (granule_at fields.granules source).state ≡ Undelegated
          source_was = undelegated_state (granule_at fields.granules source).state undelegated

          apart : source ≢ g
          apart e = states_apart fields.granules g source delegated undelegated (sym e)

          inside : g < length fields.granules
          inside = in_granules monitor fields has.view_is has.whole g named.page_taken

          abbrev IsMap : List (List ℕ) → List Bool → Type 0
          IsMap pages free = Moves fields rd realm.root g (record { state = InData; realm = Some rd }) granules pages free

          map : IsMap pages free
          map = mapped_by call inside was

          map_after : IsMap copied kept
          map_after =
              subst (λ (to : List (List ℕ) × List Bool). IsMap to.0 to.1) (λ k. (sym copies k, sym keeps k))
              (mapped_written fields rd realm.root g granules pages free map (page_at pages source))

          -- after the call that maps the page, the source granule still has the bytes that the command has seen in it
          source_bytes : page_at pages source ≡ bytes_there
          source_bytes =
              call.others source (no_table fields has.whole rd realm there source (λ e. let differ : Undelegated ≡ InRtt = sym source_was ∙ e in cc))
              ∙ ap (λ (s : GranuleState). bytes_of s (page_at fields.pages source)) (sym source_was)
              ∙ ap (λ (c : Cell). c.bytes) (sym (cell_is monitor fields has.view_is has.whole source named.source_taken.inside))

          page_is : page_at copied g ≡ bytes_there
          page_is =
              ap (λ (ps : List (List ℕ)). page_at ps g) copies
              ∙ page_written fields rd realm.root g granules pages free map (page_at pages source) ∙ source_bytes

          event_there : event ≡ data_event ipa bytes_there
          event_there =
              event_is
              ∙ ap (λ n. data_event n bytes) located.same
              ∙ ap (data_event ipa) (read ∙ ap (λ (ps : List (List ℕ)). page_at ps source) copies ∙ get_or-set_other pages g source (page_at pages source) [] apart ∙ source_bytes)

          rows_now : rows copied realm.root ≡ put_row old_rows 3 ipa (assigned Ram g)
          rows_now =
              ap (λ (ps : List (List ℕ)). rows ps realm.root) copies
              ∙ rows_kept fields rd realm.root g granules pages free map (page_at pages source) ∙ call.gains found.row found.at

          same_realm : Keeps realm now
          same_realm = subst (Keeps realm) (sym measured) (record { root = refl; vmid = refl; next = omega arith })

          row_now : realm_row now row.recs (rows copied realm.root) ≡ made
          row_now =
              (λ i. realm_row (measured i) row.recs (rows_now i))
              ∙ ap (λ (e : List ℕ). record row { rows = put_row old_rows 3 ipa (assigned Ram g); measurement = measurement_after row.measurement e }) event_there

          create_done : Done monitor outcome (with_call fields granules copied kept realms)
          create_done =
              moves_done has named.rd_taken there map_after same_realm put outcome (λ i. record (held InData rd) { bytes = page_is i }) row_now created

  -- ---- the operands pass the checks

  module _ {at : Tables × ℕ} (found : LocatesNew monitor.machine rd ipa at × ((is_delegated (seen_in monitor g) && is_undelegated (seen_in monitor source)) ≡ true)) where
    it : Stands fields rd ipa at
    it = stands has found.0.place

    is_fresh : is_new it.realm.state ≡ true
    unfolding it
    is_fresh = stands_new has found.0.place found.0.is_fresh

    both : may_copy ≡ true
    both = (λ k. sym delegated_seen k && sym undelegated_seen k) ∙ found.1

    pub copy_fits : (is_delegated_at fields.granules g ≡ true) × (is_undelegated_at fields.granules source ≡ true)
    copy_fits = and_parts _ _ both

    pub copy_refused : {l : ℕ} → ((f : Row → Outcome) → with_free_page (rows fields.pages at.0.root) at.1 f ≡ Err (error_rtt l)) → outcome ≡ Err (error_rtt l)
    copy_refused refused = create_refused it.there it.located both is_fresh refused

    pub copy_done : {granules : List Granule} {pages : List (List ℕ)} {free : List Bool}
        → MapCall at.0 fields.pages fields.free fields.granules pages free granules g at.1 (Some Ram)
        → {copied : List (List ℕ)} → copied ≡ set pages g (page_at pages source) → {kept : List Bool} → kept ≡ free
        → {event bytes : List ℕ} → bytes ≡ page_at copied source → event ≡ data_event at.1 bytes
        → {n : ℕ} → n ≡ rd → {x now : Option RealmAttributes} → x ≡ get_or fields.realms n x → now ≡ option_map (measured_by event) x
        → Done monitor outcome (with_call fields granules copied kept (set fields.realms n now))
    copy_done call copies keeps {event} read event_is same stood measured =
        create_done it.there it.located both is_fresh call copies keeps read event_is refl (measured_there has named.rd_taken.inside same stood event measured it.there)
