-- Proofs that RMI_RTT_INIT_RIPAS, on the fields of an RMM, is refused as the model says, or sets the RIPAS of a NEW
-- realm's IPA granules to RAM.
use Rattle.std.proofs.Common.{◌≡◌, ℕ, Bool, true, false, List, [], ◌∷◌, set, get_or, cond, Option, option_map, Some, None, Ok, Err, refl, sym, ap, ◌∙◌, subst, arith}
use Rattle.std.specs.Prelude.{◌&&◌}
use Rattle.std.proofs.lemmas.Bool.{and_from, and_parts}
use Rattle.granule_addr.specs.Ipa.{is_protected_at}
use Rattle.granule_addr.specs.declared.width.Root.{Root}
use Rattle.rtt.specs.declared.granule.Granule.{Granule}
use Rattle.realm_model.specs.Rows.{Row, Rows, is_page_run, with_ram}
use Rattle.realm_model.specs.Measurement.{measurement_after, ripas_event}
use Rattle.realm_model.specs.Update.{Outcome}
use Rattle.realm_model.specs.Command.Check.{check, error_input, error_realm, error_rtt, is_new, put_realm}
use Rattle.realm_model.specs.Command.Table.{rtt_init_ripas}
use Rattle.realm_model.proofs.Outcomes.{check_true, check_false}
use Rattle.rmi_monitor.specs.Attributes.{RealmAttributes, realm_row}
use Rattle.rtt.specs.declared.tables.Tables.{Tables}
use Rattle.rtt.specs.Tables.{rows}
use Rattle.realm_model.specs.Command.Found.{with_free_pages}
use Rattle.rtt.specs.Calls.{ChangesTablesOnly, Keeps, KeepsRest}
use Rattle.rmi_monitor.specs.View.{MonitorView, IsTaken, seen_in}
use Rattle.rmi_monitor.specs.Inside.{Fields, realm_at, seen_as, IsWhole, recs_of}
use Rattle.rmi_monitor.specs.Located.{IsLocated, LocatesNew}
use Rattle.rmi_monitor.specs.Places.{measured_by}
use Rattle.rmi_monitor.proofs.TableMoves.{whole_still, machine_still}
use Rattle.rmi_monitor.proofs.Comparisons.{test_held, test_failed}
use Rattle.rmi_monitor.proofs.Granules.{HasFields}
use Rattle.rmi_monitor.proofs.Located.{Stands, stands, stands_new}
use Rattle.rmi_monitor.proofs.Outcomes.{answers_ok}
use Rattle.rmi_monitor.proofs.RealmAfter.{Keeps as KeepsRealm}
use Rattle.rmi_monitor.proofs.RealmFound.{row_of, nowhere, somewhere, measured_there}
use Rattle.rmi_monitor.proofs.RealmCommands.{with_call, Done, after_put}

-- The postcondition of a successful call that sets the RIPAS of IPA granules to RAM.
pub record RipasCall (at : Tables) (pages : List (List ℕ)) (free : List Bool) (granules : List Granule) (new_pages : List (List ℕ)) (new_free : List Bool) (ipa count : ℕ) : Type 0 where
  pub answer : (row : Row) × ((f : Row → Outcome) → with_free_pages (rows pages at.root) ipa count f ≡ f row)
  pub gains : rows new_pages at.root ≡ with_ram (rows pages at.root) ipa count
  pub others : ChangesTablesOnly at.root pages new_pages
  pub keeps : Keeps at.rd at.root pages free granules new_pages new_free granules

-- one or more IPA granules have their entries in one table of level 3, and the first of them is protected
abbrev pub is_run : ℕ → ℕ → ℕ → Bool
is_run ipa count width = is_page_run ipa count && is_protected_at ipa width

-- the code has read the starting tables and the IPA width of the realm, and checks the IPA granules with `is_run`
module _ (realm : RealmAttributes) (ipa count : ℕ) (root : Root) (read : root ≡ realm.root) where
  pub no_run : None ≡ cond (is_run ipa count root.width) (Some ipa) None → is_run ipa count realm.root.width ≡ false
  no_run tested = ap (λ (r : Root). is_run ipa count r.width) (sym read) ∙ test_failed (is_run ipa count root.width) ipa None tested refl

  pub run_located : (rd : ℕ) (at : Tables) → at ≡ record { rd = rd; root = realm.root } → (given : ℕ) → Some given ≡ cond (is_run ipa count root.width) (Some ipa) None
      → IsLocated realm rd ipa (at, given) × (is_page_run ipa count ≡ true)
  run_located rd at tables given tested =
      let held = test_held (is_run ipa count root.width) ipa given (Some given) tested refl in
      let both = and_parts (is_page_run ipa count) _ (ap (λ (r : Root). is_run ipa count r.width) (sym read) ∙ held.0) in
      (record { tables = tables; same = held.1; protected = both.1 }, both.0)

-- a realm's attributes with the measurement extended by RMI_RTT_INIT_RIPAS for `count` IPA granules from `ipa` on
abbrev pub measured : RealmAttributes → ℕ → ℕ → RealmAttributes
measured realm ipa count = record realm { measurement = measurement_after realm.measurement (ripas_event ipa count) }

module _ {monitor : MonitorView} {fields : Fields} (has : HasFields monitor fields) {rd : ℕ} (taken : IsTaken monitor rd) (ipa count : ℕ) where
  abbrev outcome : Outcome
  outcome = rtt_init_ripas (seen_in monitor rd) ipa count

  pub ripas_nowhere : realm_at fields rd ≡ None → outcome ≡ Err error_input
  ripas_nowhere none = nowhere monitor fields has.view_is has.whole rd taken.inside none _

  module _ {realm : RealmAttributes} (there : realm_at fields rd ≡ Some realm) where
    abbrev old_rows : Rows
    old_rows = rows fields.pages realm.root

    abbrev run : Bool
    run = is_run ipa count realm.root.width

    abbrev made : Outcome
    made =
        Ok (put_realm (seen_in monitor rd) (record (row_of fields rd realm) {
          rows = with_ram old_rows ipa count;
          measurement = measurement_after realm.measurement (ripas_event ipa count);
        }) ∷ [])

    abbrev looked : Outcome
    looked = with_free_pages old_rows ipa count (λ row. made)

    abbrev checked : Outcome
    checked = check (is_new realm.state) error_realm looked

    found : outcome ≡ check run error_input checked
    found = somewhere monitor fields has.view_is has.whole rd realm there _

    pub ripas_no_run : run ≡ false → outcome ≡ Err error_input
    ripas_no_run h = found ∙ check_false run error_input checked h

    module _ {at : Tables × ℕ} (located : IsLocated realm rd ipa at × (is_page_run ipa count ≡ true)) where
      runs : run ≡ true
      runs = and_from _ _ located.1 located.0.protected

      pub ripas_not_new : is_new realm.state ≡ false → outcome ≡ Err error_realm
      ripas_not_new h = found ∙ check_true run error_input checked runs ∙ check_false (is_new realm.state) error_realm looked h

      module _ (new_realm : is_new realm.state ≡ true) where
        looks : outcome ≡ with_free_pages (rows fields.pages at.0.root) at.1 count (λ row. made)
        looks =
            found ∙ check_true run error_input checked runs ∙ check_true (is_new realm.state) error_realm looked new_realm
            ∙ (λ k. with_free_pages (rows fields.pages (sym located.0.tables k).root) (sym located.0.same k) count (λ row. made))

        ripas_refused : {l : ℕ} → ((f : Row → Outcome) → with_free_pages (rows fields.pages at.0.root) at.1 count f ≡ Err (error_rtt l)) → outcome ≡ Err (error_rtt l)
        ripas_refused refused = looks ∙ refused (λ row. made)

        -- ---- the call is not refused

        module _ {pages : List (List ℕ)} {free : List Bool} (given_call : RipasCall at.0 fields.pages fields.free fields.granules pages free at.1 count)
            {event : List ℕ} (event_is : event ≡ ripas_event at.1 count)
            {now : RealmAttributes} (now_is : now ≡ record realm { measurement = measurement_after realm.measurement event })
            {realms : List (Option RealmAttributes)} (put : realms ≡ set fields.realms rd (Some now)) where
          call : RipasCall (record { rd = rd; root = realm.root }) fields.pages fields.free fields.granules pages free ipa count
          call = subst (λ (to : Tables × ℕ). RipasCall to.0 fields.pages fields.free fields.granules pages free to.1 count) (λ k. (located.0.tables k, located.0.same k)) given_call

          gives_ram : outcome ≡ made
          gives_ram = looks ∙ given_call.answer.1 (λ row. made)

          measured_now : now ≡ measured realm ipa count
          measured_now =
              now_is
              ∙ ap (λ (e : List ℕ). record realm { measurement = measurement_after realm.measurement e }) event_is
              ∙ ap (λ (n : ℕ). measured realm n count) located.0.same

          abbrev rest : KeepsRest rd fields.pages fields.free fields.granules pages free fields.granules
          rest = call.keeps.rest

          same_realm : KeepsRealm realm (measured realm ipa count)
          same_realm = record { root = refl; vmid = refl; next = omega arith }

          realms_are : realms ≡ set fields.realms rd (Some (measured realm ipa count))
          realms_are = put ∙ ap (λ (r : RealmAttributes). set fields.realms rd (Some r)) measured_now

          abbrev after : List (Option RealmAttributes) → Fields
          after rs = with_call fields fields.granules pages free rs

          ripas_done : Done monitor outcome (after realms)
          ripas_done = record {
            whole =
                subst (λ rs. IsWhole (after rs)) (sym realms_are)
                (whole_still fields has.whole rd realm (measured realm ipa count) there same_realm fields.granules pages free
                rest.flags rest.backed call.keeps.tables rest.other_realms refl call.others);
            says = record {
              answer = answers_ok {A = Unit {0}} tt _ outcome gives_ram;
              machine =
                  ap (λ rs. seen_as (after rs)) realms_are
                  ∙ after_put monitor fields has.view_is has.whole rd taken outcome (after (set fields.realms rd (Some (measured realm ipa count)))) refl refl rest.flags _ _
                  (λ i. realm_row (measured realm ipa count) (recs_of fields.granules fields.recs rd) (call.gains i)) gives_ram
                  (machine_still fields has.whole rd realm (measured realm ipa count) there same_realm fields.granules pages free
                  rest.flags rest.backed call.keeps.tables rest.other_realms refl call.others);
            };
          }

  -- ---- the operands pass the checks

  module _ {at : Tables × ℕ} (place : LocatesNew monitor.machine rd ipa at × (is_page_run ipa count ≡ true)) where
    it : Stands fields rd ipa at
    it = stands has place.0.place

    is_fresh : is_new it.realm.state ≡ true
    unfolding it
    is_fresh = stands_new has place.0.place place.0.is_fresh

    pub run_refused : {l : ℕ} → ((f : Row → Outcome) → with_free_pages (rows fields.pages at.0.root) at.1 count f ≡ Err (error_rtt l)) → outcome ≡ Err (error_rtt l)
    run_refused refused = ripas_refused it.there (it.located, place.1) is_fresh refused

    pub run_done : {pages : List (List ℕ)} {free : List Bool} → RipasCall at.0 fields.pages fields.free fields.granules pages free at.1 count
        → {event : List ℕ} → event ≡ ripas_event at.1 count
        → {n : ℕ} → n ≡ rd → {x now : Option RealmAttributes} → x ≡ get_or fields.realms n x → now ≡ option_map (measured_by event) x
        → Done monitor outcome (with_call fields fields.granules pages free (set fields.realms n now))
    run_done call {event} event_is same stood measured =
        ripas_done it.there (it.located, place.1) is_fresh call event_is refl (measured_there has taken.inside same stood event measured it.there)
