-- Proofs that the checks and the calls in the code of RMI_REALM_DESTROY lead to the outcome and the effect of the
-- model's command.
use Rattle.std.proofs.Common.{◌≡◌, ℕ, ◌<◌, ◌≤◌, Bool, true, false, List, ◌∷◌, length, map, set, get_or, Some, None, Ok, Err, refl, sym, ap, ◌∙◌, subst, arith}
use Rattle.std.specs.Prelude.{◌==◌, ◌&&◌, not}
use Rattle.std.specs.FinMap.{len}
use Rattle.std.proofs.lemmas.Bool.{eq-eqb, ne_eqb}
use Rattle.rtt.specs.Granules.{granule_at}
use Rattle.page_arena.specs.Page.{is_free}
use Rattle.rtt.specs.declared.granule.Granule.{Granule}
use Rattle.granule_addr.specs.Page.{zero_page}
use Rattle.granule_addr.specs.Root.{starting_tables}
use Rattle.granule_addr.specs.declared.width.Root.{Root}
use Rattle.realm_model.specs.declared.states.GranuleState.TheVariants.{Delegated, Rd as InRd}
use Rattle.realm_model.specs.Rows.{has_root_table}
use Rattle.realm_model.specs.Machine.{RealmRow, left}
use Rattle.realm_model.specs.Update.{Update, Outcome, Put, machine_after_all}
use Rattle.realm_model.specs.Command.Check.{check, error_realm}
use Rattle.realm_model.specs.Command.Realm.{realm_destroy}
use Rattle.realm_model.specs.StepLaw.{set_each}
use Rattle.realm_model.proofs.Booleans.{not_true, not_false}
use Rattle.realm_model.proofs.SetEach.{length-set_each}
use Rattle.rmi_monitor.specs.Attributes.{RealmAttributes, RecAttributes}
use Rattle.rtt.specs.Tables.{rows}
use Rattle.rtt.specs.Calls.{with_state, with_states}
use Rattle.rmi_monitor.specs.View.{MonitorView, IsTaken, seen_in, after_command}
use Rattle.rmi_monitor.specs.Places.{IsInState, HasPage}
use Rattle.granule_addr.specs.Vmids.{IsMarked}
use Rattle.rmi_monitor.specs.Inside.{Fields, realm_at, rec_at, rec_count_at, machine_of, seen_as, IsWhole}
use Rattle.rmi_monitor.proofs.Granules.{machine_is, in_granules, in_pages, not_free, after_done}
use Rattle.rmi_monitor.proofs.RealmPlaces.{in_rd}
use Rattle.rmi_monitor.proofs.RealmDestroys.{rd_still, whole_destroyed, machine_destroyed}
use Rattle.rmi_monitor.proofs.RealmFound.{row_of, somewhere}
use Rattle.rmi_monitor.proofs.RecReads.{kept_by, count_read, some_recs}

module _ (monitor : MonitorView) (fields : Fields) (view_is : seen_as fields ≡ monitor) (whole : IsWhole fields) (rd : ℕ) (taken : IsTaken monitor rd) where
  abbrev outcome : Outcome
  outcome = realm_destroy (seen_in monitor rd)

  module _ (realm : RealmAttributes) (there : realm_at fields rd ≡ Some realm) where
    abbrev row : RealmRow
    row = row_of fields rd realm

    abbrev updates : List Update
    updates = Put rd left ∷ map (λ table. Put table left) (starting_tables realm.root)

    checked : (none tables : Bool) → (len row.recs == 0) ≡ none → has_root_table realm.root.width row.rows ≡ tables → outcome ≡ check (none && not tables) error_realm (Ok updates)
    checked none tables n t =
        somewhere monitor fields view_is whole rd realm there _ ∙ (λ i. check (n i && not (t i)) error_realm (Ok updates))

    -- the code has read `count`, the number of the realm's RECs
    module _ (place count : ℕ) (same : place ≡ rd) (read : count ≡ get_or fields.rec_counts place count) where
      count_is : count ≡ rec_count_at fields rd
      count_is = count_read fields whole rd (in_granules monitor fields view_is whole rd taken) place same count read

      -- destroying a realm that has a REC is refused with a realm error
      pub destroy_with_rec : 0 < count → outcome ≡ Err error_realm
      unfolding check
      destroy_with_rec some =
          let is = count_is in
          let counted = whole.counted rd in
          checked false (has_root_table realm.root.width row.rows) (ne_eqb (len row.recs) 0 (λ e. omega (arith, some, is, counted, e))) refl

      module _ (few : count ≤ 0) where
        none : rec_count_at fields rd ≡ 0
        none = let is = count_is in omega (arith, is, few)

        no_recs : (len row.recs == 0) ≡ true
        no_recs = eq-eqb (len row.recs) 0 (sym (whole.counted rd) ∙ none)

        no_rec : (g : ℕ) (rec : RecAttributes) → rec_at fields g ≡ Some rec → (granule_at fields.granules g).realm ≡ Some rd → ⊥
        no_rec g rec at of = let some = some_recs fields whole g rec rd _ (kept_by fields whole g rec at rd of) in let zero = none in omega (arith, some, zero)

        module _ (root : Root) (root_is : root ≡ realm.root) where
          -- destroying a realm without RECs is refused with a realm error if a starting table has a TABLE entry
          pub destroy_with_table : false ≡ not (has_root_table root.width (rows fields.pages root)) → outcome ≡ Err error_realm
          unfolding check
          destroy_with_table some = checked true true no_recs (not_false (has_root_table realm.root.width row.rows) (sym (some ∙ ap (λ r. not (has_root_table r.width (rows fields.pages r))) root_is)))

          module _ (closed : true ≡ not (has_root_table root.width (rows fields.pages root))) where
            pub destroy_done : outcome ≡ Ok updates
            unfolding check
            destroy_done = checked true false no_recs (not_true (has_root_table realm.root.width row.rows) (sym (closed ∙ ap (λ r. not (has_root_table r.width (rows fields.pages r))) root_is)))

            -- the starting tables are DELEGATED in `granules`, and zero in `pages`
            module _ (granules : List Granule) (pages : List (List ℕ)) (moved : granules ≡ with_states fields.granules (starting_tables root) Delegated None)
                (cleared : pages ≡ set_each zero_page (starting_tables root) fields.pages) where
              rd_in_pages : rd < length pages
              rd_in_pages =
                  subst (λ n. rd < n) (sym (ap length cleared ∙ length-set_each zero_page (starting_tables root) fields.pages)) (in_pages monitor fields view_is whole rd taken)

              rd_in_granules : rd < length granules
              rd_in_granules =
                  subst (λ n. rd < n) (sym (ap length moved ∙ length-set_each (record { state = Delegated; realm = None }) (starting_tables root) fields.granules))
                  (in_granules monitor fields view_is whole rd taken)

              still_rd : (granule_at granules rd).state ≡ InRd
              still_rd =
                  ap (λ gs. (granule_at gs rd).state) (moved ∙ ap (λ r. with_states fields.granules (starting_tables r) Delegated None) root_is)
                  ∙ ap (λ (x : Granule). x.state) (rd_still fields whole rd realm there no_rec) ∙ in_rd fields whole rd realm there

              -- `pages` still has contents for the RD, and the RD is not free
              pub destroy_page : (free : List Bool) → free ≡ fields.free → HasPage pages free rd
              destroy_page free flags = record { inside = rd_in_pages; taken = ap (λ fs. is_free fs rd) flags ∙ not_free monitor fields view_is whole rd taken }

              pub destroy_stands : IsInState granules InRd rd
              destroy_stands = record { inside = rd_in_granules; is = still_rd }

              module _ (shifted : List Granule) (filled : List (List ℕ)) (free : List Bool) (n : ℕ) (shift : shifted ≡ with_state granules rd Delegated None)
                  (fill : filled ≡ set pages rd zero_page) (flags : free ≡ fields.free) (n_is : n ≡ rd)
                  (used : List Bool) (vmid : ℕ) (vmid_is : vmid ≡ realm.vmid) (mark : IsMarked fields.used used vmid false) where
                abbrev after_destroy : List Granule → List (List ℕ) → List Bool → ℕ → Fields
                after_destroy gs ps fs place = record fields { granules = gs; pages = ps; free = fs; realms = set fields.realms place None; used = used }

                marked : IsMarked fields.used used realm.vmid false
                marked = subst (λ v. IsMarked fields.used used v false) vmid_is mark

                granules_are : shifted ≡ with_state (with_states fields.granules (starting_tables realm.root) Delegated None) rd Delegated None
                granules_are = shift ∙ ap (λ gs. with_state gs rd Delegated None) (moved ∙ ap (λ r. with_states fields.granules (starting_tables r) Delegated None) root_is)

                pages_are : filled ≡ set (set_each zero_page (starting_tables realm.root) fields.pages) rd zero_page
                pages_are = fill ∙ ap (λ ps. set ps rd zero_page) (cleared ∙ ap (λ r. set_each zero_page (starting_tables r) fields.pages) root_is)

                abbrev now : Fields
                now =
                    after_destroy (with_state (with_states fields.granules (starting_tables realm.root) Delegated None) rd Delegated None)
                    (set (set_each zero_page (starting_tables realm.root) fields.pages) rd zero_page) fields.free rd

                written : after_destroy shifted filled free n ≡ now
                written i = after_destroy (granules_are i) (pages_are i) (flags i) (n_is i)

                pub whole_after_destroy : IsWhole (after_destroy shifted filled free n)
                whole_after_destroy = subst IsWhole (sym written) (whole_destroyed fields whole rd realm there no_rec used marked)

                machine_after : machine_of now ≡ machine_after_all updates monitor.machine
                machine_after =
                    machine_destroyed fields whole rd realm there no_rec used marked ∙ ap (machine_after_all updates) (machine_is monitor fields view_is whole)

                pub seen_after_destroy : seen_as (after_destroy shifted filled free n) ≡ after_command outcome monitor
                seen_after_destroy = ap seen_as written ∙ after_done monitor fields view_is whole now updates outcome destroy_done refl refl refl machine_after
