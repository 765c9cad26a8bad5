-- An example of a REC that runs, stops and is destroyed, and of the undo of all operations of its build.
use Rattle.std.proofs.Common.{◌≡◌, ℕ, true, false, cond, ◌&&◌, ◌||◌, not, List, [], ◌∷◌, ◌++◌, length, Some, None, Err, refl, sym, ap, ◌∙◌}
use Rattle.std.specs.Prelude.{◌==◌, is_some, option_and_then}
use Rattle.std.specs.FinMap.{get, insert, empty, len, get-insert, get-remove, get-empty}
use Rattle.std.specs.Cmp.{nat_cmp_total}
use Rattle.std.specs.List.{list_any}
use Rattle.std.specs.Ordering.{nat_cmp, eq_by_cmp}
use Rattle.std.specs.Str.{bytes_eq}
use Rattle.std.proofs.lemmas.Bool.{and_from, eq-eqb}
use Rattle.granule_addr.specs.Root.{starting_tables}
use Rattle.granule_addr.specs.Page.{zero_page}
use Rattle.realm_model.specs.declared.act.Act.{Act}
use Rattle.realm_model.specs.declared.act.Act.TheVariants.{UnTake, Undelegate, UnRealm, Activate, Rec, UnRec, Enter, Exit}
use Rattle.realm_model.specs.declared.act.Event.{Event}
use Rattle.realm_model.specs.declared.rmi.Status.TheVariants.{Realm as OfRealm, Rec as OfRec}
use Rattle.realm_model.specs.declared.states.GranuleState.TheVariants.{Rec as InRec}
use Rattle.realm_model.specs.declared.states.RealmState.TheVariants.{Active}
use Rattle.realm_model.specs.declared.states.RecState.{RecState}
use Rattle.realm_model.specs.declared.states.RecState.TheVariants.{Ready, Running}
use Rattle.realm_model.specs.Rows.{Row, root_rows, unassigned, is_table, all_rows, is_table_state}
use Rattle.realm_model.specs.Measurement.{zero_measurement, measurement_after, rec_event}
use Rattle.realm_model.specs.Machine.{RecRow, RealmRow, Cell}
use Rattle.realm_model.specs.declared.states.Ripas.TheVariants.{Empty}
use Rattle.realm_model.specs.Ownership.{mapping_of_row, Mapping}
use Rattle.realm_model.specs.Act.{named, reverse_of, is_reverse}
use Rattle.realm_model.specs.Command.Check.{check, with_realm}
use Rattle.realm_model.specs.Command.Realm.{new_realm}
use Rattle.realm_model.specs.Outcome.{outcome_of, fits}
use Rattle.realm_model.specs.World.{World, realm_from, realm_of, updated_all, opening}
use Rattle.realm_model.specs.Step.{step, outcome_in}
use Rattle.realm_model.specs.History.{after, replay, open_entries, IsLegal}
use Rattle.realm_model.specs.Running.{is_rec_running, running_count, is_running}
use Rattle.realm_model.specs.Undoing.{by, undoing}
use Rattle.realm_model.specs.Marks.{mark_at, above, rolling_back, erase_after}
use Rattle.realm_model.proofs.HistoryParts.{after_append}
use Rattle.realm_model.proofs.Outcomes.{check_true, rec_there}
use Rattle.realm_model.proofs.Reversal.{no_recs}
use Rattle.realm_model.proofs.RowKinds.{Vacant}
use Rattle.realm_model.proofs.Rows.{all_rows_from, put_there}
use Rattle.realm_model.proofs.Examples.Worlds.{machine_of, page, delegated, rd, table_page, of_realm, start, start_rows, fresh, world_of, Recs}
use Rattle.realm_model.proofs.Examples.Worlds.{OneRec, ready, running, stopped, gone, latest, step_by, and_then, at_end, forward, joined}
use Rattle.realm_model.proofs.Examples.Realms.{on_four}

-- ---- the REC of number 0

abbrev made : Act
made = Rec 2 (record { items = [] }) 0

abbrev unmade : Act
unmade = UnRec 2 (record { items = [] }) 0

abbrev rec : RecState → RecRow
rec state = record { granule = 2; auxiliaries = []; state = state }

none_gone : (n : ℕ) → get (gone rec) n ≡ None
none_gone n =
    get-remove nat_cmp_total (stopped rec) 0 n
    ∙ elim (eq_by_cmp nat_cmp n 0) as (λ t. eq_by_cmp nat_cmp n 0 ≡ t → cond t None (get (stopped rec) n) ≡ None) [
      | true ↦ λ e. refl
      | false ↦ λ e. under (running rec) (rec Ready) e ∙ under (ready rec) (rec Running) e ∙ under empty (rec Ready) e ∙ get-empty nat_cmp n
    ] refl
  where
    under : (recs : Recs) (x : RecRow) → eq_by_cmp nat_cmp n 0 ≡ false → get (insert recs 0 x) n ≡ get recs n
    under recs x e = get-insert nat_cmp_total recs 0 x n ∙ ap (λ t. cond t (Some x) (get recs n)) e

-- ---- its realm, and the machine of four pages

abbrev realm : OneRec → RealmRow
realm recs = record fresh { state = Active; next = 1; measurement = measurement_after zero_measurement (rec_event 0); recs = recs rec }

abbrev world : OneRec → Cell → World
world recs third = world_of (rd (realm recs) ∷ table_page ∷ third ∷ page zero_page ∷ [])

abbrev entered : List Event
entered = on_four ++ by 0 made ∷ by 0 Activate ∷ []

entered-world : replay (machine_of 4) entered ≡ Some (world ready (of_realm InRec zero_page))
unfolding after step named outcome_of fits updated_all check realm_from with_realm new_realm starting_tables
entered-world = refl

-- the READY REC runs after its enter
runs : step (machine_of 4) (world ready (of_realm InRec zero_page)) (by 0 (Enter 0)) ≡ Some (world running (of_realm InRec zero_page))
unfolding named outcome_of fits updated_all check realm_from with_realm starting_tables
runs = step_by (machine_of 4) _ _ (by 0 (Enter 0)) _ refl (rec_there (realm ready) 0 _ (rec Ready) (latest empty (rec Ready))) refl

-- while the REC runs, the count of running RECs is 1, and the destruction of the REC is refused
runs-count : running_count (realm_of 0 (world running (of_realm InRec zero_page))) ≡ 1
unfolding running_count realm_from starting_tables
runs-count = ap (λ o. length {A = ℕ} (cond (is_rec_running o) (0 ∷ []) [])) (latest (ready rec) (rec Running))

runs-act : is_running (realm_of 0 (world running (of_realm InRec zero_page))) made ≡ true
unfolding realm_from starting_tables
runs-act = ap is_rec_running (latest (ready rec) (rec Running))

runs-refused : outcome_in (machine_of 4) (world running (of_realm InRec zero_page)) (by 0 unmade) ≡ Err (record { status = OfRec; index = 0 })
unfolding named outcome_of check realm_from with_realm starting_tables
runs-refused = rec_there (realm running) 0 _ (rec Running) (latest (ready rec) (rec Running))

-- the running REC is READY after its exit
stops : step (machine_of 4) (world running (of_realm InRec zero_page)) (by 0 (Exit 0)) ≡ Some (world stopped (of_realm InRec zero_page))
unfolding named outcome_of fits updated_all check realm_from with_realm starting_tables
stops = step_by (machine_of 4) _ _ (by 0 (Exit 0)) _ refl (rec_there (realm running) 0 _ (rec Running) (latest (ready rec) (rec Running))) refl

-- after RMI_REC_DESTROY the REC is gone, and the REC's granule is DELEGATED
goes : step (machine_of 4) (world stopped (of_realm InRec zero_page)) (by 0 unmade) ≡ Some (world gone delegated)
unfolding named outcome_of fits updated_all check realm_from with_realm starting_tables
goes = step_by (machine_of 4) _ _ (by 0 unmade) _
    (ap (λ o. elim o [ Some r ↦ r.granule == 2 && bytes_eq r.auxiliaries [] | None ↦ false ]) (latest (running rec) (rec Ready)))
    (rec_there (realm stopped) 0 _ (rec Ready) (latest (running rec) (rec Ready))) refl

-- ---- all of it undone

abbrev stopped_again : List Event
stopped_again = entered ++ by 0 (Enter 0) ∷ by 0 (Exit 0) ∷ []

abbrev back : List Event
back = by 0 unmade ∷ by 0 (UnRealm 0 start 1) ∷ by 0 (Undelegate 2) ∷ by 0 (Undelegate 1) ∷ by 0 (Undelegate 0) ∷ by 0 (UnTake 2 0) ∷ []

back-is : undoing 0 stopped_again ≡ back
unfolding open_entries reverse_of is_reverse
back-is = refl

-- the realm can be destroyed, since no row of its starting table is TABLE and no REC is left
ends : step (machine_of 4) (world gone delegated) (by 0 (UnRealm 0 start 1)) ≡ Some (world_of (delegated ∷ delegated ∷ delegated ∷ page zero_page ∷ []))
unfolding named outcome_of fits updated_all realm_from with_realm root_rows starting_tables
ends = step_by (machine_of 4) _ _ (by 0 (UnRealm 0 start 1)) _ refl
    (check_true _ _ _ (and_from _ _ (eq-eqb (len (gone rec)) 0 (no_recs (gone rec) none_gone)) (ap (λ t. not (not t)) no_table)))
    refl
  where
    passes : (row : Row) → mapping_of_row row ≡ Vacant → not (is_table row) ≡ true
    passes row e = ap (λ (p : Mapping). not (is_table_state p.state)) e

    no_table : all_rows (λ row. not (is_table row)) start_rows 1 0 512 ≡ true
    no_table = all_rows_from (λ row. not (is_table row)) passes start_rows 1 0 512 (λ k less. put_there (unassigned Empty) empty 1 0 512 k less)

undone : after (machine_of 4) (by 0 (Undelegate 2) ∷ by 0 (Undelegate 1) ∷ by 0 (Undelegate 0) ∷ by 0 (UnTake 2 0) ∷ []) (world_of (delegated ∷ delegated ∷ delegated ∷ page zero_page ∷ []))
    ≡ Some (opening (machine_of 4))
unfolding after step named outcome_of fits updated_all check
undone = refl

back-world : replay (machine_of 4) (stopped_again ++ back) ≡ Some (opening (machine_of 4))
back-world =
    after_append (machine_of 4) entered (by 0 (Enter 0) ∷ by 0 (Exit 0) ∷ back) (opening (machine_of 4))
    ∙ ap (option_and_then (after (machine_of 4) (by 0 (Enter 0) ∷ by 0 (Exit 0) ∷ back))) entered-world
    ∙ and_then (machine_of 4) _ _ _ (by 0 (Enter 0)) _ runs
    (and_then (machine_of 4) _ _ _ (by 0 (Exit 0)) _ stops
    (and_then (machine_of 4) _ _ _ (by 0 unmade) _ goes
    (and_then (machine_of 4) _ _ _ (by 0 (UnRealm 0 start 1)) _ ends undone)))

back-legal : IsLegal (machine_of 4) (stopped_again ++ back)
unfolding is_reverse open_entries reverse_of
back-legal = record {
  steps = ap is_some back-world;
  in_turn = joined [] stopped_again back (forward [] stopped_again refl) (λ r. refl, (λ r. refl, (λ r. refl, (λ r. refl, (λ r. refl, (λ r. refl, tt))))));
}

-- ---- back to a mark before the REC

marked-depth : (mark_at 0 on_four).depth ≡ 5
unfolding open_entries reverse_of is_reverse
marked-depth = refl

marked-back : rolling_back (mark_at 0 on_four) stopped_again ≡ by 0 unmade ∷ []
unfolding open_entries reverse_of is_reverse
marked-back = refl

-- the history with the rollback to the mark leads to the world in which the REC is gone and its granule DELEGATED
marked-world : replay (machine_of 4) (stopped_again ++ rolling_back (mark_at 0 on_four) stopped_again) ≡ Some (world gone delegated)
marked-world =
    ap (λ es. replay (machine_of 4) (stopped_again ++ es)) marked-back
    ∙ after_append (machine_of 4) entered (by 0 (Enter 0) ∷ by 0 (Exit 0) ∷ by 0 unmade ∷ []) (opening (machine_of 4))
    ∙ ap (option_and_then (after (machine_of 4) (by 0 (Enter 0) ∷ by 0 (Exit 0) ∷ by 0 unmade ∷ []))) entered-world
    ∙ and_then (machine_of 4) _ _ _ (by 0 (Enter 0)) _ runs
    (and_then (machine_of 4) _ _ _ (by 0 (Exit 0)) _ stops
    (and_then (machine_of 4) _ _ _ (by 0 unmade) _ goes (at_end (machine_of 4) _)))

marked-legal : IsLegal (machine_of 4) (stopped_again ++ by 0 unmade ∷ [])
unfolding is_reverse open_entries reverse_of
marked-legal = record {
  steps = ap is_some (ap (λ es. replay (machine_of 4) (stopped_again ++ es)) (sym marked-back) ∙ marked-world);
  in_turn = joined [] stopped_again (by 0 unmade ∷ []) (forward [] stopped_again refl) (λ r. refl, tt);
}

-- without the build's events after the mark, the rolled-back history is the history at the mark: the REC, its runs and
-- the activation are left out
marked-left : erase_after 0 (mark_at 0 on_four).place (stopped_again ++ by 0 unmade ∷ []) ≡ on_four
marked-left = refl

-- the REC runs, so the build can't be rolled back yet
marked-runs : list_any (is_running (realm_of 0 (world running (of_realm InRec zero_page)))) (above (mark_at 0 on_four) (entered ++ by 0 (Enter 0) ∷ [])) ≡ true
unfolding realm_from open_entries reverse_of is_reverse starting_tables
marked-runs = ap (λ o. is_rec_running o || false) (latest (ready rec) (rec Running))

-- the realm stays ACTIVE, so no other REC is made
marked-refused : outcome_in (machine_of 4) (world gone delegated) (by 0 (Rec 2 (record { items = [] }) 1)) ≡ Err (record { status = OfRealm; index = 0 })
unfolding named outcome_of check realm_from with_realm starting_tables
marked-refused = refl
