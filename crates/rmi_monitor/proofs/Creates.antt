-- Proofs that the checks and the calls in the code of RMI_REALM_CREATE lead to the outcome and the effect of the
-- model's command.
use Rattle.std.proofs.Common.{◌≡◌, ℕ, ◌<◌, ◌≤◌, Bool, true, false, List, [], ◌∷◌, length, map, set, cond, Option, Some, None, Ok, Err, refl, sym, ap, ◌∙◌, subst, ⊎_elim}
use Rattle.std.specs.Prelude.{◌==◌, ◌%◌, ◌&&◌, ◌↔◌, IsTrue, not, nat_le}
use Rattle.std.specs.Bool.{OnTrue}
use Rattle.std.specs.List.{list_any, list_all, All}
use Rattle.std.specs.FinMap.{empty}
use Rattle.std.proofs.lemmas.Bool.{eqb-true, eqb-false, and_parts, cases_lt}
use Rattle.std.proofs.lemmas.List.{get_or_past, length-set, get_or-set_other}
use Rattle.granule_addr.specs.Ipa.{is_width}
use Rattle.granule_addr.specs.Page.{zero_page}
use Rattle.granule_addr.specs.Root.{start_count, starting_tables}
use Rattle.granule_addr.specs.declared.width.Root.{Root}
use Rattle.rtt.specs.Granules.{granule_at, undelegated, IsIn}
use Rattle.rtt.specs.declared.granule.Granule.{Granule}
use Rattle.realm_model.specs.declared.states.GranuleState.TheVariants.{Delegated, Rd as InRd, Rtt as InRtt}
use Rattle.realm_model.specs.Rows.{root_rows}
use Rattle.realm_model.specs.Machine.{Cell, Seen, blank, held}
use Rattle.realm_model.specs.Step.{used_vmids}
use Rattle.realm_model.specs.StepLaw.{set_each}
use Rattle.realm_model.specs.Update.{Update, Outcome, Put, machine_after_all}
use Rattle.realm_model.specs.Command.Check.{check, error_input, is_delegated, is_in}
use Rattle.realm_model.specs.Command.Realm.{is_start, new_realm}
use Rattle.realm_model.proofs.Booleans.{not_true}
use Rattle.realm_model.proofs.Lists.{all_in}
use Rattle.realm_model.proofs.Outcomes.{check_false}
use Rattle.rmi_monitor.specs.Attributes.{RealmAttributes, realm_row}
use Rattle.page_arena.specs.Page.{is_free}
use Rattle.rtt.specs.Realm.{IsBacked}
use Rattle.rtt.specs.Tables.{rows}
use Rattle.rtt.specs.Calls.{with_state, with_states, Keeps}
use Rattle.rmi_monitor.specs.View.{MonitorView, IsTaken, seen_in, after_command, make_realm}
use Rattle.rmi_monitor.specs.Inside.{Fields, machine_of, seen_as, IsWhole}
use Rattle.rmi_monitor.specs.Places.{is_delegated_at, is_fit_to_start, are_fit_for_realm}
use Rattle.granule_addr.specs.Vmids.{is_used, IsMarked}
use Rattle.rmi_monitor.proofs.Granules.{machine_is, as_many_granules, cell_is, in_granules, not_free, after_done}
use Rattle.rmi_monitor.proofs.Checks.{delegated_state, delegated_test}
use Rattle.rmi_monitor.proofs.Comparisons.{test_held, test_failed}
use Rattle.rmi_monitor.proofs.UsedVmids.{any_used}
use Rattle.rmi_monitor.proofs.RealmCreates.{CanStart, tables_delegated, whole_created, machine_created}

first_fails : (a b c d e f g : Bool) → a ≡ false → (a && b && c && d && e && f && g) ≡ false
first_fails a b c d e f g h = ap (λ t. t && b && c && d && e && f && g) h

-- creating a realm with an IPA width that no realm may have is refused with an input error
pub create_no_width : (monitor : MonitorView) (rd first width vmid : ℕ) (given : Option ℕ) → given ≡ cond (is_width width) (Some width) None → given ≡ None
    → make_realm monitor rd (record { first = first; width = width }) vmid ≡ Err error_input
create_no_width monitor rd first width vmid given e none = check_false _ _ _ (first_fails _ _ _ _ _ _ _ (test_failed (is_width width) width given e none))

-- if the check of `width` gives the value `given`, then `given` equals `width`, and a realm may have this IPA width
pub is_given : (width given : ℕ) (place : Option ℕ) → place ≡ cond (is_width width) (Some width) None → place ≡ Some given → (is_width given ≡ true) × (given ≡ width)
is_given width given place e is = let held = test_held (is_width width) width given place e is in (ap is_width held.1 ∙ held.0, held.1)

pub by_width : (monitor : MonitorView) (rd first vmid given width : ℕ) → given ≡ width
    → make_realm monitor rd (record { first = first; width = given }) vmid ≡ make_realm monitor rd (record { first = first; width = width }) vmid
by_width monitor rd first vmid given width same = ap (λ w. make_realm monitor rd (record { first = first; width = w }) vmid) same

-- `IsBacked` still holds after a change of the state and the realm of a granule that is not free
backed_put : (pages : List (List ℕ)) (free : List Bool) (granules : List Granule) → IsBacked pages free granules → (g : ℕ) (to : Granule) → is_free free g ≡ false
    → IsBacked pages free (set granules g to)
backed_put pages free granules backed g to taken = record {
  as_many = length-set granules g to ∙ backed.as_many;
  taken = λ h inside used. elim (h == g) as (λ t. (h == g) ≡ t → is_free free h ≡ false) [
    | true ↦ λ e. ap (is_free free) (eqb-true h g e) ∙ taken
    | false ↦ λ e.
        backed.taken h (subst (λ n. h < n) (length-set granules g to) inside)
        (λ was. used (ap (λ (x : Granule). x.state) (get_or-set_other granules g h to undelegated (eqb-false h g e)) ∙ was))
  ] refl;
}

module _ (monitor : MonitorView) (fields : Fields) (view_is : seen_as fields ≡ monitor) (whole : IsWhole fields)
    (rd : ℕ) (root : Root) (vmid : ℕ) (rd_taken : IsTaken monitor rd) where
  abbrev outcome : Outcome
  outcome = make_realm monitor rd root vmid

  abbrev tables : List ℕ
  tables = starting_tables root

  abbrev rd_cell : Cell
  rd_cell = record { state = InRd; realm = Some rd; bytes = zero_page; descriptor = Some (new_realm vmid root) }

  abbrev updates : List Update
  updates = Put rd rd_cell ∷ map (λ table. Put table (held InRtt rd)) tables

  -- ---- what the command sees

  -- the tests for DELEGATED in the machine and in the fields agree, also for a number that no granule has
  delegated_seen : (table : ℕ) → is_delegated (seen_in monitor table) ≡ is_delegated_at fields.granules table
  delegated_seen table = ⊎_elim
      (λ (within : table < length monitor.machine). ap delegated_test (ap (λ (c : Cell). c.state) (cell_is monitor fields view_is whole table within)))
      (λ (past : length monitor.machine ≤ table).
      ap delegated_test (ap (λ (c : Cell). c.state) (get_or_past monitor.machine table blank past))
      ∙ sym (ap delegated_test (ap (λ (x : Granule). x.state) (get_or_past fields.granules table undelegated (subst (λ n. n ≤ table) (as_many_granules monitor fields view_is whole) past)))))
      (cases_lt table (length monitor.machine))

  starts_seen : (list : List ℕ) → list_all (is_start (seen_in monitor rd)) (map (seen_in monitor) list) ≡ list_all (is_fit_to_start fields.granules rd) list
  starts_seen [] = refl
  starts_seen (table ∷ list) = λ i. (delegated_seen table i && not (table == rd)) && starts_seen list i

  puts_seen : (list : List ℕ) → map (λ (t : Seen). Put t.number (held InRtt rd)) (map (seen_in monitor) list) ≡ map (λ table. Put table (held InRtt rd)) list
  puts_seen [] = refl
  puts_seen (table ∷ list) = ap (λ us. Put table (held InRtt rd) ∷ us) (puts_seen list)

  used_seen : list_any (λ v. vmid == v) (used_vmids monitor.machine) ≡ is_used fields.used vmid
  used_seen = ap (λ m. list_any (λ v. vmid == v) (used_vmids m)) (sym (machine_is monitor fields view_is whole)) ∙ any_used fields whole vmid

  -- ---- its checks, as they are made

  abbrev fit_of : Bool
  fit_of = are_fit_for_realm fields.granules rd root vmid fields.vmids

  checked : outcome ≡ check (is_width root.width && root.first % start_count root.width == 0 && is_delegated_at fields.granules rd
      && list_all (is_fit_to_start fields.granules rd) tables && nat_le 1 vmid && nat_le vmid fields.vmids && not (is_used fields.used vmid)) error_input (Ok updates)
  checked i = check (is_width root.width && root.first % start_count root.width == 0 && delegated_seen rd i
      && starts_seen tables i && nat_le 1 vmid && nat_le vmid (ap (λ (m : MonitorView). m.vmids) (sym view_is) i) && not (used_seen i)) error_input (Ok (Put rd rd_cell ∷ puts_seen tables i))

  module _ (width : is_width root.width ≡ true) where
    by_fit : outcome ≡ check (fit_of && not (is_used fields.used vmid)) error_input (Ok updates)
    by_fit = checked ∙ (λ i. check (width i && root.first % start_count root.width == 0 && is_delegated_at fields.granules rd
        && list_all (is_fit_to_start fields.granules rd) tables && nat_le 1 vmid && nat_le vmid fields.vmids && not (is_used fields.used vmid)) error_input (Ok updates))

    pub create_used : is_used fields.used vmid ≡ true → outcome ≡ Err error_input
    unfolding check
    create_used u = by_fit ∙ (λ i. check (fit_of && not (u i)) error_input (Ok updates)) ∙ none fit_of
      where
        none : (fit : Bool) → check (fit && false) error_input (Ok updates) ≡ Err error_input
        none true = refl
        none false = refl

    module _ (unused : is_used fields.used vmid ≡ false) where
      pub create_unfit : fit_of ≡ false → outcome ≡ Err error_input
      unfolding check
      create_unfit f = by_fit ∙ (λ i. check (f i && not (is_used fields.used vmid)) error_input (Ok updates))

      module _ (fit : fit_of ≡ true) where
        pub create_done : outcome ≡ Ok updates
        unfolding check
        create_done = by_fit ∙ (λ i. check (fit i && not (unused i)) error_input (Ok updates))

        -- `root.first` is a multiple of the number of starting tables, and the RD is DELEGATED
        abbrev both : Bool
        both = root.first % start_count root.width == 0 && is_delegated_at fields.granules rd

        abbrev all_start : Bool
        all_start = list_all (is_fit_to_start fields.granules rd) tables

        granules_fit : (both && all_start) ≡ true
        granules_fit = (and_parts (both && all_start) (nat_le 1 vmid) (and_parts (both && all_start && nat_le 1 vmid) (nat_le vmid fields.vmids) fit).0).0

        rd_was : (granule_at fields.granules rd).state ≡ Delegated
        rd_was = delegated_state (granule_at fields.granules rd).state
            ((and_parts (root.first % start_count root.width == 0) (is_delegated_at fields.granules rd) (and_parts both all_start granules_fit).0).1)

        rd_inside : rd < length fields.granules
        rd_inside = in_granules monitor fields view_is whole rd rd_taken

        starts : (table : ℕ) → is_in table tables ≡ true → CanStart fields rd table
        starts table e =
            let parts = and_parts (is_delegated_at fields.granules table) (not (table == rd)) (all_in (is_fit_to_start fields.granules rd) tables table (and_parts both all_start granules_fit).1 e) in
            record {
              inside = within (delegated_state (granule_at fields.granules table).state parts.0);
              was = delegated_state (granule_at fields.granules table).state parts.0;
              beside = eqb-false table rd (not_true (table == rd) parts.1);
            }
          where
            within : (granule_at fields.granules table).state ≡ Delegated → table < length fields.granules
            within was = ⊎_elim (λ (inside : table < length fields.granules). inside)
                (λ (past : length fields.granules ≤ table).
                absurd (let differ : undelegated.state ≡ Delegated = ap (λ (x : Granule). x.state) (sym (get_or_past fields.granules table undelegated past)) ∙ was in cc))
                (cases_lt table (length fields.granules))

        -- if the checks pass, granule `rd` is DELEGATED, so the call that makes it the realm's RD succeeds
        pub create_shifted : (done : Bool) (shifted : List Granule) → (IsTrue done ↔ ((granule_at fields.granules rd).state ≡ Delegated))
            → OnTrue done (shifted ≡ with_state fields.granules rd InRd (Some rd)) → shifted ≡ with_state fields.granules rd InRd (Some rd)
        create_shifted true shifted answer is = is
        create_shifted false shifted answer is = absurd (let told = answer.1 rd_was in cc)

        -- in `shifted`, granule `rd` has become the realm's RD
        module _ (shifted : List Granule) (shift : shifted ≡ with_state fields.granules rd InRd (Some rd)) where
          pub create_backed : IsBacked fields.pages fields.free shifted
          create_backed =
              subst (IsBacked fields.pages fields.free) (sym shift)
              (backed_put fields.pages fields.free fields.granules whole.backed rd (record { state = InRd; realm = Some rd }) (not_free monitor fields view_is whole rd rd_taken))

          pub create_delegated : All (λ table. IsIn shifted table Delegated None) tables
          create_delegated = subst (λ gs. All (λ table. IsIn gs table Delegated None) tables) (sym shift) (tables_delegated fields whole rd root rd_inside rd_was starts)

          -- in `granules`, the starting tables have become RTTs of the realm too, and in `used`, the realm's VMID is
          -- marked
          module _ (realm : RealmAttributes) (realm_vmid : realm.vmid ≡ vmid) (realm_root : realm.root ≡ root) (fresh : realm_row realm empty (root_rows root.width) ≡ new_realm vmid root)
              (granules : List Granule) (pages : List (List ℕ)) (free : List Bool) (moved : granules ≡ with_states shifted tables InRtt (Some rd))
              (cleared : pages ≡ set_each zero_page tables fields.pages) (translation : rows pages root ≡ root_rows root.width)
              (keeps : Keeps rd root fields.pages fields.free shifted pages free granules)
              (used : List Bool) (mark : IsMarked fields.used used vmid true) (n : ℕ) (n_is : n ≡ rd) where
            abbrev now : List Granule
            now = with_states (with_state fields.granules rd InRd (Some rd)) tables InRtt (Some rd)

            granules_are : granules ≡ now
            granules_are = moved ∙ ap (λ gs. with_states gs tables InRtt (Some rd)) shift

            abbrev after_create : List Granule → ℕ → Fields
            after_create gs place = record fields { granules = gs; pages = pages; free = free; realms = set fields.realms place (Some realm); used = used }

            fresh_row : realm_row realm empty (root_rows root.width) ≡ new_realm realm.vmid root
            fresh_row = fresh ∙ ap (λ v. new_realm v root) (sym realm_vmid)

            kept : Keeps rd root fields.pages fields.free (with_state fields.granules rd InRd (Some rd)) pages free now
            kept = subst (λ gs. Keeps rd root fields.pages fields.free gs pages free now) shift (subst (λ gs. Keeps rd root fields.pages fields.free shifted pages free gs) granules_are keeps)

            unused_now : is_used fields.used realm.vmid ≡ false
            unused_now = ap (is_used fields.used) realm_vmid ∙ unused

            marked : IsMarked fields.used used realm.vmid true
            marked = subst (λ v. IsMarked fields.used used v true) (sym realm_vmid) mark

            written : after_create granules n ≡ after_create now rd
            written i = after_create (granules_are i) (n_is i)

            pub whole_after_create : IsWhole (after_create granules n)
            whole_after_create =
                subst IsWhole (sym written)
                (whole_created fields whole rd root rd_inside rd_was starts realm realm_root fresh_row pages free kept.rest.flags kept.rest.backed kept.tables translation cleared
                kept.rest.other_realms used unused_now marked)

            machine_after : machine_of (after_create now rd) ≡ machine_after_all updates monitor.machine
            machine_after =
                machine_created fields whole rd root rd_inside rd_was starts realm realm_root fresh_row pages free kept.rest.flags kept.rest.backed kept.tables translation cleared
                kept.rest.other_realms used unused_now marked
                ∙ ap (λ v. machine_after_all
                (Put rd (record { state = InRd; realm = Some rd; bytes = zero_page; descriptor = Some (new_realm v root) }) ∷ map (λ table. Put table (held InRtt rd)) tables)
                (machine_of fields)) realm_vmid
                ∙ ap (machine_after_all updates) (machine_is monitor fields view_is whole)

            pub seen_after_create : seen_as (after_create granules n) ≡ after_command outcome monitor
            seen_after_create =
                ap seen_as written
                ∙ after_done monitor fields view_is whole (after_create now rd) updates outcome create_done refl refl kept.rest.flags machine_after
