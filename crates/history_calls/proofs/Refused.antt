-- Proofs that the refusal computed for a command without performing it equals the host's refusal of that command.
use Rattle.std.proofs.Common.{◌≡◌, ℕ, zero, suc, ◌+◌, ◌-◌, ◌*◌, ◌/◌, ◌^◌, ◌<◌, ◌≤◌, Bool, true, false, cond, not, List, [], ◌∷◌, ◌++◌, length, map, Option, Some, None, Ok, Err, refl, sym, ap, ◌∙◌, arith}
use Rattle.std.specs.Prelude.{◌==◌, ◌%◌, ◌&&◌, nat_le, nat_lt, is_some, option_map, option_and_then, unwrap_or}
use Rattle.std.specs.FinMap.{get}
use Rattle.std.specs.List.{list_all, list_any, find, cons_option, range_with_len}
use Rattle.std.specs.Str.{bytes_eq}
use Rattle.std.proofs.lemmas.Bool.{and_parts, ltb-true, lt-ltb, leb-true, eqb-true}
use Rattle.std.proofs.lemmas.List.{length-map}
use Rattle.std.proofs.lemmas.Option.{none-some, same_Some}
use Rattle.arrayvec.specs.ArrayVec.{ArrayVec}
use Rattle.std.proofs.lemmas.List.Folds.{list_all-map}
use Rattle.std.proofs.Math.Nat.{div-one, mul-one}
use Rattle.std.proofs.Math.Bool.{and_comm}
use Rattle.std.proofs.Math.Pow.{pow_mono}
use Rattle.granule_addr.specs.Ipa.{is_width, is_in_space, is_protected_at, covered_count, first_covered}
use Rattle.granule_addr.specs.Root.{start_count, starting_tables}
use Rattle.granule_addr.specs.declared.width.Root.{Root}
use Rattle.granule_addr.proofs.Runs.{range_with_len_more}
use Rattle.realm_model.specs.declared.act.Act.{Act}
use Rattle.realm_model.specs.declared.act.Act.TheVariants as acts
use Rattle.realm_model.specs.declared.rmi.Rmi.{Rmi}
use Rattle.realm_model.specs.declared.states.GranuleState.{GranuleState}
use Rattle.realm_model.specs.declared.states.GranuleState.TheVariants.{Undelegated}
use Rattle.realm_model.specs.declared.states.RecState.{RecState}
use Rattle.realm_model.specs.declared.states.RecState.TheVariants.{Ready, Running}
use Rattle.realm_model.specs.Command.Check.{check, error_input, error_realm, error_rec, error_rtt, is_apart_from, is_delegated, is_undelegated, are_distinct, is_new, is_ready, is_protected, put_rec, with_realm, with_rec, with_end, with_row, with_granule}
use Rattle.realm_model.specs.Command.Data.{data_create, data_create_unknown}
use Rattle.realm_model.specs.Command.Rec.{rec_create, rec_enter, rec_exit, guest_write}
use Rattle.realm_model.specs.Command.Realm.{is_start, realm_activate, realm_create}
use Rattle.realm_model.specs.Command.Table.{rtt_create, rtt_init_ripas}
use Rattle.realm_model.specs.Machine.{Machine, RecRow, RealmRow, Seen, cell_at, numbers_of, seen}
use Rattle.realm_model.specs.Outcome.{outcome_of, on_one, on_two, on_more, on_realm}
use Rattle.realm_model.specs.Rows.{Row, Rows, Walk, walk, row_at, all_rows, is_page_run, is_table_place, is_table, is_unassigned, is_assigned}
use Rattle.realm_model.specs.History.{IsLegal}
use Rattle.realm_model.specs.Step.{used_vmids}
use Rattle.realm_model.specs.Update.{Outcome, Update, PutByte}
use Rattle.realm_model.specs.World.{World, realm_of}
use Rattle.realm_model.proofs.Reachable.{reachable_worlds}
use Rattle.realm_host.proofs.Checked.{named_are}
use Rattle.realm_host.proofs.Realms.{row_at_rd}
use Rattle.realm_host.specs.Readings.{row_view}
use Rattle.realm_host.specs.Allocation.{allocated_for, granules_named}
use Rattle.realm_host.specs.Call.{Ask}
use Rattle.realm_host.specs.Refusals.{last_checks, no_block, refused_by, refusal_of}
use Rattle.realm_host.specs.declared.reading.RowView.{RowView}
use Rattle.rmi_monitor.specs.Attributes.{RealmAttributes, RecAttributes}
use Rattle.rmi_monitor.specs.Named.{rec_attributes_of}
use Rattle.rmi_monitor.specs.View.{attributes_of}
use Rattle.host_commands.specs.declared.refusal.Refusal.{Refusal}
use Rattle.host_commands.specs.declared.refusal.Refusal.TheVariants as refusal
use Rattle.host_commands.specs.declared.cmd.Cmd.{Cmd}
use Rattle.host_commands.specs.declared.cmd.Cmd.TheVariants.{Take, Fill, Peek, Delegate, Realm, Rtt, Ripas, Data, Unknown, Rec, Activate, Enter, Exit, Poke}
use Rattle.host_commands.specs.declared.reply.Allocated.{Allocated}
use Rattle.host_commands.specs.Acts.{act_of, act_if, is_ipa, is_level, root_of}
use Rattle.host_commands.specs.Checks.{AreFound, checks_of, first_that_holds}
use Rattle.host_commands.specs.Laws.{outcome_of_act}
use Rattle.host_commands.specs.Needs.{operands}
use Rattle.host_commands.proofs.Refused.{first_passes, first_stops}
use Rattle.host_ledger.specs.Summary.{summary_of}
use Rattle.host_ledger.specs.View.{HostView, world_of, granule_of_page}
use Rattle.host_ledger.proofs.Worlds.{world_is}
use Rattle.host_ledger.specs.Vmids.{is_vmid_free, lowest_vmid}
use Rattle.history_calls.specs.Refused.{unless, is_delegated_in, can_start, end_in, new_table_refusal, is_free_row, are_free_rows, run_refusal, write_refusal, rec_of_number, enter_refusal, poke_refusal, rec_refusal, realm_refusal}
use Rattle.history_calls.specs.Refused.{refusal_in_realm, refusal_if_realm, refusal_without_act, refusal_of_act, else, is_undelegated_page, model_refusal}
use Rattle.history_calls.specs.Prepared.{allocated_before, act_before, access_refusal, entry_refusal, exit_refusal}

-- the RMI error of an outcome that is a refusal, or none if the outcome is a success
abbrev pub refusal_in : Outcome → Option Rmi
refusal_in (Ok updates) = None
refusal_in (Err rmi) = Some rmi

pub as_refusal : (outcome : Outcome) → option_map refusal.Rmi (refusal_in outcome) ≡ first_that_holds (refused_by outcome)
as_refusal (Ok updates) = refl
as_refusal (Err rmi) = refl

-- ---- walks

in_space : (ipa width : ℕ) → is_protected_at ipa width ≡ true → is_in_space ipa width ≡ true
in_space ipa width is =
    let low : ipa < 2 ^ (width - 13) = ltb-true ipa _ is in
    let less : 2 ^ (width - 13) ≤ 2 ^ (width - 12) = pow_mono {i = width - 13} {j = width - 12} (omega arith) in
    lt-ltb ipa (2 ^ (width - 12)) (omega arith)

-- the row where the walk of an IPA granule in a realm ends, even if the realm does not have the IPA granule
abbrev ends : RealmRow → ℕ → ℕ → Option RowView
ends row ipa level = option_map (row_view ipa) (walk row.rows ipa level)

inside : (row : RealmRow) (ipa level : ℕ) → is_in_space ipa row.root.width ≡ true → end_in (Some row) ipa level ≡ ends row ipa level
inside row ipa level is = ap (λ (t : Bool). option_map (row_view ipa) (cond t (walk row.rows ipa level) None)) is

module _ (rows : Rows) (ipa : ℕ) where
  room : (above : ℕ) (f : Row → List Update)
      → new_table_refusal above (option_map (row_view ipa) (walk rows ipa above)) ≡ refusal_in (with_row rows ipa above (λ row. check (not (is_table row)) (error_rtt above) (Ok (f row))))
  unfolding check with_end
  room above f = at (walk rows ipa above)
    where
      outcome : Option Walk → Outcome
      outcome o = elim o [
        | Some end ↦ cond (end.level == above) (cond (not (is_table end.row)) (Ok (f end.row)) (Err (error_rtt above))) (Err (error_rtt end.level))
        | None ↦ Err (error_rtt 0)
      ]

      by : (end : Walk) (there : Bool) → (end.level == above) ≡ there → (fits : Bool)
          → unless (there && fits) (error_rtt end.level) None ≡ refusal_in (cond there (cond fits (Ok (f end.row)) (Err (error_rtt above))) (Err (error_rtt end.level)))
      by end false is fits = refl
      by end true is true = refl
      by end true is false = ap (λ n. Some (error_rtt n)) (eqb-true end.level above is)

      at : (o : Option Walk) → new_table_refusal above (option_map (row_view ipa) o) ≡ refusal_in (outcome o)
      at None = refl
      at (Some end) = by end (end.level == above) refl (not (is_table end.row))

  -- if `free` is the result of `test` for a walk's entry of level 3, `run_refusal` gives the model's refusal of a
  -- command that requires `test` of that entry
  run : (free : Bool) (test : Row → Bool) (f : Row → List Update)
      → ((end : Walk) → walk rows ipa 3 ≡ Some end → (end.level == 3) ≡ true → free ≡ test end.row)
      → run_refusal free (option_map (row_view ipa) (walk rows ipa 3)) ≡ refusal_in (with_row rows ipa 3 (λ row. check (test row) (error_rtt 3) (Ok (f row))))
  unfolding check with_end
  run free test f same = at (walk rows ipa 3) refl
    where
      outcome : Option Walk → Outcome
      outcome o = elim o [
        | Some end ↦ cond (end.level == 3) (cond (test end.row) (Ok (f end.row)) (Err (error_rtt 3))) (Err (error_rtt end.level))
        | None ↦ Err (error_rtt 0)
      ]

      by : (end : Walk) (there : Bool) → (end.level == 3) ≡ there → (passes : Bool) → (there ≡ true → free ≡ passes)
          → unless (there && free) (error_rtt end.level) None ≡ refusal_in (cond there (cond passes (Ok (f end.row)) (Err (error_rtt 3))) (Err (error_rtt end.level)))
      by end false is passes same = refl
      by end true is true same = ap (λ t. unless t (error_rtt end.level) None) (same refl)
      by end true is false same = ap (λ t. unless t (error_rtt end.level) None) (same refl) ∙ ap (λ n. Some (error_rtt n)) (eqb-true end.level 3 is)

      at : (o : Option Walk) → walk rows ipa 3 ≡ o → run_refusal free (option_map (row_view ipa) o) ≡ refusal_in (outcome o)
      at None is = refl
      at (Some end) is = by end (end.level == 3) refl (test end.row) (λ there. same end is there)

  write : (f : ℕ → List Update)
      → write_refusal (option_map (row_view ipa) (walk rows ipa 3))
      ≡ refusal_in (with_end rows ipa 3 (λ end. check (is_assigned end.row) (error_rtt end.level) (with_granule end.row (λ granule. Ok (f granule)))))
  unfolding check with_end with_granule
  write f = at (walk rows ipa 3)
    where
      leads : Option ℕ → Outcome
      leads o = elim o [ Some granule ↦ Ok (f granule) | None ↦ Err error_input ]

      by : (level : ℕ) (assigned : Bool) (granule : Option ℕ)
          → unless assigned (error_rtt level) (unless (is_some granule) error_input None) ≡ refusal_in (cond assigned (leads granule) (Err (error_rtt level)))
      by level false granule = refl
      by level true None = refl
      by level true (Some granule) = refl

      at : (o : Option Walk) → write_refusal (option_map (row_view ipa) o)
          ≡ refusal_in (elim o [ Some end ↦ cond (is_assigned end.row) (leads end.row.granule) (Err (error_rtt end.level)) | None ↦ Err (error_rtt 0) ])
      at None = refl
      at (Some end) = by end.level (is_assigned end.row) end.row.granule

  -- whether there is an entry, and it is UNASSIGNED
  abbrev passes : Option Row → Bool
  passes o = elim o [ Some row ↦ is_unassigned row | None ↦ false ]

  free_entry : is_free_row (option_map (row_view ipa) (walk rows ipa 3)) ≡ passes (get rows (3, ipa))
  unfolding walk
  free_entry = at3 (row_at rows 3 ipa) ∙ ap (λ n. passes (get rows (3, n))) (mul-one (ipa / 1) ∙ div-one ipa)
    where
      at1 : (o : Option Row) → is_free_row (option_map (row_view ipa) (elim o [ Some row ↦ Some (record { level = 1; row = row }) | None ↦ None ])) ≡ false
      at1 None = refl
      at1 (Some row) = refl

      at2 : (o : Option Row) → is_free_row (option_map (row_view ipa) (elim o [ Some row ↦ Some (record { level = 2; row = row }) | None ↦ walk rows ipa 1 ])) ≡ false
      at2 None = at1 (row_at rows 1 ipa)
      at2 (Some row) = refl

      at3 : (o : Option Row) → is_free_row (option_map (row_view ipa) (elim o [ Some row ↦ Some (record { level = 3; row = row }) | None ↦ walk rows ipa 2 ])) ≡ passes o
      at3 None = at2 (row_at rows 2 ipa)
      at3 (Some row) = refl

  one_free : (end : Walk) → walk rows ipa 3 ≡ Some end → (end.level == 3) ≡ true
      → (is_free_row (option_map (row_view ipa) (walk rows ipa 3)) && true) ≡ is_unassigned end.row
  one_free end is there = ap (λ (o : Option Walk). is_free_row (option_map (row_view ipa) o) && true) is ∙ by (end.level == 3) there (is_unassigned end.row)
    where
      by : (t : Bool) → t ≡ true → (u : Bool) → ((t && u) && true) ≡ u
      by false e u = cc
      by true e true = refl
      by true e false = refl

all_of : (test : ℕ → Bool) (xs : List ℕ) (x : ℕ) → list_all test (xs ++ x ∷ []) ≡ (test x && list_all test xs)
all_of test [] x = refl
all_of test (y ∷ xs) x = ap (λ t. test y && t) (all_of test xs x) ∙ swapped (test y) (test x) (list_all test xs)
  where
    swapped : (a b c : Bool) → (a && (b && c)) ≡ (b && (a && c))
    swapped true b c = refl
    swapped false true c = refl
    swapped false false c = refl

-- if `test` says of each IPA granule of a range whether its entry of level 3 is UNASSIGNED, `list_all test` and
-- `all_rows is_unassigned` agree on that range
runs : (rows : Rows) (test : ℕ → Bool) (ipa n : ℕ) → ((k : ℕ) → k < n → test (ipa + k) ≡ passes rows ipa (get rows (3, ipa + k)))
    → list_all test (range_with_len ipa n) ≡ all_rows is_unassigned rows 3 ipa n
unfolding all_rows
runs rows test ipa zero each = refl
runs rows test ipa (suc n) each =
    let more : suc n ≡ n + 1 = omega arith in
    ap (λ k. list_all test (range_with_len ipa k)) more
    ∙ ap (list_all test) (range_with_len_more ipa n (ipa + n) refl)
    ∙ all_of test (range_with_len ipa n) (ipa + n)
    ∙ (λ i. (each n (omega arith) ∙ ap (λ k. passes rows ipa (get rows (3, ipa + k))) (sym (mul-one n))) i && runs rows test ipa n (λ k less. each k (omega arith)) i)

-- if consecutive IPA granules of one table begin in the protected half, and the IPA width is valid, each of them is in
-- the address space
run_inside : (ipa count width k : ℕ) → is_width width ≡ true → (is_page_run ipa count && is_protected_at ipa width) ≡ true → k < count → is_in_space (ipa + k) width ≡ true
run_inside ipa count width k wide is less =
    let both = and_parts (is_page_run ipa count) _ is in
    let few : count ≤ 512 = leb-true count 512 (and_parts (nat_le 1 count) (nat_le count 512) (and_parts (nat_le 1 count && nat_le count 512) _ both.0).0).1 in
    let least : 39 ≤ width = leb-true 39 width (and_parts (nat_le 39 width) _ wide).0 in
    let low : ipa < 2 ^ (width - 13) = ltb-true ipa _ both.1 in
    let large : 2 ^ 26 ≤ 2 ^ (width - 13) = pow_mono {i = 26} {j = width - 13} (omega arith) in
    let next : width - 12 ≡ suc (width - 13) = omega arith in
    let double = ap (λ n. 2 ^ n) next in
    lt-ltb (ipa + k) (2 ^ (width - 12)) (omega (arith, double))

-- ---- checks in sequence

guarded : (holds : Bool) (rmi : Rmi) (after : Option Rmi) (rest : Outcome) → (holds ≡ true → after ≡ refusal_in rest) → unless holds rmi after ≡ refusal_in (check holds rmi rest)
unfolding check
guarded true rmi after rest same = same refl
guarded false rmi after rest same = refl

last : (a b c : Bool) → (a && b && c) ≡ true → c ≡ true
last a b c is = (and_parts (a && b) c is).1

abbrev row_in : Option Seen → Option RealmRow
row_in realm = option_and_then (λ (rd : Seen). rd.cell.descriptor) realm

else_none : (o : Option Refusal) → else o None ≡ o
else_none None = refl
else_none (Some refusal) = refl

-- an element that a search finds passes the test of the search
found : (test : ℕ → Bool) (xs : List ℕ) (x : ℕ) → find test xs ≡ Some x → test x ≡ true
found test [] x e = cc
found test (y ∷ ys) x e = by (test y) refl (found test ys x) e
  where
    by : (t : Bool) → test y ≡ t → (find test ys ≡ Some x → test x ≡ true) → cond t (Some y) (find test ys) ≡ Some x → test x ≡ true
    by true is rest e = ap test (sym (same_Some _ _ e)) ∙ is
    by false is rest e = rest e

not_found : (test : ℕ → Bool) (x : ℕ) (xs : List ℕ) → find test (x ∷ xs) ≡ None → test x ≡ false
not_found test x xs e = by (test x) e
  where
    by : (t : Bool) → cond t (Some x) (find test xs) ≡ None → t ≡ false
    by true e = cc
    by false e = refl

module _ (host : HostView) (build : ℕ) where
  abbrev machine : Machine
  machine = (world_of host).machine

  vmid_free : is_some (lowest_vmid host) ≡ is_vmid_free host (unwrap_or (lowest_vmid host) 1)
  vmid_free = by (lowest_vmid host) refl
    where
      none : (vmids : ℕ) (test : ℕ → Bool) → find test (range_with_len 1 vmids) ≡ None → (nat_le 1 vmids ≡ false → test 1 ≡ false) → test 1 ≡ false
      none zero test e small = small refl
      none (suc n) test e small = not_found test 1 (range_with_len 2 n) e

      by : (o : Option ℕ) → lowest_vmid host ≡ o → is_some o ≡ is_vmid_free host (unwrap_or o 1)
      by None is = sym (none host.limits.vmids (is_vmid_free host) is (λ small. ap (λ t. t && not (list_any (λ other. 1 == other) (used_vmids machine))) small))
      by (Some vmid) is = sym (found (is_vmid_free host) (range_with_len 1 host.limits.vmids) vmid is)

  -- ---- pages

  access_refused : (state : GranuleState) (updates : List Update)
      → else (access_refusal (Some state)) None ≡ first_that_holds (refused_by (check (elim state [ Undelegated ↦ true | _ ↦ false ]) error_input (Ok updates)))
  unfolding check
  access_refused Undelegated updates = refl
  access_refused _ updates = refl

  -- ---- commands on a realm

  module _ (granules : List ℕ) (ready : Bool) where
    in_realm : (act : Act) (realm : Option Seen) (f : Seen → RealmRow → Outcome)
        → ((rd : Seen) (row : RealmRow) → row_in realm ≡ Some row → refusal_in_realm host (Some row) granules ready (attributes_of row) act ≡ refusal_in (f rd row))
        → refusal_if_realm host granules ready act (row_in realm) ≡ refusal_in (on_realm realm (λ rd. with_realm rd (f rd)))
    unfolding with_realm
    in_realm act None f each = refl
    in_realm act (Some rd) f each = at rd.cell.descriptor (λ row is. each rd row is)
      where
        at : (o : Option RealmRow) → ((row : RealmRow) → o ≡ Some row → refusal_in_realm host (Some row) granules ready (attributes_of row) act ≡ refusal_in (f rd row))
            → refusal_if_realm host granules ready act o ≡ refusal_in (elim o [ Some realm ↦ f rd realm | None ↦ Err error_input ])
        at None each = refl
        at (Some row) each = each row refl

    rtt_refused : (granule ipa level : ℕ) (realm : Option Seen)
        → refusal_if_realm host granules ready (acts.Rtt granule ipa level) (row_in realm) ≡ refusal_in (on_realm realm (λ rd. rtt_create rd (seen machine granule) ipa level))
    rtt_refused granule ipa level realm = in_realm (acts.Rtt granule ipa level) realm _ (λ rd row there.
        guarded (is_delegated (seen machine granule) && is_table_place ipa level && is_protected row ipa) error_input _ _ (λ is.
        ap (new_table_refusal (level - 1)) (inside row ipa (level - 1) (in_space ipa row.root.width (last (is_delegated (seen machine granule)) (is_table_place ipa level) (is_protected row ipa) is))) ∙ room row.rows ipa (level - 1) _))

    unknown_refused : (granule ipa : ℕ) (realm : Option Seen)
        → refusal_if_realm host granules ready (acts.Unknown granule ipa) (row_in realm) ≡ refusal_in (on_realm realm (λ rd. data_create_unknown rd (seen machine granule) ipa))
    unknown_refused granule ipa realm = in_realm (acts.Unknown granule ipa) realm _ (λ rd row there.
        guarded (is_delegated (seen machine granule) && is_protected row ipa) error_input _ _ (λ is.
        let end_is = inside row ipa 3 (in_space ipa row.root.width (and_parts (is_delegated (seen machine granule)) _ is).1) in
        ap (run_refusal (are_free_rows (Some row) ipa 1)) end_is
        ∙ run row.rows ipa (are_free_rows (Some row) ipa 1) is_unassigned _ (λ end ends three. ap (λ o. is_free_row o && true) end_is ∙ one_free row.rows ipa end ends three)))

    ripas_refused : (ipa count : ℕ) (realm : Option Seen) → ((row : RealmRow) → row_in realm ≡ Some row → is_width row.root.width ≡ true)
        → refusal_if_realm host granules ready (acts.Ripas ipa count) (row_in realm) ≡ refusal_in (on_realm realm (λ rd. rtt_init_ripas rd ipa count))
    ripas_refused ipa count realm wide = in_realm (acts.Ripas ipa count) realm _ (λ rd row there.
        guarded (is_page_run ipa count && is_protected row ipa) error_input _ _ (λ is. guarded (is_new row.state) error_realm _ _ (λ new.
        ap (run_refusal (are_free_rows (Some row) ipa count)) (inside row ipa 3 (in_space ipa row.root.width (and_parts (is_page_run ipa count) _ is).1))
        ∙ run row.rows ipa (are_free_rows (Some row) ipa count) (λ first. all_rows is_unassigned row.rows 3 ipa count) _ (λ end ends three.
        runs row.rows (λ page. is_free_row (end_in (Some row) page 3)) ipa count (λ k less.
        ap is_free_row (inside row (ipa + k) 3 (run_inside ipa count row.root.width k (wide row there) is less)) ∙ free_entry row.rows (ipa + k))))))

    activate_refused : (realm : Option Seen) → refusal_if_realm host granules ready acts.Activate (row_in realm) ≡ refusal_in (on_realm realm realm_activate)
    activate_refused realm = in_realm acts.Activate realm _ (λ rd row there. guarded (is_new row.state) error_realm _ _ (λ new. refl))

    enter_refused : (number : ℕ) (realm : Option Seen)
        → else (entry_refusal (rec_of_number (row_in realm) number)) (option_map refusal.Rmi (refusal_if_realm host granules ready (acts.Enter number) (row_in realm)))
        ≡ option_map refusal.Rmi (refusal_in (on_realm realm (λ rd. rec_enter rd number)))
    unfolding with_realm with_rec
    enter_refused number None = refl
    enter_refused number (Some rd) = at rd.cell.descriptor
      where
        entered : RealmRow → RecRow → Outcome
        entered row rec =
            check (not (is_new row.state)) error_realm (check (is_ready rec.state) error_rec (Ok (put_rec rd row number (record rec { state = Running }) ∷ [])))

        of_rec : (row : RealmRow) (o : Option RecRow)
            → else (entry_refusal (option_map (λ (rec : RecRow). (rec.granule, rec_attributes_of number rec)) o))
            (option_map refusal.Rmi (enter_refusal (attributes_of row) (option_map (λ (rec : RecRow). (rec.granule, rec_attributes_of number rec)) o)))
            ≡ option_map refusal.Rmi (refusal_in (elim o [ Some rec ↦ entered row rec | None ↦ Err error_input ]))
        of_rec row None = refl
        of_rec row (Some rec) =
            ap (option_map refusal.Rmi) (guarded (not (is_new row.state)) error_realm _ _ (λ active. guarded (is_ready rec.state) error_rec _ _ (λ ready. refl)))

        at : (o : Option RealmRow)
            → else (entry_refusal (rec_of_number o number)) (option_map refusal.Rmi (refusal_if_realm host granules ready (acts.Enter number) o))
            ≡ option_map refusal.Rmi (refusal_in (elim o [ Some row ↦ with_rec row number (entered row) | None ↦ Err error_input ]))
        at None = refl
        at (Some row) = of_rec row (get row.recs number)

    poke_refused : (number ipa offset value : ℕ) (realm : Option Seen)
        → else (entry_refusal (rec_of_number (row_in realm) number)) (option_map refusal.Rmi (refusal_if_realm host granules ready (acts.Poke number ipa offset value) (row_in realm)))
        ≡ option_map refusal.Rmi (refusal_in (on_realm realm (λ rd. guest_write rd number ipa offset value)))
    unfolding with_realm with_rec
    poke_refused number ipa offset value None = refl
    poke_refused number ipa offset value (Some rd) = at rd.cell.descriptor
      where
        written : RealmRow → RecRow → Outcome
        written row rec =
            check (is_protected row ipa) error_input (check (not (is_ready rec.state)) error_rec (with_end row.rows ipa 3 (λ end.
            check (is_assigned end.row) (error_rtt end.level) (with_granule end.row (λ granule. Ok (PutByte granule offset value ∷ []))))))

        of_rec : (row : RealmRow) (o : Option RecRow)
            → else (entry_refusal (option_map (λ (rec : RecRow). (rec.granule, rec_attributes_of number rec)) o)) (option_map refusal.Rmi
            (poke_refusal (is_protected row ipa) (end_in (Some row) ipa 3) (option_map (λ (rec : RecRow). (rec.granule, rec_attributes_of number rec)) o)))
            ≡ option_map refusal.Rmi (refusal_in (elim o [ Some rec ↦ written row rec | None ↦ Err error_input ]))
        of_rec row None = refl
        of_rec row (Some rec) = ap (option_map refusal.Rmi) (guarded (is_protected row ipa) error_input _ _ (λ is.
            guarded (not (is_ready rec.state)) error_rec _ _ (λ runs. ap write_refusal (inside row ipa 3 (in_space ipa row.root.width is)) ∙ write row.rows ipa _)))

        at : (o : Option RealmRow)
            → else (entry_refusal (rec_of_number o number)) (option_map refusal.Rmi (refusal_if_realm host granules ready (acts.Poke number ipa offset value) o))
            ≡ option_map refusal.Rmi (refusal_in (elim o [ Some row ↦ with_rec row number (written row) | None ↦ Err error_input ]))
        at None = refl
        at (Some row) = of_rec row (get row.recs number)

  data_refused : (granules : List ℕ) (granule ipa source : ℕ) (realm : Option Seen)
      → refusal_if_realm host granules (is_undelegated (seen machine source)) (acts.Data granule ipa source) (row_in realm)
      ≡ refusal_in (on_realm realm (λ rd. data_create rd (seen machine granule) ipa (seen machine source)))
  data_refused granules granule ipa source realm = in_realm granules (is_undelegated (seen machine source)) (acts.Data granule ipa source) realm _ (λ rd row there.
      guarded (is_delegated (seen machine granule) && is_undelegated (seen machine source) && is_protected row ipa) error_input _ _ (λ is.
      guarded (is_new row.state) error_realm _ _ (λ new.
      let end_is = inside row ipa 3 (in_space ipa row.root.width (last (is_delegated (seen machine granule)) (is_undelegated (seen machine source)) (is_protected row ipa) is)) in
      ap (run_refusal (are_free_rows (Some row) ipa 1)) end_is
      ∙ run row.rows ipa (are_free_rows (Some row) ipa 1) is_unassigned _ (λ end ends three. ap (λ o. is_free_row o && true) end_is ∙ one_free row.rows ipa end ends three))))

  numbers_are : (xs : List ℕ) → numbers_of (map (seen machine) xs) ≡ xs
  numbers_are [] = refl
  numbers_are (x ∷ xs) = ap (λ ys. x ∷ ys) (numbers_are xs)

  rec_refused : (rec : ℕ) (others : List ℕ) (ready : Bool) (auxiliaries : ArrayVec ℕ) (number : ℕ) (realm : Option Seen)
      → refusal_if_realm host (rec ∷ others) ready (acts.Rec rec auxiliaries number) (row_in realm)
      ≡ refusal_in (on_realm realm (λ rd. rec_create host.limits.aux rd (seen machine rec) (map (seen machine) others)))
  rec_refused rec others ready auxiliaries number realm = in_realm (rec ∷ others) ready (acts.Rec rec auxiliaries number) realm _ (λ rd row there.
      (λ i. unless (sym (list_all-map is_delegated (seen machine) (rec ∷ others)) i && are_distinct (sym (numbers_are (rec ∷ others)) i)
      && sym (length-map others (seen machine)) i == host.limits.aux) error_input (unless (is_new row.state) error_realm None))
      ∙ guarded _ error_input _ _ (λ is. guarded (is_new row.state) error_realm _ _ (λ new. refl)))

  starts : (rd : ℕ) (tables : List ℕ) → list_all (can_start (world_of host) rd) tables ≡ list_all (is_start (seen machine rd)) (map (seen machine) tables)
  starts rd tables = sym (list_all-map (is_start (seen machine rd)) (seen machine) tables)

  regrouped : (a b c d : Bool) → (a && (b && c && d)) ≡ (a && b && c && d)
  regrouped true b c d = refl
  regrouped false b c d = refl

  realm_refused : (rd : ℕ) (tables : List ℕ) (root : Root) → is_width root.width ≡ true
      → realm_refusal host root (rd ∷ tables)
      ≡ refusal_in (realm_create host.limits.vmids (used_vmids machine) (seen machine rd) (map (seen machine) tables) root (unwrap_or (lowest_vmid host) 1))
  realm_refused rd tables root wide =
      let vmid : ℕ = unwrap_or (lowest_vmid host) 1 in
      (λ i. unless (sym wide i && root.first % start_count root.width == 0 && is_delegated (seen machine rd) && starts rd tables i && vmid_free i) error_input None)
      ∙ ap (λ t. unless t error_input None) (regrouped (is_width root.width && root.first % start_count root.width == 0 && is_delegated (seen machine rd)
      && list_all (is_start (seen machine rd)) (map (seen machine) tables)) (nat_le 1 vmid) (nat_le vmid host.limits.vmids) (is_apart_from vmid (used_vmids machine)))
      ∙ guarded _ error_input _ _ (λ is. refl)

  exit_refused : (number : ℕ) (realm : Option Seen)
      → else (exit_refusal (rec_of_number (row_in realm) number)) None ≡ first_that_holds (refused_by (on_realm realm (λ rd. rec_exit rd number)))
  unfolding check with_realm with_rec
  exit_refused number None = refl
  exit_refused number (Some rd) = at rd.cell.descriptor
    where
      left_by : RealmRow → RecRow → Outcome
      left_by row rec = cond (not (is_ready rec.state)) (Ok (put_rec rd row number (record rec { state = Ready }) ∷ [])) (Err error_rec)

      by : (row : RealmRow) (rec : RecRow) (s : RecState)
          → else (cond (is_ready s) (Some (refusal.Rmi error_rec)) None) None
          ≡ first_that_holds (refused_by (cond (not (is_ready s)) (Ok (put_rec rd row number (record rec { state = Ready }) ∷ [])) (Err error_rec)))
      by row rec Ready = refl
      by row rec Running = refl

      of_rec : (row : RealmRow) (o : Option RecRow)
          → else (exit_refusal (option_map (λ (rec : RecRow). (rec.granule, rec_attributes_of number rec)) o)) None
          ≡ first_that_holds (refused_by (elim o [ Some rec ↦ left_by row rec | None ↦ Err error_input ]))
      of_rec row None = refl
      of_rec row (Some rec) = by row rec rec.state

      at : (o : Option RealmRow)
          → else (exit_refusal (rec_of_number o number)) None
          ≡ first_that_holds (refused_by (elim o [ Some row ↦ elim (get row.recs number) [ Some rec ↦ left_by row rec | None ↦ Err error_input ] | None ↦ Err error_input ]))
      at None = refl
      at (Some row) = of_rec row (get row.recs number)

  -- ---- commands

  abbrev realm : Option Seen
  realm = realm_of build (world_of host)

  -- the outcome of the given operation with the given granules, or an input error if there is no operation
  abbrev outcome : Option Act → List ℕ → Outcome
  outcome act granules = outcome_of_act host.limits (used_vmids machine) act realm (map (seen machine) granules)

  -- the refusal, if any, that the model's checks give to a command with the given operation and granules
  abbrev by_act : List ℕ → Bool → Cmd → Option Act → Option Refusal
  by_act granules ready cmd act = option_map refusal.Rmi (refusal_of_act host (row_in realm) granules ready cmd act)

  if_fits : (fits : Bool) (granules : List ℕ) (ready : Bool) (cmd : Cmd) (act : Act) → refusal_without_act cmd ≡ Some error_input
      → by_act granules ready cmd (Some act) ≡ option_map refusal.Rmi (refusal_in (outcome (Some act) granules))
      → by_act granules ready cmd (act_if fits act) ≡ option_map refusal.Rmi (refusal_in (outcome (act_if fits act) granules))
  if_fits true granules ready cmd act none same = same
  if_fits false granules ready cmd act none same = ap (option_map refusal.Rmi) none

  model_is : ((row : RealmRow) → row_in realm ≡ Some row → is_width row.root.width ≡ true) → (cmd : Cmd)
      → model_refusal host build (granules_named host build cmd) cmd (act_before host build cmd) ≡ first_that_holds (last_checks host build cmd)
  unfolding act_of operands outcome_of
  model_is wide (Take order) = else_none (first_that_holds (no_block host order ∷ []))
  model_is wide (Fill page value) = at (granule_of_page host build page)
    where
      at : (o : Option ℕ) → else (access_refusal (option_map (λ g. (cell_at machine g).state) o)) (by_act (cons_option o []) true (Fill page value) (act_of (Fill page value) (cons_option o []) (allocated_before host build)))
          ≡ first_that_holds (refused_by (outcome (act_of (Fill page value) (cons_option o []) (allocated_before host build)) (cons_option o [])))
      at None = refl
      at (Some g) = access_refused (cell_at machine g).state _
  model_is wide (Peek page offset) = at (granule_of_page host build page) (allocated_for host build (Peek page offset) (granules_named host build (Peek page offset)))
    where
      at : (o : Option ℕ) (read : Allocated)
          → else (access_refusal (option_map (λ g. (cell_at machine g).state) o)) (by_act (cons_option o []) true (Peek page offset) (act_of (Peek page offset) (cons_option o []) (allocated_before host build)))
          ≡ first_that_holds (refused_by (outcome (act_of (Peek page offset) (cons_option o []) read) (cons_option o [])))
      at None read = refl
      at (Some g) read = access_refused (cell_at machine g).state _
  model_is wide (Delegate page) = at (granule_of_page host build page)
    where
      at : (o : Option ℕ)
          → by_act (cons_option o []) (is_undelegated_page (option_map (λ g. (cell_at machine g).state) o)) (Delegate page) (act_of (Delegate page) (cons_option o []) (allocated_before host build))
          ≡ first_that_holds (refused_by (outcome (act_of (Delegate page) (cons_option o []) (allocated_before host build)) (cons_option o [])))
      at None = refl
      at (Some g) = ap (option_map refusal.Rmi) (guarded (is_undelegated (seen machine g)) error_input _ _ (λ is. refl)) ∙ as_refusal _
  model_is wide (Rtt page ipa level) = at (granule_of_page host build page)
    where
      at : (o : Option ℕ)
          → by_act (cons_option o []) true (Rtt page ipa level) (act_of (Rtt page ipa level) (cons_option o []) (allocated_before host build))
          ≡ first_that_holds (refused_by (outcome (act_of (Rtt page ipa level) (cons_option o []) (allocated_before host build)) (cons_option o [])))
      at None = refl
      at (Some g) =
          if_fits (is_ipa ipa && is_level level) (g ∷ []) true (Rtt page ipa level) (acts.Rtt g ipa level) refl (ap (option_map refusal.Rmi) (rtt_refused (g ∷ []) true g ipa level realm))
          ∙ as_refusal _
  model_is wide (Unknown page ipa) = at (granule_of_page host build page)
    where
      at : (o : Option ℕ)
          → by_act (cons_option o []) true (Unknown page ipa) (act_of (Unknown page ipa) (cons_option o []) (allocated_before host build))
          ≡ first_that_holds (refused_by (outcome (act_of (Unknown page ipa) (cons_option o []) (allocated_before host build)) (cons_option o [])))
      at None = refl
      at (Some g) =
          if_fits (is_ipa ipa) (g ∷ []) true (Unknown page ipa) (acts.Unknown g ipa) refl (ap (option_map refusal.Rmi) (unknown_refused (g ∷ []) true g ipa realm)) ∙ as_refusal _
  model_is wide (Data page ipa source) = at (granule_of_page host build page) (granule_of_page host build source)
    where
      at : (o p : Option ℕ)
          → by_act (cons_option o (cons_option p [])) (is_undelegated_page (option_map (λ g. (cell_at machine g).state) p)) (Data page ipa source) (act_of (Data page ipa source) (cons_option o (cons_option p [])) (allocated_before host build))
          ≡ first_that_holds (refused_by (outcome (act_of (Data page ipa source) (cons_option o (cons_option p [])) (allocated_before host build)) (cons_option o (cons_option p []))))
      at None None = refl
      at None (Some s) = refl
      at (Some g) None = refl
      at (Some g) (Some s) =
          if_fits (is_ipa ipa) (g ∷ s ∷ []) (is_undelegated (seen machine s)) (Data page ipa source) (acts.Data g ipa s) refl (ap (option_map refusal.Rmi) (data_refused (g ∷ s ∷ []) g ipa s realm))
          ∙ as_refusal _
  model_is wide (Ripas ipa count) =
      if_fits (is_ipa ipa) [] true (Ripas ipa count) (acts.Ripas ipa count) refl (ap (option_map refusal.Rmi) (ripas_refused [] true ipa count realm wide)) ∙ as_refusal _
  model_is wide Activate = ap (option_map refusal.Rmi) (activate_refused [] true realm) ∙ as_refusal _
  model_is wide (Enter number) = enter_refused [] true number realm ∙ as_refusal _
  model_is wide (Exit number) = exit_refused number realm
  model_is wide (Rec page auxiliaries) = at (granules_named host build (Rec page auxiliaries))
    where
      at : (gs : List ℕ)
          → by_act gs true (Rec page auxiliaries) (act_of (Rec page auxiliaries) gs (allocated_before host build))
          ≡ first_that_holds (refused_by (outcome (act_of (Rec page auxiliaries) gs (allocated_before host build)) gs))
      at [] = refl
      at (g ∷ gs) = ap (option_map refusal.Rmi) (rec_refused g gs true (record { items = gs }) (allocated_before host build).number realm) ∙ as_refusal _
  model_is wide (Realm rd root width) = at (granules_named host build (Realm rd root width))
    where
      at : (gs : List ℕ)
          → by_act gs true (Realm rd root width) (act_of (Realm rd root width) gs (allocated_before host build))
          ≡ first_that_holds (refused_by (outcome (act_of (Realm rd root width) gs (allocated_before host build)) gs))
      at [] = refl
      at (g ∷ []) = refl
      at (g ∷ first ∷ rest) = by (is_width width && bytes_eq (first ∷ rest) (starting_tables (record { first = first; width = width }))) refl
        where
          tables_at : Root
          tables_at = record { first = first; width = width }

          made : Bool → Option Act
          made t = option_map (λ tables. acts.Realm g tables (unwrap_or (lowest_vmid host) 1)) (cond t (Some tables_at) None)

          by : (t : Bool) → (is_width width && bytes_eq (first ∷ rest) (starting_tables tables_at)) ≡ t
              → by_act (g ∷ first ∷ rest) true (Realm rd root width) (made t) ≡ first_that_holds (refused_by (outcome (made t) (g ∷ first ∷ rest)))
          by false is = refl
          by true is = ap (option_map refusal.Rmi) (realm_refused g (first ∷ rest) tables_at (and_parts (is_width width) _ is).0) ∙ as_refusal _
  model_is wide (Poke number ipa offset value) = by (is_ipa ipa)
    where
      by : (fits : Bool)
          → else (entry_refusal (rec_of_number (row_in realm) number)) (by_act [] true (Poke number ipa offset value) (act_if fits (acts.Poke number ipa offset value)))
          ≡ first_that_holds (refused_by (outcome (act_if fits (acts.Poke number ipa offset value)) []))
      by true = poke_refused [] true number ipa offset value realm ∙ as_refusal _
      by false = none (rec_of_number (row_in realm) number)
        where
          none : (o : Option (ℕ × RecAttributes)) → else (entry_refusal o) (Some (refusal.Rmi error_input)) ≡ Some (refusal.Rmi error_input)
          none None = refl
          none (Some rec) = refl

  -- if the host's history is legal, the build's realm has a valid IPA width
  wide_rows : IsLegal host.limits host.history → (row : RealmRow) → row_in realm ≡ Some row → is_width row.root.width ≡ true
  wide_rows legal row there = at (realm_of build (world_of host)) refl
    where
      at : (o : Option Seen) → realm_of build (world_of host) ≡ o → is_width row.root.width ≡ true
      at None is = absurd (none-some row (sym (ap row_in is) ∙ there))
      at (Some rd) is = (reachable_worlds host.limits host.history (world_of host) (world_is host legal)).width rd.number row (sym (row_at_rd (world_of host) build rd.number (ap (option_map (λ (s : Seen). s.number)) is)) ∙ there)

  module _ (cmd : Cmd) where
    -- if one of the host's own checks fails, the refusal of the first that fails is the host's refusal of the command
    pub own : (refusal : Refusal) → first_that_holds (checks_of (summary_of host) build cmd) ≡ Some refusal → Some refusal ≡ refusal_of host build (Ask cmd)
    unfolding refusal_of
    own refusal is = sym (first_stops (checks_of (summary_of host) build cmd) (last_checks host build cmd) refusal is)

    -- if none of the host's own checks fails, and the history is legal, the model's refusal is the host's refusal of
    -- the command
    pub of_model : IsLegal host.limits host.history → (granules : List ℕ) (act : Option Act) (result : Option Refusal)
        → first_that_holds (checks_of (summary_of host) build cmd) ≡ None → AreFound (summary_of host) build cmd granules
        → act ≡ act_of cmd granules (allocated_before host build) → result ≡ model_refusal host build granules cmd act → result ≡ refusal_of host build (Ask cmd)
    unfolding refusal_of
    of_model legal granules act result none found act_is is =
        is
        ∙ ap (λ (o : Option Act). model_refusal host build granules cmd o) act_is
        ∙ ap (λ (gs : List ℕ). model_refusal host build gs cmd (act_of cmd gs (allocated_before host build)))
        (sym (named_are (λ page. granule_of_page host build page) (operands cmd) granules found))
        ∙ model_is (wide_rows legal) cmd
        ∙ sym (first_passes (checks_of (summary_of host) build cmd) (last_checks host build cmd) none)
