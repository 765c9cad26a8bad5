-- A proof that each protected address of a new realm is UNASSIGNED, with RIPAS EMPTY.
use Rattle.std.proofs.Common.{◌≡◌, ℕ, ◌+◌, ◌-◌, ◌*◌, ◌/◌, ◌^◌, ◌<◌, ◌≤◌, true, List, length, refl, sym, ap, subst, ◌∙◌, arith}
use Rattle.std.specs.Prelude.{nat_le}
use Rattle.std.proofs.lemmas.Bool.{and_parts, cond-true, leb-true, ltb-true, lt-ltb}
use Rattle.rmi_abi.specs.declared.call.Call.TheVariants.{RealmCreate}
use Rattle.rmi_abi.specs.declared.realm_params.RealmParams.{RealmParams}
use Rattle.rmi_abi.specs.declared.registers.SmcResult.{SmcResult}
use Rattle.rmi_abi.specs.declared.word.Word.TheVariants.{Success}
use Rattle.rmm_model.specs.declared.entry.RmmRipas.TheVariants.{Empty}
use Rattle.rmm_model.specs.declared.entry.RmmRttEntry.{RmmRttEntry}
use Rattle.rmm_model.specs.declared.entry.RmmRttEntry.TheVariants.{Unassigned}
use Rattle.rmm_model.specs.declared.granule.RmmGranule.{RmmGranule}
use Rattle.rmm_model.specs.declared.granule.RmmGranuleState.TheVariants.{Rd}
use Rattle.rmm_model.specs.declared.realm.RmmRealm.{RmmRealm}
use Rattle.rmm_model.specs.declared.realm.RttWalk.{RttWalk}
use Rattle.rmm_model.specs.Call.{performed}
use Rattle.rmm_model.specs.Entry.{entry_of, entry_word}
use Rattle.rmm_model.specs.Granule.{of_no_realm}
use Rattle.rmm_model.specs.Level.{entry_size, entry_index, start_table_index}
use Rattle.rmm_model.specs.Machine.{Machine, granule_at, granule_count, page_in, is_inside, number_of, with_granule}
use Rattle.rmm_model.specs.Realm.{IsServed, is_protected, is_start}
use Rattle.rmm_model.specs.Table.{entry_in_page}
use Rattle.rmm_model.specs.Walk.{entry_at, start_of, table_below, walk}
use Rattle.rmm_model.specs.Command.RealmCreate.{realm_create, params_at, params_checks, is_supported, are_delegated, can_start, realm_for, start_entry, start_page, with_tables}
use Rattle.rmm_laws.specs.Proper.{IsProper}
use Rattle.rmm_laws.proofs.Along.{stops}
use Rattle.rmm_laws.proofs.Entries.{number_inside}
use Rattle.rmm_laws.proofs.EntryWords.{entry_of-entry_word}
use Rattle.rmm_laws.proofs.Freed.{succeeded}
use Rattle.rmm_laws.proofs.Mappings.{protected_within}
use Rattle.rmm_laws.proofs.NewRealms.{start_entry_is}
use Rattle.rmm_laws.proofs.Passed.{Passed, yes_from}
use Rattle.rmm_laws.proofs.Realms.{fits, made_count, made_tables}
use Rattle.rmm_laws.proofs.Sides.{entry_start, whole_index}
use Rattle.rmm_laws.proofs.States.{same_realm}
use Rattle.rmm_laws.proofs.Walks.{entry_index-few, start_inside}
use Rattle.rmm_laws.proofs.Writes.{granule_at-same}

-- the starting tables' entry that covers a protected address is UNASSIGNED, with RIPAS EMPTY
start_empty : (realm : RmmRealm) (n ipa : ℕ) → realm.start_level ≤ 3 → ipa / entry_size realm.start_level ≡ n → is_protected realm ipa ≡ true → start_entry realm n ≡ Unassigned Empty
start_empty realm n ipa few covers protected =
    let begin = (entry_start realm.start_level few n ipa covers).0 in
    let low : ipa < 2 ^ (realm.s2sz - 1) = ltb-true _ _ protected in
    cond-true (is_protected realm (n * entry_size realm.start_level)) _ _ (lt-ltb (n * entry_size realm.start_level) (2 ^ (realm.s2sz - 1)) (omega arith))

module _ (m n : Machine) (realm : RmmRealm) (ipa : ℕ) (fit : IsServed (length m.granules) realm)
    (pages : (i : ℕ) → i < realm.table_count → page_in n (realm.first_table + i) ≡ start_page realm i) (protected : is_protected realm ipa ≡ true) where
  first_entry : entry_at n (start_of realm ipa) ipa ≡ Unassigned Empty
  unfolding entry_at start_of start_table_index
  first_entry =
      let level : ℕ = realm.start_level in
      let k : ℕ = ipa / entry_size realm.start_level / 512 in
      let i : ℕ = entry_index realm.start_level ipa in
      let inside : k < realm.table_count = start_inside level ipa realm.s2sz realm.table_count (protected_within realm ipa protected) fit.served in
      ap (λ (p : List ℕ). entry_in_page p i) (pages k inside)
      ∙ start_entry_is realm k i (entry_index-few level ipa)
      ∙ ap (λ (e : RmmRttEntry). entry_of (entry_word e)) (start_empty realm (k * 512 + i) ipa fit.level (sym (whole_index level ipa)) protected)
      ∙ entry_of-entry_word (Unassigned Empty) (omega arith)

  starts_empty : entry_at n (walk n realm ipa 3) ipa ≡ Unassigned Empty
  unfolding walk
  starts_empty =
      ap (λ (q : RttWalk). entry_at n q ipa) (stops n ipa (3 - realm.start_level) (start_of realm ipa) (ap (λ (e : RmmRttEntry). table_below n e) first_entry)) ∙ first_entry

new_entries : (rd params ipa : ℕ) (realm : RmmRealm) (m : Machine) → IsProper m → Passed (realm_create rd params m).checks → (granule_at (realm_create rd params m).machine (number_of m rd)).state ≡ Rd realm
    → is_protected realm ipa ≡ true → entry_at (realm_create rd params m).machine (walk (realm_create rd params m).machine realm ipa 3) ipa ≡ Unassigned Empty
unfolding realm_create params_checks can_start realm_for
new_entries rd params ipa realm m proper ok is protected =
    let sound = proper.linked.sound in
    let p : RealmParams = params_at m params in
    let made : RmmRealm = realm_for m p in
    let r : ℕ = number_of m rd in
    let supported : is_supported m.settings p ≡ true = yes_from (is_supported m.settings p) ok.1.1.1.1.0 in
    let start : is_start p.s2sz p.rtt_level_start p.rtt_num_start ≡ true = yes_from _ ok.1.1.1.1.1.0 in
    let there = number_inside m rd (yes_from (is_inside m rd) ok.1.1.1.1.1.1.1.1.1.0) in
    let starts = and_parts _ (are_delegated m (number_of m p.rtt_base) p.rtt_num_start) (yes_from _ ok.1.1.1.1.1.1.1.1.1.1.1.0) in
    let range = and_parts (is_inside m p.rtt_base) (nat_le (number_of m p.rtt_base + p.rtt_num_start) (granule_count m)) starts.0 in
    let fit : IsServed (length m.granules) made = fits m p sound supported start (leb-true _ _ range.1) in
    let tables : Machine = with_tables m r made made.table_count in
    let count = made_count m r made made.table_count in
    let now : (granule_at (with_granule tables r (of_no_realm (Rd made))) r).state ≡ Rd made = ap (λ (c : RmmGranule). c.state) (granule_at-same tables r (of_no_realm (Rd made)) (omega arith)) in
    let it : made ≡ realm = same_realm (sym now ∙ is) in
    starts_empty m (realm_create rd params m).machine realm ipa (subst (λ (x : RmmRealm). IsServed (length m.granules) x) it fit)
    (subst (λ (x : RmmRealm). (i : ℕ) → i < x.table_count → page_in (realm_create rd params m).machine (x.first_table + i) ≡ start_page x i) it
    (λ i lt. (made_tables m r made sound fit.inside made.table_count i (omega arith) lt).1))
    protected

-- each protected address of a realm that was just created is UNASSIGNED, with RIPAS EMPTY
pub new_empty : (m : Machine) (rd params ipa : ℕ) (realm : RmmRealm) → IsProper m → (performed (RealmCreate rd params) m).0.word ≡ Success
    → (granule_at (performed (RealmCreate rd params) m).1 (number_of m rd)).state ≡ Rd realm → is_protected realm ipa ≡ true
    → entry_at (performed (RealmCreate rd params) m).1 (walk (performed (RealmCreate rd params) m).1 realm ipa 3) ipa ≡ Unassigned Empty
unfolding realm_create params_checks
new_empty m rd params ipa realm proper success =
    let r : ℕ = number_of m rd in
    succeeded
    ((granule_at (performed (RealmCreate rd params) m).1 (number_of m rd)).state ≡ Rd realm → is_protected realm ipa ≡ true
    → entry_at (performed (RealmCreate rd params) m).1 (walk (performed (RealmCreate rd params) m).1 realm ipa 3) ipa ≡ Unassigned Empty)
    (RealmCreate rd params) m refl success
    (λ ok now.
    subst (λ (p : SmcResult × Machine). (granule_at p.1 r).state ≡ Rd realm → is_protected realm ipa ≡ true → entry_at p.1 (walk p.1 realm ipa 3) ipa ≡ Unassigned Empty) (sym now)
    (λ is protected. new_entries rd params ipa realm m proper ok is protected))
