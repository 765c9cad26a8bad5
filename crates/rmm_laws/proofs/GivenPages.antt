-- Proofs that the addresses at which DATA_CREATE or DATA_CREATE_UNKNOWN maps a page lead to that page.
use Rattle.std.proofs.Common.{◌≡◌, ◌≢◌, ℕ, ◌/◌, ◌%◌, ◌^◌, ◌<◌, ◌≤◌, true, false, List, length, None, refl, sym, ap, subst, ◌∙◌, inr, arith}
use Rattle.std.proofs.lemmas.Bool.{eqb-true}
use Rattle.std.proofs.lemmas.List.{length-set}
use Rattle.granule_addr.specs.Page.{zero_page}
use Rattle.page_arena.specs.Page.{page_at}
use Rattle.page_arena.specs.Word.{page_with_word}
use Rattle.rmi_abi.specs.declared.call.Call.TheVariants.{DataCreate, DataCreateUnknown}
use Rattle.rmi_abi.specs.declared.registers.SmcResult.{SmcResult}
use Rattle.rmi_abi.specs.declared.word.Word.TheVariants.{Success}
use Rattle.rmm_model.specs.declared.entry.RmmRipas.{RmmRipas}
use Rattle.rmm_model.specs.declared.entry.RmmRipas.TheVariants.{Ram}
use Rattle.rmm_model.specs.declared.entry.RmmRttEntry.{RmmRttEntry}
use Rattle.rmm_model.specs.declared.entry.RmmRttEntry.TheVariants.{Assigned}
use Rattle.rmm_model.specs.declared.granule.RmmGranule.{RmmGranule}
use Rattle.rmm_model.specs.declared.granule.RmmGranuleState.TheVariants.{Delegated, Data, Rd, Rtt}
use Rattle.rmm_model.specs.declared.realm.RmmRealm.{RmmRealm}
use Rattle.rmm_model.specs.declared.realm.RttWalk.{RttWalk}
use Rattle.rmm_model.specs.Call.{performed}
use Rattle.rmm_model.specs.Entry.{entry_of, entry_word, is_table, is_unassigned, ripas_in}
use Rattle.rmm_model.specs.Granule.{of_realm, is_delegated}
use Rattle.rmm_model.specs.Level.{entry_size, entry_index}
use Rattle.rmm_model.specs.Machine.{Machine, granule_at, page_in, is_aligned, is_inside, number_of, state_at, with_granule, with_page}
use Rattle.rmm_model.specs.Realm.{is_protected}
use Rattle.rmm_model.specs.Table.{entry_in_page}
use Rattle.rmm_model.specs.Walk.{entry_at, with_entry, walk, table_below}
use Rattle.rmm_model.specs.Command.DataCreate.{data_create, source_checks, target_checks}
use Rattle.rmm_model.specs.Command.DataCreateUnknown.{data_create_unknown}
use Rattle.rmm_model.specs.Command.Operand.{realm_at}
use Rattle.rmm_laws.specs.Location.{location_of, IsPageAt}
use Rattle.rmm_laws.specs.Proper.{IsProper}
use Rattle.rmm_laws.specs.Ripas.{ripas_at}
use Rattle.rmm_laws.specs.Walk.{IsTableOf}
use Rattle.rmm_laws.proofs.Entries.{address_few}
use Rattle.rmm_laws.proofs.EntryWords.{word_ripas}
use Rattle.rmm_laws.proofs.Freed.{succeeded}
use Rattle.rmm_laws.proofs.Halves.{none_below}
use Rattle.rmm_laws.proofs.LeftAlone.{touches_of}
use Rattle.rmm_laws.proofs.LocationCalls.{page_location}
use Rattle.rmm_laws.proofs.Mappings.{served, place_table, protected_within}
use Rattle.rmm_laws.proofs.Passed.{yes_from, is_delegated-true, realm_of-some}
use Rattle.rmm_laws.proofs.ReadCalls.{leaf_walk, now, unassigned_leaf}
use Rattle.rmm_laws.proofs.RipasCalls.{page_covers}
use Rattle.rmm_laws.proofs.Seats.{in_space}
use Rattle.rmm_laws.proofs.Tops.{same_end}
use Rattle.rmm_laws.proofs.Writes.{page_in-same, page_in-other, taken_inside}

-- An entry that is no TABLE replaces another such entry, at the end of a walk to level 3.
module _ (m n : Machine) (proper : IsProper m) (settings : n.settings ≡ m.settings) (count : length n.granules ≡ length m.granules) (rd ipa : ℕ) (realm : RmmRealm)
    (is : (granule_at m rd).state ≡ Rd realm) (within : ipa < 2 ^ realm.s2sz) (least : realm.start_level ≤ 3)
    (others : (g : ℕ) → IsTableOf m rd g → g ≢ (walk m realm ipa 3).table → page_in n g ≡ page_in m g)
    (e : RmmRttEntry) (page : page_in n (walk m realm ipa 3).table ≡ page_with_word (page_in m (walk m realm ipa 3).table) (entry_index (walk m realm ipa 3).level ipa) (entry_word e))
    (before : is_table (entry_at m (walk m realm ipa 3) ipa) ≡ false) (leaf : is_table e ≡ false) where
  -- the walk of an address that the entry covers ends where the walk of `ipa` did, and finds the new entry
  entry_there : (x : ℕ) → x / entry_size (walk m realm ipa 3).level ≡ ipa / entry_size (walk m realm ipa 3).level → (walk n realm x 3 ≡ walk m realm ipa 3) × (entry_at n (walk m realm ipa 3) x ≡ entry_of (entry_word e))
  unfolding entry_at entry_index
  entry_there x covers =
      let found : RttWalk = walk m realm ipa 3 in
      let index : entry_index found.level x ≡ entry_index found.level ipa = ap (λ (q : ℕ). q % 512) covers in
      let old : RmmRttEntry = entry_in_page (page_in m found.table) (entry_index found.level ipa) in
      let none : table_below m (entry_at m found x) ≡ None = ap (λ (j : ℕ). table_below m (entry_in_page (page_in m found.table) j)) index ∙ none_below m old old refl before in
      let there = same_end m proper.linked rd ipa 3 realm is within least (omega arith) x (ap (λ (q : ℕ). q / 512) covers) none in
      let inside = in_space m proper.linked proper.ordered.halves rd ipa realm is within 3 x covers in
      let same = leaf_walk x RmmRipas (λ f l. ripas_in f) (λ r was now. Unit {0}) m n proper settings count rd ipa 3 realm is within least others e page before leaf (λ covered. inr tt) inside in
      let entry = now x RmmRipas (λ f l. ripas_in f) (λ r was now. Unit {0}) m n proper settings count rd ipa 3 realm is within least others e page before leaf in
      (same ∙ there, ap (λ (j : ℕ). entry_in_page (page_in n found.table) j) index ∙ entry)

-- A DELEGATED granule becomes a data page of a realm, to which an entry of level 3 leads.
module _ (m n : Machine) (proper : IsProper m) (settings : n.settings ≡ m.settings) (count : length n.granules ≡ length m.granules) (rd page ipa : ℕ)
    (is : (granule_at m (number_of m rd)).state ≡ Rd (realm_at m rd)) (protected : is_protected (realm_at m rd) ipa ≡ true) (free : state_at m page ≡ Delegated)
    (vacant : is_unassigned (entry_at m (walk m (realm_at m rd) ipa 3) ipa) ≡ true) (three : (walk m (realm_at m rd) ipa 3).level ≡ 3) (begins : ipa % 4096 ≡ 0)
    (aligned : page % 4096 ≡ 0) (page_inside : is_inside m page ≡ true) (kept : RmmGranule) (content : List ℕ) (ripas : RmmRipas)
    (pages : n.pages ≡ (with_entry (with_page (with_granule m (number_of m page) kept) (number_of m page) content) (walk m (realm_at m rd) ipa 3) ipa (Assigned ripas page)).pages) where
  page_there : IsPageAt n (realm_at m rd) ipa page ripas
  page_there x between =
      let realm : RmmRealm = realm_at m rd in
      let r : ℕ = number_of m rd in
      let g : ℕ = number_of m page in
      let least = (served m r realm proper.linked is).level in
      let within = protected_within realm ipa protected in
      let found : RttWalk = walk m realm ipa 3 in
      let k : Machine = with_page (with_granule m g kept) g content in
      let table = place_table m proper.linked r ipa 3 realm is within least in
      let not_g : (h : ℕ) → (granule_at m h).state ≡ Rtt → h ≢ g = λ h rtt same. (let states : (granule_at m h).state ≡ (granule_at m g).state = ap (λ (y : ℕ). (granule_at m y).state) same in cc) in
      let length_is = length-set m.pages g content in
      let all = proper.linked.sound.pages in
      let inside : found.table < length k.pages = (let lt = taken_inside m found.table (λ none. cc) in omega arith) in
      let it = entry_there m n proper settings count r ipa realm is within least
      (λ h here other. ap (λ (ps : List (List ℕ)). page_at ps h) pages ∙ page_in-other k found.table h _ other ∙ page_in-other (with_granule m g kept) g h content (not_g h (ap (λ (c : RmmGranule). c.state) here)))
      (Assigned ripas page)
      (ap (λ (ps : List (List ℕ)). page_at ps found.table) pages ∙ page_in-same k found.table _ inside
      ∙ ap (λ (p : List ℕ). page_with_word p (entry_index found.level ipa) (entry_word (Assigned ripas page))) (page_in-other (with_granule m g kept) g found.table content (not_g found.table table)))
      (unassigned_leaf (entry_at m found ipa) vacant) refl x (page_covers found.level ipa x three begins between) in (
        ap (λ (q : RttWalk). location_of (entry_at n q x) (x % entry_size q.level)) it.0 ∙ ap (λ (f : RmmRttEntry). location_of f (x % entry_size found.level)) it.1
            ∙ page_location ripas page found.level x three aligned (address_few m page proper.linked.sound page_inside),
        ap (λ (q : RttWalk). ripas_in (entry_at n q x)) it.0 ∙ ap ripas_in it.1 ∙ word_ripas (Assigned ripas page),
      )

-- ---- calls

pub data_there : (m : Machine) (rd page ipa source flags : ℕ) → IsProper m → (performed (DataCreate rd page ipa source flags) m).0.word ≡ Success
    → IsPageAt (performed (DataCreate rd page ipa source flags) m).1 (realm_at m rd) ipa page Ram
unfolding data_create source_checks target_checks
data_there m rd page ipa source flags proper success =
    succeeded (IsPageAt (performed (DataCreate rd page ipa source flags) m).1 (realm_at m rd) ipa page Ram) (DataCreate rd page ipa source flags) m refl success
    (λ ok now.
    subst (λ (p : SmcResult × Machine). IsPageAt p.1 (realm_at m rd) ipa page Ram) (sym now)
    (page_there m (data_create rd page ipa source flags m).machine proper refl (touches_of (DataCreate rd page ipa source flags) m proper ok).count rd page ipa
    (realm_of-some (state_at m rd) ok.1.1.1.1.1.1.1.1.1.0)
    (yes_from _ ok.1.1.1.1.1.1.1.1.1.1.1.0)
    (is_delegated-true (state_at m page) (yes_from (is_delegated (state_at m page)) ok.1.1.1.1.1.1.0))
    (yes_from _ ok.1.1.1.1.1.1.1.1.1.1.1.1.1.1.0)
    (eqb-true _ _ (yes_from _ ok.1.1.1.1.1.1.1.1.1.1.1.1.1.0))
    (eqb-true _ _ (yes_from _ ok.1.1.1.1.1.1.1.1.1.1.0))
    (eqb-true _ _ (yes_from (is_aligned page) ok.1.1.1.1.0))
    (yes_from (is_inside m page) ok.1.1.1.1.1.0)
    (of_realm (number_of m rd) Data) (page_in m (number_of m source)) Ram refl))

pub unknown_there : (m : Machine) (rd page ipa : ℕ) → IsProper m → (performed (DataCreateUnknown rd page ipa) m).0.word ≡ Success
    → IsPageAt (performed (DataCreateUnknown rd page ipa) m).1 (realm_at m rd) ipa page (ripas_at m (realm_at m rd) ipa)
unfolding data_create_unknown
unknown_there m rd page ipa proper success =
    succeeded (IsPageAt (performed (DataCreateUnknown rd page ipa) m).1 (realm_at m rd) ipa page (ripas_at m (realm_at m rd) ipa)) (DataCreateUnknown rd page ipa) m refl success
    (λ ok now.
    subst (λ (p : SmcResult × Machine). IsPageAt p.1 (realm_at m rd) ipa page (ripas_at m (realm_at m rd) ipa)) (sym now)
    (page_there m (data_create_unknown rd page ipa m).machine proper refl (touches_of (DataCreateUnknown rd page ipa) m proper ok).count rd page ipa
    (realm_of-some (state_at m rd) ok.1.1.1.1.1.0)
    (yes_from _ ok.1.1.1.1.1.1.1.0)
    (is_delegated-true (state_at m page) (yes_from (is_delegated (state_at m page)) ok.1.1.0))
    (yes_from _ ok.1.1.1.1.1.1.1.1.1.0)
    (eqb-true _ _ (yes_from _ ok.1.1.1.1.1.1.1.1.0))
    (eqb-true _ _ (yes_from _ ok.1.1.1.1.1.1.0))
    (eqb-true _ _ (yes_from (is_aligned page) ok.0))
    (yes_from (is_inside m page) ok.1.0)
    (of_realm (number_of m rd) Data) zero_page (ripas_at m (realm_at m rd) ipa) refl))
