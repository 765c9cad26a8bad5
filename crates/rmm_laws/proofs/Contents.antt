-- Proofs that calls, stores, fills, interrupts and the queueing of guest steps change the bytes at protected addresses
-- only as `KeepsContents` allows.
use Rattle.std.proofs.Common.{◌≡◌, ◌≢◌, ℕ, ◌+◌, ◌-◌, ◌*◌, ◌/◌, ◌%◌, ◌^◌, ◌<◌, ◌≤◌, ◌⊎◌, ◌==◌, ◌&&◌, inl, inr, Bool, true, false, List, length, Option, Some, None, Ok, option_map, refl, sym, ap, subst, ◌∙◌, ⊎_elim, arith}
use Rattle.std.proofs.lemmas.Bool.{and_from, and_left, and_parts, and_right, both_ways, cases_eq, cond-false, cond-true, cond_both, eqb-true, le-leb, lt-ltb, ltb-true}
use Rattle.std.proofs.lemmas.Nat.{mod_below}
use Rattle.std.specs.Prelude.{is_some, not}
use Rattle.granule_addr.specs.Page.{page_of}
use Rattle.rmi_abi.specs.declared.word.Word.{Word as Answer}
use Rattle.rmm_model.specs.declared.access.AccessSize.{AccessSize}
use Rattle.rmm_model.specs.declared.entry.RmmRipas.{RmmRipas}
use Rattle.rmm_model.specs.declared.entry.RmmRipas.TheVariants.{Ram}
use Rattle.rmm_model.specs.declared.granule.RmmGranuleState.{RmmGranuleState}
use Rattle.rmm_model.specs.declared.step.GuestStep.TheVariants.{Read}
use Rattle.rmm_model.specs.declared.step.Queued.{Queued}
use Rattle.rmm_model.specs.declared.step.StepOutcome.TheVariants.{Result as IsResult}
use Rattle.rmm_model.specs.declared.step.StepResult.TheVariants.{Read as IsRead}
use Rattle.rmm_model.specs.declared.step.StepWords.{StepWords}
use Rattle.rmm_model.specs.Access.{value_in}
use Rattle.rmm_model.specs.Entry.{descriptor_of, is_ram, ripas_in}
use Rattle.rmm_model.specs.Granule.{rec_of}
use Rattle.rmm_model.specs.Guest.{is_rec_named, queued}
use Rattle.rmm_model.specs.Host.{is_host_page, can_access, can_fill, after_store, after_fill}
use Rattle.rmm_model.specs.Rec.{is_running}
use Rattle.rmm_model.specs.Step.{access, found_or_sea, is_memory, read_outcome}
use Rattle.rmm_laws.specs.Ripas.{ripas_at}
use Rattle.rmm_laws.proofs.Aside.{given_apart, interrupt_apart}
use Rattle.rmm_laws.proofs.Lasting.{Lasts, lasts_all}
use Rattle.rmm_laws.proofs.Plain.{host_plain}
use Rattle.granule_addr.specs.Page.{zero_page}
use Rattle.rmi_abi.specs.declared.call.Call.{Call}
use Rattle.rmi_abi.specs.declared.call.Call.TheVariants.{RecEnter}
use Rattle.rmi_abi.specs.declared.call.Call.TheVariants.{DataCreate, DataCreateUnknown, DataDestroy}
use Rattle.rmi_abi.specs.declared.registers.Registers.{Registers}
use Rattle.rmm_model.specs.declared.entry.RmmRttEntry.{RmmRttEntry}
use Rattle.rmm_model.specs.declared.entry.RmmRttEntry.TheVariants.{Unassigned, Assigned, Table, UnassignedNs, AssignedNs}
use Rattle.rmm_model.specs.declared.granule.RmmGranule.{RmmGranule}
use Rattle.rmm_model.specs.declared.granule.RmmGranuleState.TheVariants.{Delegated, Data, Rd}
use Rattle.rmm_model.specs.declared.realm.RmmRealm.{RmmRealm}
use Rattle.rmm_model.specs.declared.realm.RttWalk.{RttWalk}
use Rattle.rmm_model.specs.Call.{command_of, performed, rmi_at}
use Rattle.rmm_model.specs.Granule.{is_delegated, of_realm}
use Rattle.rmm_model.specs.Level.{entry_size, entry_index}
use Rattle.rmm_model.specs.Machine.{Machine, granule_at, page_in, is_aligned, is_inside, number_of, state_at, with_page, with_word}
use Rattle.rmm_model.specs.Realm.{is_in_space, is_protected}
use Rattle.rmm_model.specs.Table.{entry_in_page}
use Rattle.rmm_model.specs.Walk.{entry_at, granule_named, walk}
use Rattle.rmm_model.specs.Command.DataCreate.{data_create, source_checks, target_checks}
use Rattle.rmm_model.specs.Command.DataCreateUnknown.{data_create_unknown}
use Rattle.rmm_model.specs.Command.Operand.{realm_at, rec_at}
use Rattle.rmm_model.specs.Command.RecEnter.{rec_enter, interrupted, runs_at, step_outcome}
use Rattle.rmm_laws.specs.Apart.{named_realm, IsOfRealm, IsSameAt}
use Rattle.rmm_laws.specs.Half.{IsOfHalf}
use Rattle.rmm_laws.specs.Location.{Location, location, location_of, location_at, content_of, content_at, IsContentGiven, IsLocationGiven, KeepsLocations, KeepsContents}
use Rattle.rmm_laws.specs.Owner.{is_rd}
use Rattle.rmm_laws.specs.Proper.{IsProper}
use Rattle.rmm_laws.specs.Role.{Used, used, page_count, entry_uses, uses, LeadsInside}
use Rattle.rmm_laws.specs.State.{fixed, IsLasting, IsDestroyed}
use Rattle.rmm_laws.proofs.Accesses.{page_below, number_on}
use Rattle.rmm_laws.proofs.Entries.{begins, named_inside}
use Rattle.rmm_laws.proofs.Guests.{rd_of_rec_is, given_kept, given_then, interrupt_kept, interrupted_then}
use Rattle.rmm_laws.proofs.KeptData.{data_after, page_content, spare_apart}
use Rattle.rmm_laws.proofs.LastingCalls.{realms_after}
use Rattle.rmm_laws.proofs.LeftAlone.{touches_host, touches_of}
use Rattle.rmm_laws.proofs.LocationTables.{ok_locations, stored_locations, filled_locations, given_locations, interrupted_locations}
use Rattle.rmm_laws.proofs.Mappings.{served, place_is, place_table, protected_within}
use Rattle.rmm_laws.proofs.Passed.{Passed, kept, yes_from, is_delegated-true, realm_of-some, rec_of-some, rec_named-is}
use Rattle.rmm_laws.proofs.EachRead.{destroyed_no_rd}
use Rattle.rmm_laws.proofs.Seats.{walk_half}
use Rattle.rmm_laws.proofs.States.{same_realm}
use Rattle.rmm_laws.proofs.Touching.{Touches, IsMine, IsFree, free_spare}
use Rattle.rmm_laws.proofs.Walks.{IsPlace, right, uses-entry, entry_index-few, entry_size-positive}
use Rattle.rmm_laws.proofs.Writes.{number-same, page_in-other, taken_inside}

-- ---- pages that addresses lead to

some_location : {a b : Location} → Some a ≡ Some b → a ≡ b
some_location is = cc

same_page : {a b : List ℕ} → Some a ≡ Some b → a ≡ b
same_page is = cc

inside_by : (m : Machine) (a : ℕ) → m.settings.base ≤ a → number_of m a < length m.granules → is_inside m a ≡ true
unfolding is_inside number_of
inside_by m a low few = and_from _ _ (le-leb m.settings.base a low) (lt-ltb ((a - m.settings.base) / 4096) (length m.granules) few)

-- part `k` of entry `i` of a table uses granule `g` as a DATA granule of the realm with RD `rd`
pub record IsUsedAt (m : Machine) (proper : IsProper m) (rd g table i k : ℕ) : Type 0 where
  pub number : ℕ
  pub at : g ≡ number
  pub gives : uses m proper.linked.level table i k ≡ Some (used Data (Some rd) 0 number)

module _ (m : Machine) (proper : IsProper m) (rd : ℕ) (realm : RmmRealm) (is : (granule_at m rd).state ≡ Rd realm) (x : ℕ) (protected : is_protected realm x ≡ true) (at : Location) where
  -- location `at` is `offset` bytes into the memory of `e`, and entry `i` of the table at `place` uses the location's
  -- granule as DATA
  pub record IsMapping (place : RttWalk) (i offset : ℕ) (e : RmmRttEntry) : Type 0 where
    pub ripas : RmmRipas
    pub address : ℕ
    pub entry : e ≡ Assigned ripas address
    pub sum : at.address ≡ address + offset
    pub first : ℕ
    pub begins : address ≡ m.settings.base + first * 4096
    pub used : IsUsedAt m proper rd (number_of m at.address) place.table i (offset / 4096)

  by_entry : (place : RttWalk) (i offset : ℕ) (e : RmmRttEntry) → IsPlace m proper.linked rd x place → i < 512 → entry_in_page (page_in m place.table) i ≡ e → LeadsInside m e → IsOfHalf realm x e
      → offset < entry_size place.level → location_of e offset ≡ Some at → IsMapping place i offset e
  by_entry place i offset (Assigned ripas address) end lt entry leads half within there =
      let first : ℕ = number_of m address in
      let k : ℕ = offset / 4096 in
      let base = proper.linked.sound.platform.base_aligned in
      let begin = leads.1 in
      let whole : address / 4096 * 4096 + offset ≡ address + offset = omega arith in
      let is_at : at.address ≡ address + offset = sym (ap (λ (l : Location). l.address) (some_location there)) ∙ whole in
      record {
        ripas = ripas;
        address = address;
        entry = refl;
        sum = is_at;
        first = first;
        begins = leads.1;
        used = record {
          number = first + k;
          at = ap (number_of m) is_at ∙ number_on m address first offset leads.1;
          gives = uses-entry m proper.linked rd x place i k end lt
              ∙ ap (λ (f : RmmRttEntry). entry_uses m (Some rd) place.level f k) entry
              ∙ cond-true _ _ _ (lt-ltb k (page_count place.level) (page_below place.level offset within))
              ∙ ap (option_map (λ f. used Data (Some rd) 0 (f + k))) (named_inside m address leads.0);
        };
      }
  by_entry place i offset (AssignedNs desc) end lt entry leads half within there = (let low = ltb-true _ _ protected in let high = half.0 in absurd (omega arith))
  by_entry place i offset (Unassigned ripas) end lt entry leads half within there = absurd (cc)
  by_entry place i offset UnassignedNs end lt entry leads half within there = absurd (cc)
  by_entry place i offset (Table address) end lt entry leads half within there = absurd (cc)

  within : x < 2 ^ realm.s2sz
  within = protected_within realm x protected

  pub mapping : location_at m realm x ≡ Some at → IsMapping (walk m realm x 3) (entry_index (walk m realm x 3).level x) (x % entry_size (walk m realm x 3).level) (entry_at m (walk m realm x 3) x)
  unfolding entry_at
  mapping there =
      let found : RttWalk = walk m realm x 3 in
      let i : ℕ = entry_index found.level x in
      let end = place_is m proper.linked rd x 3 realm is within (served m rd realm proper.linked is).level in
      let positive = entry_size-positive found.level in
      let lt = entry_index-few found.level x in
      by_entry found i (x % entry_size found.level) (entry_in_page (page_in m found.table) i) end lt refl
      (proper.linked.inside found.table i (ap (λ (r : RmmGranule). r.state) end.table) lt) (walk_half m proper.linked proper.ordered.halves rd x realm is within 3)
      (mod_below x (entry_size found.level) positive) there

  pub leads_to_data : location_at m realm x ≡ Some at → granule_at m (number_of m at.address) ≡ of_realm rd Data
  leads_to_data there =
      let it = mapping there in
      let found : RttWalk = walk m realm x 3 in
      ap (granule_at m) it.used.at
      ∙ sym (ap (λ (u : Used). u.attributes) (right m proper.linked found.table (entry_index found.level x) (x % entry_size found.level / 4096) (used Data (Some rd) 0 it.used.number) it.used.gives))

  -- a guest's access to the address reaches the page to which the address leads, if the RIPAS of the address is RAM
  pub reaches_data : location_at m realm x ≡ Some at → ripas_at m realm x ≡ Ram → (writes : Bool) (size : AccessSize) (value : ℕ) → access m realm x writes size value ≡ Ok (number_of m at.address)
  unfolding access
  reaches_data there ram writes size value =
      let it = mapping there in
      let found : RttWalk = walk m realm x 3 in
      let e : RmmRttEntry = entry_at m found x in
      let offset : ℕ = x % entry_size found.level in
      let inside_space : not (is_in_space realm x) ≡ false = ap not (lt-ltb x (2 ^ realm.s2sz) within) in
      let memory : is_memory e ≡ true = ap is_memory it.entry ∙ ap is_ram (sym (ap ripas_in it.entry) ∙ ram) in
      let data_is = leads_to_data there in
      let few = taken_inside m (number_of m at.address) (λ free. (let state : (granule_at m (number_of m at.address)).state ≡ Data = ap (λ (r : RmmGranule). r.state) data_is in cc)) in
      let begin = it.begins in
      let sum = it.sum in
      let inside : is_inside m at.address ≡ true = inside_by m at.address (omega arith) few in
      let address : descriptor_of e + offset ≡ at.address = ap (λ (f : RmmRttEntry). descriptor_of f + offset) it.entry ∙ sym it.sum in
      cond-false (not (is_in_space realm x)) _ _ inside_space
      ∙ cond-true (is_protected realm x) _ _ protected
      ∙ cond-true (is_memory e) _ _ memory
      ∙ ap (λ (a : ℕ). found_or_sea (granule_named m a)) address
      ∙ ap found_or_sea (named_inside m at.address inside)

-- ---- reads

content_place : (m : Machine) (o : Option Location) (page : List ℕ) → content_of m o ≡ Some page → (at : Location) × (o ≡ Some at) × (page_in m (number_of m at.address) ≡ page)
content_place m (Some at) page is = (at, refl, same_page is)
content_place m None page is = absurd (cc)

-- a guest that reads a protected address with RIPAS RAM gets bytes of the page to which the address leads
pub read_content : (m : Machine) (rd g flags ipa : ℕ) (size : AccessSize) (realm : RmmRealm) (page : List ℕ) → IsProper m → (granule_at m rd).state ≡ Rd realm → is_protected realm ipa ≡ true
    → content_at m realm ipa ≡ Some page → ripas_at m realm ipa ≡ Ram → step_outcome m realm g flags (Read ipa size) ≡ IsResult (IsRead (value_in page size ipa))
unfolding step_outcome
read_content m rd g flags ipa size realm page proper is protected content ram =
    let place = content_place m (location_at m realm ipa) page content in
    ap (read_outcome m ipa size) (reaches_data m proper rd realm is ipa protected place.0 place.1 ram false size 0) ∙ ap (λ (p : List ℕ). IsResult (IsRead (value_in p size ipa))) place.2

-- ---- addresses that lead to the location that they led to

-- each DATA granule of the realm with the given RD is as it was, or is DELEGATED
abbrev pub KeepsDataOf : Machine → Machine → ℕ → Type 0
KeepsDataOf m n rd = (g : ℕ) → granule_at m g ≡ of_realm rd Data → IsSameAt m n g ⊎ ((granule_at n g).state ≡ Delegated)

module _ (m n : Machine) (proper : IsProper m) (proper_then : IsProper n) (settings : n.settings ≡ m.settings) (count : length n.granules ≡ length m.granules) (rd x : ℕ) (before after : RmmRealm)
    (is : (granule_at m rd).state ≡ Rd before) (is_then : (granule_at n rd).state ≡ Rd after) (protected : is_protected before x ≡ true) (protected_then : is_protected after x ≡ true)
    (same : location_at n after x ≡ location_at m before x) (data_kept : KeepsDataOf m n rd) where
  same_by : (o : Option Location) → location_at m before x ≡ o → content_of n (location_at n after x) ≡ content_of m (location_at m before x)
  same_by (Some at) there =
      let g : ℕ = number_of m at.address in
      let number : number_of n at.address ≡ g = number-same m n settings count at.address in
      let was : granule_at m g ≡ of_realm rd Data = leads_to_data m proper rd before is x protected at there in
      let now : granule_at n (number_of n at.address) ≡ of_realm rd Data = leads_to_data n proper_then rd after is_then x protected_then at (same ∙ there) in
      let kept : page_in n g ≡ page_in m g =
      ⊎_elim
      (λ (as_was : IsSameAt m n g). as_was.1)
      (λ (gone : (granule_at n g).state ≡ Delegated). (let state : (granule_at n g).state ≡ Data = ap (λ (k : ℕ). (granule_at n k).state) (sym number) ∙ ap (λ (r : RmmGranule). r.state) now in absurd (cc)))
      (data_kept g was) in
      ap (content_of n) (same ∙ there) ∙ ap (λ (k : ℕ). Some (page_in n k)) number ∙ ap (λ (p : List ℕ). Some p) kept ∙ sym (ap (content_of m) there)
  same_by None there = ap (content_of n) (same ∙ there) ∙ sym (ap (content_of m) there)

  pub same_content : content_at n after x ≡ content_at m before x
  same_content = same_by (location_at m before x) refl

-- ---- RECs that are entered

-- a call on one realm leaves the data pages of another realm as they were
data_apart : (m n : Machine) (w rd g : ℕ) → Touches true m n (Some w) → w ≢ rd → is_rd (granule_at m w).state ≡ true → granule_at m g ≡ of_realm rd Data → IsSameAt m n g
data_apart m n w rd g touches other named is =
    let state : (granule_at m g).state ≡ Data = ap (λ (r : RmmGranule). r.state) is in
    ⊎_elim
    (λ (same : IsSameAt m n g). same)
    (λ (mine : IsMine true m (Some w) g). absurd (⊎_elim
    (λ (ours : IsOfRealm m (Some w) g). ⊎_elim
    (λ (here : g ≡ w). both_ways (is_rd (granule_at m w).state) (ap (λ (y : ℕ). is_rd (granule_at m y).state) (sym here) ∙ ap is_rd state) named)
    (λ (owned : (granule_at m g).owner ≡ Some w). (let owner : (granule_at m g).owner ≡ Some rd = ap (λ (r : RmmGranule). r.owner) is in other (cc)))
    ours)
    (λ (free : IsFree true m g). spare_apart m g (free_spare true m g free) state)
    mine))
    (touches.each g)

entered_data : (rec run rd : ℕ) (m : Machine) → IsProper m → Passed (rec_enter rec run m).checks → Touches true m (rec_enter rec run m).machine (named_realm m (RecEnter rec run))
    → ((granule_at m (number_of m rec)).owner ≡ Some rd) ⊎ KeepsDataOf m (rec_enter rec run m).machine rd
unfolding rec_enter
entered_data rec run rd m proper ok touches =
    let rec_is = rec_of-some (state_at m rec) ok.1.1.1.1.1.0 in
    let owner = rd_of_rec_is m (number_of m rec) (rec_at m rec) proper rec_is in
    let named = rec_named-is m rec ok.1.1.1.0 ok.1.1.1.1.0 ok.1.1.1.1.1.0 ∙ owner.1 in
    ⊎_elim
    (λ (here : owner.0 ≡ rd). inl (owner.1 ∙ ap (λ (y : ℕ). Some y) here))
    (λ (other : owner.0 ≢ rd). inr (λ g is. inl (data_apart m (rec_enter rec run m).machine owner.0 rd g (subst (λ (o : Option ℕ). Touches true m (rec_enter rec run m).machine o) named touches) other owner.2 is)))
    (cases_eq owner.0 rd)

-- ---- pages that are given

-- an address within an aligned page of the machine has the granule number of the page
page_number : (m : Machine) (page x : ℕ) → IsProper m → is_inside m page ≡ true → page % 4096 ≡ 0 → number_of m (page + x % 4096) ≡ number_of m page
page_number m page x proper inside aligned =
    let begin = begins m page proper.linked.sound inside aligned in
    let none : x % 4096 / 4096 ≡ 0 = omega arith in
    let plus : number_of m page + 0 ≡ number_of m page = omega arith in
    number_on m page (number_of m page) (x % 4096) begin.1 ∙ ap (λ (k : ℕ). number_of m page + k) none ∙ plus

given_content : (m n : Machine) (page x : ℕ) (content : List ℕ) (o : Option Location) → IsProper m → n.settings ≡ m.settings → length n.granules ≡ length m.granules → is_inside m page ≡ true → page % 4096 ≡ 0
    → page_in n (number_of m page) ≡ content → o ≡ location (page + x % 4096) 0 → content_of n o ≡ Some content
given_content m n page x content o proper settings count inside aligned bytes is =
    ap (content_of n) is ∙ ap (λ (k : ℕ). Some (page_in n k)) (number-same m n settings count (page + x % 4096) ∙ page_number m page x proper inside aligned) ∙ ap (λ (p : List ℕ). Some p) bytes

data_bytes : (rd page ipa source flags : ℕ) (m : Machine) → IsProper m → Passed (data_create rd page ipa source flags m).checks
    → (is_inside m page ≡ true) × (page % 4096 ≡ 0) × (page_in (data_create rd page ipa source flags m).machine (number_of m page) ≡ page_in m (number_of m source))
unfolding data_create source_checks target_checks
data_bytes rd page ipa source flags m proper ok =
    let realm : RmmRealm = realm_at m rd in
    let r : ℕ = number_of m rd in
    let is = realm_of-some (state_at m rd) ok.1.1.1.1.1.1.1.1.1.0 in
    let free = is_delegated-true (state_at m page) (yes_from (is_delegated (state_at m page)) ok.1.1.1.1.1.1.0) in
    let within = protected_within realm ipa (yes_from _ ok.1.1.1.1.1.1.1.1.1.1.1.0) in
    let t : ℕ = (walk m realm ipa 3).table in
    let table = place_table m proper.linked r ipa 3 realm is within (served m r realm proper.linked is).level in (
      yes_from (is_inside m page) ok.1.1.1.1.1.0,
      eqb-true _ _ (yes_from (is_aligned page) ok.1.1.1.1.0),
      page_content m t (number_of m page) (of_realm r Data) (page_in m (number_of m source)) _ proper table free,
    )

unknown_bytes : (rd page ipa : ℕ) (m : Machine) → IsProper m → Passed (data_create_unknown rd page ipa m).checks
    → (is_inside m page ≡ true) × (page % 4096 ≡ 0) × (page_in (data_create_unknown rd page ipa m).machine (number_of m page) ≡ zero_page)
unfolding data_create_unknown
unknown_bytes rd page ipa m proper ok =
    let realm : RmmRealm = realm_at m rd in
    let r : ℕ = number_of m rd in
    let is = realm_of-some (state_at m rd) ok.1.1.1.1.1.0 in
    let free = is_delegated-true (state_at m page) (yes_from (is_delegated (state_at m page)) ok.1.1.0) in
    let within = protected_within realm ipa (yes_from _ ok.1.1.1.1.1.1.1.0) in
    let t : ℕ = (walk m realm ipa 3).table in
    let table = place_table m proper.linked r ipa 3 realm is within (served m r realm proper.linked is).level in (
      yes_from (is_inside m page) ok.1.0,
      eqb-true _ _ (yes_from (is_aligned page) ok.0),
      page_content m t (number_of m page) (of_realm r Data) zero_page _ proper table free,
    )

-- if a call may change an address's location from `old` to `new`, it may change the address's bytes from those at `old`
-- to those at `new`
moved_content : (call : Call) (m : Machine) → IsProper m → Passed (command_of call m).checks → Touches (touches_host call) m (command_of call m).machine (named_realm m call) → (rd x : ℕ) (old new : Option Location) → IsLocationGiven m (Some call) rd x old new
    → IsContentGiven m (Some call) rd x (content_of m old) (content_of (command_of call m).machine new)
moved_content (DataCreate of page at source flags) m proper ok touches rd x old new given =
    let bytes = data_bytes of page at source flags m proper ok in (
      given.0,
      given.1,
      given.2,
      ap (content_of m) given.3,
      given_content m (command_of (DataCreate of page at source flags) m).machine page x (page_in m (number_of m source)) new proper touches.settings touches.count bytes.0 bytes.1 bytes.2 given.4,
    )
moved_content (DataCreateUnknown of page at) m proper ok touches rd x old new given =
    let bytes = unknown_bytes of page at m proper ok in
    (given.0, given.1, ap (content_of m) given.2, given_content m (command_of (DataCreateUnknown of page at) m).machine page x zero_page new proper touches.settings touches.count bytes.0 bytes.1 bytes.2 given.3)
moved_content (DataDestroy of at) m proper ok touches rd x old new given = (given.0, given.1, ap (content_of (command_of (DataDestroy of at) m).machine) given.2)
moved_content _ m proper ok touches rd x old new given = absurd given

-- ---- each call

-- a call keeps the data pages of a realm as `KeepsDataOf` says, or it enters a REC of the realm and may change the
-- bytes at any address
data_or_entered : (call : Call) (m : Machine) (rd x : ℕ) (old new : Option (List ℕ)) → IsProper m → Passed (command_of call m).checks → Touches (touches_host call) m (command_of call m).machine (named_realm m call)
    → KeepsDataOf m (command_of call m).machine rd ⊎ IsContentGiven m (Some call) rd x old new
data_or_entered (RecEnter rec run) m rd x old new proper ok touches =
    ⊎_elim (λ (ours : (granule_at m (number_of m rec)).owner ≡ Some rd). inr ours) (λ (kept : KeepsDataOf m (rec_enter rec run m).machine rd). inl kept) (entered_data rec run rd m proper ok touches)
data_or_entered call m rd x old new proper ok touches = inl (λ g is. data_after call m proper refl ok touches g (ap (λ (r : RmmGranule). r.state) is))

-- a protected address of a realm stays protected while the realm lasts
lasting_space : (n : Machine) (rd x : ℕ) (before after : RmmRealm) → (granule_at n rd).state ≡ Rd after → IsLasting n rd before → is_protected before x ≡ true → is_protected after x ≡ true
lasting_space n rd x before after then lasting protected =
    let it : lasting.0 ≡ after = same_realm (sym lasting.1 ∙ then) in
    let same : fixed after ≡ fixed before = ap fixed (sym it) ∙ lasting.2 in
    ap (λ (r : RmmRealm). is_protected r x) same ∙ protected

pub ok_contents : (call : Call) (m : Machine) → IsProper m → IsProper (command_of call m).machine → Passed (command_of call m).checks → KeepsContents m (Some call) (command_of call m).machine
ok_contents call m proper proper_then ok rd x before after is then protected =
    let n : Machine = (command_of call m).machine in
    let touches = touches_of call m proper ok in
    ⊎_elim
    (λ (same : location_at n after x ≡ location_at m before x).
    ⊎_elim
    (λ (kept : KeepsDataOf m n rd). inl (same_content m n proper proper_then touches.settings touches.count rd x before after is then protected
    (⊎_elim
    (λ (lasting : IsLasting n rd before). lasting_space n rd x before after then lasting protected)
    (λ (gone : IsDestroyed m (Some call) rd). absurd (destroyed_no_rd call m rd after touches.count ok gone then))
    (realms_after call m proper ok rd before is)) same kept))
    (λ (entered : IsContentGiven m (Some call) rd x (content_at m before x) (content_at n after x)). inr entered)
    (data_or_entered call m rd x (content_at m before x) (content_at n after x) proper ok touches))
    (λ (moved : IsLocationGiven m (Some call) rd x (location_at m before x) (location_at n after x)). inr (moved_content call m proper ok touches rd x (location_at m before x) (location_at n after x) moved))
    (ok_locations call m proper ok rd x before after is then protected)

pub call_contents : (o : Option Call) (r : Registers) (m : Machine) → IsProper m → ((call : Call) → Passed (command_of call m).checks → IsProper (command_of call m).machine) → KeepsContents m o (rmi_at o r m).1
unfolding performed
call_contents None r m proper keeps = λ rd x before after is then protected. inl (ap (λ (realm : RmmRealm). content_at m realm x) (same_realm (sym then ∙ is)))
call_contents (Some call) r m proper keeps =
    kept (KeepsContents m (Some call)) (command_of call m) m (λ rd x before after is then protected. inl (ap (λ (realm : RmmRealm). content_at m realm x) (same_realm (sym then ∙ is))))
    (λ ok. ok_contents call m proper (keeps call ok) ok)

-- ---- stores, fills, steps and interrupts

pub none_contents : (m n : Machine) → IsProper m → IsProper n → n.settings ≡ m.settings → length n.granules ≡ length m.granules → Lasts m n → KeepsLocations m None n → ((g : ℕ) → (granule_at m g).state ≡ Data → IsSameAt m n g) → KeepsContents m None n
none_contents m n proper proper_then settings count lasts locations pages rd x before after is then protected =
    ⊎_elim
    (λ (same : location_at n after x ≡ location_at m before x).
    inl (same_content m n proper proper_then settings count rd x before after is then protected (lasting_space n rd x before after then (lasts rd before is) protected) same
    (λ g data_is. inl (pages g (ap (λ (r : RmmGranule). r.state) data_is)))))
    (λ (never : IsLocationGiven m None rd x (location_at m before x) (location_at n after x)). absurd never)
    (locations rd x before after is then protected)

no_change : (m : Machine) → IsProper m → KeepsContents m None m
no_change m proper = λ rd x before after is then protected. inl (ap (λ (realm : RmmRealm). content_at m realm x) (same_realm (sym then ∙ is)))

-- writing a page of the host leaves the bytes at protected addresses as they were
host_contents : (m : Machine) (address : ℕ) (page : List ℕ) → IsProper m → IsProper (with_page m (number_of m address) page) → is_host_page m address ≡ true → KeepsLocations m None (with_page m (number_of m address) page)
    → KeepsContents m None (with_page m (number_of m address) page)
host_contents m address page proper proper_then host locations =
    none_contents m (with_page m (number_of m address) page) proper proper_then refl refl (lasts_all m) locations
    (λ g is. (refl, page_in-other m (number_of m address) g page (λ same. (let free = host_plain m address host in let states : (granule_at m g).state ≡ state_at m address = ap (λ (y : ℕ). (granule_at m y).state) same in cc))))

pub stored_contents : (m : Machine) (address word : ℕ) → IsProper m → IsProper (after_store m address word) → KeepsContents m None (after_store m address word)
stored_contents m address word proper proper_then =
    let written : Machine = with_word m (number_of m address) (address % 4096 / 8) word in
    cond_both (can_access m address) written m (λ (n : Machine). IsProper n → KeepsLocations m None n → KeepsContents m None n)
    (λ can proper_now locations. host_contents m address _ proper proper_now (and_parts (address % 8 == 0) (is_host_page m address) can).1 locations)
    (λ cannot proper_now locations. no_change m proper)
    proper_then (stored_locations m address word proper)

pub filled_contents : (m : Machine) (address value : ℕ) → IsProper m → IsProper (after_fill m address value) → KeepsContents m None (after_fill m address value)
filled_contents m address value proper proper_then =
    cond_both (can_fill m address) (with_page m (number_of m address) (page_of value)) m (λ (n : Machine). IsProper n → KeepsLocations m None n → KeepsContents m None n)
    (λ can proper_now locations. host_contents m address _ proper proper_now (and_parts (is_aligned address) (is_host_page m address) can).1 locations)
    (λ cannot proper_now locations. no_change m proper)
    proper_then (filled_locations m address value proper)

-- an address in a DATA granule names no REC
no_rec_named : (m : Machine) (rec g : ℕ) → (granule_at m g).state ≡ Data → g ≡ number_of m rec → is_rec_named m rec ≡ false
no_rec_named m rec g is here =
    let state : state_at m rec ≡ Data = sym (ap (λ (y : ℕ). (granule_at m y).state) here) ∙ is in
    and_right (is_aligned rec && is_inside m rec) (is_some (rec_of (state_at m rec))) (ap (λ (s : RmmGranuleState). is_some (rec_of s)) state)

given_pages : (m : Machine) (rec : ℕ) (w : StepWords) (g : ℕ) → (granule_at m g).state ≡ Data → IsSameAt m (queued m rec w).1 g
given_pages m rec w g is =
    ⊎_elim
    (λ (here : g ≡ number_of m rec). subst (λ (p : Queued × Machine). IsSameAt m p.1 g) (sym (cond-false (is_rec_named m rec) _ _ (no_rec_named m rec g is here))) (refl, refl))
    (λ (other : g ≢ number_of m rec). given_apart m rec g w other)
    (cases_eq g (number_of m rec))

interrupted_pages : (m : Machine) (rec g : ℕ) → (granule_at m g).state ≡ Data → IsSameAt m (interrupted m rec).1 g
unfolding interrupted
interrupted_pages m rec g is =
    ⊎_elim
    (λ (here : g ≡ number_of m rec).
    subst (λ (p : Option Answer × Machine). IsSameAt m p.1 g) (sym (cond-false (runs_at m rec) _ _ (and_left (is_rec_named m rec) (is_running (rec_at m rec).state) (no_rec_named m rec g is here)))) (refl, refl))
    (λ (other : g ≢ number_of m rec). interrupt_apart m rec g other (λ free. cc))
    (cases_eq g (number_of m rec))

pub given_contents : (m : Machine) (rec : ℕ) (w : StepWords) → IsProper m → KeepsContents m None (queued m rec w).1
given_contents m rec w proper =
    given_then (λ (n : Machine). IsProper n → KeepsLocations m None n → ((g : ℕ) → (granule_at m g).state ≡ Data → IsSameAt m n g) → KeepsContents m None n) m rec w proper
    (λ proper_now locations pages. no_change m proper)
    (λ v g n going proper_now locations pages. none_contents m n proper proper_now going.touches.settings going.touches.count going.lasts locations pages)
    (given_kept m rec w proper) (given_locations m rec w proper) (given_pages m rec w)

pub interrupted_contents : (m : Machine) (rec : ℕ) → IsProper m → KeepsContents m None (interrupted m rec).1
interrupted_contents m rec proper =
    interrupted_then (λ (n : Machine). IsProper n → KeepsLocations m None n → ((g : ℕ) → (granule_at m g).state ≡ Data → IsSameAt m n g) → KeepsContents m None n) m rec proper
    (λ proper_now locations pages. no_change m proper)
    (λ v g n going proper_now locations pages. none_contents m n proper proper_now going.touches.settings going.touches.count going.lasts locations pages)
    (interrupt_kept m rec proper) (interrupted_locations m rec proper) (interrupted_pages m rec)
