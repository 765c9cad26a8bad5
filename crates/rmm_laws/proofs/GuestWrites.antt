-- Proofs that a guest's write at a protected address leaves the bytes at protected addresses of other pages and realms
-- unchanged.
use Rattle.std.proofs.Common.{◌≡◌, ◌≢◌, ℕ, ◌+◌, ◌*◌, ◌/◌, ◌%◌, ◌^◌, ◌≤◌, ◌⊎◌, Bool, true, false, List, length, Option, Some, None, Result, Ok, Err, refl, sym, ap, ◌∙◌, ⊎_elim, arith}
use Rattle.std.specs.Prelude.{not}
use Rattle.std.proofs.lemmas.Bool.{cases_Bool, cond-false, cond-true, lt-ltb}
use Rattle.rmm_model.specs.declared.access.AccessSize.{AccessSize}
use Rattle.rmm_model.specs.declared.access.AccessSize.TheVariants.{Byte, Halfword, Word, Doubleword}
use Rattle.rmm_model.specs.declared.entry.RmmRipas.TheVariants.{Empty, Ram, Destroyed}
use Rattle.rmm_model.specs.declared.entry.RmmRttEntry.{RmmRttEntry}
use Rattle.rmm_model.specs.declared.entry.RmmRttEntry.TheVariants.{Unassigned, Assigned, Table, UnassignedNs, AssignedNs}
use Rattle.rmm_model.specs.declared.granule.RmmGranule.{RmmGranule}
use Rattle.rmm_model.specs.declared.granule.RmmGranuleState.TheVariants.{Undelegated, Data, Rd, Rtt}
use Rattle.rmm_model.specs.declared.realm.RmmRealm.{RmmRealm}
use Rattle.rmm_model.specs.declared.realm.RttWalk.{RttWalk}
use Rattle.rmm_model.specs.declared.step.GuestStep.TheVariants.{Write}
use Rattle.rmm_model.specs.declared.step.StepOutcome.{StepOutcome}
use Rattle.rmm_model.specs.Access.{low_bytes, with_two_bytes, with_four_bytes, with_value}
use Rattle.rmm_model.specs.Entry.{ripas_in}
use Rattle.rmm_model.specs.Granule.{of_realm}
use Rattle.rmm_model.specs.Level.{entry_size, entry_index}
use Rattle.rmm_model.specs.Machine.{Machine, granule_at, page_in, number_of}
use Rattle.rmm_model.specs.Realm.{is_in_space, is_protected}
use Rattle.rmm_model.specs.Step.{access, after_write, is_memory}
use Rattle.rmm_model.specs.Walk.{entry_at, walk}
use Rattle.rmm_model.specs.Command.RecEnter.{after_step}
use Rattle.rmm_laws.specs.Location.{Location, location_of, location_at, content_of, content_at}
use Rattle.rmm_laws.specs.Proper.{IsProper}
use Rattle.rmm_laws.specs.Role.{used}
use Rattle.rmm_laws.proofs.Accesses.{accessed}
use Rattle.rmm_laws.proofs.Aside.{plain_of, written_apart}
use Rattle.rmm_laws.proofs.Contents.{mapping, leads_to_data, reaches_data}
use Rattle.rmm_laws.proofs.KeptTables.{KeepsTablesOf, same_read}
use Rattle.rmm_laws.proofs.LocationCalls.{leading}
use Rattle.rmm_laws.proofs.Mappings.{protected_within}
use Rattle.rmm_laws.proofs.Passed.{some_same}
use Rattle.rmm_laws.proofs.Seats.{found_few, walk_seat}
use Rattle.rmm_laws.proofs.Serving.{level_cases}
use Rattle.rmm_laws.proofs.Sides.{whole_index}
use Rattle.rmm_laws.proofs.Walks.{one_place}
use Rattle.rmm_laws.proofs.Writes.{number-same}

-- ---- two addresses that lead to one page

-- two addresses of one entry are in the same IPA granule, if their offsets in the entry are in the same page
one_page : (l : ℕ) → l ≤ 3 → (x y : ℕ) → x / entry_size l ≡ y / entry_size l → x % entry_size l / 4096 ≡ y % entry_size l / 4096 → x / 4096 ≡ y / 4096
unfolding entry_size
one_page l few =
    level_cases (λ (j : ℕ). (x y : ℕ) → x / entry_size j ≡ y / entry_size j → x % entry_size j / 4096 ≡ y % entry_size j / 4096 → x / 4096 ≡ y / 4096)
    (λ x y same part. omega arith) (λ x y same part. omega arith) (λ x y same part. omega arith) (λ x y same part. omega arith) l few

module _ (m : Machine) (proper : IsProper m) (rd other : ℕ) (realm its : RmmRealm) (is : (granule_at m rd).state ≡ Rd realm) (also : (granule_at m other).state ≡ Rd its) (x y : ℕ)
    (protected : is_protected realm x ≡ true) (protected_too : is_protected its y ≡ true) (a b : Location) (there : location_at m realm x ≡ Some a) (there_too : location_at m its y ≡ Some b)
    (same : number_of m a.address ≡ number_of m b.address) where
  -- two protected addresses that lead to the same granule are of the same realm
  one_realm : rd ≡ other
  one_realm =
      some_same (ap (λ (r : RmmGranule). r.owner)
      (sym (leads_to_data m proper rd realm is x protected a there) ∙ ap (granule_at m) same ∙ leads_to_data m proper other its also y protected_too b there_too))

  -- two protected addresses that lead to the same granule are in the same IPA granule
  pub same_page : x / 4096 ≡ y / 4096
  same_page =
      let p : RttWalk = walk m realm x 3 in
      let q : RttWalk = walk m its y 3 in
      let one = mapping m proper rd realm is x protected a there in
      let two = mapping m proper other its also y protected_too b there_too in
      let place = one_place m proper.linked p.table (entry_index p.level x) (x % entry_size p.level / 4096) q.table (entry_index q.level y) (y % entry_size q.level / 4096) (used Data (Some rd) 0 one.used.number)
      (used Data (Some other) 0 two.used.number) one.used.gives two.used.gives (sym one.used.at ∙ same ∙ two.used.at) in
      let within = protected_within realm x protected in
      let here = walk_seat m proper.linked proper.ordered.halves rd x realm is within 3 in
      let far = walk_seat m proper.linked proper.ordered.halves other y its also (protected_within its y protected_too) 3 in
      let level : p.level ≡ q.level = sym here.depth ∙ ap proper.ordered.halves.level place.0 ∙ far.depth in
      let seat : x / entry_size p.level / 512 ≡ y / entry_size q.level / 512 = sym here.seat ∙ ap proper.ordered.halves.place place.0 ∙ far.seat in
      let entry : x / entry_size p.level ≡ y / entry_size q.level =
      sym (whole_index p.level x) ∙ ap (λ (k : ℕ). k * 512 + entry_index p.level x) seat ∙ ap (λ (k : ℕ). y / entry_size q.level / 512 * 512 + k) place.1 ∙ whole_index q.level y in
      one_page p.level (found_few m proper.linked proper.ordered.halves rd x realm is within 3) x y (entry ∙ ap (λ (l : ℕ). y / entry_size l) (sym level)) (place.2 ∙ ap (λ (l : ℕ). y % entry_size l / 4096) (sym level))

  pub in_one_page : (rd ≡ other) × (x / 4096 ≡ y / 4096)
  in_one_page = (one_realm, same_page)

-- ---- the page that a write reaches

memory_leads : (e : RmmRttEntry) (offset : ℕ) → is_memory e ≡ true → (a : Location) × (location_of e offset ≡ Some a) × (ripas_in e ≡ Ram)
memory_leads (Assigned Ram address) offset is = (record { address = address / 4096 * 4096 + offset; attributes = address % 4096 }, refl, refl)
memory_leads (Assigned Empty address) offset is = absurd (cc)
memory_leads (Assigned Destroyed address) offset is = absurd (cc)
memory_leads (Unassigned ripas) offset is = absurd (cc)
memory_leads UnassignedNs offset is = absurd (cc)
memory_leads (AssignedNs desc) offset is = absurd (cc)
memory_leads (Table address) offset is = absurd (cc)

ok_same : (r : Result ℕ StepOutcome) (a b : ℕ) → r ≡ Ok a → r ≡ Ok b → a ≡ b
ok_same r a b one two = cc

-- the page that an access at a protected address reaches is the one that the address leads to
pub reached : (m : Machine) (proper : IsProper m) (rd : ℕ) (realm : RmmRealm) → (granule_at m rd).state ≡ Rd realm → (ipa : ℕ) → is_protected realm ipa ≡ true → (writes : Bool) (size : AccessSize) (value h : ℕ)
    → access m realm ipa writes size value ≡ Ok h → (a : Location) × (location_at m realm ipa ≡ Some a) × (h ≡ number_of m a.address)
unfolding access
reached m proper rd realm is ipa protected writes size value h came =
    let found : RttWalk = walk m realm ipa 3 in
    let e : RmmRttEntry = entry_at m found ipa in
    ⊎_elim
    (λ (memory : is_memory e ≡ true).
    let leads = memory_leads e (ipa % entry_size found.level) memory in
    (leads.0, leads.1, ok_same (access m realm ipa writes size value) h (number_of m leads.0.address) came (reaches_data m proper rd realm is ipa protected leads.0 leads.1 leads.2 writes size value)))
    (λ (none : is_memory e ≡ false).
    let inside : not (is_in_space realm ipa) ≡ false = ap not (lt-ltb ipa (2 ^ realm.s2sz) (protected_within realm ipa protected)) in
    let refused = sym came ∙ cond-false (not (is_in_space realm ipa)) _ _ inside ∙ cond-true (is_protected realm ipa) _ _ protected ∙ cond-false (is_memory e) _ _ none in
    absurd (cc))
    (cases_Bool (is_memory e))

-- ---- writes

value_like : (m : Machine) (h ipa value : ℕ) (size : AccessSize) → ((with_value m h size ipa value).settings ≡ m.settings) × ((with_value m h size ipa value).granules ≡ m.granules)
unfolding with_value with_two_bytes with_four_bytes
value_like m h ipa value Byte = (refl, refl)
value_like m h ipa value Halfword = (refl, refl)
value_like m h ipa value Word = (refl, refl)
value_like m h ipa value Doubleword = (refl, refl)

write_like : (m : Machine) (ipa value : ℕ) (size : AccessSize) (came : Result ℕ StepOutcome) → ((after_write m ipa size value came).settings ≡ m.settings) × ((after_write m ipa size value came).granules ≡ m.granules)
write_like m ipa value size (Ok h) = value_like m h ipa value size
write_like m ipa value size (Err outcome) = (refl, refl)

module _ (m : Machine) (proper : IsProper m) (rd other ipa value x : ℕ) (size : AccessSize) (realm its : RmmRealm) (is : (granule_at m rd).state ≡ Rd realm) (also : (granule_at m other).state ≡ Rd its)
    (protected_too : is_protected its x ≡ true)
    (beside : (b : Location) → location_at m its x ≡ Some b → (h : ℕ) → access m realm ipa true size (low_bytes size value) ≡ Ok h → number_of m b.address ≢ h) where
  abbrev came : Result ℕ StepOutcome
  came = access m realm ipa true size (low_bytes size value)

  abbrev n : Machine
  n = after_write m ipa size value (access m realm ipa true size (low_bytes size value))

  like : (n.settings ≡ m.settings) × (n.granules ≡ m.granules)
  like = write_like m ipa value size came

  tables : KeepsTablesOf m n other
  tables t table =
      (written_apart m ipa value t size came (λ h reaches same.
      ⊎_elim
      (λ (data_is : granule_at m h ≡ of_realm rd Data). (let state : (granule_at m t).state ≡ Data = ap (λ (y : ℕ). (granule_at m y).state) same ∙ ap (λ (r : RmmGranule). r.state) data_is in let there : (granule_at m t).state ≡ Rtt = ap (λ (r : RmmGranule). r.state) table in cc))
      (λ (host : (granule_at m h).state ≡ Undelegated). (let state : (granule_at m t).state ≡ Undelegated = ap (λ (y : ℕ). (granule_at m y).state) same ∙ host in let there : (granule_at m t).state ≡ Rtt = ap (λ (r : RmmGranule). r.state) table in cc))
      (plain_of m proper.linked rd realm is ipa h came reaches (accessed m proper.linked rd realm is ipa true size (low_bytes size value))))).1

  same_place : location_at n its x ≡ location_at m its x
  same_place = same_read m n proper like.0 (ap (length {A = RmmGranule}) like.1) other x its (Option Location) (leading x) its refl refl also protected_too tables

  same_by : (o : Option Location) → location_at m its x ≡ o → content_of n o ≡ content_of m o
  same_by None there = refl
  same_by (Some b) there =
      let g : ℕ = number_of m b.address in
      let kept : page_in n g ≡ page_in m g =
      (written_apart m ipa value g size came (beside b there)).1 in
      ap (λ (k : ℕ). Some (page_in n k)) (number-same m n like.0 (ap (length {A = RmmGranule}) like.1) b.address) ∙ ap (λ (p : List ℕ). Some p) kept

  -- a guest's write leaves the bytes unchanged at a protected address that leads to another page than the one written
  pub written_beside : (g : ℕ) (outcome : StepOutcome) → content_at (after_step m realm g (Write ipa value size) outcome) its x ≡ content_at m its x
  unfolding after_step
  written_beside g outcome = ap (content_of n) same_place ∙ same_by (location_at m its x) refl

-- a write at a protected address does not reach the granule to which `x` leads, if `x` is protected and of another page
-- or realm
pub lower_apart : (m : Machine) (proper : IsProper m) (rd other ipa value x : ℕ) (size : AccessSize) (realm its : RmmRealm) (is : (granule_at m rd).state ≡ Rd realm) (also : (granule_at m other).state ≡ Rd its)
    (protected : is_protected realm ipa ≡ true) (protected_too : is_protected its x ≡ true) (apart : (other ≢ rd) ⊎ (x / 4096 ≢ ipa / 4096))
    → (b : Location) → location_at m its x ≡ Some b → (h : ℕ) → access m realm ipa true size (low_bytes size value) ≡ Ok h → number_of m b.address ≢ h
lower_apart m proper rd other ipa value x size realm its is also protected protected_too apart b there h reaches here =
    let at = reached m proper rd realm is ipa protected true size (low_bytes size value) h reaches in
    let one = in_one_page m proper rd other realm its is also ipa x protected protected_too at.0 b at.1 there (sym at.2 ∙ sym here) in
    ⊎_elim (λ (not_ours : other ≢ rd). not_ours (sym one.0)) (λ (far : x / 4096 ≢ ipa / 4096). far (sym one.1)) apart

pub written_content : (m : Machine) (proper : IsProper m) (rd other ipa value x : ℕ) (size : AccessSize) (realm its : RmmRealm) (is : (granule_at m rd).state ≡ Rd realm) (also : (granule_at m other).state ≡ Rd its)
    (protected : is_protected realm ipa ≡ true) (protected_too : is_protected its x ≡ true) (apart : (other ≢ rd) ⊎ (x / 4096 ≢ ipa / 4096)) (g : ℕ) (outcome : StepOutcome)
    → content_at (after_step m realm g (Write ipa value size) outcome) its x ≡ content_at m its x
written_content m proper rd other ipa value x size realm its is also protected protected_too apart =
    written_beside m proper rd other ipa value x size realm its is also protected_too
    (lower_apart m proper rd other ipa value x size realm its is also protected protected_too apart)
