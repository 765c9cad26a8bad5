-- Proofs that a guest's access reaches only DATA granules of the guest's realm, and host pages outside the secure
-- world.
use Rattle.std.proofs.Common.{◌≡◌, ℕ, ◌+◌, ◌*◌, ◌/◌, ◌%◌, ◌^◌, ◌<◌, ◌≤◌, ◌-◌, ◌==◌, ◌&&◌, Bool, true, false, not, length, Option, Some, None, Result, Ok, Err, option_map, refl, sym, ap, subst, ◌∙◌, ⊎_elim, arith, ◌⊎◌, inl, inr}
use Rattle.std.specs.Prelude.{if◌then◌else◌, IfSome, nat_le, nat_lt}
use Rattle.std.proofs.lemmas.Bool.{cases_Bool, cases_lt, and_parts, le-leb, leb-true, lt-leb, not-true, cond-true, cond-false, cond_both, ltb-true, lt-ltb, not-false}
use Rattle.std.proofs.lemmas.Nat.{mod_below}
use Rattle.rmm_model.specs.declared.access.AccessSize.{AccessSize}
use Rattle.rmm_model.specs.declared.entry.RmmRttEntry.{RmmRttEntry}
use Rattle.rmm_model.specs.declared.entry.RmmRttEntry.TheVariants.{Assigned}
use Rattle.rmm_model.specs.declared.granule.RmmGranule.{RmmGranule}
use Rattle.rmm_model.specs.declared.granule.RmmGranuleState.{RmmGranuleState}
use Rattle.rmm_model.specs.declared.granule.RmmGranuleState.TheVariants.{Undelegated, Data, Rd, Rtt}
use Rattle.rmm_model.specs.declared.realm.RmmRealm.{RmmRealm}
use Rattle.rmm_model.specs.declared.realm.RttWalk.{RttWalk}
use Rattle.rmm_model.specs.declared.rec.LastExit.TheVariants.{EmulatableAbort}
use Rattle.rmm_model.specs.declared.step.StepOutcome.{StepOutcome}
use Rattle.rmm_model.specs.declared.step.StepOutcome.TheVariants.{Exit as IsExit}
use Rattle.rmm_model.specs.Entry.{descriptor_of, is_assigned_ns}
use Rattle.rmm_model.specs.Granule.{is_undelegated, of_realm, realm_of}
use Rattle.rmm_model.specs.Host.{is_host_page}
use Rattle.rmm_model.specs.Level.{entry_size, entry_index}
use Rattle.rmm_model.specs.Machine.{Machine, granule_at, page_in, is_inside, is_secure, number_of, state_at}
use Rattle.rmm_model.specs.Realm.{IsServed, is_in_space, is_protected}
use Rattle.rmm_model.specs.Step.{of_access, emulatable, access, protected_access, unprotected_access, host_access, is_memory, may_access, found_or_sea}
use Rattle.rmm_model.specs.Command.Operand.{is_host_s}
use Rattle.rmm_model.specs.Table.{entry_in_page}
use Rattle.rmm_model.specs.Walk.{entry_at, granule_named, walk}
use Rattle.rmm_laws.specs.Role.{Used, used, page_count, entry_uses, uses, IsSound, IsLinked, LeadsInside}
use Rattle.rmm_laws.proofs.Entries.{named_inside}
use Rattle.rmm_laws.proofs.Orders.{is_memory_state}
use Rattle.rmm_laws.proofs.Plain.{host_inside, host_plain}
use Rattle.rmm_laws.proofs.Walks.{IsPlace, walk_ends, uses-entry, right, entry_index-few, entry_size-positive}
use Rattle.rmm_laws.proofs.Writes.{taken_inside}

-- granule `h` contains an address of host memory, which is UNDELEGATED and outside the secure world
abbrev pub IsHostAt : Machine → ℕ → Type 0
IsHostAt m h = (address : ℕ) × (is_host_page m address ≡ true) × (h ≡ number_of m address)

-- a granule of the machine is a DATA granule of the realm, or is UNDELEGATED
abbrev pub IsPlainAt : Machine → ℕ → ℕ → Type 0
IsPlainAt m rd h = (h < length m.granules) × (is_memory_state (granule_at m h).state ≡ true) × ((granule_at m h ≡ of_realm rd Data) ⊎ ((granule_at m h).state ≡ Undelegated))

-- a granule of the machine is DATA of the realm, or is UNDELEGATED and satisfies `IsHostAt`
abbrev pub IsReached : Machine → ℕ → ℕ → Type 0
IsReached m rd h = IsPlainAt m rd h × ((granule_at m h ≡ of_realm rd Data) ⊎ IsHostAt m h)

-- an offset below the size of an entry lies in one of the entry's pages
pub page_below : (level offset : ℕ) → offset < entry_size level → offset / 4096 < page_count level
unfolding entry_size
page_below level offset =
    cond_both (level == 3) (2 ^ 12) (if level == 2 then 2 ^ 21 else (if level == 1 then 2 ^ 30 else 2 ^ 39)) (λ (s : ℕ). offset < s → offset / 4096 < s / 4096) (λ sure lt. omega arith) (λ never.
    cond_both (level == 2) (2 ^ 21) (if level == 1 then 2 ^ 30 else 2 ^ 39) (λ (s : ℕ). offset < s → offset / 4096 < s / 4096) (λ sure lt. omega arith) (λ never.
    cond_both (level == 1) (2 ^ 30) (2 ^ 39) (λ (s : ℕ). offset < s → offset / 4096 < s / 4096) (λ sure lt. omega arith) (λ never lt. omega arith)))

-- an address that is `offset` bytes after the beginning of granule `first` has the granule number
-- `first + offset / 4096`
pub number_on : (m : Machine) (address first offset : ℕ) → address ≡ m.settings.base + first * 4096 → number_of m (address + offset) ≡ first + offset / 4096
unfolding number_of
number_on m address first offset is = omega arith

pub named_number : (m : Machine) (address h : ℕ) → granule_named m address ≡ Some h → (is_inside m address ≡ true) × (h ≡ number_of m address)
unfolding granule_named
named_number m address h is =
    ⊎_elim
    (λ (sure : is_inside m address ≡ true). (sure, (let s : Some (number_of m address) ≡ Some h = sym (cond-true (is_inside m address) (Some (number_of m address)) None sure) ∙ is in cc)))
    (λ (never : is_inside m address ≡ false). (let s : None ≡ Some h = sym (cond-false (is_inside m address) (Some (number_of m address)) None never) ∙ is in absurd (cc)))
    (cases_Bool (is_inside m address))

-- two numbers are on the same side of a bound, if each reaches the bound whenever the other does
same_side : (s a b : ℕ) → (s ≤ a → s ≤ b) → (s ≤ b → s ≤ a) → nat_le s a ≡ nat_le s b
same_side s a b to from =
    ⊎_elim
    (λ (low : a < s). lt-leb s a low ∙ sym (lt-leb s b (⊎_elim (λ (less : b < s). less) (λ (up : s ≤ b). (let never = from up in absurd (omega arith))) (cases_lt b s))))
    (λ (high : s ≤ a). le-leb s a high ∙ sym (le-leb s b (to high)))
    (cases_lt a s)

pub secure_page : (m : Machine) (address : ℕ) → IsSound m → is_inside m address ≡ true → is_secure m (m.settings.base + number_of m address * 4096) ≡ is_secure m address
unfolding is_secure is_inside number_of
secure_page m address sound inside =
    let above : m.settings.base ≤ address = leb-true _ _ (and_parts (nat_le m.settings.base address) _ inside).0 in
    let base = sound.platform.base_aligned in
    let secure = sound.platform.secure_aligned in
    let begin : ℕ = m.settings.base + (address - m.settings.base) / 4096 * 4096 in
    let s : ℕ = m.settings.secure_base in
    let number : (begin - s) / 4096 ≡ (address - s) / 4096 = omega arith in
    ap (λ (b : Bool). b && nat_lt ((begin - s) / 4096) m.settings.secure_count) (same_side s begin address (λ up. omega arith) (λ up. omega arith))
    ∙ ap (λ (k : ℕ). nat_le s address && nat_lt k m.settings.secure_count) number

-- a page of the host begins outside the secure world
pub reached_normal : (m : Machine) (h : ℕ) → IsSound m → IsHostAt m h → is_secure m (m.settings.base + h * 4096) ≡ false
reached_normal m h sound at =
    let address : ℕ = at.0 in
    let parts = and_parts (is_inside m address) (is_host_s m address) at.1 in
    ap (λ (k : ℕ). is_secure m (m.settings.base + k * 4096)) at.2 ∙ secure_page m address sound parts.0 ∙ not-true (is_secure m address) (and_parts (is_undelegated (state_at m address)) (not (is_secure m address)) parts.1).1

module _ (m : Machine) (proper : IsLinked m) (rd : ℕ) (realm : RmmRealm) (is : (granule_at m rd).state ≡ Rd realm) (ipa : ℕ) where
  -- the granule at an offset into the memory of an entry of the realm's table satisfies `IsReached`
  by_memory : (place : RttWalk) (i offset h : ℕ) (entry : RmmRttEntry) → IsPlace m proper rd ipa place → i < 512 → entry_in_page (page_in m place.table) i ≡ entry → LeadsInside m entry
      → is_memory entry ≡ true → offset < entry_size place.level → granule_named m (descriptor_of entry + offset) ≡ Some h → IsReached m rd h
  by_memory place i offset h (Assigned ripas address) place_is lt entry_is leads memory within named =
      let first : ℕ = number_of m address in
      let k : ℕ = offset / 4096 in
      let number = named_number m (address + offset) h named in
      let here : h ≡ first + k = number.1 ∙ number_on m address first offset leads.1 in
      let inside : granule_named m address ≡ Some first = named_inside m address leads.0 in
      let gives : uses m proper.level place.table i k ≡ Some (used Data (Some rd) 0 (first + k)) =
      uses-entry m proper rd ipa place i k place_is lt
      ∙ ap (λ (e : RmmRttEntry). entry_uses m (Some rd) place.level e k) entry_is
      ∙ cond-true _ _ _ (lt-ltb k (page_count place.level) (page_below place.level offset within))
      ∙ ap (option_map (λ f. used Data (Some rd) 0 (f + k))) inside in
      let it : granule_at m (first + k) ≡ record { state = Data; owner = Some rd } = sym (ap (λ (u : Used). u.attributes) (right m proper place.table i k (used Data (Some rd) 0 (first + k)) gives)) in
      let there : granule_at m h ≡ record { state = Data; owner = Some rd } = ap (granule_at m) here ∙ it in
      let is_data : (granule_at m h).state ≡ Data = ap (λ (r : RmmGranule). r.state) there in
      ((taken_inside m h (λ free. cc), ap is_memory_state is_data, inl there), inl there)
  by_memory place i offset h _ place_is lt entry_is leads memory within named = absurd (cc)

  -- the result of an access is an error, or a granule that satisfies `IsReached`
  abbrev pub IsPlainIfOk : Result ℕ StepOutcome → Type 0
  IsPlainIfOk (Ok h) = IsReached m rd h
  IsPlainIfOk (Err outcome) = Unit {0}

  by_named : (o : Option ℕ) → ((h : ℕ) → o ≡ Some h → IsReached m rd h) → IsPlainIfOk (found_or_sea o)
  by_named (Some h) plain = plain h refl
  by_named None plain = tt

  by_host : (address : ℕ) → IsPlainIfOk (host_access m address ipa)
  by_host address =
      cond_both (is_host_page m address) _ _ IsPlainIfOk
      (λ host. ((host_inside m address host, ap is_memory_state (host_plain m address host), inr (host_plain m address host)), inr (address, host, refl)))
      (λ never. tt)

  by_unprotected : (entry : RmmRttEntry) (level : ℕ) (writes : Bool) (size : AccessSize) (value : ℕ) → IsPlainIfOk (unprotected_access m entry level ipa writes size value)
  by_unprotected entry level writes size value =
      cond_both (not (is_assigned_ns entry)) (Err (IsExit (emulatable (0x91000004 + of_access writes size level) ipa value) EmulatableAbort))
      (if may_access (descriptor_of entry) writes then host_access m (descriptor_of entry / 4096 * 4096 + ipa % entry_size level) ipa else
      Err (IsExit (emulatable (0x9100000C + of_access writes size level) ipa value) EmulatableAbort)) IsPlainIfOk (λ never. tt {0})
      (λ mapped. cond_both (may_access (descriptor_of entry) writes) (host_access m (descriptor_of entry / 4096 * 4096 + ipa % entry_size level) ipa)
      (Err (IsExit (emulatable (0x9100000C + of_access writes size level) ipa value) EmulatableAbort)) IsPlainIfOk
      (λ may. by_host (descriptor_of entry / 4096 * 4096 + ipa % entry_size level))
      (λ not. tt {0}))

  by_protected : (place : RttWalk) (class : ℕ) → IsPlace m proper rd ipa place → IsPlainIfOk (protected_access m class (entry_at m place ipa) place.level ipa)
  unfolding entry_at
  by_protected place class place_is =
      let i : ℕ = entry_index place.level ipa in
      let positive = entry_size-positive place.level in
      let table : (granule_at m place.table).state ≡ Rtt = ap (λ (r : RmmGranule). r.state) place_is.table in
      cond_both (is_memory (entry_in_page (page_in m place.table) i)) _ _ IsPlainIfOk
      (λ memory. by_named (granule_named m (descriptor_of (entry_in_page (page_in m place.table) i) + ipa % entry_size place.level))
      (λ h named. by_memory place i (ipa % entry_size place.level) h (entry_in_page (page_in m place.table) i) place_is (entry_index-few place.level ipa) refl
      (proper.inside place.table i table (entry_index-few place.level ipa)) memory (mod_below ipa (entry_size place.level) positive) named))
      (λ never. tt)

  pub accessed : (writes : Bool) (size : AccessSize) (value : ℕ) → IsPlainIfOk (access m realm ipa writes size value)
  unfolding access
  accessed writes size value =
      let served : IsServed (length m.granules) realm = subst (λ (s : RmmGranuleState). IfSome (realm_of s) (IsServed (length m.granules))) is (proper.sound.tables.each rd) in
      cond_both (not (is_in_space realm ipa)) _ _ IsPlainIfOk (λ out. tt)
      (λ within.
      let end = walk_ends m proper rd ipa realm 3 is (ltb-true _ _ (not-false (is_in_space realm ipa) within)) served.level in
      cond_both (is_protected realm ipa) _ _ IsPlainIfOk
      (λ sure. by_protected (walk m realm ipa 3) 0x90000000 end.place_is)
      (λ never. by_unprotected (entry_at m (walk m realm ipa 3) ipa) (walk m realm ipa 3).level writes size value))
