-- Proofs that guest accesses at unprotected addresses reach only pages of the host, and that a host access changes at
-- most one granule.
use Rattle.std.proofs.Common.{◌≡◌, ◌≢◌, ℕ, Some, ◌+◌, ◌*◌, ◌/◌, ◌%◌, Bool, true, false, not, Result, Ok, Err, refl, sym, ap, ◌∙◌}
use Rattle.std.specs.Prelude.{if◌then◌else◌}
use Rattle.std.proofs.lemmas.Bool.{both_ways, cond_both}
use Rattle.granule_addr.specs.Page.{page_of}
use Rattle.rmi_abi.specs.declared.rec_run.RecExit.{RecExit}
use Rattle.rmm_model.specs.declared.access.AccessSize.{AccessSize}
use Rattle.rmm_model.specs.declared.entry.RmmRttEntry.{RmmRttEntry}
use Rattle.rmm_model.specs.declared.granule.RmmGranule.{RmmGranule}
use Rattle.rmm_model.specs.declared.granule.RmmGranuleState.TheVariants.{Undelegated, Data, Rd}
use Rattle.rmm_model.specs.declared.realm.RmmRealm.{RmmRealm}
use Rattle.rmm_model.specs.declared.rec.LastExit.{LastExit}
use Rattle.rmm_model.specs.declared.rec.LastExit.TheVariants.{EmulatableAbort, UnprotectedAbort}
use Rattle.rmm_model.specs.declared.step.GuestStep.TheVariants.{Read, Write}
use Rattle.rmm_model.specs.declared.step.StepOutcome.{StepOutcome}
use Rattle.rmm_model.specs.declared.step.StepOutcome.TheVariants.{Result as IsResult, Exit as IsExit}
use Rattle.rmm_model.specs.declared.step.StepResult.TheVariants.{Read as IsRead, Sea}
use Rattle.rmm_model.specs.Access.{low_bytes, value_in}
use Rattle.rmm_model.specs.Entry.{descriptor_of, is_assigned_ns}
use Rattle.rmm_model.specs.Host.{is_host_page, can_access, can_fill, after_store, after_fill}
use Rattle.rmm_model.specs.Level.{entry_size}
use Rattle.rmm_model.specs.Machine.{Machine, granule_at, page_in, number_of, with_page, with_word}
use Rattle.rmm_model.specs.Realm.{is_in_space, is_protected}
use Rattle.rmm_model.specs.Step.{abort, access, emulatable, host_access, may_access, of_access, protected_access, read_outcome, unprotected_access}
use Rattle.rmm_model.specs.Walk.{entry_at, walk}
use Rattle.rmm_model.specs.Command.RecEnter.{after_step, step_outcome}
use Rattle.rmm_laws.specs.Apart.{IsSameAt}
use Rattle.rmm_laws.specs.Guest.{IsHostValue}
use Rattle.rmm_laws.specs.Location.{Location, location_at, content_at}
use Rattle.rmm_laws.specs.Proper.{IsProper}
use Rattle.rmm_laws.proofs.Accesses.{reached_normal}
use Rattle.rmm_laws.proofs.Aside.{written_apart}
use Rattle.rmm_laws.proofs.Contents.{leads_to_data}
use Rattle.rmm_laws.proofs.GuestWrites.{reached, written_beside}
use Rattle.rmm_laws.proofs.Plain.{host_inside, host_plain}
use Rattle.rmm_laws.proofs.Writes.{page_in-other}

-- ---- unprotected addresses

-- an access at an unprotected address reaches a page of the host, or no page
module _ (m : Machine) (ipa : ℕ) (P : Result ℕ StepOutcome → Type 0) (sea : P (Err (IsResult Sea))) (exits : (exit : RecExit) (last : LastExit) → P (Err (IsExit exit last)))
    (host : (address : ℕ) → is_host_page m address ≡ true → P (Ok (number_of m address))) where
  by_page : (address : ℕ) → P (host_access m address ipa)
  by_page address = cond_both (is_host_page m address) _ _ P (λ is. host address is) (λ never. exits (abort 0x90000028 ipa) UnprotectedAbort)

  by_mapping : (e : RmmRttEntry) (level : ℕ) (writes : Bool) (size : AccessSize) (value : ℕ) → P (unprotected_access m e level ipa writes size value)
  by_mapping e level writes size value =
      let page : Result ℕ StepOutcome = host_access m (descriptor_of e / 4096 * 4096 + ipa % entry_size level) ipa in
      let out : Result ℕ StepOutcome = Err (IsExit (emulatable (0x9100000C + of_access writes size level) ipa value) EmulatableAbort) in
      cond_both (not (is_assigned_ns e)) (Err (IsExit (emulatable (0x91000004 + of_access writes size level) ipa value) EmulatableAbort)) (if may_access (descriptor_of e) writes then page else out) P
      (λ none. exits (emulatable (0x91000004 + of_access writes size level) ipa value) EmulatableAbort)
      (λ mapped. cond_both (may_access (descriptor_of e) writes) page out P
      (λ may. by_page (descriptor_of e / 4096 * 4096 + ipa % entry_size level))
      (λ not. exits (emulatable (0x9100000C + of_access writes size level) ipa value) EmulatableAbort))

  by_access : (realm : RmmRealm) → is_protected realm ipa ≡ false → (writes : Bool) (size : AccessSize) (value : ℕ) → P (access m realm ipa writes size value)
  unfolding access
  by_access realm upper writes size value =
      cond_both (not (is_in_space realm ipa)) _ _ P (λ out. sea)
      (λ within. cond_both (is_protected realm ipa) (protected_access m 0x90000000 (entry_at m (walk m realm ipa 3) ipa) (walk m realm ipa 3).level ipa)
      (unprotected_access m (entry_at m (walk m realm ipa 3) ipa) (walk m realm ipa 3).level ipa writes size value) P
      (λ lower. absurd (both_ways (is_protected realm ipa) upper lower))
      (λ never. by_mapping (entry_at m (walk m realm ipa 3) ipa) (walk m realm ipa 3).level writes size value))

-- a guest that reads at an unprotected address gets bytes of the host
pub host_read : (m : Machine) (realm : RmmRealm) (g flags ipa v : ℕ) (size : AccessSize) → IsProper m → is_protected realm ipa ≡ false → step_outcome m realm g flags (Read ipa size) ≡ IsResult (IsRead v) → IsHostValue m size ipa v
unfolding step_outcome
host_read m realm g flags ipa v size proper upper =
    by_access m ipa (λ (r : Result ℕ StepOutcome). read_outcome m ipa size r ≡ IsResult (IsRead v) → IsHostValue m size ipa v)
    (λ is. absurd (cc))
    (λ exit last is. absurd (cc))
    (λ address host is.
    let value : value_in (page_in m (number_of m address)) size ipa ≡ v = cc in
    (number_of m address, host_inside m address host, host_plain m address host, reached_normal m (number_of m address) proper.linked.sound (address, host, refl), sym value))
    realm upper false size 0

host_reached : (m : Machine) (realm : RmmRealm) (ipa : ℕ) → is_protected realm ipa ≡ false → (size : AccessSize) (value h : ℕ) → access m realm ipa true size value ≡ Ok h → (granule_at m h).state ≡ Undelegated
host_reached m realm ipa upper size value h =
    by_access m ipa (λ (r : Result ℕ StepOutcome). r ≡ Ok h → (granule_at m h).state ≡ Undelegated)
    (λ is. absurd (cc))
    (λ exit last is. absurd (cc))
    (λ address host is. (let same : number_of m address ≡ h = cc in ap (λ (k : ℕ). (granule_at m k).state) (sym same) ∙ host_plain m address host))
    realm upper true size value

-- a write at an unprotected address reaches no page to which a protected address leads
pub upper_apart : (m : Machine) (other ipa value x : ℕ) (size : AccessSize) (realm its : RmmRealm) → IsProper m → (granule_at m other).state ≡ Rd its → is_protected realm ipa ≡ false → is_protected its x ≡ true
    → (b : Location) → location_at m its x ≡ Some b → (h : ℕ) → access m realm ipa true size (low_bytes size value) ≡ Ok h → number_of m b.address ≢ h
upper_apart m other ipa value x size realm its proper also upper lower b there h reaches here =
    let host = host_reached m realm ipa upper size (low_bytes size value) h reaches in
    let state : (granule_at m (number_of m b.address)).state ≡ Data = ap (λ (r : RmmGranule). r.state) (leads_to_data m proper other its also x lower b there) in
    let same : (granule_at m (number_of m b.address)).state ≡ (granule_at m h).state = ap (λ (k : ℕ). (granule_at m k).state) here in
    cc

-- a write at an unprotected address leaves the bytes at protected addresses unchanged
pub upper_written : (m : Machine) (rd other g ipa value x : ℕ) (size : AccessSize) (realm its : RmmRealm) (outcome : StepOutcome) → IsProper m → (granule_at m rd).state ≡ Rd realm → (granule_at m other).state ≡ Rd its
    → is_protected realm ipa ≡ false → is_protected its x ≡ true → content_at (after_step m realm g (Write ipa value size) outcome) its x ≡ content_at m its x
upper_written m rd other g ipa value x size realm its outcome proper is also upper lower =
    written_beside m proper rd other ipa value x size realm its is also lower
    (upper_apart m other ipa value x size realm its proper also upper lower) g outcome

-- ---- pages of the host

-- a write at a protected address leaves each UNDELEGATED granule unchanged
pub lower_written : (m : Machine) (rd g ipa value h : ℕ) (size : AccessSize) (outcome : StepOutcome) (realm : RmmRealm) → IsProper m → (granule_at m rd).state ≡ Rd realm → is_protected realm ipa ≡ true
    → (granule_at m h).state ≡ Undelegated → IsSameAt m (after_step m realm g (Write ipa value size) outcome) h
unfolding after_step
lower_written m rd g ipa value h size outcome realm proper is lower free =
    written_apart m ipa value h size (access m realm ipa true size (low_bytes size value))
    (λ k reaches here.
    let at = reached m proper rd realm is ipa lower true size (low_bytes size value) k reaches in
    let state : (granule_at m (number_of m at.0.address)).state ≡ Data = ap (λ (r : RmmGranule). r.state) (leads_to_data m proper rd realm is ipa lower at.0 at.1) in
    let same : (granule_at m h).state ≡ (granule_at m (number_of m at.0.address)).state = ap (λ (y : ℕ). (granule_at m y).state) (here ∙ at.2) in
    cc)

-- a store changes no granule except the granule of its address
pub store_beside : (m : Machine) (address word g : ℕ) → g ≢ number_of m address → IsSameAt m (after_store m address word) g
store_beside m address word g other =
    cond_both (can_access m address) (with_word m (number_of m address) (address % 4096 / 8) word) m (λ (n : Machine). IsSameAt m n g) (λ can. (refl, page_in-other m (number_of m address) g _ other)) (λ cannot. (refl, refl))

-- a fill changes no granule except the granule of its address
pub fill_beside : (m : Machine) (address value g : ℕ) → g ≢ number_of m address → IsSameAt m (after_fill m address value) g
fill_beside m address value g other =
    cond_both (can_fill m address) (with_page m (number_of m address) (page_of value)) m (λ (n : Machine). IsSameAt m n g) (λ can. (refl, page_in-other m (number_of m address) g _ other)) (λ cannot. (refl, refl))
