-- Proofs that calls, stores, fills, interrupts and the queueing of guest steps change the RIPAS of protected addresses
-- only as `KeepsRipas` allows.
use Rattle.std.proofs.Common.{◌≡◌, ℕ, ◌+◌, ◌-◌, ◌/◌, ◌%◌, ◌^◌, ◌<◌, ◌≤◌, ◌⊎◌, inl, inr, true, false, length, Option, Some, None, unwrap_or, refl, sym, subst, ◌∙◌, arith}
use Rattle.std.specs.Prelude.{nat_le}
use Rattle.std.proofs.lemmas.Bool.{cond_both, and_parts, eqb-true, leb-true, ltb-true, ltb-false}
use Rattle.rmi_abi.specs.declared.call.Call.{Call}
use Rattle.rmi_abi.specs.declared.call.Call.TheVariants.{RttCreate, RttDestroy, RttFold, RttMapUnprotected, RttUnmapUnprotected, RttInitRipas, RttSetRipas, DataCreate, DataCreateUnknown, DataDestroy}
use Rattle.rmi_abi.specs.declared.registers.Registers.{Registers}
use Rattle.rmi_abi.specs.declared.registers.SmcResult.{SmcResult}
use Rattle.rmi_abi.specs.declared.word.Word.TheVariants.{Success}
use Rattle.rmm_model.specs.declared.entry.RmmRipas.{RmmRipas}
use Rattle.rmm_model.specs.declared.entry.RmmRipas.TheVariants.{Destroyed}
use Rattle.rmm_model.specs.declared.entry.RmmRttEntry.{RmmRttEntry}
use Rattle.rmm_model.specs.declared.entry.RmmRttEntry.TheVariants.{Unassigned, Assigned, Table, UnassignedNs, AssignedNs}
use Rattle.rmm_model.specs.declared.realm.RmmRealm.{RmmRealm}
use Rattle.rmm_model.specs.declared.realm.RttWalk.{RttWalk}
use Rattle.rmm_model.specs.Call.{command_of, performed, rmi_at}
use Rattle.rmm_model.specs.declared.step.StepWords.{StepWords}
use Rattle.rmm_model.specs.Entry.{child_entry, descriptor_of, is_ram, is_table, ripas_in}
use Rattle.rmm_model.specs.Guest.{queued}
use Rattle.rmm_model.specs.Host.{after_store, after_fill}
use Rattle.rmm_model.specs.Level.{entry_size, entry_index}
use Rattle.rmm_model.specs.Machine.{Machine, page_in, number_of, state_at}
use Rattle.rmm_model.specs.Realm.{is_in_space, is_protected}
use Rattle.rmm_model.specs.Table.{entry_in_page, has_live}
use Rattle.rmm_model.specs.Walk.{entry_at, table_below, walk}
use Rattle.rmm_model.specs.Command.DataDestroy.{data_destroy}
use Rattle.rmm_model.specs.Command.Operand.{realm_at}
use Rattle.rmm_model.specs.Command.RecEnter.{interrupted}
use Rattle.rmm_model.specs.Command.RttCreate.{rtt_create}
use Rattle.rmm_model.specs.Command.RttDestroy.{rtt_destroy, left_entry}
use Rattle.rmm_model.specs.Command.RttFold.{rtt_fold}
use Rattle.rmm_laws.specs.Proper.{IsProper}
use Rattle.rmm_laws.specs.Ripas.{ripas_at, IsBetween, IsRipasGiven, KeepsRipas}
use Rattle.rmm_laws.proofs.Children.{is_free, unused_free}
use Rattle.rmm_laws.proofs.EachRead.{is_acting, target_of, call_read, stored_read, filled_read, given_read, interrupted_read}
use Rattle.rmm_laws.proofs.EntryReads.{entry_between}
use Rattle.rmm_laws.proofs.EntryWords.{word_ripas}
use Rattle.rmm_laws.proofs.Freed.{succeeded}
use Rattle.rmm_laws.proofs.LeftAlone.{touches_of}
use Rattle.rmm_laws.proofs.Mappings.{protected_within, some_of}
use Rattle.rmm_laws.proofs.Passed.{Passed, yes_from, realm_of-some}
use Rattle.rmm_laws.proofs.RipasCalls.{Keeps, own_map, own_unmap, own_data, own_unknown, own_destroy, left_not_ram, own_init, own_set}
use Rattle.rmm_laws.proofs.Seats.{in_upper}
use Rattle.rmm_laws.proofs.TableReads.{create_read, removed_read, fold_read}

-- ---- tables that are made or removed

child_ripas : (e : RmmRttEntry) (level k : ℕ) → ripas_in (child_entry e level k) ≡ ripas_in e
child_ripas (Unassigned ripas) level k = refl
child_ripas (Assigned ripas address) level k = refl
child_ripas UnassignedNs level k = refl
child_ripas (AssignedNs desc) level k = refl
child_ripas (Table address) level k = refl

own_create : (rd rtt ipa level : ℕ) (m : Machine) → IsProper m → Passed (rtt_create rd rtt ipa level m).checks → length (rtt_create rd rtt ipa level m).machine.granules ≡ length m.granules
    → (x : ℕ) (after : RmmRealm) → Keeps (RttCreate rd rtt ipa level) m (rtt_create rd rtt ipa level m).machine (number_of m rd) x (realm_at m rd) after
own_create rd rtt ipa level m proper ok count x after = λ then start first protected.
    let realm : RmmRealm = realm_at m rd in
    let child : RmmRttEntry = child_entry (entry_at m (walk m realm ipa (level - 1)) ipa) level (entry_index level x) in
    inl (create_read rd rtt ipa level m proper ok count x RmmRipas (λ e l. ripas_in e) (word_ripas child ∙ child_ripas (entry_at m (walk m realm ipa (level - 1)) ipa) level (entry_index level x)) after start first (protected_within realm x protected))

own_fold : (rd ipa level : ℕ) (m : Machine) → IsProper m → Passed (rtt_fold rd ipa level m).checks → length (rtt_fold rd ipa level m).machine.granules ≡ length m.granules
    → (x : ℕ) (after : RmmRealm) → Keeps (RttFold rd ipa level) m (rtt_fold rd ipa level m).machine (number_of m rd) x (realm_at m rd) after
own_fold rd ipa level m proper ok count x after = λ then start first protected.
    let realm : RmmRealm = realm_at m rd in
    let whole : RmmRttEntry = entry_in_page (page_in m (unwrap_or (table_below m (entry_at m (walk m realm ipa (level - 1)) ipa)) 0)) 0 in
    inl (fold_read rd ipa level m proper ok count x RmmRipas (λ e l. ripas_in e) (word_ripas (child_entry whole level (entry_index level x)) ∙ child_ripas whole level (entry_index level x)) after start first (protected_within realm x protected))

pub free_below : (m : Machine) (e : RmmRttEntry) → is_free e ≡ true → table_below m e ≡ None
free_below m (Unassigned ripas) free = refl
free_below m UnassignedNs free = refl
free_below m (AssignedNs desc) free = refl
free_below m _ free = absurd (cc)

pub left_is : (realm : RmmRealm) (ipa : ℕ) → (descriptor_of (left_entry realm ipa) < 2 ^ 48) × (is_table (left_entry realm ipa) ≡ false)
left_is realm ipa = cond_both (is_protected realm ipa) (Unassigned Destroyed) UnassignedNs (λ (e : RmmRttEntry). (descriptor_of e < 2 ^ 48) × (is_table e ≡ false)) (λ sure. (omega arith, refl)) (λ never. (omega arith, refl))

own_table_destroy : (rd ipa level : ℕ) (m : Machine) → IsProper m → Passed (rtt_destroy rd ipa level m).checks → length (rtt_destroy rd ipa level m).machine.granules ≡ length m.granules
    → (x : ℕ) (after : RmmRealm) → Keeps (RttDestroy rd ipa level) m (rtt_destroy rd ipa level m).machine (number_of m rd) x (realm_at m rd) after
unfolding rtt_destroy
own_table_destroy rd ipa level m proper ok count x after = λ then start first protected.
    let realm : RmmRealm = realm_at m rd in
    let r : ℕ = number_of m rd in
    let is = realm_of-some (state_at m rd) ok.1.1.0 in
    let levels = and_parts (nat_le (realm.start_level + 1) level) (nat_le level 3) (yes_from _ ok.1.1.1.0) in
    let least : realm.start_level + 1 ≤ level = leb-true _ _ levels.0 in
    let most : level ≤ 3 = leb-true _ _ levels.1 in
    let begins : ipa % entry_size (level - 1) ≡ 0 = eqb-true _ _ (yes_from _ ok.1.1.1.1.0) in
    let within : ipa < 2 ^ realm.s2sz = ltb-true _ _ (yes_from (is_in_space realm ipa) ok.1.1.1.1.1.0) in
    let found : RttWalk = walk m realm ipa (level - 1) in
    let depth : found.level ≡ level - 1 = eqb-true _ _ (yes_from _ ok.1.1.1.1.1.1.0) in
    let below : Option ℕ = table_below m (entry_at m found ipa) in
    let g : ℕ = unwrap_or below 0 in
    let unused : has_live (page_in m g) ≡ false = ok.1.1.1.1.1.1.1.1.0 in
    let left = left_is realm ipa in
    let given : RmmRipas → RmmRipas → Type 0 = λ old new. IsRipasGiven m (Some (RttDestroy rd ipa level)) r x old new in
    removed_read m (rtt_destroy rd ipa level m).machine proper refl count rd ipa (level - 1) g is within (omega arith) (some_of below (yes_from _ ok.1.1.1.1.1.1.1.0)) (left_entry realm ipa)
    left.0 left.1 refl
    (λ j lt. free_below m (entry_in_page (page_in m g) j) (unused_free (page_in m g) unused j lt))
    x RmmRipas (λ e l. ripas_in e) given
    (λ covers.
    let j : ℕ = entry_index (found.level + 1) x in
    cond_both (is_protected realm ipa) (Unassigned Destroyed) UnassignedNs
    (λ (e : RmmRttEntry). (ripas_in e ≡ ripas_in (entry_in_page (page_in m g) j)) ⊎ IsRipasGiven m (Some (RttDestroy rd ipa level)) r x (ripas_in (entry_in_page (page_in m g) j)) (ripas_in e))
    (λ sure. inr (refl, entry_between (level - 1) (omega arith) ipa x begins (subst (λ (l : ℕ). x / entry_size l ≡ ipa / entry_size l) depth covers)))
    (λ never.
    let high = in_upper m proper.linked proper.ordered.halves r ipa realm is within (level - 1) x covers (ltb-false _ _ never) in
    let low = ltb-true _ _ protected in
    absurd (omega arith)))
    after start first (protected_within realm x protected)

-- ---- each call

-- a call may change the RIPAS of an address from one given value to another
abbrev giving : ℕ → Machine → Option Call → ℕ → RmmRipas → RmmRipas → Type 0
giving x m call rd old new = IsRipasGiven m call rd x old new

own_ripas : (x : ℕ) (call : Call) (m : Machine) → is_acting call ≡ true → IsProper m → Passed (command_of call m).checks → length (command_of call m).machine.granules ≡ length m.granules → (after : RmmRealm)
    → Keeps call m (command_of call m).machine (number_of m (target_of call)) x (realm_at m (target_of call)) after
own_ripas x (RttCreate of rtt ipa level) m acts proper ok count after = own_create of rtt ipa level m proper ok count x after
own_ripas x (RttDestroy of ipa level) m acts proper ok count after = own_table_destroy of ipa level m proper ok count x after
own_ripas x (RttFold of ipa level) m acts proper ok count after = own_fold of ipa level m proper ok count x after
own_ripas x (RttMapUnprotected of ipa level desc) m acts proper ok count after = own_map of ipa level desc m proper ok x after
own_ripas x (RttUnmapUnprotected of ipa level) m acts proper ok count after = own_unmap of ipa level m proper ok x after
own_ripas x (DataCreate of page ipa source flags) m acts proper ok count after = own_data of page ipa source flags m proper ok count x after
own_ripas x (DataCreateUnknown of page ipa) m acts proper ok count after = own_unknown of page ipa m proper ok count x after
own_ripas x (DataDestroy of ipa) m acts proper ok count after = own_destroy of ipa m proper ok count x after
own_ripas x (RttInitRipas of base top) m acts proper ok count after = own_init of base top m proper ok count x after
own_ripas x (RttSetRipas of rec base top) m acts proper ok count after = own_set of rec base top m proper ok count x after
own_ripas x _ m acts proper ok count after = absurd (cc)

pub call_ripas : (o : Option Call) (r : Registers) (m : Machine) → IsProper m → KeepsRipas m o (rmi_at o r m).1
call_ripas o r m proper = λ rd x before after is then protected. call_read x RmmRipas (λ e l. ripas_in e) (giving x) (own_ripas x) o r m proper rd before after is then protected

-- after a successful RMI_DATA_DESTROY, no address of the destroyed page has RIPAS RAM
pub taken_ripas : (m : Machine) (rd ipa x : ℕ) → IsProper m → (performed (DataDestroy rd ipa) m).0.word ≡ Success → IsBetween ipa (ipa + 4096) x
    → is_ram (ripas_at (performed (DataDestroy rd ipa) m).1 (realm_at m rd) x) ≡ false
unfolding data_destroy
taken_ripas m rd ipa x proper success between =
    succeeded (is_ram (ripas_at (performed (DataDestroy rd ipa) m).1 (realm_at m rd) x) ≡ false) (DataDestroy rd ipa) m refl success
    (λ ok now.
    subst (λ (p : SmcResult × Machine). is_ram (ripas_at p.1 (realm_at m rd) x) ≡ false) (sym now)
    (left_not_ram rd ipa m proper ok (touches_of (DataDestroy rd ipa) m proper ok).count x between))

-- ---- stores, fills, steps and interrupts

pub stored_ripas : (m : Machine) (address word : ℕ) → IsProper m → KeepsRipas m None (after_store m address word)
stored_ripas m address word proper = λ rd x before after is then protected. stored_read x RmmRipas (λ e l. ripas_in e) (giving x) m address word proper rd before after is then protected

pub filled_ripas : (m : Machine) (address value : ℕ) → IsProper m → KeepsRipas m None (after_fill m address value)
filled_ripas m address value proper = λ rd x before after is then protected. filled_read x RmmRipas (λ e l. ripas_in e) (giving x) m address value proper rd before after is then protected

pub given_ripas : (m : Machine) (rec : ℕ) (w : StepWords) → IsProper m → KeepsRipas m None (queued m rec w).1
given_ripas m rec w proper = λ rd x before after is then protected. given_read x RmmRipas (λ e l. ripas_in e) (giving x) m rec w proper rd before after is then protected

pub interrupted_ripas : (m : Machine) (rec : ℕ) → IsProper m → KeepsRipas m None (interrupted m rec).1
interrupted_ripas m rec proper = λ rd x before after is then protected. interrupted_read x RmmRipas (λ e l. ripas_in e) (giving x) m rec proper rd before after is then protected
