use Rattle.std.proofs.Common.{◌≡◌, ℕ, ◌/◌, ◌%◌, ◌⊎◌, inl, true, length, Option, Some, None, ⊎_elim, refl, sym, ap, subst, ◌+◌, ◌*◌, ◌∙◌}
use Rattle.std.proofs.lemmas.Bool.{and_parts, both_ways, cond_both}
use Rattle.std.specs.Prelude.{◌==◌}
use Rattle.rmi_abi.specs.declared.call.Call.{Call}
use Rattle.rmi_abi.specs.declared.registers.Registers.{Registers}
use Rattle.rmi_abi.specs.Call.{call_in}
use Rattle.rmm_model.specs.Call.{command_of, performed, rmi, rmi_at}
use Rattle.granule_addr.specs.Page.{page_of}
use Rattle.rmm_model.specs.declared.granule.RmmGranuleState.TheVariants.{Undelegated, Data}
use Rattle.rmm_model.specs.declared.granule.RmmGranule.{RmmGranule}
use Rattle.rmm_model.specs.Granule.{of_realm}
use Rattle.rmm_model.specs.Host.{is_host_page, can_access, can_fill}
use Rattle.rmm_model.specs.Access.{low_bytes}
use Rattle.rmm_model.specs.Step.{access}
use Rattle.rmm_model.specs.Command.RecEnter.{after_step}
use Rattle.rmm_model.specs.Machine.{Machine, granule_at, is_aligned, is_secure, number_of, with_page, with_word}
use Rattle.rmm_laws.specs.Apart.{named_realm, IsHostChanged, KeepsSettings, IsSameAt, IsOfAnother}
use Rattle.rmm_laws.specs.Proper.{IsProper}
use Rattle.rmm_laws.proofs.Guests.{interrupted_then, given_then, step_then}
use Rattle.rmm_laws.proofs.HostAccesses.{lower_written, store_beside, fill_beside}
use Rattle.rmm_laws.proofs.KeptRecs.{call_recs}
use Rattle.rmm_laws.proofs.LeftAlone.{touches_host, touches_of, host_left, interrupt_host, left_alone}
use Rattle.rmm_laws.proofs.Passed.{kept}
use Rattle.rmm_laws.proofs.Plain.{host_plain}
use Rattle.rmm_laws.proofs.Aside.{given_apart, interrupt_apart, written_apart, plain_of}
use Rattle.rmm_laws.proofs.Accesses.{IsHostAt, IsPlainIfOk, accessed, reached_normal}
use Rattle.rmm_laws.proofs.ReleasingCalls.{call_vmids}
use Rattle.rmm_laws.proofs.Touching.{Touches, untouched}
use Rattle.rmm_laws.proofs.Vmids.{vmid_left}
use Rattle.rmm_laws.proofs.Writes.{page_in-other}
use Rattle.rmm_laws.proofs.law.other_realms_stay.Goals as goal

by_call : (o : Option Call) (r : Registers) (m : Machine) (g : ℕ) → IsProper m → IsOfAnother m o g → IsSameAt m (rmi_at o r m).1 g
by_call None r m g proper other = (refl, refl)
by_call (Some call) r m g proper other = left_alone call m g proper other.0 other.1

pub returns-clause-calls : goal.returns-clause-calls
unfolding rmi
returns-clause-calls c = λ r m g proper other. by_call (call_in r) r m g proper other

by_host : (o : Option Call) (r : Registers) (m : Machine) (g : ℕ) → IsProper m → (granule_at m g).state ≡ Undelegated → IsSameAt m (rmi_at o r m).1 g ⊎ IsHostChanged m (rmi_at o r m).1 o g
by_host None r m g proper free = inl (refl, refl)
by_host (Some call) r m g proper free = host_left call m g proper free

pub returns-clause-hosts : goal.returns-clause-hosts
unfolding rmi
returns-clause-hosts c = λ r m g proper free. by_host (call_in r) r m g proper free

pub returns-clause-fills : goal.returns-clause-fills
returns-clause-fills c = λ m address value g taken.
    cond_both (can_fill m address) (with_page m (number_of m address) (page_of value)) m (λ (n : Machine). IsSameAt m n g)
    (λ can.
    let host = (and_parts (is_aligned address) (is_host_page m address) can).1 in
    (refl, page_in-other m (number_of m address) g _ (λ same. taken (ap (λ (x : ℕ). (granule_at m x).state) same ∙ host_plain m address host))))
    (λ cannot. (refl, refl))

pub returns-clause-steps : goal.returns-clause-steps
returns-clause-steps c = given_apart

pub returns-clause-interrupts : goal.returns-clause-interrupts
returns-clause-interrupts c = interrupt_apart

pub returns-clause-ended : goal.returns-clause-ended
returns-clause-ended c = interrupt_host

by_settings : (o : Option Call) (r : Registers) (m : Machine) → IsProper m → ((rmi_at o r m).1.settings ≡ m.settings) × (length (rmi_at o r m).1.granules ≡ length m.granules)
unfolding performed
by_settings None r m proper = (refl, refl)
by_settings (Some call) r m proper =
    let touches = kept (λ (n : Machine). Touches (touches_host call) m n (named_realm m call)) (command_of call m) m (untouched (touches_host call) m (named_realm m call)) (touches_of call m proper) in
    (touches.settings, touches.count)

pub returns-clause-settings : goal.returns-clause-settings
unfolding rmi
returns-clause-settings c = λ r m proper. by_settings (call_in r) r m proper

pub returns-clause-writes : goal.returns-clause-writes
unfolding after_step
returns-clause-writes c = λ m rd rec ipa value g size outcome realm proper is not_ours not_host.
    written_apart m ipa value g size (access m realm ipa true size (low_bytes size value))
    (λ h reaches same. ⊎_elim
    (λ (ours : granule_at m h ≡ of_realm rd Data). not_ours (ap (granule_at m) same ∙ ours))
    (λ (host : (granule_at m h).state ≡ Undelegated). not_host (ap (λ (x : ℕ). (granule_at m x).state) same ∙ host))
    (plain_of m proper.linked rd realm is ipa h (access m realm ipa true size (low_bytes size value)) reaches (accessed m proper.linked rd realm is ipa true size (low_bytes size value))))

pub returns-clause-secure : goal.returns-clause-secure
unfolding after_step
returns-clause-secure c = λ m rd rec ipa value g size outcome realm proper is host secure.
    let came = access m realm ipa true size (low_bytes size value) in
    written_apart m ipa value g size came
    (λ h reaches same. ⊎_elim
    (λ (ours : granule_at m h ≡ of_realm rd Data). (let it = ap (λ (r : RmmGranule). r.state) ours in let there = ap (λ (x : ℕ). (granule_at m x).state) same in cc))
    (λ (at : IsHostAt m h). both_ways (is_secure m (m.settings.base + h * 4096)) (reached_normal m h proper.linked.sound at) (ap (λ (x : ℕ). is_secure m (m.settings.base + x * 4096)) (sym same) ∙ secure))
    (subst (IsPlainIfOk m proper.linked rd realm is ipa) reaches (accessed m proper.linked rd realm is ipa true size (low_bytes size value))).1)

pub returns-clause-stores : goal.returns-clause-stores
returns-clause-stores c = λ m address word g taken.
    cond_both (can_access m address) (with_word m (number_of m address) (address % 4096 / 8) word) m (λ (n : Machine). IsSameAt m n g)
    (λ can.
    let host = (and_parts (address % 8 == 0) (is_host_page m address) can).1 in
    (refl, page_in-other m (number_of m address) g _ (λ same. taken (ap (λ (x : ℕ). (granule_at m x).state) same ∙ host_plain m address host))))
    (λ cannot. (refl, refl))

pub returns-clause-stored : goal.returns-clause-stored
returns-clause-stored c = λ m address word.
    cond_both (can_access m address) (with_word m (number_of m address) (address % 4096 / 8) word) m (λ (n : Machine). n.granules ≡ m.granules) (λ can. refl) (λ cannot. refl)

pub returns-clause-filled : goal.returns-clause-filled
returns-clause-filled c = λ m address value.
    cond_both (can_fill m address) (with_page m (number_of m address) (page_of value)) m (λ (n : Machine). n.granules ≡ m.granules) (λ can. refl) (λ cannot. refl)

pub returns-clause-vmids : goal.returns-clause-vmids
unfolding rmi
returns-clause-vmids c = λ r m proper quiet. call_vmids (call_in r) r m proper quiet

pub returns-clause-lower : goal.returns-clause-lower
returns-clause-lower c = λ m rd rec ipa value g size outcome realm proper is lower free. lower_written m rd rec ipa value g size outcome realm proper is lower free

pub returns-clause-store_beside : goal.returns-clause-store_beside
returns-clause-store_beside c = store_beside

pub returns-clause-fill_beside : goal.returns-clause-fill_beside
returns-clause-fill_beside c = fill_beside

pub returns-clause-vmid : goal.returns-clause-vmid
unfolding rmi
returns-clause-vmid c = λ r m vmid proper other. vmid_left (call_in r) r m vmid proper other

pub returns-clause-store_settings : goal.returns-clause-store_settings
returns-clause-store_settings c = λ m address word.
    cond_both (can_access m address) (with_word m (number_of m address) (address % 4096 / 8) word) m (KeepsSettings m) (λ can. (refl, refl)) (λ cannot. (refl, refl))

pub returns-clause-fill_settings : goal.returns-clause-fill_settings
returns-clause-fill_settings c = λ m address value.
    cond_both (can_fill m address) (with_page m (number_of m address) (page_of value)) m (KeepsSettings m) (λ can. (refl, refl)) (λ cannot. (refl, refl))

pub returns-clause-given_settings : goal.returns-clause-given_settings
returns-clause-given_settings c = λ m rec w proper. given_then (KeepsSettings m) m rec w proper (refl, refl) (λ by g n going. (going.touches.settings, going.vmids))

pub returns-clause-ended_settings : goal.returns-clause-ended_settings
returns-clause-ended_settings c = λ m rec proper. interrupted_then (KeepsSettings m) m rec proper (refl, refl) (λ by g n going. (going.touches.settings, going.vmids))

pub returns-clause-guest_settings : goal.returns-clause-guest_settings
returns-clause-guest_settings c = λ m g flags run. step_then m g run (KeepsSettings m) (λ by n going. (going.touches.settings, going.vmids)) flags

pub returns-clause-recs : goal.returns-clause-recs
unfolding rmi
returns-clause-recs c = λ r m proper. call_recs (call_in r) r m proper
