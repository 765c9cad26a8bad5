-- Proofs that RMI_REC_ENTER, RMI_PSCI_COMPLETE, interrupts and the queueing of guest steps keep the invariant
-- `IsProper` on roles and owners of granules.
use Rattle.std.proofs.Common.{◌≡◌, ◌≢◌, ℕ, zero, suc, ◌+◌, ◌-◌, ◌*◌, ◌/◌, ◌%◌, ◌^◌, ◌<◌, ◌==◌, inl, inr, ◌&&◌, Bool, true, false, length, Option, Some, None, Result, Ok, Err, refl, sym, ap, subst, ◌∙◌, ⊎_elim, arith, ◌⊎◌}
use Rattle.std.specs.Prelude.{IfSome, not, is_none, nat_le, nat_lt, if◌then◌else◌}
use Rattle.std.proofs.lemmas.Bool.{cases_eq, eqb-true, cond_both, and_parts, both_ways}
use Rattle.std.proofs.lemmas.List.{length-set}
use Rattle.page_arena.specs.Word.{page_with_word}
use Rattle.rmi_abi.specs.declared.rec_run.RecExit.{RecExit}
use Rattle.rmi_abi.specs.declared.settings.RmmSettings.{RmmSettings}
use Rattle.rmi_abi.specs.declared.word.Word.{Word as Answer}
use Rattle.rmi_abi.specs.RecRun.{flags_in, entry_gpr_in, injects_sea, emulates_mmio, exit_word, only_reason}
use Rattle.rmi_abi.specs.declared.rec_run.ExitReason.TheVariants.{Irq}
use Rattle.rmm_model.specs.declared.access.AccessSize.{AccessSize}
use Rattle.rmm_model.specs.declared.access.AccessSize.TheVariants.{Byte, Halfword, Word, Doubleword}
use Rattle.rmm_model.specs.declared.granule.RmmGranule.{RmmGranule}
use Rattle.rmm_model.specs.declared.granule.RmmGranuleState.{RmmGranuleState}
use Rattle.rmm_model.specs.declared.granule.RmmGranuleState.TheVariants.{Undelegated, Rd, Rec as IsRec, Data}
use Rattle.rmm_model.specs.declared.realm.RmmRealm.{RmmRealm}
use Rattle.rmm_model.specs.declared.realm.RmmRealmState.{RmmRealmState}
use Rattle.rmm_model.specs.declared.realm.RmmRealmState.TheVariants.{New, Active, SystemOff as IsSystemOff}
use Rattle.rmm_model.specs.declared.rec.LastExit.{LastExit}
use Rattle.rmm_model.specs.declared.rec.LastExit.TheVariants.{Other, HostCall, RipasChange, EmulatableAbort, UnprotectedAbort, SystemRegister}
use Rattle.rmm_model.specs.declared.rec.PsciRequest.{PsciRequest}
use Rattle.rmm_model.specs.declared.rec.PsciRequest.TheVariants.{Complete, CpuOn}
use Rattle.rmm_model.specs.declared.rec.RmmRec.{RmmRec}
use Rattle.rmm_model.specs.declared.step.GuestStep.{GuestStep}
use Rattle.rmm_model.specs.declared.step.GuestStep.TheVariants.{Write, Read, Fetch, SystemOff, SystemReset}
use Rattle.rmm_model.specs.declared.step.Queued.{Queued}
use Rattle.rmm_model.specs.declared.step.StepOutcome.{StepOutcome}
use Rattle.rmm_model.specs.declared.step.StepOutcome.TheVariants.{Result as IsResult, Exit as IsExit, Spin as Spins}
use Rattle.rmm_model.specs.declared.step.StepResult.{StepResult}
use Rattle.rmm_model.specs.declared.step.StepResult.TheVariants.{Sea}
use Rattle.rmm_model.specs.declared.step.StepWords.{StepWords}
use Rattle.rmm_model.specs.Access.{low_bytes, with_byte, with_two_bytes, with_four_bytes, with_value}
use Rattle.rmm_model.specs.Granule.{of_realm, realm_of, rec_of}
use Rattle.rmm_model.specs.Guest.{rec_in, is_rec_named, first_step, past_step, with_result, with_step, queued}
use Rattle.rmm_model.specs.Host.{is_host_page}
use Rattle.rmm_model.specs.Machine.{Machine, granule_at, page_in, is_aligned, is_inside, is_secure, number_of, state_at, with_word}
use Rattle.rmm_model.specs.Realm.{IsServed, is_new}
use Rattle.rmm_model.specs.Step.{access, after_write, is_exit}
use Rattle.rmm_model.specs.Command.Operand.{rec_at}
use Rattle.rmm_model.specs.Command.PsciComplete.{is_same_owner, request_checks, psci_complete, with_rec, with_target}
use Rattle.rmm_model.specs.Command.RecEnter.{rec_enter, enter_checks, owner_realm, realm_by, state_of, is_system_off, with_realm_off, with_system_off, with_copied, with_gprs, with_gic, with_exit_gic, with_exit_words, with_exit, after_exit, with_step_ended, with_psci_result, emulated, with_host_answer, after_entry, step_outcome, with_exit_of, after_step, with_step_passed, after_step_in, after_first_step, first_step_outcome, continued, after_steps, runs_at, interrupted}
use Rattle.rmm_laws.specs.Apart.{realm_of_rec}
use Rattle.rmm_laws.specs.Owner.{is_rd}
use Rattle.rmm_laws.specs.Proper.{IsProper, IsProperRun}
use Rattle.rmm_laws.specs.Role.{IsLinked}
use Rattle.rmm_laws.specs.State.{IsRealmIn, HasRim}
use Rattle.rmm_laws.proofs.Accesses.{IsHostAt, IsPlainAt, IsPlainIfOk, accessed, reached_normal}
use Rattle.rmm_laws.proofs.PageWords.{length-page_with_word, length-with_words_from}
use Rattle.rmm_laws.proofs.Orders.{is_memory_state, owner_is, rd_is, rd_of}
use Rattle.rmm_laws.proofs.Passed.{Passed, yes_from, some_same, realm_of-is, rec_of-some, rec_of-there, rec_named-is}
use Rattle.rmm_laws.proofs.Plain.{host_inside, host_plain}
use Rattle.rmm_laws.proofs.RecOwners.{RecsStay}
use Rattle.rmm_laws.proofs.Recs.{IsSecureHost, IsGoing, going_first, going_rec, going_word, going_words, going_plain, going_realm}
use Rattle.rmm_laws.proofs.Lasting.{Lasts}
use Rattle.rmm_laws.proofs.Releasing.{Held}
use Rattle.rmm_laws.proofs.States.{IsAsBefore}
use Rattle.rmm_laws.proofs.SameTables.{KeepsTables}
use Rattle.rmm_laws.proofs.Touching.{Touches, IsMine}
use Rattle.rmm_laws.proofs.Writes.{granule_at-other}

module _ (o : Machine) (w : ℕ) where
  -- ---- results

  going_result : (g : ℕ) (m : Machine) (r : StepResult) → IsGoing o w g m → IsGoing o w g (with_result m g r)
  unfolding with_result
  going_result g m r going =
      let place : ℕ = (rec_in m g).result_count % 32 in
      going_rec o w g _ _ (going_word o w g _ (128 + 2 * place + 1) _ (going_word o w g m (128 + 2 * place) _ going (omega arith) (inr (omega arith))) (omega arith) (inr (omega arith)))

  going_past : (g : ℕ) (m : Machine) → IsGoing o w g m → IsGoing o w g (past_step m g)
  unfolding past_step
  going_past g m going = going_rec o w g m _ going

  -- ---- entries

  going_gprs : (g page : ℕ) (m : Machine) → IsGoing o w g m → IsGoing o w g (with_gprs m g page)
  unfolding with_copied
  going_gprs g page m going = going_words o w g m 0 31 _ going (omega arith) (inl (omega arith))

  going_gic : (g page : ℕ) (m : Machine) → IsGoing o w g m → IsGoing o w g (with_gic m g page)
  unfolding with_gic with_copied
  going_gic g page m going = cond_both m.settings.checks_gic _ m (IsGoing o w g) (λ sure. going_words o w g m 192 17 _ going (omega arith) (inr (omega arith))) (λ never. going)

  going_psci : (g : ℕ) (m : Machine) (request : PsciRequest) → IsGoing o w g m → IsGoing o w g (with_psci_result m g request)
  going_psci g m (Complete value) going = going_result g _ _ (going_rec o w g m _ going)
  going_psci g m _ going = going

  going_ended : (g : ℕ) (m : Machine) (r : StepResult) → IsGoing o w g m → IsGoing o w g (with_step_ended m g r)
  going_ended g m r going = going_result g (past_step m g) r (going_past g m going)

  going_answer : (g page flags : ℕ) (m : Machine) (last : LastExit) → IsGoing o w g m → IsGoing o w g (with_host_answer m g last page flags)
  going_answer g page flags m RipasChange going = going_result g _ _ (going_rec o w g m _ going)
  going_answer g page flags m HostCall going = going_result g _ _ (going_gprs g page m going)
  going_answer g page flags m SystemRegister going = going_result g m _ going
  going_answer g page flags m UnprotectedAbort going = cond_both (injects_sea flags) (with_step_ended m g Sea) m (IsGoing o w g) (λ sure. going_ended g m Sea going) (λ never. going)
  going_answer g page flags m EmulatableAbort going =
      let answer : StepResult = emulated (first_step m g) (entry_gpr_in (page_in m page) 0) in
      cond_both (injects_sea flags) (with_step_ended m g Sea) (if emulates_mmio flags then with_step_ended m g answer else m) (IsGoing o w g)
      (λ sure. going_ended g m Sea going)
      (λ never. cond_both (emulates_mmio flags) (with_step_ended m g answer) m (IsGoing o w g) (λ also. going_ended g m answer going) (λ neither. going))
  going_answer g page flags m Other going = going_psci g m (rec_in m g).psci going

  going_entry : (g address flags : ℕ) (m : Machine) → IsGoing o w g m → IsGoing o w g (after_entry m g address flags)
  unfolding after_entry
  going_entry g address flags m going = going_answer g (number_of m address) flags _ (rec_in m g).exit (going_gic g (number_of m address) _ (going_rec o w g m _ going))

  -- ---- exits

  -- an address is in the secure world of both machines or of neither, if they have the same settings
  secure_before : (m : Machine) (a : ℕ) → m.settings ≡ o.settings → is_secure m (m.settings.base + a) ≡ is_secure o (o.settings.base + a)
  unfolding is_secure
  secure_before m a same = ap (λ (s : RmmSettings). nat_le s.secure_base (s.base + a) && nat_lt ((s.base + a - s.secure_base) / 4096) s.secure_count) same

  -- a page that a guest or an exit writes is no UNDELEGATED granule of the secure world
  normal : (g h rd : ℕ) (m : Machine) → IsGoing o w g m → (granule_at m h ≡ of_realm rd Data) ⊎ IsHostAt m h → IsSecureHost o h → ⊥
  normal g h rd m going (inl own) it = (let states : (granule_at m h).state ≡ Undelegated = ap (λ (r : RmmGranule). r.state) (going.hosts h it.0) ∙ it.0 in let ours = ap (λ (r : RmmGranule). r.state) own in cc)
  normal g h rd m going (inr at) it =
      both_ways (is_secure m (m.settings.base + h * 4096)) (reached_normal m h going.proper.sound at) (secure_before m (h * 4096) going.touches.settings ∙ it.1)

  going_exit_gic : (g h : ℕ) (m : Machine) → IsGoing o w g m → h < length m.granules → is_memory_state (granule_at m h).state ≡ true → IsMine true m (Some w) h → (IsSecureHost o h → ⊥)
      → IsGoing o w g (with_exit_gic m g h)
  unfolding with_exit_gic with_copied
  going_exit_gic g h m going inside plain mine apart =
      cond_both m.settings.checks_gic _ m (IsGoing o w g)
      (λ sure. going_plain o w g h m _ going inside (length-with_words_from 352 _ (page_in m h) (going.proper.sound.whole h inside) 17 (omega arith)) plain mine apart)
      (λ never. going)

  going_exit_words : (g h : ℕ) (m : Machine) (exit : RecExit) → IsGoing o w g m → h < length m.granules → is_memory_state (granule_at m h).state ≡ true → IsMine true m (Some w) h → (IsSecureHost o h → ⊥)
      → IsGoing o w g (with_exit_gic (with_exit_words m h exit) g h)
  unfolding with_exit_words
  going_exit_words g h m exit going inside plain mine apart =
      going_exit_gic g h _ (going_plain o w g h m _ going inside (length-with_words_from 256 (exit_word exit) (page_in m h) (going.proper.sound.whole h inside) 256 (omega arith)) plain mine apart) inside plain mine apart

  going_with_exit : (g address : ℕ) (m : Machine) (exit : RecExit) → IsGoing o w g m → IsGoing o w g (with_exit m g address exit)
  going_with_exit g address m exit going =
      cond_both (is_host_page m address) _ m (IsGoing o w g)
      (λ host. going_exit_words g (number_of m address) m exit going (host_inside m address host) (ap is_memory_state (host_plain m address host)) (inr (inl (host_plain m address host)))
      (normal g (number_of m address) w m going (inr (address, host, refl))))
      (λ never. going)

  going_exit : (g : ℕ) (m : Machine) (exit : RecExit) (last : LastExit) → IsGoing o w g m → IsGoing o w g (after_exit m g exit last)
  unfolding after_exit
  going_exit g m exit last going = going_with_exit g (rec_in m g).run _ exit (going_rec o w g m _ going)

  -- ---- accesses

  -- a DATA granule of realm `w`, or an UNDELEGATED granule, satisfies `IsMine` for a call on `w`
  plain_mine : (m : Machine) (rd h : ℕ) → rd ≡ w → (granule_at m h ≡ of_realm rd Data) ⊎ ((granule_at m h).state ≡ Undelegated) → IsMine true m (Some w) h
  plain_mine m rd h named (inl is) = inl (inr (ap (λ (r : RmmGranule). r.owner) is ∙ ap (λ (x : ℕ). Some x) named))
  plain_mine m rd h named (inr free) = inr (inl free)

  module _ (rd : ℕ) (named : rd ≡ w) where
    going_byte : (g h offset value : ℕ) (m : Machine) → IsGoing o w g m → IsPlainAt m rd h → (IsSecureHost o h → ⊥) → IsGoing o w g (with_byte m h offset value)
    going_byte g h offset value m going plain apart =
        going_plain o w g h m _ going plain.0 (length-set (page_in m h) offset (value % 2 ^ 8) ∙ going.proper.sound.whole h plain.0) plain.1 (plain_mine m rd h named plain.2) apart

    going_two : (g h offset value : ℕ) (m : Machine) → IsGoing o w g m → IsPlainAt m rd h → (IsSecureHost o h → ⊥) → IsGoing o w g (with_two_bytes m h offset value)
    unfolding with_two_bytes
    going_two g h offset value m going plain apart = going_byte g h (offset + 1) (value / 2 ^ 8) (with_byte m h offset value) (going_byte g h offset value m going plain apart) plain apart

    going_four : (g h offset value : ℕ) (m : Machine) → IsGoing o w g m → IsPlainAt m rd h → (IsSecureHost o h → ⊥) → IsGoing o w g (with_four_bytes m h offset value)
    unfolding with_four_bytes with_two_bytes
    going_four g h offset value m going plain apart = going_two g h (offset + 2) (value / 2 ^ 16) (with_two_bytes m h offset value) (going_two g h offset value m going plain apart) plain apart

    going_word_of : (g h i word : ℕ) (m : Machine) → IsGoing o w g m → IsPlainAt m rd h → (IsSecureHost o h → ⊥) → i < 512 → IsGoing o w g (with_word m h i word)
    going_word_of g h i word m going plain apart index =
        going_plain o w g h m (page_with_word (page_in m h) i word) going plain.0 (length-page_with_word (page_in m h) i word (going.proper.sound.whole h plain.0) index) plain.1 (plain_mine m rd h named plain.2) apart

    going_value : (g h ipa value : ℕ) (size : AccessSize) (m : Machine) → IsGoing o w g m → IsPlainAt m rd h → (IsSecureHost o h → ⊥) → IsGoing o w g (with_value m h size ipa value)
    unfolding with_value
    going_value g h ipa value Byte m going plain apart = going_byte g h (ipa % 4096) value m going plain apart
    going_value g h ipa value Halfword m going plain apart = going_two g h (ipa % 4096 / 2 * 2) value m going plain apart
    going_value g h ipa value Word m going plain apart = going_four g h (ipa % 4096 / 4 * 4) value m going plain apart
    going_value g h ipa value Doubleword m going plain apart = going_word_of g h (ipa % 4096 / 8) value m going plain apart (omega arith)

    going_write : (g : ℕ) (m : Machine) (realm : RmmRealm) (is : (granule_at m rd).state ≡ Rd realm) (ipa value : ℕ) (size : AccessSize) (going : IsGoing o w g m) (came : Result ℕ StepOutcome)
        → IsPlainIfOk m going.proper rd realm is ipa came → IsGoing o w g (after_write m ipa size value came)
    going_write g m realm is ipa value size going (Ok h) plain = going_value g h ipa value size m going plain.0 (normal g h rd m going plain.1)
    going_write g m realm is ipa value size going (Err outcome) plain = going

  -- ---- steps

  served : (m : Machine) (rd : ℕ) (realm : RmmRealm) → IsLinked m → (granule_at m rd).state ≡ Rd realm → IsServed (length m.granules) realm
  served m rd realm proper is = subst (λ (s : RmmGranuleState). IfSome (realm_of s) (IsServed (length m.granules))) is (proper.sound.tables.each rd)

  going_realm_off : (g rd : ℕ) (m : Machine) (there : Option RmmRealm) → rd ≡ w → realm_of (granule_at m rd).state ≡ there → IsGoing o w g m → IsGoing o w g (with_realm_off m rd there)
  going_realm_off g rd m (Some realm) named is going =
      let there = realm_of-is (granule_at m rd).state realm is in
      let s = served m rd realm going.proper there in
      going_realm o w g rd m realm _ going named there refl refl refl refl refl refl refl refl (record { few = s.few; inside = s.inside; most = s.most; level = s.level; width = s.width; served = s.served })
  going_realm_off g rd m None named is going = going

  going_off : (g : ℕ) (m : Machine) (owner : Option ℕ) → owner ≡ Some w → IsGoing o w g m → IsGoing o w g (with_system_off m owner)
  going_off g m (Some rd) named going = going_realm_off g rd m (realm_of (granule_at m rd).state) (some_same named) refl going
  going_off g m None named going = going

  going_exit_of : (g : ℕ) (m : Machine) (step : GuestStep) (exits : Bool) → IsGoing o w g m → IsGoing o w g (with_exit_of m g step exits)
  going_exit_of g m step true going = going_rec o w g m _ going
  going_exit_of g m step false going = going

  going_step : (g rd : ℕ) (m : Machine) (realm : RmmRealm) → rd ≡ w → (granule_at m rd).state ≡ Rd realm → (step : GuestStep) (outcome : StepOutcome) → IsGoing o w g m → IsGoing o w g (after_step m realm g step outcome)
  unfolding after_step
  going_step g rd m realm named is (Write ipa value size) outcome going =
      going_write rd named g m realm is ipa value size going (access m realm ipa true size (low_bytes size value)) (accessed m going.proper rd realm is ipa true size (low_bytes size value))
  going_step g rd m realm named is (Read ipa size) outcome going = going
  going_step g rd m realm named is (Fetch ipa) outcome going = going
  going_step g rd m realm named is SystemOff outcome going = going_off g m (granule_at m g).owner going.owned going
  going_step g rd m realm named is SystemReset outcome going = going_off g m (granule_at m g).owner going.owned going
  going_step g rd m realm named is step outcome going = going_exit_of g m step (is_exit outcome) going

  going_passed : (g : ℕ) (m : Machine) (outcome : StepOutcome) → IsGoing o w g m → IsGoing o w g (with_step_passed m g outcome)
  going_passed g m (IsResult r) going = going_ended g m r going
  going_passed g m (IsExit exit last) going = cond_both _ m _ (IsGoing o w g) (λ sure. going) (λ never. going_past g m going)
  going_passed g m Spins going = going_past g m going

  -- `IsGoing` still holds after a step of the REC's guest that is performed for the realm of RD `w`
  going_step_by : (g flags : ℕ) (m : Machine) (owner : Option ℕ) (there : Option RmmRealm) → owner ≡ Some w → realm_by m owner ≡ there → IsGoing o w g m → IsGoing o w g (after_step_in m there g flags)
  going_step_by g flags m (Some rd) (Some realm) named is going =
      going_passed g _ (step_outcome m realm g flags (first_step m g)) (going_step g rd m realm (some_same named) (realm_of-is (granule_at m rd).state realm is) (first_step m g) (step_outcome m realm g flags (first_step m g)) going)
  going_step_by g flags m None (Some realm) named is going = absurd (cc)
  going_step_by g flags m owner None named is going = going

  going_first_step : (g flags : ℕ) (m : Machine) → IsGoing o w g m → IsGoing o w g (after_first_step m g flags)
  unfolding after_first_step
  going_first_step g flags m going =
      cond_both ((rec_in m g).step_count == 0) m _ (IsGoing o w g) (λ none. going) (λ some. going_step_by g flags m (granule_at m g).owner (owner_realm m g) going.owned refl going)

  going_continued : (g : ℕ) (m : Machine) (outcome : StepOutcome) (rest : Bool × Machine) → IsGoing o w g m → IsGoing o w g rest.1 → IsGoing o w g (continued outcome m g rest).1
  going_continued g m (IsResult r) rest going more = more
  going_continued g m (IsExit exit last) rest going more = going_exit g m exit last going
  going_continued g m Spins rest going more = going

  going_steps : (count g flags : ℕ) (m : Machine) → IsGoing o w g m → IsGoing o w g (after_steps m g flags count).1
  unfolding after_steps
  going_steps zero g flags m going = going_exit g m (only_reason Irq) Other going
  going_steps (suc count) g flags m going =
      let next = going_first_step g flags m going in
      going_continued g (after_first_step m g flags) (first_step_outcome m g flags) (after_steps (after_first_step m g flags) g flags count) next (going_steps count g flags (after_first_step m g flags) next)

  going_target : (g : ℕ) (m : Machine) (rec : RmmRec) (request : PsciRequest) (begins : Bool) → IsGoing o w g m → IsGoing o w g (with_target m g rec request begins)
  going_target g m rec (CpuOn target entry_point context) true going =
      going_word o w g _ 0 context (going_word o w g _ 31 entry_point (going_rec o w g m _ going) (omega arith) (inl (omega arith))) (omega arith) (inl (omega arith))
  going_target g m rec _ begins going = going

  -- if `IsGoing` holds of one REC, it holds of each REC of the same realm after the attributes of the first one are
  -- written
  still_rec : (g h : ℕ) (m : Machine) (rec old : RmmRec) → IsGoing o w g m → (granule_at m h).state ≡ IsRec old → (granule_at m h).owner ≡ Some w → IsMine true o (Some w) h → IsGoing o w h (with_rec m g rec)
  still_rec g h m rec old going is owned mine =
      ⊎_elim
      (λ (same : h ≡ g). subst (λ (x : ℕ). IsGoing o w x (with_rec m g rec)) (sym same) (going_rec o w g m rec going))
      (λ (other : h ≢ g).
      let still = granule_at-other m g h (record (granule_at m g) { state = IsRec rec }) other in
      record {
        proper = (going_rec o w g m rec going).proper;
        ordered = (going_rec o w g m rec going).ordered;
        rec = old;
        is = ap (λ (r : RmmGranule). r.state) still ∙ is;
        touches = (going_rec o w g m rec going).touches;
        owned = ap (λ (r : RmmGranule). r.owner) still ∙ owned;
        mine = mine;
        vmids = (going_rec o w g m rec going).vmids;
        held = (going_rec o w g m rec going).held;
        lasts = (going_rec o w g m rec going).lasts;
        tables = (going_rec o w g m rec going).tables;
        hosts = (going_rec o w g m rec going).hosts;
        secure = (going_rec o w g m rec going).secure;
        recs = (going_rec o w g m rec going).recs;
        states = (going_rec o w g m rec going).states;
      })
      (cases_eq h g)

  going_given : (g : ℕ) (m : Machine) (s : StepWords) → IsGoing o w g m → IsGoing o w g (with_step m g s)
  unfolding with_step
  going_given g m s going =
      let rec : RmmRec = rec_in m g in
      let place : ℕ = (rec.first_step % 16 + rec.step_count % 16) % 16 in
      going_rec o w g _ _
      (going_word o w g _ (48 + 5 * place + 4) s.d
      (going_word o w g _ (48 + 5 * place + 3) s.c
      (going_word o w g _ (48 + 5 * place + 2) s.b
      (going_word o w g _ (48 + 5 * place + 1) s.a
      (going_word o w g m (48 + 5 * place) s.kind going (omega arith) (inr (omega arith)))
      (omega arith) (inr (omega arith))) (omega arith) (inr (omega arith))) (omega arith) (inr (omega arith))) (omega arith) (inr (omega arith)))

-- ---- commands

-- the owner of a REC is an RD
pub rd_of_rec_is : (m : Machine) (g : ℕ) (rec : RmmRec) → IsProper m → (granule_at m g).state ≡ IsRec rec → (rd : ℕ) × ((granule_at m g).owner ≡ Some rd) × (is_rd (granule_at m rd).state ≡ true)
rd_of_rec_is m g rec proper is = owner_is m (granule_at m g).owner (rd_of m g proper.ordered (IsRec rec) is refl)

-- if realm `w` owns the REC at an address, changes that `Touches` allows for `w` are allowed for a call that names the
-- REC
rec_there : (m n : Machine) (address w : ℕ) → not (is_aligned address) ≡ false → not (is_inside m address) ≡ false → is_none (rec_of (state_at m address)) ≡ false
    → (granule_at m (number_of m address)).owner ≡ Some w → Touches true m n (Some w) → Touches true m n (realm_of_rec m address)
rec_there m n address w aligned inside is owned touches =
    subst (λ (o : Option ℕ). Touches true m n o) (sym (rec_named-is m address aligned inside is ∙ owned)) touches

pub active_if : (s : RmmRealmState) → is_new s ≡ false → is_system_off s ≡ false → s ≡ Active
active_if Active not_new not_off = refl
active_if New not_new not_off = absurd (cc)
active_if IsSystemOff not_new not_off = absurd (cc)

module _ (rec address : ℕ) (m : Machine) (proper : IsProper m) (ok : Passed (rec_enter rec address m).checks) where
  entered_is : (granule_at m (number_of m rec)).state ≡ IsRec (rec_at m rec)
  unfolding rec_enter
  entered_is = rec_of-some (state_at m rec) ok.1.1.1.1.1.0

  abbrev of_entered : (rd : ℕ) × ((granule_at m (number_of m rec)).owner ≡ Some rd) × (is_rd (granule_at m rd).state ≡ true)
  of_entered = rd_of_rec_is m (number_of m rec) (rec_at m rec) proper entered_is

  entry_going : IsGoing m of_entered.0 (number_of m rec) (rec_enter rec address m).machine
  unfolding rec_enter
  entry_going =
      let flags : ℕ = flags_in (page_in m (number_of m address)) in
      let g : ℕ = number_of m rec in
      let first = going_first g of_entered.0 m (rec_at m rec) proper entered_is of_entered.1 in
      going_steps m of_entered.0 16 g flags (after_entry m g address flags) (going_entry m of_entered.0 g address flags m first)

  pub entered : IsProper (rec_enter rec address m).machine
  entered = record { linked = entry_going.proper; ordered = entry_going.ordered }

  pub entered_vmids : (rec_enter rec address m).machine.vmids ≡ m.vmids
  entered_vmids = entry_going.vmids

  pub entered_held : Held m (rec_enter rec address m).machine
  entered_held = entry_going.held

  pub entered_lasts : Lasts m (rec_enter rec address m).machine
  entered_lasts = entry_going.lasts

  -- after RMI_REC_ENTER, each realm has its old state and RIM, or is the REC's realm, was ACTIVE, is SYSTEM_OFF, and
  -- has its old RIM
  pub entered_states : (rd : ℕ) (realm : RmmRealm) → (granule_at (rec_enter rec address m).machine rd).state ≡ Rd realm
      → IsAsBefore m rd realm ⊎ ((realm.state ≡ IsSystemOff) × ((granule_at m (number_of m rec)).owner ≡ Some rd) × IsRealmIn m rd Active × HasRim m rd realm.rim)
  unfolding rec_enter enter_checks
  entered_states rd realm at =
      ⊎_elim
      (λ (same : IsAsBefore m rd realm). inl same)
      (λ (off : (rd ≡ of_entered.0) × (realm.state ≡ IsSystemOff) × HasRim m rd realm.rim).
      let owned : (granule_at m (number_of m rec)).owner ≡ Some rd = of_entered.1 ∙ ap (λ (x : ℕ). Some x) (sym off.0) in
      let there = rd_is (granule_at m rd).state (subst (λ (x : ℕ). is_rd (granule_at m x).state ≡ true) (sym off.0) of_entered.2) in
      let state : state_of (owner_realm m (number_of m rec)) ≡ there.0.state = ap (λ (x : Option ℕ). state_of (realm_by m x)) owned ∙ ap (λ (s : RmmGranuleState). state_of (realm_of s)) there.1 in
      let active : state_of (owner_realm m (number_of m rec)) ≡ Active = active_if (state_of (owner_realm m (number_of m rec))) ok.1.1.1.1.1.1.0 ok.1.1.1.1.1.1.1.0 in
      inr (off.1, owned, (there.0, there.1, sym state ∙ active), off.2))
      (entry_going.states rd realm at)

  pub entered_hosts : (h : ℕ) → (granule_at m h).state ≡ Undelegated → granule_at (rec_enter rec address m).machine h ≡ granule_at m h
  entered_hosts h free = entry_going.hosts h free

  pub entered_secure : (h : ℕ) → IsSecureHost m h → page_in (rec_enter rec address m).machine h ≡ page_in m h
  entered_secure = entry_going.secure

  pub entered_recs : RecsStay m (rec_enter rec address m).machine
  entered_recs = entry_going.recs

  pub entered_tables : KeepsTables m (rec_enter rec address m).machine
  entered_tables = entry_going.tables

  pub entered_touches : Touches true m (rec_enter rec address m).machine (realm_of_rec m rec)
  unfolding rec_enter
  entered_touches =
      rec_there m (rec_enter rec address m).machine rec of_entered.0 ok.1.1.1.0 ok.1.1.1.1.0 ok.1.1.1.1.1.0 of_entered.1 entry_going.touches

pub same_owner : (a b : Option ℕ) → is_same_owner a b ≡ true → a ≡ b
same_owner (Some a) (Some b) is = ap (λ (x : ℕ). Some x) (eqb-true a b is)
same_owner None None is = refl
same_owner (Some a) None is = absurd (cc)
same_owner None (Some b) is = absurd (cc)

module _ (calling target status : ℕ) (m : Machine) (proper : IsProper m) (ok : Passed (psci_complete calling target status m).checks) where
  caller_is : (granule_at m (number_of m calling)).state ≡ IsRec (rec_at m calling)
  unfolding psci_complete
  caller_is = rec_of-some (state_at m calling) ok.1.1.1.0

  abbrev of_caller : (rd : ℕ) × ((granule_at m (number_of m calling)).owner ≡ Some rd) × (is_rd (granule_at m rd).state ≡ true)
  of_caller = rd_of_rec_is m (number_of m calling) (rec_at m calling) proper caller_is

  target_going : IsGoing m of_caller.0 (number_of m target) (psci_complete calling target status m).machine
  unfolding psci_complete request_checks
  target_going =
      let g : ℕ = number_of m calling in
      let h : ℕ = number_of m target in
      let also = rec_of-some (state_at m target) ok.1.1.1.1.1.1.0 in
      let same = same_owner (granule_at m g).owner (granule_at m h).owner (yes_from (is_same_owner (granule_at m g).owner (granule_at m h).owner) ok.1.1.1.1.1.1.1.1.0) in
      let owned : (granule_at m h).owner ≡ Some of_caller.0 = sym same ∙ of_caller.1 in
      going_target m of_caller.0 h _ (rec_at m target) (rec_at m calling).psci _
      (still_rec m of_caller.0 g h m _ (rec_at m target) (going_first g of_caller.0 m (rec_at m calling) proper caller_is of_caller.1) also owned (inl (inr owned)))

  pub completed : IsProper (psci_complete calling target status m).machine
  completed = record { linked = target_going.proper; ordered = target_going.ordered }

  pub completed_vmids : (psci_complete calling target status m).machine.vmids ≡ m.vmids
  completed_vmids = target_going.vmids

  pub completed_held : Held m (psci_complete calling target status m).machine
  completed_held = target_going.held

  pub completed_recs : RecsStay m (psci_complete calling target status m).machine
  completed_recs = target_going.recs

  pub completed_tables : KeepsTables m (psci_complete calling target status m).machine
  completed_tables = target_going.tables

  pub completed_lasts : Lasts m (psci_complete calling target status m).machine
  completed_lasts = target_going.lasts

  pub completed_touches : Touches true m (psci_complete calling target status m).machine (realm_of_rec m calling)
  unfolding psci_complete
  completed_touches =
      rec_there m (psci_complete calling target status m).machine calling of_caller.0 ok.1.0 ok.1.1.0 ok.1.1.1.0 of_caller.1 target_going.touches

-- ---- machines during a run

-- machine `m` is in a run of the REC in granule `g`, and so is the machine after the REC's entry, a step or the exit
module _ (m : Machine) (g : ℕ) (run : IsProperRun m g) where
  abbrev of_run : (rd : ℕ) × ((granule_at m g).owner ≡ Some rd) × (is_rd (granule_at m rd).state ≡ true)
  of_run = rd_of_rec_is m g run.1 run.0 run.2

  run_first : IsGoing m of_run.0 g m
  run_first = going_first g of_run.0 m run.1 run.0 run.2 of_run.1

  still_runs : (n : Machine) → IsGoing m of_run.0 g n → IsProperRun n g
  still_runs n going = (record { linked = going.proper; ordered = going.ordered }, going.rec, going.is)

  pub entry_proper : (address flags : ℕ) → IsProperRun (after_entry m g address flags) g
  entry_proper address flags = still_runs (after_entry m g address flags) (going_entry m of_run.0 g address flags m run_first)

  pub step_proper : (flags : ℕ) → IsProperRun (after_first_step m g flags) g
  step_proper flags = still_runs (after_first_step m g flags) (going_first_step m of_run.0 g flags m run_first)

  pub exit_proper : (exit : RecExit) (last : LastExit) → IsProperRun (after_exit m g exit last) g
  exit_proper exit last = still_runs (after_exit m g exit last) (going_exit m of_run.0 g m exit last run_first)

  -- if `P` holds of each later machine that satisfies `IsGoing`, then `P` holds after the entry of the REC
  pub entry_then : (P : Machine → Type 0) → ((w : ℕ) (n : Machine) → IsGoing m w g n → P n) → (address flags : ℕ) → P (after_entry m g address flags)
  entry_then P goes address flags = goes of_run.0 (after_entry m g address flags) (going_entry m of_run.0 g address flags m run_first)

  -- if `P` holds of each later machine that satisfies `IsGoing`, then `P` holds after a step of the REC's guest
  pub step_then : (P : Machine → Type 0) → ((w : ℕ) (n : Machine) → IsGoing m w g n → P n) → (flags : ℕ) → P (after_first_step m g flags)
  step_then P goes flags = goes of_run.0 (after_first_step m g flags) (going_first_step m of_run.0 g flags m run_first)

  -- if `P` holds of each later machine that satisfies `IsGoing`, then `P` holds after the exit of the REC
  pub exit_then : (P : Machine → Type 0) → ((w : ℕ) (n : Machine) → IsGoing m w g n → P n) → (exit : RecExit) (last : LastExit) → P (after_exit m g exit last)
  exit_then P goes exit last = goes of_run.0 (after_exit m g exit last) (going_exit m of_run.0 g m exit last run_first)

-- ---- interrupts, and steps that guests are given

module _ (m : Machine) (address : ℕ) (proper : IsProper m) (is : is_rec_named m address ≡ true) where
  named_is : (granule_at m (number_of m address)).state ≡ IsRec (rec_at m address)
  named_is = rec_of-there (state_at m address) (and_parts (is_aligned address && is_inside m address) _ is).1

  abbrev of_named : (rd : ℕ) × ((granule_at m (number_of m address)).owner ≡ Some rd) × (is_rd (granule_at m rd).state ≡ true)
  of_named = rd_of_rec_is m (number_of m address) (rec_at m address) proper named_is

  named : IsGoing m of_named.0 (number_of m address) m
  named = going_first (number_of m address) of_named.0 m (rec_at m address) proper named_is of_named.1

-- if `P` holds of a machine, and of each later machine that satisfies `IsGoing`, then `P` holds after an interrupt
pub interrupted_then : (P : Machine → Type 0) (m : Machine) (address : ℕ) → IsProper m → P m → ((w g : ℕ) (n : Machine) → IsGoing m w g n → P n) → P (interrupted m address).1
unfolding interrupted
interrupted_then P m address proper same goes =
    cond_both (runs_at m address) _ _ (λ (p : Option Answer × Machine). P p.1)
    (λ runs.
    let is = (and_parts (is_rec_named m address) _ runs).0 in
    goes (of_named m address proper is).0 (number_of m address) _ (going_exit m (of_named m address proper is).0 (number_of m address) m (only_reason Irq) Other (named m address proper is)))
    (λ never. same)

pub interrupt_kept : (m : Machine) (address : ℕ) → IsProper m → IsProper (interrupted m address).1
interrupt_kept m address proper = interrupted_then IsProper m address proper proper (λ w g n going. record { linked = going.proper; ordered = going.ordered })

-- if `P` holds of a machine, and of each later machine that satisfies `IsGoing`, then `P` holds after a step is queued
pub given_then : (P : Machine → Type 0) (m : Machine) (address : ℕ) (words : StepWords) → IsProper m → P m → ((w g : ℕ) (n : Machine) → IsGoing m w g n → P n) → P (queued m address words).1
given_then P m address words proper same goes =
    cond_both (is_rec_named m address) _ _ (λ (p : Queued × Machine). P p.1)
    (λ is. cond_both (nat_lt (rec_in m (number_of m address)).step_count 16) _ _ (λ (p : Queued × Machine). P p.1)
    (λ few. goes (of_named m address proper is).0 (number_of m address) _ (going_given m (of_named m address proper is).0 (number_of m address) m words (named m address proper is)))
    (λ full. same))
    (λ never. same)

pub given_kept : (m : Machine) (address : ℕ) (words : StepWords) → IsProper m → IsProper (queued m address words).1
given_kept m address words proper = given_then IsProper m address words proper proper (λ w g n going. record { linked = going.proper; ordered = going.ordered })
