-- Proofs that an interrupt, a guest write or the queueing of a guest step changes only the REC concerned and the pages
-- written.
use Rattle.std.proofs.Common.{◌≡◌, ◌≢◌, ℕ, ◌+◌, ◌*◌, ◌/◌, ◌%◌, ◌^◌, ◌⊎◌, inl, inr, List, Option, Result, Ok, Err, unwrap_or, refl, sym, ap, subst, ◌∙◌, ⊎_elim}
use Rattle.std.specs.Prelude.{nat_lt}
use Rattle.std.proofs.lemmas.Bool.{and_parts, both_ways, cases_eq, cond_both}
use Rattle.rmi_abi.specs.declared.rec_run.RecExit.{RecExit}
use Rattle.rmi_abi.specs.declared.rec_run.ExitReason.TheVariants.{Irq}
use Rattle.rmi_abi.specs.declared.word.Word.{Word as Answer}
use Rattle.rmi_abi.specs.RecRun.{only_reason}
use Rattle.rmm_model.specs.declared.access.AccessSize.{AccessSize}
use Rattle.rmm_model.specs.declared.access.AccessSize.TheVariants.{Byte, Halfword, Word, Doubleword}
use Rattle.rmm_model.specs.declared.granule.RmmGranule.{RmmGranule}
use Rattle.rmm_model.specs.declared.granule.RmmGranuleState.{RmmGranuleState}
use Rattle.rmm_model.specs.declared.granule.RmmGranuleState.TheVariants.{Undelegated, Rd, Data}
use Rattle.rmm_model.specs.declared.realm.RmmRealm.{RmmRealm}
use Rattle.rmm_model.specs.declared.rec.LastExit.{LastExit}
use Rattle.rmm_model.specs.declared.rec.LastExit.TheVariants.{Other}
use Rattle.rmm_model.specs.declared.rec.RmmRec.{RmmRec}
use Rattle.rmm_model.specs.declared.rec.RmmRecState.TheVariants.{Ready}
use Rattle.rmm_model.specs.declared.step.Queued.{Queued}
use Rattle.rmm_model.specs.declared.step.StepOutcome.{StepOutcome}
use Rattle.rmm_model.specs.declared.step.StepWords.{StepWords}
use Rattle.rmm_model.specs.Access.{with_byte, with_two_bytes, with_four_bytes, with_value}
use Rattle.rmm_model.specs.Granule.{of_realm, rec_of}
use Rattle.rmm_model.specs.Guest.{rec_in, is_rec_named, with_step, queued}
use Rattle.rmm_model.specs.Host.{is_host_page}
use Rattle.rmm_model.specs.Machine.{Machine, granule_at, number_of, state_at, with_granule, with_page, with_word}
use Rattle.rmm_model.specs.Rec.{is_running, no_rec}
use Rattle.rmm_model.specs.Step.{after_write}
use Rattle.rmm_model.specs.Command.Operand.{rec_at}
use Rattle.rmm_model.specs.Command.PsciComplete.{with_rec}
use Rattle.rmm_model.specs.Command.RecEnter.{with_copied, with_exit_gic, with_exit_words, after_exit, runs_at, interrupted}
use Rattle.rmm_laws.specs.Apart.{IsSameAt}
use Rattle.rmm_laws.specs.Role.{IsLinked}
use Rattle.rmm_laws.proofs.Accesses.{IsPlainIfOk}
use Rattle.rmm_laws.proofs.Plain.{host_plain}
use Rattle.rmm_laws.proofs.Writes.{granule_at-other, page_in-other}

module _ (o : Machine) (g : ℕ) where
  pub same_page : (m : Machine) (h : ℕ) (page : List ℕ) → g ≢ h → IsSameAt o m g → IsSameAt o (with_page m h page) g
  same_page m h page other same = (same.0, page_in-other m h g page other ∙ same.1)

  pub same_granule : (m : Machine) (h : ℕ) (kept : RmmGranule) → g ≢ h → IsSameAt o m g → IsSameAt o (with_granule m h kept) g
  same_granule m h kept other same = (granule_at-other m h g kept other ∙ same.0, same.1)

  -- ---- accesses

  same_byte : (m : Machine) (h offset value : ℕ) → g ≢ h → IsSameAt o m g → IsSameAt o (with_byte m h offset value) g
  same_byte m h offset value other same = same_page m h _ other same

  same_two : (m : Machine) (h offset value : ℕ) → g ≢ h → IsSameAt o m g → IsSameAt o (with_two_bytes m h offset value) g
  unfolding with_two_bytes
  same_two m h offset value other same = same_byte (with_byte m h offset value) h (offset + 1) (value / 2 ^ 8) other (same_byte m h offset value other same)

  same_four : (m : Machine) (h offset value : ℕ) → g ≢ h → IsSameAt o m g → IsSameAt o (with_four_bytes m h offset value) g
  unfolding with_four_bytes
  same_four m h offset value other same = same_two (with_two_bytes m h offset value) h (offset + 2) (value / 2 ^ 16) other (same_two m h offset value other same)

  same_value : (m : Machine) (h ipa value : ℕ) (size : AccessSize) → g ≢ h → IsSameAt o m g → IsSameAt o (with_value m h size ipa value) g
  unfolding with_value
  same_value m h ipa value Byte other same = same_byte m h (ipa % 4096) value other same
  same_value m h ipa value Halfword other same = same_two m h (ipa % 4096 / 2 * 2) value other same
  same_value m h ipa value Word other same = same_four m h (ipa % 4096 / 4 * 4) value other same
  same_value m h ipa value Doubleword other same = same_page m h _ other same

  -- ---- exits

  same_exit_gic : (m : Machine) (h page : ℕ) → g ≢ page → IsSameAt o m g → IsSameAt o (with_exit_gic m h page) g
  unfolding with_exit_gic with_copied
  same_exit_gic m h page other same = cond_both m.settings.checks_gic _ m (λ (n : Machine). IsSameAt o n g) (λ sure. same_page m page _ other same) (λ never. same)

  same_exit_words : (m : Machine) (page : ℕ) (exit : RecExit) → g ≢ page → IsSameAt o m g → IsSameAt o (with_exit_words m page exit) g
  unfolding with_exit_words
  same_exit_words m page exit other same = same_page m page _ other same

-- a guest's write leaves each granule that it does not reach as it was
pub written_apart : (m : Machine) (ipa value g : ℕ) (size : AccessSize) (came : Result ℕ StepOutcome) → ((h : ℕ) → came ≡ Ok h → g ≢ h) → IsSameAt m (after_write m ipa size value came) g
written_apart m ipa value g size (Ok h) other = same_value m g m h ipa value size (other h refl) (refl, refl)
written_apart m ipa value g size (Err outcome) other = (refl, refl)

-- the granule that an access reaches is a DATA granule of the realm, or is UNDELEGATED
pub plain_of : (m : Machine) (linked : IsLinked m) (rd : ℕ) (realm : RmmRealm) (is : (granule_at m rd).state ≡ Rd realm) (ipa h : ℕ) (came : Result ℕ StepOutcome) → came ≡ Ok h
    → IsPlainIfOk m linked rd realm is ipa came → (granule_at m h ≡ of_realm rd Data) ⊎ ((granule_at m h).state ≡ Undelegated)
plain_of m linked rd realm is ipa h came reaches plain = (subst (IsPlainIfOk m linked rd realm is ipa) reaches plain).0.2

-- ---- steps and interrupts

given_at : (m : Machine) (h g : ℕ) (w : StepWords) → g ≢ h → IsSameAt m (with_step m h w) g
unfolding with_step
given_at m h g w other =
    let rec : RmmRec = rec_in m h in
    let place : ℕ = (rec.first_step % 16 + rec.step_count % 16) % 16 in
    let a : Machine = with_word m h (48 + 5 * place) w.kind in
    let b : Machine = with_word a h (48 + 5 * place + 1) w.a in
    let c : Machine = with_word b h (48 + 5 * place + 2) w.b in
    let d : Machine = with_word c h (48 + 5 * place + 3) w.c in
    let e : Machine = with_word d h (48 + 5 * place + 4) w.d in
    same_granule m g e h _ other
    (same_page m g d h _ other (same_page m g c h _ other (same_page m g b h _ other (same_page m g a h _ other (same_page m g m h _ other (refl, refl))))))

pub given_apart : (m : Machine) (rec g : ℕ) (w : StepWords) → g ≢ number_of m rec → IsSameAt m (queued m rec w).1 g
given_apart m rec g w other =
    cond_both (is_rec_named m rec) _ _ (λ (p : Queued × Machine). IsSameAt m p.1 g)
    (λ is. cond_both (nat_lt (rec_in m (number_of m rec)).step_count 16) _ _ (λ (p : Queued × Machine). IsSameAt m p.1 g)
    (λ few. given_at m (number_of m rec) g w other)
    (λ full. (refl, refl)))
    (λ never. (refl, refl))

pub exit_at : (m : Machine) (h g : ℕ) (exit : RecExit) (last : LastExit) → g ≢ h → (granule_at m g).state ≢ Undelegated → IsSameAt m (after_exit m h exit last) g
unfolding after_exit
exit_at m h g exit last other taken =
    let rec : RmmRec = rec_in m h in
    let n : Machine = with_rec m h (record rec { state = Ready; exit = last }) in
    let same : IsSameAt m n g = same_granule m g m h _ other (refl, refl) in
    cond_both (is_host_page n rec.run) _ n (λ (k : Machine). IsSameAt m k g)
    (λ host.
    let apart : g ≢ number_of n rec.run = λ at. taken (sym (ap (λ (r : RmmGranule). r.state) same.0) ∙ ap (λ (x : ℕ). (granule_at n x).state) at ∙ host_plain n rec.run host) in
    same_exit_gic m g _ h (number_of n rec.run) apart (same_exit_words m g n (number_of n rec.run) exit apart same))
    (λ never. same)

pub interrupt_apart : (m : Machine) (rec g : ℕ) → g ≢ number_of m rec → (granule_at m g).state ≢ Undelegated → IsSameAt m (interrupted m rec).1 g
unfolding interrupted
interrupt_apart m rec g other taken =
    cond_both (runs_at m rec) _ _ (λ (p : Option Answer × Machine). IsSameAt m p.1 g)
    (λ runs. exit_at m (number_of m rec) g (only_reason Irq) Other other taken)
    (λ never. (refl, refl))

-- ---- the run page

ended_at : (m : Machine) (h g : ℕ) (exit : RecExit) (last : LastExit) → g ≢ h → IsSameAt m (after_exit m h exit last) g ⊎ (g ≡ number_of m (rec_in m h).run)
unfolding after_exit number_of
ended_at m h g exit last other =
    let rec : RmmRec = rec_in m h in
    let n : Machine = with_rec m h (record rec { state = Ready; exit = last }) in
    let same : IsSameAt m n g = same_granule m g m h _ other (refl, refl) in
    ⊎_elim
    (λ (here : g ≡ number_of m rec.run). inr here)
    (λ (apart : g ≢ number_of m rec.run).
    inl (cond_both (is_host_page n rec.run) _ n (λ (k : Machine). IsSameAt m k g)
    (λ host. same_exit_gic m g _ h (number_of n rec.run) apart (same_exit_words m g n (number_of n rec.run) exit apart same))
    (λ never. same)))
    (cases_eq g (number_of m rec.run))

-- an interrupt leaves each UNDELEGATED granule as it was, except the REC's run page
pub interrupt_beside : (m : Machine) (rec g : ℕ) → (granule_at m g).state ≡ Undelegated → IsSameAt m (interrupted m rec).1 g ⊎ (g ≡ number_of m (rec_in m (number_of m rec)).run)
unfolding interrupted
interrupt_beside m rec g free =
    cond_both (runs_at m rec) _ _ (λ (p : Option Answer × Machine). IsSameAt m p.1 g ⊎ (g ≡ number_of m (rec_in m (number_of m rec)).run))
    (λ runs. ended_at m (number_of m rec) g (only_reason Irq) Other (λ here.
    let running = (and_parts (is_rec_named m rec) (is_running (rec_at m rec).state) runs).1 in
    let host : state_at m rec ≡ Undelegated = sym (ap (λ (x : ℕ). (granule_at m x).state) here) ∙ free in
    both_ways (is_running (rec_at m rec).state) (ap (λ (s : RmmGranuleState). is_running (unwrap_or (rec_of s) no_rec).state) host) running))
    (λ never. inl (refl, refl))
