use Rattle.std.specs.Prelude.{nat_lt, if◌then◌else◌}
use Rattle.std.proofs.Common.{◌≡◌, ◌≢◌, ℕ, ◌-◌, ◌%◌, ◌^◌, ◌⊎◌, inl, inr, ◌==◌, ◌&&◌, Bool, true, false, not, List, [], ◌∷◌, Option, Some, None, Result, Ok, Err, refl, sym, ap, ◌∙◌, ⊎_elim, arith}
use Rattle.std.proofs.lemmas.Bool.{cases_Bool, and_parts, and_left, and_right, both_ways, cond-true, cond-false, le-ltb, ne_eqb, not-true}
use Rattle.rmi_abi.specs.declared.call.Call.{Call}
use Rattle.rmi_abi.specs.declared.call.Call.TheVariants.{Version, GranuleDelegate, GranuleUndelegate, DataCreateUnknown, DataDestroy, RealmActivate, RealmCreate, RealmDestroy, RecCreate, RecDestroy, RecEnter, PsciComplete, RttCreate, RttDestroy, RttMapUnprotected, RttReadEntry, RttUnmapUnprotected, Features, RttFold, RecAuxCount, DataCreate, RttInitRipas, RttSetRipas}
use Rattle.rmi_abi.specs.declared.registers.Registers.{Registers}
use Rattle.rmi_abi.specs.declared.word.Word.{Word}
use Rattle.rmi_abi.specs.declared.word.Word.TheVariants.{Success, ErrorInput, ErrorRealm, ErrorRec, ErrorRtt, Running}
use Rattle.rmi_abi.specs.Call.{call_in}
use Rattle.rmi_abi.specs.RecRun.{flags_in}
use Rattle.rmi_abi.specs.Word.{number}
use Rattle.rmm_model.specs.declared.access.AccessSize.{AccessSize}
use Rattle.rmm_model.specs.declared.answer.FailedCondition.{FailedCondition}
use Rattle.rmm_model.specs.declared.granule.RmmGranuleState.{RmmGranuleState}
use Rattle.rmm_model.specs.declared.granule.RmmGranuleState.TheVariants.{Undelegated}
use Rattle.rmm_model.specs.declared.realm.RmmRealm.{RmmRealm}
use Rattle.rmm_model.specs.declared.step.GuestStep.{GuestStep}
use Rattle.rmm_model.specs.declared.step.GuestStep.TheVariants.{Write, Read, Fetch}
use Rattle.rmm_model.specs.declared.step.Queued.{Queued}
use Rattle.rmm_model.specs.declared.step.Queued.TheVariants.{Queued as IsQueued, Full, NoRec}
use Rattle.rmm_model.specs.declared.step.StepOutcome.{StepOutcome}
use Rattle.rmm_model.specs.Access.{low_bytes}
use Rattle.rmm_model.specs.Call.{command_of, performed, rmi, rmi_at}
use Rattle.rmm_model.specs.Check.{Command, Check, decided, first_failing}
use Rattle.rmm_model.specs.Granule.{is_undelegated}
use Rattle.rmm_model.specs.Guest.{is_rec_named, rec_in, with_step}
use Rattle.rmm_model.specs.Host.{is_host_page}
use Rattle.rmm_model.specs.Rec.{is_running}
use Rattle.rmm_model.specs.Command.Operand.{is_host_s, rec_at}
use Rattle.rmm_model.specs.Command.DataCreate.{data_create, source_checks, target_checks}
use Rattle.rmm_model.specs.Command.DataCreateUnknown.{data_create_unknown}
use Rattle.rmm_model.specs.Command.DataDestroy.{data_destroy}
use Rattle.rmm_model.specs.Command.Features.{features}
use Rattle.rmm_model.specs.Command.GranuleDelegate.{granule_delegate}
use Rattle.rmm_model.specs.Command.GranuleUndelegate.{granule_undelegate}
use Rattle.rmm_model.specs.Command.RealmActivate.{realm_activate}
use Rattle.rmm_model.specs.Command.RealmCreate.{realm_create, params_checks}
use Rattle.rmm_model.specs.Command.RealmDestroy.{realm_destroy}
use Rattle.rmm_model.specs.Command.PsciComplete.{psci_complete, request_checks}
use Rattle.rmm_model.specs.Command.RecAuxCount.{rec_aux_count}
use Rattle.rmm_model.specs.Command.RecCreate.{rec_create, aux_checks, number_checks}
use Rattle.rmm_model.specs.Command.RecDestroy.{rec_destroy}
use Rattle.rmm_model.specs.Command.RttCreate.{rtt_create}
use Rattle.rmm_model.specs.Command.RttDestroy.{rtt_destroy}
use Rattle.rmm_model.specs.Command.RttFold.{rtt_fold}
use Rattle.rmm_model.specs.Command.RttInitRipas.{rtt_init_ripas, range_checks}
use Rattle.rmm_model.specs.Command.RttMapUnprotected.{rtt_map_unprotected}
use Rattle.rmm_model.specs.Command.RttReadEntry.{rtt_read_entry}
use Rattle.rmm_model.specs.Command.RttSetRipas.{rtt_set_ripas, ripas_request_checks}
use Rattle.rmm_model.specs.Command.RttUnmapUnprotected.{rtt_unmap_unprotected}
use Rattle.rmm_model.specs.Command.Version.{version}
use Rattle.rmm_model.specs.Command.RecEnter.{rec_enter, entered_answer, after_steps, after_entry, enter_checks, step_outcome, after_step, runs_at, interrupted}
use Rattle.rmm_model.specs.Machine.{Machine, is_inside, is_secure, number_of, page_in, state_at}
use Rattle.rmm_model.specs.Step.{access, tried, after_write}
use Rattle.rmm_laws.specs.Refusal.{IsRefused, IsRecEnter, IsFault, IsNotGiven, IsAccess, IsNotDone}
use Rattle.rmm_laws.proofs.Answered.{IsOwn, own, not_refused}
use Rattle.rmm_laws.proofs.Effects.{left_then}
use Rattle.rmm_laws.proofs.Passed.{Passed, passed, rec_named}
use Rattle.rmm_laws.proofs.Running.{entered_runs}
use Rattle.rmm_laws.proofs.law.refusals_change_nothing.Goals as goal

-- ---- calls

by_command : (f : Option FailedCondition) (c : Command) (m : Machine) → IsOwn c.answer.word → IsRefused (number (decided f c m).0.word) → (decided f c m).1 ≡ m
by_command (Some refusal) c m mine is = refl
by_command None c m mine is = absurd (not_refused c.answer.word mine is)

by_call : (f : Option Call) (r : Registers) (m : Machine) → IsRefused (rmi_at f r m).0.x0 → (rmi_at f r m).1 ≡ m
unfolding performed
by_call (Some call) r m is = by_command (first_failing (command_of call m).checks) (command_of call m) m (own call m) is
by_call None r m is = refl

pub returns-clause-calls : goal.returns-clause-calls
unfolding rmi
returns-clause-calls c = λ r m is. by_call (call_in r) r m is

-- ---- the word of a REC that runs on

abbrev runs : Word → Bool
runs Running = true
runs _ = false

running_word : (word : Word) → number word ≡ 2 ^ 64 - 2 → runs word ≡ true
running_word Success is = absurd (omega arith)
running_word ErrorInput is = absurd (omega arith)
running_word (ErrorRealm index) is = absurd (omega arith)
running_word ErrorRec is = absurd (omega arith)
running_word (ErrorRtt index) is = absurd (omega arith)
running_word Running is = refl

-- no check of a list refuses with the word for a REC that runs on
abbrev none_runs : List Check → Bool
none_runs [] = true
none_runs (c ∷ cs) = not (runs c.refusal.answer.word) && none_runs cs

same_refusal : {a b : FailedCondition} → Some a ≡ Some b → a ≡ b
same_refusal is = cc

refusal_word : (cs : List Check) (refusal : FailedCondition) → none_runs cs ≡ true → first_failing cs ≡ Some refusal → runs refusal.answer.word ≡ false
refusal_word [] refusal none is = absurd (cc)
refusal_word (c ∷ cs) refusal none is =
    let parts = and_parts (not (runs c.refusal.answer.word)) (none_runs cs) none in
    ⊎_elim
    (λ (fails : c.fails ≡ true).
    let it : c.refusal ≡ refusal = same_refusal (sym (cond-true c.fails (Some c.refusal) (first_failing cs) fails) ∙ is) in
    ap (λ (f : FailedCondition). runs f.answer.word) (sym it) ∙ not-true (runs c.refusal.answer.word) parts.0)
    (λ (passes : c.fails ≡ false). refusal_word cs refusal parts.1 (sym (cond-false c.fails (Some c.refusal) (first_failing cs) passes) ∙ is))
    (cases_Bool c.fails)

quiet : (call : Call) (m : Machine) → none_runs (command_of call m).checks ≡ true
unfolding version features granule_delegate granule_undelegate realm_create params_checks realm_activate rec_aux_count rtt_read_entry rtt_create rtt_destroy realm_destroy rtt_fold rtt_map_unprotected rtt_unmap_unprotected data_create source_checks target_checks data_create_unknown data_destroy rtt_init_ripas range_checks rtt_set_ripas ripas_request_checks rec_create aux_checks number_checks rec_destroy rec_enter enter_checks psci_complete request_checks
quiet (Version requested) m = refl
quiet (Features index) m = refl
quiet (GranuleDelegate address) m = refl
quiet (GranuleUndelegate address) m = refl
quiet (RealmCreate rd params) m = refl
quiet (RealmActivate rd) m = refl
quiet (RecAuxCount rd) m = refl
quiet (RttReadEntry rd ipa level) m = refl
quiet (RttCreate rd rtt ipa level) m = refl
quiet (RttDestroy rd ipa level) m = refl
quiet (RealmDestroy rd) m = refl
quiet (RttFold rd ipa level) m = refl
quiet (RttMapUnprotected rd ipa level descriptor) m = refl
quiet (RttUnmapUnprotected rd ipa level) m = refl
quiet (DataCreate rd page ipa source flags) m = refl
quiet (DataCreateUnknown rd page ipa) m = refl
quiet (DataDestroy rd ipa) m = refl
quiet (RttInitRipas rd base top) m = refl
quiet (RttSetRipas rd rec base top) m = refl
quiet (RecCreate rd rec params) m = refl
quiet (RecDestroy rec) m = refl
quiet (RecEnter rec run) m = refl
quiet (PsciComplete calling target status) m = refl

-- if the answer to RMI_REC_ENTER is the word of a REC that runs on, the REC does not leave
stays : (leaves : Bool) → runs (entered_answer leaves).word ≡ true → leaves ≡ false
stays true is = absurd (cc)
stays false is = refl

-- only RMI_REC_ENTER has the word of a REC that runs on as its own answer
enters : (call : Call) (m : Machine) → Passed (command_of call m).checks → runs (command_of call m).answer.word ≡ true → IsRecEnter m (command_of call m).machine (Some call)
unfolding version features granule_delegate granule_undelegate realm_create realm_activate rec_aux_count rtt_read_entry rtt_create rtt_destroy realm_destroy rtt_fold rtt_map_unprotected rtt_unmap_unprotected data_create data_create_unknown data_destroy rtt_init_ripas rtt_set_ripas rec_create rec_destroy rec_enter enter_checks psci_complete
enters (RecEnter rec run) m ok is =
    let g = number_of m rec in
    let flags = flags_in (page_in m (number_of m run)) in
    (rec_named m rec ok.1.1.1.0 ok.1.1.1.1.0 ok.1.1.1.1.1.0, ok.1.1.1.1.1.1.1.1.0, entered_runs rec run m ok (stays (after_steps (after_entry m g run flags) g flags 16).0 is))
enters _ m ok is = absurd (cc)

by_word : (f : Option FailedCondition) (call : Call) (m : Machine) → first_failing (command_of call m).checks ≡ f → number (decided f (command_of call m) m).0.word ≡ 2 ^ 64 - 2
    → IsRecEnter m (decided f (command_of call m) m).1 (Some call)
by_word (Some refusal) call m is word = absurd (both_ways (runs refusal.answer.word) (refusal_word (command_of call m).checks refusal (quiet call m) is) (running_word refusal.answer.word word))
by_word None call m is word = enters call m (passed (command_of call m).checks is) (running_word (command_of call m).answer.word word)

by_running : (o : Option Call) (r : Registers) (m : Machine) → (rmi_at o r m).0.x0 ≡ 2 ^ 64 - 2 → IsRecEnter m (rmi_at o r m).1 o
unfolding performed
by_running (Some call) r m is = by_word (first_failing (command_of call m).checks) call m refl is
by_running None r m is = absurd (omega arith)

pub returns-clause-running : goal.returns-clause-running
unfolding rmi
returns-clause-running c = λ r m is. by_running (call_in r) r m is

pub returns-clause-left : goal.returns-clause-left
returns-clause-left c = left_then

-- ---- the host

not_undelegated : (s : RmmGranuleState) → s ≢ Undelegated → is_undelegated s ≡ false
not_undelegated Undelegated other = absurd (other refl)
not_undelegated _ other = refl

-- an access that faults is not at a multiple of its size, or not at a page of the host
no_access : (m : Machine) (size address : ℕ) → IsFault m size address → (address % size == 0 && is_host_page m address) ≡ false
no_access m size address (inl odd) = and_left (address % size == 0) (is_host_page m address) (ne_eqb (address % size) 0 odd)
no_access m size address (inr (inl outside)) = and_right (address % size == 0) (is_host_page m address) (and_left (is_inside m address) (is_host_s m address) outside)
no_access m size address (inr (inr (inl taken))) =
    and_right (address % size == 0) (is_host_page m address)
    (and_right (is_inside m address) (is_host_s m address) (and_left (is_undelegated (state_at m address)) (not (is_secure m address)) (not_undelegated (state_at m address) taken)))
no_access m size address (inr (inr (inr secure))) =
    and_right (address % size == 0) (is_host_page m address)
    (and_right (is_inside m address) (is_host_s m address) (and_right (is_undelegated (state_at m address)) (not (is_secure m address)) (ap not secure)))

pub returns-clause-stores : goal.returns-clause-stores
returns-clause-stores c = λ m address word fault. cond-false _ _ _ (no_access m 8 address fault)

pub returns-clause-fills : goal.returns-clause-fills
returns-clause-fills c = λ m address value fault. cond-false _ _ _ (no_access m 4096 address fault)

-- ---- guests

abbrev by_tests : Bool → Bool → Machine → Machine → Queued × Machine
by_tests is_rec has_place m n = if is_rec then (if has_place then (IsQueued, n) else (Full, m)) else (NoRec, m)

not_given : (is_rec has_place : Bool) (m n : Machine) → (by_tests is_rec has_place m n).0 ≢ IsQueued → (by_tests is_rec has_place m n).1 ≡ m
not_given true true m n not_queued = absurd (not_queued refl)
not_given true false m n not_queued = refl
not_given false has_place m n not_queued = refl

pub returns-clause-steps : goal.returns-clause-steps
returns-clause-steps c = λ m rec w not_queued. not_given _ _ m _ not_queued

given_none : (is_rec has_place : Bool) (m n : Machine) → (is_rec ≡ false) ⊎ (has_place ≡ false) → ((by_tests is_rec has_place m n).0 ≢ IsQueued) × ((by_tests is_rec has_place m n).1 ≡ m)
given_none true true m n (inl never) = absurd (cc)
given_none true true m n (inr never) = absurd (cc)
given_none true false m n none = (λ same. cc, refl)
given_none false has_place m n none = (λ same. cc, refl)

no_place : (m : Machine) (rec : ℕ) → IsNotGiven m rec → (is_rec_named m rec ≡ false) ⊎ (nat_lt (rec_in m (number_of m rec)).step_count 16 ≡ false)
no_place m rec (inl none) = inl none
no_place m rec (inr full) = inr (le-ltb (rec_in m (number_of m rec)).step_count 16 full)

pub returns-clause-not_given : goal.returns-clause-not_given
returns-clause-not_given c = λ m rec w none. given_none (is_rec_named m rec) (nat_lt (rec_in m (number_of m rec)).step_count 16) m (with_step m (number_of m rec) w) (no_place m rec none)

-- the answer to an interrupt and the machine after it: the given ones if the REC runs, else `None` and the machine
-- before
abbrev ended : Bool → Word → Machine → Machine → Option Word × Machine
ended runs word n m = if runs then (Some word, n) else (None, m)

by_runs : (runs : Bool) (word : Word) (n m : Machine) → (ended runs word n m).0 ≡ None → (ended runs word n m).1 ≡ m
by_runs true word n m none = absurd (cc)
by_runs false word n m none = refl

pub returns-clause-interrupts : goal.returns-clause-interrupts
unfolding interrupted
returns-clause-interrupts c = λ m rec none. by_runs (runs_at m rec) _ _ m none

pub returns-clause-not_running : goal.returns-clause-not_running
unfolding interrupted
returns-clause-not_running c = λ m rec still.
    cond-false (runs_at m rec) _ _
    (⊎_elim
    (λ (none : is_rec_named m rec ≡ false). and_left (is_rec_named m rec) (is_running (rec_at m rec).state) none)
    (λ (ready : is_running (rec_at m rec).state ≡ false). and_right (is_rec_named m rec) (is_running (rec_at m rec).state) ready)
    still)

by_access : (m : Machine) (ipa value : ℕ) (size : AccessSize) (came : Result ℕ StepOutcome) → IsNotDone (tried came) → after_write m ipa size value came ≡ m
by_access m ipa value size (Ok granule) not_done = absurd (not_done refl)
by_access m ipa value size (Err outcome) not_done = refl

by_step : (m : Machine) (realm : RmmRealm) (rec flags : ℕ) (step : GuestStep) → IsAccess step → IsNotDone (step_outcome m realm rec flags step)
    → after_step m realm rec step (step_outcome m realm rec flags step) ≡ m
unfolding step_outcome after_step
by_step m realm rec flags (Write ipa value size) is not_done = by_access m ipa value size (access m realm ipa true size (low_bytes size value)) not_done
by_step m realm rec flags (Read ipa size) is not_done = refl
by_step m realm rec flags (Fetch ipa) is not_done = refl
by_step m realm rec flags _ is not_done = absurd is

pub returns-clause-accesses : goal.returns-clause-accesses
returns-clause-accesses c = λ m realm rec flags step is not_done. by_step m realm rec flags step is not_done
