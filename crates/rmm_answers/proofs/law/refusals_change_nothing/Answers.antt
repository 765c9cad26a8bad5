use Rattle.std.proofs.Common.{◌≡◌, Bool, true, false, Option, Some, None, refl}
use Rattle.rmi_abi.specs.declared.call.Call.{Call}
use Rattle.rmi_abi.specs.declared.call.Call.TheVariants.{Version, GranuleDelegate, GranuleUndelegate, DataCreateUnknown, DataDestroy, RealmActivate, RealmCreate, RealmDestroy, RecCreate, RecDestroy, RecEnter, PsciComplete, RttCreate, RttDestroy, RttMapUnprotected, RttReadEntry, RttUnmapUnprotected, Features, RttFold, RecAuxCount, DataCreate, RttInitRipas, RttSetRipas}
use Rattle.rmm_model.specs.Command.DataCreate.{data_create}
use Rattle.rmm_model.specs.Command.DataCreateUnknown.{data_create_unknown}
use Rattle.rmm_model.specs.Command.DataDestroy.{data_destroy}
use Rattle.rmm_model.specs.Command.Features.{features}
use Rattle.rmm_model.specs.Command.GranuleDelegate.{granule_delegate}
use Rattle.rmm_model.specs.Command.GranuleUndelegate.{granule_undelegate}
use Rattle.rmm_model.specs.Command.RealmActivate.{realm_activate}
use Rattle.rmm_model.specs.Command.RealmCreate.{realm_create}
use Rattle.rmm_model.specs.Command.RealmDestroy.{realm_destroy}
use Rattle.rmm_model.specs.Command.PsciComplete.{psci_complete}
use Rattle.rmm_model.specs.Command.RecAuxCount.{rec_aux_count}
use Rattle.rmm_model.specs.Command.RecCreate.{rec_create}
use Rattle.rmm_model.specs.Command.RecDestroy.{rec_destroy}
use Rattle.rmm_model.specs.Command.RecEnter.{rec_enter}
use Rattle.rmm_model.specs.Command.RttCreate.{rtt_create}
use Rattle.rmm_model.specs.Command.RttDestroy.{rtt_destroy}
use Rattle.rmm_model.specs.Command.RttFold.{rtt_fold}
use Rattle.rmm_model.specs.Command.RttInitRipas.{rtt_init_ripas}
use Rattle.rmm_model.specs.Command.RttMapUnprotected.{rtt_map_unprotected}
use Rattle.rmm_model.specs.Command.RttReadEntry.{rtt_read_entry}
use Rattle.rmm_model.specs.Command.RttSetRipas.{rtt_set_ripas}
use Rattle.rmm_model.specs.Command.RttUnmapUnprotected.{rtt_unmap_unprotected}
use Rattle.rmm_model.specs.Command.Version.{version}
use Rattle.rmi_abi.specs.declared.registers.Registers.{Registers}
use Rattle.rmi_abi.specs.Call.{call_in}
use Rattle.rmi_abi.specs.Word.{number}
use Rattle.rmm_model.specs.declared.answer.FailedCondition.{FailedCondition}
use Rattle.rmm_model.specs.Call.{command_of, performed, rmi, rmi_at}
use Rattle.rmm_model.specs.Check.{Command, decided, first_failing}
use Rattle.rmm_model.specs.Command.RecEnter.{entered_answer, after_steps, after_entry}
use Rattle.rmi_abi.specs.RecRun.{flags_in}
use Rattle.rmm_model.specs.Machine.{Machine, number_of, page_in}
use Rattle.rmm_answers.specs.Call.{is_refused}
use Rattle.rmm_answers.proofs.law.refusals_change_nothing.Goals as goal

-- the answer for an entered REC is no refusal, whether the REC exits or runs on
entered : (leaves : Bool) → is_refused (number (entered_answer leaves).word) ≡ false
entered true = refl
entered false = refl

-- the answer of a command whose checks pass is no refusal
own : (call : Call) (m : Machine) → is_refused (number (command_of call m).answer.word) ≡ false
unfolding version features granule_delegate granule_undelegate realm_create realm_activate rec_aux_count rtt_read_entry rtt_create rtt_destroy realm_destroy rtt_fold rtt_map_unprotected rtt_unmap_unprotected data_create data_create_unknown data_destroy rtt_init_ripas rtt_set_ripas rec_create rec_destroy rec_enter psci_complete
own (Version requested) m = refl
own (Features index) m = refl
own (GranuleDelegate address) m = refl
own (GranuleUndelegate address) m = refl
own (RealmCreate rd params) m = refl
own (RealmActivate rd) m = refl
own (RecAuxCount rd) m = refl
own (RttReadEntry rd ipa level) m = refl
own (RttCreate rd rtt ipa level) m = refl
own (RttDestroy rd ipa level) m = refl
own (RealmDestroy rd) m = refl
own (RttFold rd ipa level) m = refl
own (RttMapUnprotected rd ipa level descriptor) m = refl
own (RttUnmapUnprotected rd ipa level) m = refl
own (DataCreate rd page ipa source flags) m = refl
own (DataCreateUnknown rd page ipa) m = refl
own (DataDestroy rd ipa) m = refl
own (RttInitRipas rd base top) m = refl
own (RttSetRipas rd rec base top) m = refl
own (RecCreate rd rec params) m = refl
own (RecDestroy rec) m = refl
own (RecEnter rec run) m =
    let g = number_of m rec in
    let flags = flags_in (page_in m (number_of m run)) in
    entered (after_steps (after_entry m g run flags) g flags 16).0
own (PsciComplete calling target status) m = refl

by_command : (f : Option FailedCondition) (c : Command) (m : Machine) → is_refused (number c.answer.word) ≡ false
    → is_refused (number (decided f c m).0.word) ≡ true → (decided f c m).1 ≡ m
by_command (Some refusal) c m mine is = refl
by_command None c m mine is = absurd (cc)

by_call : (f : Option Call) (r : Registers) (m : Machine) → is_refused (rmi_at f r m).0.x0 ≡ true → (rmi_at f r m).1 ≡ m
unfolding performed
by_call (Some call) r m is = by_command (first_failing (command_of call m).checks) (command_of call m) m (own call m) is
by_call None r m is = refl

pub returns : goal.returns
unfolding rmi
returns c = λ r m is. by_call (call_in r) r m is
