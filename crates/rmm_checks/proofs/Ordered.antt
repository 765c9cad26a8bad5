-- A proof that each check of an RMI command comes after the checks on which it depends.
use Rattle.std.proofs.Common.{◌≡◌, true, [], refl}
use Rattle.rmi_abi.specs.declared.call.Call.{Call}
use Rattle.rmi_abi.specs.declared.call.Call.TheVariants.{Version, Features, GranuleDelegate, GranuleUndelegate, RealmCreate, RealmActivate, RealmDestroy, RecAuxCount, RecCreate, RecDestroy, RecEnter, RttCreate, RttDestroy, RttFold, RttReadEntry, RttMapUnprotected, RttUnmapUnprotected, DataCreate, DataCreateUnknown, DataDestroy, RttInitRipas, RttSetRipas, PsciComplete}
use Rattle.rmm_model.specs.Call.{command_of}
use Rattle.rmm_model.specs.Machine.{Machine}
use Rattle.rmm_model.specs.Command.DataCreate.{data_create, source_checks, target_checks}
use Rattle.rmm_model.specs.Command.DataCreateUnknown.{data_create_unknown}
use Rattle.rmm_model.specs.Command.DataDestroy.{data_destroy}
use Rattle.rmm_model.specs.Command.Features.{features}
use Rattle.rmm_model.specs.Command.GranuleDelegate.{granule_delegate}
use Rattle.rmm_model.specs.Command.GranuleUndelegate.{granule_undelegate}
use Rattle.rmm_model.specs.Command.PsciComplete.{psci_complete, request_checks}
use Rattle.rmm_model.specs.Command.RealmActivate.{realm_activate}
use Rattle.rmm_model.specs.Command.RealmCreate.{realm_create, params_checks}
use Rattle.rmm_model.specs.Command.RealmDestroy.{realm_destroy}
use Rattle.rmm_model.specs.Command.RecAuxCount.{rec_aux_count}
use Rattle.rmm_model.specs.Command.RecCreate.{rec_create, aux_checks, number_checks}
use Rattle.rmm_model.specs.Command.RecDestroy.{rec_destroy}
use Rattle.rmm_model.specs.Command.RecEnter.{rec_enter, enter_checks}
use Rattle.rmm_model.specs.Command.RttCreate.{rtt_create}
use Rattle.rmm_model.specs.Command.RttDestroy.{rtt_destroy}
use Rattle.rmm_model.specs.Command.RttFold.{rtt_fold}
use Rattle.rmm_model.specs.Command.RttInitRipas.{rtt_init_ripas, range_checks}
use Rattle.rmm_model.specs.Command.RttMapUnprotected.{rtt_map_unprotected}
use Rattle.rmm_model.specs.Command.RttReadEntry.{rtt_read_entry}
use Rattle.rmm_model.specs.Command.RttSetRipas.{rtt_set_ripas, ripas_request_checks}
use Rattle.rmm_model.specs.Command.RttUnmapUnprotected.{rtt_unmap_unprotected}
use Rattle.rmm_model.specs.Command.Version.{version}
use Rattle.rmm_checks.proofs.Refusals.{is_ordered}

pub ordered : (call : Call) (m : Machine) → is_ordered [] (command_of call m).checks ≡ true
unfolding version features granule_delegate granule_undelegate realm_create params_checks realm_activate realm_destroy rec_aux_count rec_create aux_checks number_checks rec_destroy rec_enter enter_checks rtt_create rtt_destroy rtt_fold rtt_read_entry rtt_map_unprotected rtt_unmap_unprotected data_create source_checks target_checks data_create_unknown data_destroy rtt_init_ripas range_checks rtt_set_ripas ripas_request_checks psci_complete request_checks
ordered (Version requested) m = refl
ordered (Features index) m = refl
ordered (GranuleDelegate address) m = refl
ordered (GranuleUndelegate address) m = refl
ordered (RealmCreate rd params) m = refl
ordered (RealmActivate rd) m = refl
ordered (RealmDestroy rd) m = refl
ordered (RecAuxCount rd) m = refl
ordered (RecCreate rd rec params) m = refl
ordered (RecDestroy rec) m = refl
ordered (RecEnter rec run) m = refl
ordered (RttCreate rd rtt ipa level) m = refl
ordered (RttDestroy rd ipa level) m = refl
ordered (RttFold rd ipa level) m = refl
ordered (RttReadEntry rd ipa level) m = refl
ordered (RttMapUnprotected rd ipa level descriptor) m = refl
ordered (RttUnmapUnprotected rd ipa level) m = refl
ordered (DataCreate rd page ipa source flags) m = refl
ordered (DataCreateUnknown rd page ipa) m = refl
ordered (DataDestroy rd ipa) m = refl
ordered (RttInitRipas rd base top) m = refl
ordered (RttSetRipas rd rec base top) m = refl
ordered (PsciComplete calling target status) m = refl
