-- The registers and the machine after an SMC call, which is an RMI call if X0 has the function identifier of a command.
-- RMM 1.0, RMI commands.
use Rattle.std.specs.Prelude.{Option, Some, None}
use Rattle.rmi_abi.specs.declared.call.Call.{Call}
use Rattle.rmi_abi.specs.declared.call.Call.TheVariants.{Version, GranuleDelegate, GranuleUndelegate, DataCreateUnknown, DataDestroy, RealmActivate, RealmCreate, RealmDestroy, RecCreate, RecDestroy, RecEnter, PsciComplete, RttCreate, RttDestroy, RttMapUnprotected, RttReadEntry, RttUnmapUnprotected, Features, RttFold, RecAuxCount, DataCreate, RttInitRipas, RttSetRipas}
use Rattle.rmi_abi.specs.declared.registers.SmcResult.{SmcResult}
use Rattle.rmi_abi.specs.declared.registers.Registers.{Registers}
use Rattle.rmi_abi.specs.Answer.{with_answer, not_supported}
use Rattle.rmi_abi.specs.Call.{call_in}
use Rattle.rmm_model.specs.Check.{Command, outcome}
use Rattle.rmm_model.specs.Machine.{Machine}
use Rattle.rmm_model.specs.Command.DataCreate.{data_create}
use Rattle.rmm_model.specs.Command.DataCreateUnknown.{data_create_unknown}
use Rattle.rmm_model.specs.Command.DataDestroy.{data_destroy}
use Rattle.rmm_model.specs.Command.Features.{features}
use Rattle.rmm_model.specs.Command.GranuleDelegate.{granule_delegate}
use Rattle.rmm_model.specs.Command.GranuleUndelegate.{granule_undelegate}
use Rattle.rmm_model.specs.Command.RealmActivate.{realm_activate}
use Rattle.rmm_model.specs.Command.RealmCreate.{realm_create}
use Rattle.rmm_model.specs.Command.RealmDestroy.{realm_destroy}
use Rattle.rmm_model.specs.Command.PsciComplete.{psci_complete}
use Rattle.rmm_model.specs.Command.RecAuxCount.{rec_aux_count}
use Rattle.rmm_model.specs.Command.RecCreate.{rec_create}
use Rattle.rmm_model.specs.Command.RecDestroy.{rec_destroy}
use Rattle.rmm_model.specs.Command.RecEnter.{rec_enter}
use Rattle.rmm_model.specs.Command.RttCreate.{rtt_create}
use Rattle.rmm_model.specs.Command.RttDestroy.{rtt_destroy}
use Rattle.rmm_model.specs.Command.RttFold.{rtt_fold}
use Rattle.rmm_model.specs.Command.RttInitRipas.{rtt_init_ripas}
use Rattle.rmm_model.specs.Command.RttMapUnprotected.{rtt_map_unprotected}
use Rattle.rmm_model.specs.Command.RttReadEntry.{rtt_read_entry}
use Rattle.rmm_model.specs.Command.RttSetRipas.{rtt_set_ripas}
use Rattle.rmm_model.specs.Command.RttUnmapUnprotected.{rtt_unmap_unprotected}
use Rattle.rmm_model.specs.Command.Version.{version}

-- The command that an RMI call gives the RMM: its checks, its answer, and its effect on the machine.
abbrev pub command_of : Call → Machine → Command
command_of (Version requested) m = version requested m
command_of (Features index) m = features index m
command_of (GranuleDelegate address) m = granule_delegate address m
command_of (GranuleUndelegate address) m = granule_undelegate address m
command_of (RealmCreate rd params) m = realm_create rd params m
command_of (RealmActivate rd) m = realm_activate rd m
command_of (RecAuxCount rd) m = rec_aux_count rd m
command_of (RttReadEntry rd ipa level) m = rtt_read_entry rd ipa level m
command_of (RttCreate rd rtt ipa level) m = rtt_create rd rtt ipa level m
command_of (RttDestroy rd ipa level) m = rtt_destroy rd ipa level m
command_of (RealmDestroy rd) m = realm_destroy rd m
command_of (RttFold rd ipa level) m = rtt_fold rd ipa level m
command_of (RttMapUnprotected rd ipa level descriptor) m = rtt_map_unprotected rd ipa level descriptor m
command_of (RttUnmapUnprotected rd ipa level) m = rtt_unmap_unprotected rd ipa level m
command_of (DataCreate rd page ipa source flags) m = data_create rd page ipa source flags m
command_of (DataCreateUnknown rd page ipa) m = data_create_unknown rd page ipa m
command_of (DataDestroy rd ipa) m = data_destroy rd ipa m
command_of (RttInitRipas rd base top) m = rtt_init_ripas rd base top m
command_of (RttSetRipas rd rec base top) m = rtt_set_ripas rd rec base top m
command_of (RecCreate rd rec params) m = rec_create rd rec params m
command_of (RecDestroy rec) m = rec_destroy rec m
command_of (RecEnter rec run) m = rec_enter rec run m
command_of (PsciComplete calling target status) m = psci_complete calling target status m

-- the answer to an RMI call, and the machine after the call
unfoldable pub performed : Call → Machine → SmcResult × Machine
performed call m = outcome (command_of call m) m

abbrev pub rmi_at : Option Call → Registers → Machine → Registers × Machine
rmi_at (Some call) r m = (with_answer r (performed call m).0, (performed call m).1)
rmi_at None r m = (not_supported r, m)

-- The registers and the machine after an SMC call.
unfoldable pub rmi : Registers → Machine → Registers × Machine
rmi r m = rmi_at (call_in r) r m
