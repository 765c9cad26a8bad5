-- A proof that each call keeps the invariant `IsProper`, by which each granule has the role and the owner that its
-- state requires.
use Rattle.rmi_abi.specs.declared.call.Call.{Call}
use Rattle.rmi_abi.specs.declared.call.Call.TheVariants.{Version, GranuleDelegate, GranuleUndelegate, DataCreateUnknown, DataDestroy, RealmActivate, RealmCreate, RealmDestroy, RecCreate, RecDestroy, RecEnter, PsciComplete, RttCreate, RttDestroy, RttMapUnprotected, RttReadEntry, RttUnmapUnprotected, Features, RttFold, RecAuxCount, DataCreate, RttInitRipas, RttSetRipas}
use Rattle.rmm_model.specs.Call.{command_of}
use Rattle.rmm_model.specs.Machine.{Machine}
use Rattle.rmm_model.specs.Command.Features.{features}
use Rattle.rmm_model.specs.Command.RecAuxCount.{rec_aux_count}
use Rattle.rmm_model.specs.Command.RttReadEntry.{rtt_read_entry}
use Rattle.rmm_model.specs.Command.Version.{version}
use Rattle.rmm_laws.specs.Proper.{IsProper}
use Rattle.rmm_laws.proofs.Guests.{entered, completed}
use Rattle.rmm_laws.proofs.Mappings.{host_mapped, host_unmapped, ripas_inited, ripas_set, activated, data_made, unknown_made, data_gone}
use Rattle.rmm_laws.proofs.Passed.{Passed}
use Rattle.rmm_laws.proofs.Plain.{delegated, undelegated}
use Rattle.rmm_laws.proofs.RealmOrders.{realm_created, realm_destroyed}
use Rattle.rmm_laws.proofs.RecLives.{rec_created}
use Rattle.rmm_laws.proofs.RecsGone.{rec_destroyed}
use Rattle.rmm_laws.proofs.Ordering.{delegate_ordered, undelegate_ordered, activate_ordered, rtt_create_ordered, rtt_destroy_ordered, rtt_fold_ordered, map_ordered, unmap_ordered, init_ripas_ordered, set_ripas_ordered, data_create_ordered, data_create_unknown_ordered, data_destroy_ordered}
use Rattle.rmm_laws.proofs.Tables.{table_made, table_gone, table_folded}

-- a call that has passed its checks keeps `IsProper`
pub after : (call : Call) (m : Machine) → IsProper m → Passed (command_of call m).checks → IsProper (command_of call m).machine
unfolding version features rec_aux_count rtt_read_entry
after (Version requested) m proper ok = proper
after (Features index) m proper ok = proper
after (GranuleDelegate address) m proper ok = record { linked = delegated address m proper.linked ok; ordered = delegate_ordered address m proper ok }
after (GranuleUndelegate address) m proper ok = record { linked = undelegated address m proper.linked ok; ordered = undelegate_ordered address m proper ok }
after (RealmCreate rd params) m proper ok = realm_created rd params m proper ok
after (RealmActivate rd) m proper ok = record { linked = activated rd m proper.linked ok; ordered = activate_ordered rd m proper ok }
after (RecAuxCount rd) m proper ok = proper
after (RttReadEntry rd ipa level) m proper ok = proper
after (RttCreate rd rtt ipa level) m proper ok = record { linked = table_made rd rtt ipa level m proper.linked ok; ordered = rtt_create_ordered rd rtt ipa level m proper ok }
after (RttDestroy rd ipa level) m proper ok = record { linked = table_gone rd ipa level m proper.linked ok; ordered = rtt_destroy_ordered rd ipa level m proper ok }
after (RealmDestroy rd) m proper ok = realm_destroyed rd m proper ok
after (RttFold rd ipa level) m proper ok = record { linked = table_folded rd ipa level m proper.linked ok; ordered = rtt_fold_ordered rd ipa level m proper ok }
after (RttMapUnprotected rd ipa level descriptor) m proper ok =
    record { linked = host_mapped rd ipa level descriptor m proper.linked ok; ordered = map_ordered rd ipa level descriptor m proper ok }
after (RttUnmapUnprotected rd ipa level) m proper ok = record { linked = host_unmapped rd ipa level m proper.linked ok; ordered = unmap_ordered rd ipa level m proper ok }
after (DataCreate rd page ipa source flags) m proper ok =
    record { linked = data_made rd page ipa source flags m proper.linked ok; ordered = data_create_ordered rd page ipa source flags m proper ok }
after (DataCreateUnknown rd page ipa) m proper ok = record { linked = unknown_made rd page ipa m proper.linked ok; ordered = data_create_unknown_ordered rd page ipa m proper ok }
after (DataDestroy rd ipa) m proper ok = record { linked = data_gone rd ipa m proper.linked ok; ordered = data_destroy_ordered rd ipa m proper ok }
after (RttInitRipas rd base top) m proper ok = record { linked = ripas_inited rd base top m proper.linked ok; ordered = init_ripas_ordered rd base top m proper ok }
after (RttSetRipas rd rec base top) m proper ok = record { linked = ripas_set rd rec base top m proper.linked ok; ordered = set_ripas_ordered rd rec base top m proper ok }
after (RecCreate rd rec params) m proper ok = rec_created rd rec params m proper ok
after (RecDestroy rec) m proper ok = rec_destroyed rec m proper ok
after (RecEnter rec run) m proper ok = entered rec run m proper ok
after (PsciComplete calling target status) m proper ok = completed calling target status m proper ok
