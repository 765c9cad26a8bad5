-- The condition that each name constant of the grammar is the index of its name in the table of names.
use Rattle.std.specs.Prelude.{ℕ, Bool, List, [], ◌∷◌, codes}
use Rattle.std.specs.List.{list_all}
use Rattle.std.specs.Str.{bytes_eq}
use Rattle.rmm_trace.specs.declared.place.TheConstants.{RMI_VERSION, RMI_FEATURES, RMI_GRANULE_DELEGATE, RMI_GRANULE_UNDELEGATE, RMI_REALM_CREATE, RMI_REALM_ACTIVATE, RMI_REALM_DESTROY, RMI_REC_CREATE, RMI_REC_DESTROY, RMI_REC_ENTER, RMI_REC_AUX_COUNT, RMI_RTT_CREATE}
use Rattle.rmm_trace.specs.declared.place.TheConstants.{RMI_RTT_DESTROY, RMI_RTT_FOLD, RMI_RTT_INIT_RIPAS, RMI_RTT_SET_RIPAS, RMI_RTT_READ_ENTRY, RMI_RTT_MAP_UNPROTECTED, RMI_RTT_UNMAP_UNPROTECTED, RMI_DATA_CREATE, RMI_DATA_CREATE_UNKNOWN, RMI_DATA_DESTROY, RMI_PSCI_COMPLETE, PLATFORM}
use Rattle.rmm_trace.specs.declared.place.TheConstants.{REPEAT, SMC, STORE, LOAD, FILL, REALM_PARAMS, REC_PARAMS, REC_RUN, GUEST, INTERRUPT, STATE, SUM}
use Rattle.rmm_trace.specs.declared.place.TheConstants.{REALM, RIM, REC, SAW, WRITE, READ, FETCH, HOST_CALL, SET_RIPAS, CPU_ON, AFFINITY_INFO, CPU_OFF}
use Rattle.rmm_trace.specs.declared.place.TheConstants.{CPU_SUSPEND, SYSTEM_OFF, SYSTEM_RESET, WFI, WFE, SYSREG, SPIN, AUX, VMID_BITS, S2SZ, MAX_RECS_ORDER, LAYOUT}
use Rattle.rmm_trace.specs.declared.place.TheConstants.{INIT_DESTROYED, MEASURE_REC, DATA_FLAGS, LIVE_TOP, PSCI_ARGS, BLOCK_LEVEL, DESC_SH, DATA_RIPAS, PARAMS, GIC, BPS, WPS}
use Rattle.rmm_trace.specs.declared.place.TheConstants.{LRS, SECURE, REL0, CHANGE, RUNNABLE, ALL, NONE, CHECKED, GIVEN, ZERO, LOOSE, FLAGS}
use Rattle.rmm_trace.specs.declared.place.TheConstants.{SVE_VL, NUM_BPS, NUM_WPS, PMU_NUM_CTRS, HASH_ALGO, RPV, VMID, RTT_BASE, RTT_LEVEL_START, RTT_NUM_START, MPIDR, PC}
use Rattle.rmm_trace.specs.declared.place.TheConstants.{GPRS, GICV3_HCR, GICV3_LRS, ANY_RIPAS, DESTROYED_STEP, PSCI_SUCCESS, PSCI_DENIED, EMPTY, UNASSIGNED, SYNC, RMI_SUCCESS, DASH}
use Rattle.rmm_trace.specs.declared.place.TheConstants.{FIRST_CHECK, LEVEL, COUNT, RIPAS_OUTPUT, EXIT, RUNNING, AFTER, CHECK_VERSION, CHECK_FLAGS_VALID, CHECK_RTTE_RIPAS, CHECK_AUX_BOUND, CHECK_PARAMS_VALID}
use Rattle.rmm_trace.specs.declared.place.TheConstants.{CHECK_NUM_RECS, CHECK_DESC_BOUND, CHECK_RTT_HOMO, CHECK_RTT_BLOCK, CHECK_SIZE, CHECK_BASE_GRAN_ALIGN, CHECK_BASE_BOUND, CHECK_TOP_GRAN_ALIGN, CHECK_NO_PROGRESS, CHECK_BASE_ALIGN, CHECK_RTTE_STATE, CHECK_STATUS}
use Rattle.rmm_trace.specs.Names.{names, nth_text}

unfoldable pub named_places : List (ℕ × List ℕ)
named_places =
    (RMI_VERSION, codes "rmi_version") ∷ (RMI_FEATURES, codes "rmi_features") ∷ (RMI_GRANULE_DELEGATE, codes "rmi_granule_delegate") ∷
    (RMI_GRANULE_UNDELEGATE, codes "rmi_granule_undelegate") ∷ (RMI_REALM_CREATE, codes "rmi_realm_create") ∷
    (RMI_REALM_ACTIVATE, codes "rmi_realm_activate") ∷ (RMI_REALM_DESTROY, codes "rmi_realm_destroy") ∷ (RMI_REC_CREATE, codes "rmi_rec_create") ∷
    (RMI_REC_DESTROY, codes "rmi_rec_destroy") ∷ (RMI_REC_ENTER, codes "rmi_rec_enter") ∷ (RMI_REC_AUX_COUNT, codes "rmi_rec_aux_count") ∷
    (RMI_RTT_CREATE, codes "rmi_rtt_create") ∷ (RMI_RTT_DESTROY, codes "rmi_rtt_destroy") ∷ (RMI_RTT_FOLD, codes "rmi_rtt_fold") ∷
    (RMI_RTT_INIT_RIPAS, codes "rmi_rtt_init_ripas") ∷ (RMI_RTT_SET_RIPAS, codes "rmi_rtt_set_ripas") ∷
    (RMI_RTT_READ_ENTRY, codes "rmi_rtt_read_entry") ∷ (RMI_RTT_MAP_UNPROTECTED, codes "rmi_rtt_map_unprotected") ∷
    (RMI_RTT_UNMAP_UNPROTECTED, codes "rmi_rtt_unmap_unprotected") ∷ (RMI_DATA_CREATE, codes "rmi_data_create") ∷
    (RMI_DATA_CREATE_UNKNOWN, codes "rmi_data_create_unknown") ∷ (RMI_DATA_DESTROY, codes "rmi_data_destroy") ∷
    (RMI_PSCI_COMPLETE, codes "rmi_psci_complete") ∷ (PLATFORM, codes "platform") ∷ (REPEAT, codes "repeat") ∷ (SMC, codes "smc") ∷
    (STORE, codes "store") ∷ (LOAD, codes "load") ∷ (FILL, codes "fill") ∷ (REALM_PARAMS, codes "realm_params") ∷ (REC_PARAMS, codes "rec_params") ∷
    (REC_RUN, codes "rec_run") ∷ (GUEST, codes "guest") ∷ (INTERRUPT, codes "interrupt") ∷ (STATE, codes "state") ∷ (SUM, codes "sum") ∷
    (REALM, codes "realm") ∷ (RIM, codes "rim") ∷ (REC, codes "rec") ∷ (SAW, codes "saw") ∷ (WRITE, codes "write") ∷ (READ, codes "read") ∷
    (FETCH, codes "fetch") ∷ (HOST_CALL, codes "host_call") ∷ (SET_RIPAS, codes "set_ripas") ∷ (CPU_ON, codes "cpu_on") ∷
    (AFFINITY_INFO, codes "affinity_info") ∷ (CPU_OFF, codes "cpu_off") ∷ (CPU_SUSPEND, codes "cpu_suspend") ∷ (SYSTEM_OFF, codes "system_off") ∷
    (SYSTEM_RESET, codes "system_reset") ∷ (WFI, codes "wfi") ∷ (WFE, codes "wfe") ∷ (SYSREG, codes "sysreg") ∷ (SPIN, codes "spin") ∷
    (AUX, codes "aux") ∷ (VMID_BITS, codes "vmid_bits") ∷ (S2SZ, codes "s2sz") ∷ (MAX_RECS_ORDER, codes "max_recs_order") ∷
    (LAYOUT, codes "layout") ∷ (INIT_DESTROYED, codes "init_destroyed") ∷ (MEASURE_REC, codes "measure_rec") ∷ (DATA_FLAGS, codes "data_flags") ∷
    (LIVE_TOP, codes "live_top") ∷ (PSCI_ARGS, codes "psci_args") ∷ (BLOCK_LEVEL, codes "block_level") ∷ (DESC_SH, codes "desc_sh") ∷
    (DATA_RIPAS, codes "data_ripas") ∷ (PARAMS, codes "params") ∷ (GIC, codes "gic") ∷ (BPS, codes "bps") ∷ (WPS, codes "wps") ∷ (LRS, codes "lrs") ∷
    (SECURE, codes "secure") ∷ (REL0, codes "rel0") ∷ (CHANGE, codes "change") ∷ (RUNNABLE, codes "runnable") ∷ (ALL, codes "all") ∷
    (NONE, codes "none") ∷ (CHECKED, codes "checked") ∷ (GIVEN, codes "given") ∷ (ZERO, codes "zero") ∷ (LOOSE, codes "loose") ∷
    (FLAGS, codes "flags") ∷ (SVE_VL, codes "sve_vl") ∷ (NUM_BPS, codes "num_bps") ∷ (NUM_WPS, codes "num_wps") ∷
    (PMU_NUM_CTRS, codes "pmu_num_ctrs") ∷ (HASH_ALGO, codes "hash_algo") ∷ (RPV, codes "rpv") ∷ (VMID, codes "vmid") ∷
    (RTT_BASE, codes "rtt_base") ∷ (RTT_LEVEL_START, codes "rtt_level_start") ∷ (RTT_NUM_START, codes "rtt_num_start") ∷ (MPIDR, codes "mpidr") ∷
    (PC, codes "pc") ∷ (GPRS, codes "gprs") ∷ (GICV3_HCR, codes "gicv3_hcr") ∷ (GICV3_LRS, codes "gicv3_lrs") ∷ (ANY_RIPAS, codes "any") ∷
    (DESTROYED_STEP, codes "destroyed") ∷ (PSCI_SUCCESS, codes "PSCI_SUCCESS") ∷ (PSCI_DENIED, codes "PSCI_DENIED") ∷ (EMPTY, codes "EMPTY") ∷
    (UNASSIGNED, codes "UNASSIGNED") ∷ (SYNC, codes "SYNC") ∷ (RMI_SUCCESS, codes "RMI_SUCCESS") ∷ (DASH, codes "-") ∷
    (FIRST_CHECK, codes "(version)") ∷ (LEVEL, codes "level") ∷ (COUNT, codes "count") ∷ (RIPAS_OUTPUT, codes "ripas") ∷ (EXIT, codes "exit") ∷
    (RUNNING, codes "RUNNING") ∷ (AFTER, codes "after") ∷ (CHECK_VERSION, codes "(version)") ∷ (CHECK_FLAGS_VALID, codes "(flags_valid)") ∷
    (CHECK_RTTE_RIPAS, codes "(rtte_ripas)") ∷ (CHECK_AUX_BOUND, codes "(aux_bound)") ∷ (CHECK_PARAMS_VALID, codes "(params_valid)") ∷
    (CHECK_NUM_RECS, codes "(num_recs)") ∷ (CHECK_DESC_BOUND, codes "(desc_bound)") ∷ (CHECK_RTT_HOMO, codes "(rtt_homo)") ∷
    (CHECK_RTT_BLOCK, codes "(rtt_block)") ∷ (CHECK_SIZE, codes "(size)") ∷ (CHECK_BASE_GRAN_ALIGN, codes "(base_gran_align)") ∷
    (CHECK_BASE_BOUND, codes "(base_bound)") ∷ (CHECK_TOP_GRAN_ALIGN, codes "(top_gran_align)") ∷ (CHECK_NO_PROGRESS, codes "(no_progress)") ∷
    (CHECK_BASE_ALIGN, codes "(base_align)") ∷ (CHECK_RTTE_STATE, codes "(rtte_state)") ∷ (CHECK_STATUS, codes "(status)") ∷ []

-- each constant is the index of its name in the table of names
unfoldable pub are_places_named : Bool
are_places_named = list_all (λ it. bytes_eq (nth_text it.0 names) it.1) named_places
