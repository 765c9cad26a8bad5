-- The table of names, which are the words in traces that are not numbers.
use Rattle.std.specs.Prelude.{ℕ, zero, suc, List, [], ◌∷◌, ◌++◌, codes}

-- the text at an index, or the empty text past the end
abbrev pub nth_text : ℕ → List (List ℕ) → List ℕ
nth_text place [] = []
nth_text zero (text ∷ texts) = text
nth_text (suc place) (text ∷ texts) = nth_text place texts

unfoldable pub commands : List (List ℕ)
commands =
    codes "rmi_version" ∷ codes "rmi_features" ∷ codes "rmi_granule_delegate" ∷ codes "rmi_granule_undelegate" ∷ codes "rmi_realm_create" ∷
    codes "rmi_realm_activate" ∷ codes "rmi_realm_destroy" ∷ codes "rmi_rec_create" ∷ codes "rmi_rec_destroy" ∷ codes "rmi_rec_enter" ∷
    codes "rmi_rec_aux_count" ∷ codes "rmi_rtt_create" ∷ codes "rmi_rtt_destroy" ∷ codes "rmi_rtt_fold" ∷ codes "rmi_rtt_init_ripas" ∷
    codes "rmi_rtt_set_ripas" ∷ codes "rmi_rtt_read_entry" ∷ codes "rmi_rtt_map_unprotected" ∷ codes "rmi_rtt_unmap_unprotected" ∷
    codes "rmi_data_create" ∷ codes "rmi_data_create_unknown" ∷ codes "rmi_data_destroy" ∷ codes "rmi_psci_complete" ∷ []

unfoldable pub other_questions : List (List ℕ)
other_questions =
    codes "platform" ∷ codes "repeat" ∷ codes "smc" ∷ codes "store" ∷ codes "load" ∷ codes "fill" ∷ codes "realm_params" ∷ codes "rec_params" ∷
    codes "rec_run" ∷ codes "guest" ∷ codes "interrupt" ∷ codes "state" ∷ codes "sum" ∷ codes "realm" ∷ codes "rim" ∷ codes "rec" ∷ codes "saw" ∷ []

unfoldable pub steps_of_a_guest : List (List ℕ)
steps_of_a_guest =
    codes "write" ∷ codes "read" ∷ codes "fetch" ∷ codes "host_call" ∷ codes "set_ripas" ∷ codes "destroyed" ∷ codes "cpu_on" ∷
    codes "affinity_info" ∷ codes "cpu_off" ∷ codes "cpu_suspend" ∷ codes "system_off" ∷ codes "system_reset" ∷ codes "wfi" ∷ codes "wfe" ∷
    codes "sysreg" ∷ codes "spin" ∷ []

unfoldable pub settings_and_their_values : List (List ℕ)
settings_and_their_values =
    codes "aux" ∷ codes "vmid_bits" ∷ codes "s2sz" ∷ codes "max_recs_order" ∷ codes "layout" ∷ codes "init_destroyed" ∷ codes "measure_rec" ∷
    codes "data_flags" ∷ codes "live_top" ∷ codes "psci_args" ∷ codes "block_level" ∷ codes "desc_sh" ∷ codes "data_ripas" ∷ codes "params" ∷
    codes "gic" ∷ codes "bps" ∷ codes "wps" ∷ codes "lrs" ∷ codes "secure" ∷ codes "rel0" ∷ codes "eac5" ∷ codes "change" ∷ codes "stop" ∷
    codes "runnable" ∷ codes "all" ∷ codes "target" ∷ codes "none" ∷ codes "checked" ∷ codes "ignored" ∷ codes "given" ∷ codes "aligned" ∷
    codes "zero" ∷ codes "any" ∷ codes "ram" ∷ codes "loose" ∷ codes "strict" ∷ []

unfoldable pub fields_of_parameter_pages : List (List ℕ)
fields_of_parameter_pages =
    codes "flags" ∷ codes "sve_vl" ∷ codes "num_bps" ∷ codes "num_wps" ∷ codes "pmu_num_ctrs" ∷ codes "hash_algo" ∷ codes "rpv" ∷ codes "vmid" ∷
    codes "rtt_base" ∷ codes "rtt_level_start" ∷ codes "rtt_num_start" ∷ codes "mpidr" ∷ codes "pc" ∷ codes "gprs" ∷ codes "gicv3_hcr" ∷
    codes "gicv3_lrs" ∷ []

unfoldable pub words_of_results : List (List ℕ)
words_of_results =
    codes "RMI_SUCCESS" ∷ codes "RMI_ERROR_INPUT" ∷ codes "RMI_ERROR_REALM" ∷ codes "RMI_ERROR_REC" ∷ codes "RMI_ERROR_RTT" ∷ codes "RUNNING" ∷
    codes "PSCI_SUCCESS" ∷ codes "PSCI_DENIED" ∷ codes "done" ∷ codes "fault" ∷ codes "queued" ∷ codes "full" ∷ codes "no" ∷ codes "not" ∷
    codes "running" ∷ codes "nothing" ∷ codes "command" ∷ codes "REC" ∷ codes "-" ∷ []

unfoldable pub states : List (List ℕ)
states =
    codes "UNDELEGATED" ∷ codes "DELEGATED" ∷ codes "RD" ∷ codes "REC_AUX" ∷ codes "DATA" ∷ codes "RTT" ∷ codes "NEW" ∷ codes "ACTIVE" ∷
    codes "SYSTEM_OFF" ∷ codes "READY" ∷ codes "UNASSIGNED" ∷ codes "ASSIGNED" ∷ codes "TABLE" ∷ codes "EMPTY" ∷ codes "RAM" ∷ codes "DESTROYED" ∷ []

unfoldable pub exit_reasons : List (List ℕ)
exit_reasons =
    codes "SYNC" ∷ codes "IRQ" ∷ codes "FIQ" ∷ codes "PSCI" ∷ codes "RIPAS_CHANGE" ∷ codes "HOST_CALL" ∷ codes "SERROR" ∷ []

unfoldable pub outputs : List (List ℕ)
outputs =
    codes "lower" ∷ codes "higher" ∷ codes "value" ∷ codes "level" ∷ codes "desc" ∷ codes "ripas" ∷ codes "top" ∷ codes "data" ∷ codes "rtt" ∷
    codes "count" ∷ codes "exit" ∷ codes "esr" ∷ codes "far" ∷ codes "hpfar" ∷ codes "imm" ∷ codes "base" ∷ codes "tables" ∷ codes "next" ∷
    codes "recs" ∷ codes "rd" ∷ codes "off" ∷ codes "pending" ∷ codes "gpr0" ∷ codes "after" ∷ []

unfoldable pub results_of_steps : List (List ℕ)
results_of_steps =
    codes "sea" ∷ codes "accepted" ∷ codes "rejected" ∷ codes "returned" ∷ codes "psci" ∷ codes "rsi_error_input" ∷ []

unfoldable pub checks : List (List ℕ)
checks =
    codes "(version)" ∷ codes "(gran_align)" ∷ codes "(gran_bound)" ∷ codes "(gran_state)" ∷ codes "(gran_gpt)" ∷ codes "(rd_align)" ∷
    codes "(rd_bound)" ∷ codes "(rd_state)" ∷ codes "(params_align)" ∷ codes "(params_bound)" ∷ codes "(params_pas)" ∷ codes "(params_valid)" ∷
    codes "(params_supp)" ∷ codes "(rtt_num_level)" ∷ codes "(rtt_align)" ∷ codes "(rtt_bound)" ∷ codes "(rtt_state)" ∷ codes "(alias)" ∷
    codes "(vmid_valid)" ∷ codes "(realm_state)" ∷ codes "(realm_live)" ∷ codes "(level_bound)" ∷ codes "(ipa_align)" ∷ codes "(ipa_bound)" ∷
    codes "(rtt_walk)" ∷ codes "(rtte_state)" ∷ codes "(rtt_live)" ∷ codes "(rtt_homo)" ∷ codes "(rtt_block)" ∷ codes "(desc_bound)" ∷
    codes "(data_align)" ∷ codes "(data_bound)" ∷ codes "(data_state)" ∷ codes "(src_align)" ∷ codes "(src_bound)" ∷ codes "(src_pas)" ∷
    codes "(flags_valid)" ∷ codes "(rtte_ripas)" ∷ codes "(size)" ∷ codes "(base_gran_align)" ∷ codes "(top_gran_align)" ∷ codes "(base_bound)" ∷
    codes "(top_bound)" ∷ codes "(base_align)" ∷ codes "(no_progress)" ∷ codes "(rec_align)" ∷ codes "(rec_bound)" ∷ codes "(rec_gran_state)" ∷
    codes "(num_aux)" ∷ codes "(aux_align)" ∷ codes "(aux_bound)" ∷ codes "(aux_alias)" ∷ codes "(aux_state)" ∷ codes "(mpidr_index)" ∷
    codes "(num_recs)" ∷ codes "(rec_state)" ∷ codes "(rec_owner)" ∷ codes "(run_align)" ∷ codes "(run_bound)" ∷ codes "(run_pas)" ∷
    codes "(realm_new)" ∷ codes "(system_off)" ∷ codes "(rec_runnable)" ∷ codes "(rec_mmio)" ∷ codes "(rec_psci)" ∷ codes "(rec_gicv3)" ∷
    codes "(calling_align)" ∷ codes "(calling_bound)" ∷ codes "(calling_state)" ∷ codes "(target_align)" ∷ codes "(target_bound)" ∷
    codes "(target_state)" ∷ codes "(pending)" ∷ codes "(owner)" ∷ codes "(target)" ∷ codes "(status)" ∷ []

unfoldable pub names : List (List ℕ)
names = commands ++ other_questions ++ steps_of_a_guest ++ settings_and_their_values ++ fields_of_parameter_pages ++ words_of_results ++ states ++ exit_reasons ++ outputs ++ results_of_steps ++ checks
