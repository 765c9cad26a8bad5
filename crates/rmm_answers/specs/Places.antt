-- The conditions on this crate's constant tables: the names of constants, outputs, page fields and guest steps, the
-- offsets of fields, and the notations of operands.
use Rattle.std.specs.Prelude.{ℕ, ◌+◌, ◌==◌, Bool, true, false, not, ◌&&◌, ◌||◌, List, [], ◌∷◌, codes, slice_index_or}
use Rattle.std.specs.List.{list_all}
use Rattle.std.specs.Str.{bytes_eq}
use Rattle.rmm_trace.specs.Names.{names, nth_text}
use Rattle.rmm_answers.specs.declared.guest.TheConstants.{STEPS}
use Rattle.rmm_answers.specs.declared.naming.OperandForm.{OperandForm}
use Rattle.rmm_answers.specs.declared.naming.OperandForm.TheVariants.{Absent, Decimal, Hexadecimal, Psci}
use Rattle.rmm_answers.specs.declared.naming.TheConstants.{OPERANDS, NO_OPERANDS}
use Rattle.rmm_answers.specs.declared.outputs.TheConstants.{OUTPUTS}
use Rattle.rmm_answers.specs.declared.page.TheConstants.{REALM_FIELDS, REC_FIELDS, RUN_FIELDS}
use Rattle.rmm_answers.specs.declared.place.TheConstants.{DONE, FAULT, QUEUED, FULL, NO, NOT, IS_RUNNING, NOTHING, COMMAND, REC_STATE, UNDELEGATED, DELEGATED, RD_STATE, REC_AUX, DATA_STATE, RTT_STATE, NEW, ACTIVE, IS_SYSTEM_OFF, READY}
use Rattle.rmm_answers.specs.declared.place.TheConstants.{LOWER, HIGHER, VALUE, DESC, TOP, DATA, RTT, ESR, FAR, HPFAR, IMM, BASE, TABLES, NEXT, RECS, RD, OFF, PENDING, GPR0, SEA, ACCEPTED, REJECTED, RETURNED, PSCI_RESULT, RSI_ERROR_INPUT}

unfoldable pub answer_places : List (ℕ × List ℕ)
answer_places =
    (DONE, codes "done") ∷ (FAULT, codes "fault") ∷ (QUEUED, codes "queued") ∷ (FULL, codes "full") ∷ (NO, codes "no") ∷ (NOT, codes "not") ∷
    (IS_RUNNING, codes "running") ∷ (NOTHING, codes "nothing") ∷ (COMMAND, codes "command") ∷ (REC_STATE, codes "REC") ∷
    (UNDELEGATED, codes "UNDELEGATED") ∷ (DELEGATED, codes "DELEGATED") ∷ (RD_STATE, codes "RD") ∷ (REC_AUX, codes "REC_AUX") ∷
    (DATA_STATE, codes "DATA") ∷ (RTT_STATE, codes "RTT") ∷ (NEW, codes "NEW") ∷ (ACTIVE, codes "ACTIVE") ∷ (IS_SYSTEM_OFF, codes "SYSTEM_OFF") ∷
    (READY, codes "READY") ∷ (LOWER, codes "lower") ∷ (HIGHER, codes "higher") ∷ (VALUE, codes "value") ∷ (DESC, codes "desc") ∷
    (TOP, codes "top") ∷ (DATA, codes "data") ∷ (RTT, codes "rtt") ∷ (ESR, codes "esr") ∷ (FAR, codes "far") ∷ (HPFAR, codes "hpfar") ∷
    (IMM, codes "imm") ∷ (BASE, codes "base") ∷ (TABLES, codes "tables") ∷ (NEXT, codes "next") ∷ (RECS, codes "recs") ∷ (RD, codes "rd") ∷
    (OFF, codes "off") ∷ (PENDING, codes "pending") ∷ (GPR0, codes "gpr0") ∷ (SEA, codes "sea") ∷ (ACCEPTED, codes "accepted") ∷
    (REJECTED, codes "rejected") ∷ (RETURNED, codes "returned") ∷ (PSCI_RESULT, codes "psci") ∷ (RSI_ERROR_INPUT, codes "rsi_error_input") ∷ []

unfoldable pub has_name : ℕ → List ℕ → Bool
has_name place text = bytes_eq (nth_text place names) text

-- the table of names has each name of `answer_places` at its index
unfoldable pub are_answer_places_named : Bool
are_answer_places_named = list_all (λ it. has_name it.0 it.1) answer_places

-- ---- operands. RMM 1.0, RMI commands: inputs

-- each command, with the names of its inputs
unfoldable pub command_inputs : List (List ℕ × List (List ℕ))
command_inputs =
    (codes "rmi_version", codes "req" ∷ []) ∷ (codes "rmi_features", codes "index" ∷ []) ∷
    (codes "rmi_granule_delegate", codes "addr" ∷ []) ∷ (codes "rmi_granule_undelegate", codes "addr" ∷ []) ∷
    (codes "rmi_realm_create", codes "rd" ∷ codes "params_ptr" ∷ []) ∷ (codes "rmi_realm_activate", codes "rd" ∷ []) ∷
    (codes "rmi_realm_destroy", codes "rd" ∷ []) ∷ (codes "rmi_rec_create", codes "rd" ∷ codes "rec" ∷ codes "params_ptr" ∷ []) ∷
    (codes "rmi_rec_destroy", codes "rec" ∷ []) ∷ (codes "rmi_rec_enter", codes "rec" ∷ codes "run_ptr" ∷ []) ∷
    (codes "rmi_rec_aux_count", codes "rd" ∷ []) ∷ (codes "rmi_rtt_create", codes "rd" ∷ codes "rtt" ∷ codes "ipa" ∷ codes "level" ∷ []) ∷
    (codes "rmi_rtt_destroy", codes "rd" ∷ codes "ipa" ∷ codes "level" ∷ []) ∷ (codes "rmi_rtt_fold", codes "rd" ∷ codes "ipa" ∷ codes "level" ∷ []) ∷
    (codes "rmi_rtt_init_ripas", codes "rd" ∷ codes "base" ∷ codes "top" ∷ []) ∷
    (codes "rmi_rtt_set_ripas", codes "rd" ∷ codes "rec" ∷ codes "base" ∷ codes "top" ∷ []) ∷
    (codes "rmi_rtt_read_entry", codes "rd" ∷ codes "ipa" ∷ codes "level" ∷ []) ∷
    (codes "rmi_rtt_map_unprotected", codes "rd" ∷ codes "ipa" ∷ codes "level" ∷ codes "desc" ∷ []) ∷
    (codes "rmi_rtt_unmap_unprotected", codes "rd" ∷ codes "ipa" ∷ codes "level" ∷ []) ∷
    (codes "rmi_data_create", codes "rd" ∷ codes "data" ∷ codes "ipa" ∷ codes "src" ∷ codes "flags" ∷ []) ∷
    (codes "rmi_data_create_unknown", codes "rd" ∷ codes "data" ∷ codes "ipa" ∷ []) ∷
    (codes "rmi_data_destroy", codes "rd" ∷ codes "ipa" ∷ []) ∷
    (codes "rmi_psci_complete", codes "calling_rec" ∷ codes "target_rec" ∷ codes "status" ∷ []) ∷ []

-- The notation is the one for an input of this name: decimal for a level or an index, PSCI for a status, and
-- hexadecimal for any other input.
unfoldable pub is_form_of : List ℕ → OperandForm → Bool
is_form_of input Absent = false
is_form_of input Decimal = bytes_eq input (codes "level") || bytes_eq input (codes "index")
is_form_of input Hexadecimal = not (bytes_eq input (codes "level") || bytes_eq input (codes "index") || bytes_eq input (codes "status"))
is_form_of input Psci = bytes_eq input (codes "status")

unfoldable pub is_no_operand : OperandForm → Bool
is_no_operand Absent = true
is_no_operand _ = false

-- the first notations satisfy `is_form_of` for these inputs, in sequence, and the rest are `Absent`
unfoldable pub are_forms : List (List ℕ) → List OperandForm → Bool
are_forms [] forms = list_all is_no_operand forms
are_forms (input ∷ inputs) [] = false
are_forms (input ∷ inputs) (form ∷ forms) = is_form_of input form && are_forms inputs forms

-- the table of names has the listed commands from the given index to 22, and `OPERANDS` has the notations of their
-- inputs
unfoldable pub are_operands : ℕ → List (List ℕ × List (List ℕ)) → Bool
are_operands place [] = place == 23
are_operands place (row ∷ rows) = has_name place row.0 && are_forms row.1 (slice_index_or OPERANDS place NO_OPERANDS) && are_operands (place + 1) rows

unfoldable pub are_operands_named : Bool
are_operands_named = are_operands 0 command_inputs

-- ---- outputs. RMM 1.0, RMI commands: outputs

-- each command, with the names of its outputs
unfoldable pub command_outputs : List (List ℕ × List (List ℕ))
command_outputs =
    (codes "rmi_version", codes "lower" ∷ codes "higher" ∷ []) ∷ (codes "rmi_features", codes "value" ∷ []) ∷
    (codes "rmi_granule_delegate", []) ∷ (codes "rmi_granule_undelegate", []) ∷ (codes "rmi_realm_create", []) ∷
    (codes "rmi_realm_activate", []) ∷ (codes "rmi_realm_destroy", []) ∷ (codes "rmi_rec_create", []) ∷ (codes "rmi_rec_destroy", []) ∷
    (codes "rmi_rec_enter", []) ∷ (codes "rmi_rec_aux_count", codes "count" ∷ []) ∷ (codes "rmi_rtt_create", []) ∷
    (codes "rmi_rtt_destroy", codes "rtt" ∷ codes "top" ∷ []) ∷ (codes "rmi_rtt_fold", codes "rtt" ∷ []) ∷
    (codes "rmi_rtt_init_ripas", codes "top" ∷ []) ∷ (codes "rmi_rtt_set_ripas", codes "top" ∷ []) ∷
    (codes "rmi_rtt_read_entry", codes "level" ∷ codes "state" ∷ codes "desc" ∷ codes "ripas" ∷ []) ∷ (codes "rmi_rtt_map_unprotected", []) ∷
    (codes "rmi_rtt_unmap_unprotected", codes "top" ∷ []) ∷ (codes "rmi_data_create", []) ∷ (codes "rmi_data_create_unknown", []) ∷
    (codes "rmi_data_destroy", codes "data" ∷ codes "top" ∷ []) ∷ (codes "rmi_psci_complete", []) ∷ []

-- the list begins with the indices of these names in the table of names, and all its other entries are 0
unfoldable pub are_named : List (List ℕ) → List ℕ → Bool
are_named [] [] = true
are_named [] (place ∷ places) = place == 0 && are_named [] places
are_named (text ∷ texts) [] = false
are_named (text ∷ texts) (place ∷ places) = has_name place text && are_named texts places

-- the table of names has the listed commands from the given index to 22, and `OUTPUTS` has the names of their outputs
unfoldable pub are_outputs : ℕ → List (List ℕ × List (List ℕ)) → Bool
are_outputs place [] = place == 23
are_outputs place (row ∷ rows) = has_name place row.0 && are_named row.1 (slice_index_or OUTPUTS place []) && are_outputs (place + 1) rows

unfoldable pub are_outputs_named : Bool
are_outputs_named = are_outputs 0 command_outputs

-- ---- parameter pages. RMM 1.0, RmiRealmParams, RmiRecParams and RmiRecEnter

-- the fields of RmiRealmParams, each with its name and its offset
unfoldable pub realm_fields : List (List ℕ × ℕ)
realm_fields =
    (codes "flags", 0x0) ∷ (codes "s2sz", 0x8) ∷ (codes "sve_vl", 0x10) ∷ (codes "num_bps", 0x18) ∷ (codes "num_wps", 0x20) ∷
    (codes "pmu_num_ctrs", 0x28) ∷ (codes "hash_algo", 0x30) ∷ (codes "rpv", 0x400) ∷ (codes "vmid", 0x800) ∷ (codes "rtt_base", 0x808) ∷
    (codes "rtt_level_start", 0x810) ∷ (codes "rtt_num_start", 0x818) ∷ []

unfoldable pub rec_fields : List (List ℕ × ℕ)
rec_fields = (codes "flags", 0x0) ∷ (codes "mpidr", 0x100) ∷ (codes "pc", 0x200) ∷ (codes "gprs", 0x300) ∷ (codes "aux", 0x808) ∷ []

unfoldable pub run_fields : List (List ℕ × ℕ)
run_fields = (codes "flags", 0x0) ∷ (codes "gprs", 0x200) ∷ (codes "gicv3_hcr", 0x300) ∷ (codes "gicv3_lrs", 0x308) ∷ []

-- the fields have these names and offsets
unfoldable pub are_fields : List (List ℕ × ℕ) → List (ℕ × ℕ) → Bool
are_fields [] [] = true
are_fields (row ∷ rows) (field ∷ fields) = has_name field.0 row.0 && (field.1 == row.1) && are_fields rows fields
are_fields _ _ = false

unfoldable pub are_fields_named : Bool
are_fields_named = are_fields realm_fields REALM_FIELDS && are_fields rec_fields REC_FIELDS && are_fields run_fields RUN_FIELDS

-- ---- steps of guests, by the numbers of their kinds

-- the names of the kinds of guest steps, in the sequence of the kinds' numbers
unfoldable pub step_names : List (List ℕ)
step_names =
    codes "write" ∷ codes "read" ∷ codes "host_call" ∷ codes "set_ripas" ∷ codes "cpu_on" ∷ codes "affinity_info" ∷ codes "cpu_off" ∷
    codes "cpu_suspend" ∷ codes "system_off" ∷ codes "system_reset" ∷ codes "wfi" ∷ codes "wfe" ∷ codes "spin" ∷ codes "fetch" ∷ codes "sysreg" ∷ []

unfoldable pub are_steps_named : Bool
are_steps_named = are_named step_names STEPS
