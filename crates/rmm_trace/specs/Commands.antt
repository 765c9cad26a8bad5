-- The RMI commands, each with its name, its function identifier and its number of operands. RMM 1.0, RMI commands.
use Rattle.std.specs.Prelude.{ℕ, ◌+◌, ◌==◌, Bool, false, ◌&&◌, List, [], ◌∷◌, codes, slice_index, Option, Some, None}
use Rattle.std.specs.Str.{bytes_eq}
use Rattle.rmm_trace.specs.declared.access.TheConstants.{FUNCTIONS}
use Rattle.rmm_trace.specs.declared.grammar.Group.{Group}
use Rattle.rmm_trace.specs.declared.table.TheConstants.{GROUPS}
use Rattle.rmm_trace.specs.Grammar.{row_of}
use Rattle.rmm_trace.specs.Names.{names, nth_text}

-- the commands, each with its name, its function identifier and its number of operands
unfoldable pub command_rows : List (List ℕ × ℕ × ℕ)
command_rows =
    (codes "rmi_version", 0xC4000150, 1) ∷ (codes "rmi_features", 0xC4000165, 1) ∷
    (codes "rmi_granule_delegate", 0xC4000151, 1) ∷ (codes "rmi_granule_undelegate", 0xC4000152, 1) ∷
    (codes "rmi_realm_create", 0xC4000158, 2) ∷ (codes "rmi_realm_activate", 0xC4000157, 1) ∷ (codes "rmi_realm_destroy", 0xC4000159, 1) ∷
    (codes "rmi_rec_create", 0xC400015A, 3) ∷ (codes "rmi_rec_destroy", 0xC400015B, 1) ∷ (codes "rmi_rec_enter", 0xC400015C, 2) ∷
    (codes "rmi_rec_aux_count", 0xC4000167, 1) ∷
    (codes "rmi_rtt_create", 0xC400015D, 4) ∷ (codes "rmi_rtt_destroy", 0xC400015E, 3) ∷ (codes "rmi_rtt_fold", 0xC4000166, 3) ∷
    (codes "rmi_rtt_init_ripas", 0xC4000168, 3) ∷ (codes "rmi_rtt_set_ripas", 0xC4000169, 4) ∷ (codes "rmi_rtt_read_entry", 0xC4000161, 3) ∷
    (codes "rmi_rtt_map_unprotected", 0xC400015F, 4) ∷ (codes "rmi_rtt_unmap_unprotected", 0xC4000162, 3) ∷
    (codes "rmi_data_create", 0xC4000153, 5) ∷ (codes "rmi_data_create_unknown", 0xC4000154, 3) ∷ (codes "rmi_data_destroy", 0xC4000155, 2) ∷
    (codes "rmi_psci_complete", 0xC4000164, 3) ∷ []

-- the group has exactly `count` operands, and may be the last group before the ` = ` of a trace line
unfoldable pub has_operands : ℕ → Option Group → Bool
has_operands count (Some group) = (group.least == count) && (group.most == count) && group.is_last
has_operands count None = false

-- the listed commands agree with the tables of names, function identifiers and word groups from index `place` on, and
-- there are 23 commands in all
unfoldable pub are_commands : ℕ → List (List ℕ × ℕ × ℕ) → Bool
are_commands place [] = place == 23
are_commands place (row ∷ rows) =
    bytes_eq (nth_text place names) row.0 && (slice_index FUNCTIONS place == row.1) && has_operands row.2 (row_of 1 place GROUPS) && are_commands (place + 1) rows

unfoldable pub are_commands_named : Bool
are_commands_named = are_commands 0 command_rows
