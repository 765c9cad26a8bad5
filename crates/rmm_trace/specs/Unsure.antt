-- The checks whose names are not compared: each check is uncertain, or not in the standard.
use Rattle.std.specs.Prelude.{ℕ, Bool, true, false, ◌&&◌, List, [], ◌∷◌, codes}
use Rattle.std.specs.Str.{bytes_eq}
use Rattle.rmm_trace.specs.declared.compare.TheConstants.{UNSURE}
use Rattle.rmm_trace.specs.Names.{names, nth_text}

-- the checks whose names are not compared, each with its command
unfoldable pub unsure_checks : List (List ℕ × List ℕ)
unsure_checks =
    (codes "rmi_version", codes "(version)") ∷ (codes "rmi_data_create", codes "(flags_valid)") ∷ (codes "rmi_data_create", codes "(rtte_ripas)") ∷
    (codes "rmi_rec_create", codes "(aux_bound)") ∷ (codes "rmi_rec_create", codes "(params_valid)") ∷ (codes "rmi_rec_create", codes "(num_recs)") ∷
    (codes "rmi_rtt_map_unprotected", codes "(desc_bound)") ∷ (codes "rmi_rtt_fold", codes "(rtt_homo)") ∷ (codes "rmi_rtt_fold", codes "(rtt_block)") ∷
    (codes "rmi_rtt_init_ripas", codes "(size)") ∷ (codes "rmi_rtt_init_ripas", codes "(base_gran_align)") ∷
    (codes "rmi_rtt_init_ripas", codes "(base_bound)") ∷ (codes "rmi_rtt_init_ripas", codes "(top_gran_align)") ∷
    (codes "rmi_rtt_init_ripas", codes "(no_progress)") ∷ (codes "rmi_rtt_set_ripas", codes "(size)") ∷
    (codes "rmi_rtt_set_ripas", codes "(top_gran_align)") ∷ (codes "rmi_rtt_set_ripas", codes "(base_align)") ∷
    (codes "rmi_rtt_set_ripas", codes "(rtte_state)") ∷ (codes "rmi_rtt_set_ripas", codes "(no_progress)") ∷
    (codes "rmi_psci_complete", codes "(status)") ∷ []

-- the pairs are the indices of these commands and checks, in the same sequence
unfoldable pub are_pairs : List (List ℕ × List ℕ) → List (ℕ × ℕ) → Bool
are_pairs [] [] = true
are_pairs (row ∷ rows) (pair ∷ pairs) =
    bytes_eq (nth_text pair.0 names) row.0 && bytes_eq (nth_text pair.1 names) row.1 && are_pairs rows pairs
are_pairs _ _ = false

unfoldable pub are_unsure_named : Bool
are_unsure_named = are_pairs unsure_checks UNSURE
