-- The checks of RMI_REC_CREATE, and of an existing REC and its state. RMM 1.0, RMI_REC_CREATE, REC attributes.
use Rattle.std.specs.Prelude.{ℕ, ◌-◌, ◌==◌, List, [], ◌∷◌, ◌++◌, length, map, Bool, true, false, not, Option, Some, is_none, option_map}
use Rattle.realm_model.specs.Command.Check.{error_rec, are_distinct}
use Rattle.realm_model.specs.declared.states.RecState.{RecState}
use Rattle.realm_model.specs.declared.states.RecState.TheVariants.{Ready, Running}
use Rattle.host_commands.specs.declared.refusal.Refusal.TheVariants.{Rmi}
use Rattle.host_ledger.specs.View.{HostView, world_of}
use Rattle.realm_host.specs.Readings.{rec_at}
use Rattle.explain.specs.RmiChecks.{rmi_check}
use Rattle.explain.specs.OfInput.{input_check, page_delegated}
use Rattle.explain.specs.OfRealm.{realm_new}
use Rattle.explain.specs.declared.rmi_facts.RecFact.TheVariants as rec_fact
use Rattle.explain.specs.declared.check.Fact.TheVariants as fact
use Rattle.explain.specs.declared.check.Check.{Check}

-- the checks of RMI_REC_CREATE, given the pages of the REC and its auxiliaries, and the pages' granules
unfoldable pub rec_create_checks : HostView → ℕ → List ℕ → List ℕ → List Check
rec_create_checks host build pages granules =
    map (page_delegated host build) pages
    ++ (input_check (fact.Rec rec_fact.Distinct) (not (are_distinct granules))
    ∷ input_check (fact.Rec (rec_fact.Auxiliaries (length granules - 1) host.limits.aux)) (not (length granules - 1 == host.limits.aux))
    ∷ realm_new host build ∷ [])

-- ---- an existing REC

-- the state of the REC with this number in a build's realm, if there is one
abbrev pub state_of_rec : HostView → ℕ → ℕ → Option RecState
state_of_rec host build number = option_map (λ rec. rec.1.state) (rec_at (world_of host) build number)

abbrev pub is_ready_state : Option RecState → Bool
is_ready_state (Some Ready) = true
is_ready_state _ = false

abbrev pub is_running_state : Option RecState → Bool
is_running_state (Some Running) = true
is_running_state _ = false

abbrev pub rec_there : HostView → ℕ → ℕ → Check
rec_there host build number = input_check (fact.Rec (rec_fact.There number)) (is_none (state_of_rec host build number))

-- the check of a REC's state, given the REC's number, the state found, the state required, and whether the check fails
abbrev pub rec_check : ℕ → Option RecState → RecState → Bool → Check
rec_check number found wanted fails = rmi_check (fact.Rec (rec_fact.State number wanted found)) fails error_rec

abbrev pub rec_ready : HostView → ℕ → ℕ → Check
rec_ready host build number = record {
  fact = fact.Rec (rec_fact.State number Ready (state_of_rec host build number));
  fails = not (is_ready_state (state_of_rec host build number));
  refusal = Rmi error_rec;
}

abbrev pub rec_is_running : HostView → ℕ → ℕ → Check
rec_is_running host build number = record {
  fact = fact.Rec (rec_fact.State number Running (state_of_rec host build number));
  fails = not (is_running_state (state_of_rec host build number));
  refusal = Rmi error_rec;
}
