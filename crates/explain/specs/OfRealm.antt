-- The checks of RMI_REALM_CREATE, and of the state of an existing realm. RMM 1.0, RMI_REALM_CREATE, Realm attributes.
use Rattle.std.specs.Prelude.{ℕ, ◌+◌, ◌%◌, ◌==◌, ◌&&◌, List, [], ◌∷◌, ◌++◌, length, map, Bool, true, false, not, Option, Some, option_map}
use Rattle.granule_addr.specs.Ipa.{is_width}
use Rattle.realm_model.specs.Command.Check.{error_realm, is_in}
use Rattle.realm_model.specs.declared.states.RealmState.{RealmState}
use Rattle.realm_model.specs.declared.states.RealmState.TheVariants.{New, Active}
use Rattle.host_commands.specs.declared.refusal.Refusal.TheVariants.{Rmi}
use Rattle.host_ledger.specs.View.{HostView, world_of}
use Rattle.realm_host.specs.Readings.{realm_at}
use Rattle.explain.specs.RmiChecks.{rmi_check}
use Rattle.explain.specs.OfInput.{input_check, page_delegated}
use Rattle.explain.specs.declared.rmi_facts.RealmFact.TheVariants as realm_fact
use Rattle.explain.specs.declared.check.Fact.TheVariants as fact
use Rattle.explain.specs.declared.check.Check.{Check}

-- ---- the state of an existing realm

-- the state of a build's realm, if the build has one
abbrev pub state_of_realm : HostView → ℕ → Option RealmState
state_of_realm host build = option_map (λ realm. realm.0) (realm_at (world_of host) build)

abbrev pub is_new_state : Option RealmState → Bool
is_new_state (Some New) = true
is_new_state _ = false

abbrev pub is_active_state : Option RealmState → Bool
is_active_state (Some Active) = true
is_active_state _ = false

-- the check of a realm's state, given the state found, the state required, and whether the check fails
abbrev pub state_check : Option RealmState → RealmState → Bool → Check
state_check found wanted fails = rmi_check (fact.Realm (realm_fact.State wanted found)) fails error_realm

abbrev pub realm_new : HostView → ℕ → Check
realm_new host build = record {
  fact = fact.Realm (realm_fact.State New (state_of_realm host build));
  fails = not (is_new_state (state_of_realm host build));
  refusal = Rmi error_realm;
}

abbrev pub realm_active : HostView → ℕ → Check
realm_active host build = record {
  fact = fact.Realm (realm_fact.State Active (state_of_realm host build));
  fails = not (is_active_state (state_of_realm host build));
  refusal = Rmi error_realm;
}

-- ---- a realm that is to be made

-- the granules have consecutive numbers, from `next` on
abbrev pub follow : ℕ → List ℕ → Bool
follow next [] = true
follow next (granule ∷ rest) = granule == next && follow (next + 1) rest

-- the granules have consecutive numbers
abbrev pub are_adjacent : List ℕ → Bool
are_adjacent [] = true
are_adjacent (first ∷ rest) = follow (first + 1) rest

-- the number of the first granule is a multiple of the number of granules
abbrev pub begins_right : List ℕ → Bool
begins_right [] = true
begins_right (first ∷ rest) = first % length (first ∷ rest) == 0

abbrev pub width_check : ℕ → Check
width_check width = input_check (fact.Realm (realm_fact.Width width)) (not (is_width width))

abbrev pub apart_check : ℕ → List ℕ → Check
apart_check rd tables = input_check (fact.Realm realm_fact.Apart) (is_in rd tables)

-- the checks of the starting tables, except the checks of their granules' states
abbrev pub start_checks : ℕ → List ℕ → List Check
start_checks rd tables =
    input_check (fact.Realm realm_fact.Adjacent) (not (are_adjacent tables))
    ∷ input_check (fact.Realm (realm_fact.Multiple (length tables))) (not (begins_right tables))
    ∷ apart_check rd tables ∷ []

-- The checks of RMI_REALM_CREATE. A failure of any gives RMI_ERROR_INPUT, so their order is this profile's own.
unfoldable pub realm_create_checks : HostView → ℕ → ℕ → List ℕ → List ℕ → List Check
realm_create_checks host build width pages [] = []
realm_create_checks host build width pages (rd ∷ tables) = width_check width ∷ (start_checks rd tables ++ map (page_delegated host build) pages)
