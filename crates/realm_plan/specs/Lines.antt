-- The output lines for idle turns, pages, realms and the number of free granules.
use Rattle.std.specs.Prelude.{ℕ, List, [], ◌∷◌, ◌++◌, codes}
use Rattle.std.specs.Fmt.{decimal}
use Rattle.decimal_text.specs.Numbers.{spelled_numbers}
use Rattle.realm_model.specs.declared.states.GranuleState.{GranuleState}
use Rattle.realm_model.specs.declared.states.GranuleState.TheVariants.{Undelegated, Delegated, Rd, Rec, RecAux, Data, Rtt}
use Rattle.realm_model.specs.declared.states.RealmState.{RealmState}
use Rattle.realm_model.specs.declared.states.RealmState.TheVariants as realm
use Rattle.realm_plan.specs.Answers.{then_number}

-- the line of a turn whose build has no step left
abbrev pub idle_line : ℕ → List ℕ
idle_line build = decimal build ++ codes " - idle\n"

abbrev pub state_word : GranuleState → List ℕ
state_word Undelegated = codes "UNDELEGATED"
state_word Delegated = codes "DELEGATED"
state_word Rd = codes "RD"
state_word Rec = codes "REC"
state_word RecAux = codes "REC_AUX"
state_word Data = codes "DATA"
state_word Rtt = codes "RTT"

-- a list with the sum of a page's bytes if the page is UNDELEGATED or DATA, and otherwise the empty list
abbrev pub sum_numbers : GranuleState → ℕ → List ℕ
sum_numbers Undelegated sum = sum ∷ []
sum_numbers Data sum = sum ∷ []
sum_numbers _ sum = []

-- the line for a page: the build's number, the page's number and state, and the sum of its bytes if the page is
-- UNDELEGATED or DATA
abbrev pub page_line : ℕ → ℕ → GranuleState → ℕ → List ℕ
page_line build page state sum =
    decimal build ++ (codes " page" ++ (then_number page ++ (32 ∷ state_word state ++ (spelled_numbers (sum_numbers state sum) ++ 10 ∷ []))))

abbrev pub realm_word : RealmState → List ℕ
realm_word realm.New = codes "NEW"
realm_word realm.Active = codes "ACTIVE"

-- the line for a build's realm, with the build's number and the realm's state and VMID
abbrev pub realm_line : ℕ → RealmState → ℕ → List ℕ
realm_line build state vmid = decimal build ++ (codes " realm " ++ (realm_word state ++ (codes " vmid" ++ (then_number vmid ++ 10 ∷ []))))

-- the line with the number of granules that no build leases
abbrev pub free_line : ℕ → List ℕ
free_line count = codes "free" ++ (then_number count ++ 10 ∷ [])
