-- Examples of the creation of realms and RECs.
use Rattle.std.proofs.Common.{◌≡◌, ℕ, false, List, [], ◌∷◌, Some, refl}
use Rattle.std.specs.Prelude.{is_some}
use Rattle.realm_model.specs.declared.act.Act.TheVariants.{Take, Fill, Delegate, Realm, Activate, Rec}
use Rattle.realm_model.specs.declared.act.Event.{Event}
use Rattle.realm_model.specs.declared.states.GranuleState.TheVariants.{Undelegated, Rd, Rtt as InRtt, Rec as InRec}
use Rattle.granule_addr.specs.Root.{starting_tables}
use Rattle.granule_addr.specs.Page.{zero_page}
use Rattle.realm_model.specs.Act.{named, reverse_of, is_reverse}
use Rattle.realm_model.specs.Command.Check.{check, with_realm}
use Rattle.realm_model.specs.Command.Realm.{new_realm}
use Rattle.realm_model.specs.Outcome.{outcome_of, fits}
use Rattle.realm_model.specs.World.{realm_from, updated_all}
use Rattle.realm_model.specs.Step.{step}
use Rattle.realm_model.specs.History.{after, replay, open_entries, erase, IsLegal}
use Rattle.realm_model.specs.Undoing.{by}
use Rattle.realm_model.proofs.Examples.Worlds.{machine_of, page, delegated, rd, table_page, start, fresh, world_of, states, free}

-- ---- a realm of two delegated granules, beside another build

abbrev realm_made : List Event
realm_made = by 0 (Take 1 0) ∷ by 1 (Take 0 2) ∷ by 0 (Delegate 0) ∷ by 0 (Delegate 1) ∷ by 0 (Realm 0 start 1) ∷ by 1 (Fill 2 7) ∷ []

realm_made-legal : IsLegal (machine_of 4) realm_made
unfolding after step named outcome_of fits updated_all is_reverse check realm_from starting_tables
realm_made-legal = record { steps = refl; in_turn = (λ r. cc, (λ r. cc, (λ r. cc, (λ r. cc, (λ r. cc, (λ r. cc, tt)))))) }

realm_made-states : states (replay (machine_of 4) realm_made) ≡ Some (Rd ∷ InRtt ∷ Undelegated ∷ Undelegated ∷ [])
unfolding after step named outcome_of fits updated_all check realm_from starting_tables
realm_made-states = refl

realm_made-open : open_entries 0 realm_made ≡ Take 1 0 ∷ Delegate 0 ∷ Delegate 1 ∷ Realm 0 start 1 ∷ []
unfolding open_entries reverse_of is_reverse
realm_made-open = refl

realm_made-erased : erase 0 realm_made ≡ by 1 (Take 0 2) ∷ by 1 (Fill 2 7) ∷ []
realm_made-erased = refl

realm_made-free : free (replay (machine_of 4) (erase 0 realm_made)) ≡ Some (0 ∷ 1 ∷ 3 ∷ [])
unfolding after step named outcome_of fits updated_all check
realm_made-free = refl

-- ---- a realm on a machine of four pages, as it is made

abbrev pub on_four : List Event
on_four = by 0 (Take 2 0) ∷ by 0 (Delegate 0) ∷ by 0 (Delegate 1) ∷ by 0 (Delegate 2) ∷ by 0 (Realm 0 start 1) ∷ []

pub on_four-world : replay (machine_of 4) on_four ≡ Some (world_of (rd fresh ∷ table_page ∷ delegated ∷ page zero_page ∷ []))
unfolding after step named outcome_of fits updated_all check realm_from new_realm starting_tables
on_four-world = refl

on_four-legal : IsLegal (machine_of 4) on_four
unfolding after step named outcome_of fits updated_all is_reverse check realm_from starting_tables
on_four-legal = record { steps = refl; in_turn = (λ r. cc, (λ r. cc, (λ r. cc, (λ r. cc, (λ r. cc, tt))))) }

on_four-free : free (replay (machine_of 4) on_four) ≡ Some []
unfolding after step named outcome_of fits updated_all check realm_from starting_tables
on_four-free = refl

-- the events that create a realm and a REC with the given number; only the realm's next number, 0, is accepted
abbrev rec_made : ℕ → List Event
rec_made number = by 0 (Take 2 0) ∷ by 0 (Delegate 0) ∷ by 0 (Delegate 1) ∷ by 0 (Delegate 2) ∷ by 0 (Realm 0 start 1)
    ∷ by 0 (Rec 2 (record { items = [] }) number) ∷ by 0 Activate ∷ []

rec_made-states : states (replay (machine_of 4) (rec_made 0)) ≡ Some (Rd ∷ InRtt ∷ InRec ∷ Undelegated ∷ [])
unfolding after step named outcome_of fits updated_all check realm_from with_realm new_realm starting_tables
rec_made-states = refl

other_number : is_some (replay (machine_of 4) (rec_made 1)) ≡ false
unfolding after step named outcome_of fits updated_all check realm_from with_realm new_realm starting_tables
other_number = refl

-- a second realm of the build is refused
second_realm : is_some (replay (machine_of 4) (by 0 (Take 2 0) ∷ by 0 (Delegate 0) ∷ by 0 (Delegate 1) ∷ by 0 (Delegate 2) ∷ by 0 (Delegate 3) ∷ by 0
    (Realm 0 start 1) ∷ by 0 (Realm 2 (record { first = 3; width = 39 }) 2) ∷ [])) ≡ false
unfolding after step named outcome_of fits updated_all check realm_from new_realm starting_tables
second_realm = refl
