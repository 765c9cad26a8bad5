-- Examples of two builds: the same events in two sequences lead to the same world, but a page cannot be taken before it
-- is given back.
use Rattle.std.proofs.Common.{◌≡◌, zero, suc, List, [], ◌∷◌, Some, None, inl, inr, refl, sym, ◌∙◌, arith}
use Rattle.granule_addr.specs.Page.{zero_page, page_of}
use Rattle.realm_model.specs.declared.act.Act.TheVariants.{Take, UnTake, Fill, Delegate, Realm, UnRealm}
use Rattle.realm_model.specs.declared.act.Event.{Event}
use Rattle.realm_model.specs.Act.{named, reverse_of, is_reverse}
use Rattle.realm_model.specs.Command.Check.{check}
use Rattle.realm_model.specs.Outcome.{outcome_of, fits}
use Rattle.realm_model.specs.World.{World, updated_all}
use Rattle.realm_model.specs.Step.{step}
use Rattle.realm_model.specs.History.{events_of, after, replay, open_entries, IsLegal}
use Rattle.realm_model.specs.Undoing.{by}
use Rattle.realm_model.specs.Interleaving.{HasSameEvents, GivesTo}
use Rattle.realm_model.proofs.Lists.{Contains-from_in}
use Rattle.realm_model.proofs.TakenAlone.{none_there}
use Rattle.realm_model.proofs.Examples.Worlds.{machine_of, page, delegated, start}

-- ---- a page each

abbrev in_turns : List Event
in_turns = by 0 (Take 0 0) ∷ by 1 (Take 0 1) ∷ by 0 (Fill 0 7) ∷ by 1 (Delegate 1) ∷ []

abbrev one_by_one : List Event
one_by_one = by 1 (Take 0 1) ∷ by 1 (Delegate 1) ∷ by 0 (Take 0 0) ∷ by 0 (Fill 0 7) ∷ []

-- the world in which build 0 has filled granule 0, and build 1 has delegated granule 1
abbrev both : World
both = record { machine = page (page_of 7) ∷ delegated ∷ []; leases = Some 0 ∷ Some 1 ∷ [] }

in_turns-world : replay (machine_of 2) in_turns ≡ Some both
unfolding after step named outcome_of fits updated_all check
in_turns-world = refl

one_by_one-world : replay (machine_of 2) one_by_one ≡ Some both
unfolding after step named outcome_of fits updated_all check
one_by_one-world = refl

same_events : HasSameEvents in_turns one_by_one
same_events zero = refl
same_events (suc zero) = refl
same_events (suc (suc build)) =
    none_there (machine_of 2) (suc (suc build)) (omega arith) in_turns both in_turns-world ∙ sym (none_there (machine_of 2) (suc (suc build)) (omega arith) one_by_one both one_by_one-world)

alone : events_of 1 in_turns ≡ by 1 (Take 0 1) ∷ by 1 (Delegate 1) ∷ []
alone = refl

alone-world : replay (machine_of 2) (events_of 1 in_turns) ≡ Some (record { machine = page zero_page ∷ delegated ∷ []; leases = None ∷ Some 1 ∷ [] })
unfolding after step named outcome_of fits updated_all check
alone-world = refl

-- ---- a page that build 0 gives back and build 1 takes

abbrev handed_on : List Event
handed_on = by 0 (Take 0 0) ∷ by 0 (UnTake 0 0) ∷ by 1 (Take 0 0) ∷ []

handed_on-legal : IsLegal (machine_of 1) handed_on
unfolding after step named outcome_of fits updated_all is_reverse check open_entries reverse_of
handed_on-legal = record { steps = refl; in_turn = (λ r. cc, (λ r. refl, (λ r. cc, tt))) }

handed_on-gives : GivesTo (UnTake 0 0) (Take 0 0)
handed_on-gives = inl (0, Contains-from_in (0 ∷ []) 0 refl, Contains-from_in (0 ∷ []) 0 refl)

-- the page can't be taken before it is given back
too_early : replay (machine_of 1) (by 0 (Take 0 0) ∷ by 1 (Take 0 0) ∷ by 0 (UnTake 0 0) ∷ []) ≡ None
unfolding after step named outcome_of fits updated_all check
too_early = refl

-- the destruction of a realm gives back a VMID that the creation of another realm takes
vmid_given : GivesTo (UnRealm 0 start 1) (Realm 2 start 1)
vmid_given = inr (1, Contains-from_in (1 ∷ []) 1 refl, Contains-from_in (1 ∷ []) 1 refl)
