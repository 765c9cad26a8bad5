-- Examples of two builds that take, fill, delegate and give back pages.
use Rattle.std.proofs.Common.{◌≡◌, true, false, ◌&&◌, List, [], ◌∷◌, Some, None, refl, ap, lit≤}
use Rattle.std.specs.Prelude.{is_some, slice_index, ◌==◌}
use Rattle.std.proofs.lemmas.List.{get_or-replicate}
use Rattle.realm_model.specs.declared.act.Act.TheVariants.{Take, UnTake, Fill, Peek, Delegate, Undelegate}
use Rattle.realm_model.specs.declared.act.Event.{Event}
use Rattle.realm_model.specs.declared.states.GranuleState.TheVariants.{Undelegated}
use Rattle.granule_addr.specs.Page.{zero_page, page_of}
use Rattle.realm_model.specs.Act.{named, reverse_of, is_reverse}
use Rattle.realm_model.specs.Command.Check.{check}
use Rattle.realm_model.specs.Outcome.{outcome_of, fits}
use Rattle.realm_model.specs.World.{World, opening, updated_all}
use Rattle.realm_model.specs.Step.{step, is_allowed}
use Rattle.realm_model.specs.History.{after, replay, open_entries, pages_of, erase, IsLegal}
use Rattle.realm_model.specs.Undoing.{by}
use Rattle.realm_model.proofs.Examples.Worlds.{machine_of, page, delegated, states, free, pages_seen, step_by, and_then, at_end}

-- ---- two builds ask for the one page of a machine

abbrev one_taken : List Event
one_taken = by 0 (Take 0 0) ∷ []

one_taken-legal : IsLegal (machine_of 1) one_taken
unfolding after step named outcome_of fits updated_all is_reverse
one_taken-legal = record { steps = refl; in_turn = (λ r. cc, tt) }

one_taken-pages : pages_of 0 one_taken ≡ 0 ∷ []
unfolding open_entries reverse_of is_reverse
one_taken-pages = refl

both_take : replay (machine_of 1) (by 0 (Take 0 0) ∷ by 1 (Take 0 0) ∷ []) ≡ None
unfolding after step named outcome_of fits updated_all
both_take = refl

-- without the first build the page is free
left_out : (erase 0 one_taken ≡ []) × (free (replay (machine_of 1) (erase 0 one_taken)) ≡ Some (0 ∷ []))
unfolding after
left_out = (refl, refl)

-- ---- a page filled, delegated and undelegated

abbrev cleared : List Event
cleared = by 0 (Take 0 0) ∷ by 0 (Fill 0 255) ∷ by 0 (Delegate 0) ∷ by 0 (Undelegate 0) ∷ []

cleared-legal : IsLegal (machine_of 1) cleared
unfolding after step named outcome_of fits updated_all is_reverse check open_entries reverse_of
cleared-legal = record { steps = refl; in_turn = (λ r. cc, (λ r. cc, (λ r. cc, (λ r. refl, tt)))) }

cleared-state : states (replay (machine_of 1) cleared) ≡ Some (Undelegated ∷ [])
unfolding after step named outcome_of fits updated_all check
cleared-state = refl

-- a page that was filled, delegated and undelegated is zero
cleared-zero : pages_seen (replay (machine_of 1) cleared) ≡ Some (zero_page ∷ [])
unfolding after step named outcome_of fits updated_all check
cleared-zero = refl

cleared-open : open_entries 0 cleared ≡ Take 0 0 ∷ []
unfolding open_entries reverse_of is_reverse
cleared-open = refl

-- ---- the whole effect of each of these operations

abbrev bare : World
bare = record { machine = page zero_page ∷ page zero_page ∷ []; leases = None ∷ Some 0 ∷ [] }

taken-world : replay (machine_of 2) (by 0 (Take 0 1) ∷ []) ≡ Some bare
unfolding after step named outcome_of fits updated_all
taken-world = refl

filled-world : step (machine_of 2) bare (by 0 (Fill 1 255)) ≡ Some (record bare { machine = page zero_page ∷ page (page_of 255) ∷ [] })
unfolding step named outcome_of fits updated_all check
filled-world = refl

-- the world after granule 1 is filled with the value 255; a Peek that reads another value there is not allowed
abbrev filled : World
filled = record bare { machine = page zero_page ∷ page (page_of 255) ∷ [] }

last_byte : slice_index (page_of 255) 4095 ≡ 255
unfolding page_of
last_byte = get_or-replicate 4096 4095 255 0 (lit≤ tt)

peeked-world : step (machine_of 2) filled (by 0 (Peek 1 4095 255)) ≡ Some filled
unfolding named outcome_of fits updated_all check
peeked-world = step_by (machine_of 2) filled filled (by 0 (Peek 1 4095 255)) [] (ap (λ n. (n == 255) && true) last_byte) refl refl

peeked-other : is_allowed (machine_of 2) filled (by 0 (Peek 1 4095 7)) ≡ false
unfolding named fits
peeked-other = ap (λ n. (n == 7) && true) last_byte

delegated-world : step (machine_of 2) filled (by 0 (Delegate 1)) ≡ Some (record bare { machine = page zero_page ∷ delegated ∷ [] })
unfolding step named outcome_of fits updated_all check
delegated-world = refl

undelegated-world : step (machine_of 2) (record bare { machine = page zero_page ∷ delegated ∷ [] }) (by 0 (Undelegate 1)) ≡ Some bare
unfolding step named outcome_of fits updated_all check
undelegated-world = refl

-- a page that is given back is zero
untaken-world : step (machine_of 2) filled (by 0 (UnTake 0 1)) ≡ Some (opening (machine_of 2))
unfolding step named outcome_of fits updated_all check
untaken-world = refl

-- taking, filling, reading, delegating, undelegating and giving back a page lead back to the opening world
in_turn-world : replay (machine_of 2) (by 0 (Take 0 1) ∷ by 0 (Fill 1 255) ∷ by 0 (Peek 1 4095 255) ∷ by 0 (Delegate 1) ∷ by 0 (Undelegate 1) ∷ by 0 (UnTake 0 1) ∷ [])
    ≡ Some (opening (machine_of 2))
unfolding step named outcome_of fits updated_all check
in_turn-world =
    and_then (machine_of 2) _ bare _ _ _ refl (and_then (machine_of 2) _ _ _ _ _ filled-world (and_then (machine_of 2) _ _ _ _ _ peeked-world
    (and_then (machine_of 2) _ _ _ _ _ delegated-world (and_then (machine_of 2) _ _ _ _ _ undelegated-world
    (and_then (machine_of 2) _ (opening (machine_of 2)) _ _ _ refl (at_end (machine_of 2) _))))))

-- ---- two blocks of two pages, undone, and then one of four

abbrev blocks : List Event
blocks = by 0 (Take 1 0) ∷ by 0 (Take 1 2) ∷ by 0 (UnTake 1 2) ∷ by 0 (UnTake 1 0) ∷ by 0 (Take 2 0) ∷ []

blocks-legal : IsLegal (machine_of 4) blocks
unfolding after step named outcome_of fits updated_all is_reverse check open_entries reverse_of
blocks-legal = record { steps = refl; in_turn = (λ r. cc, (λ r. cc, (λ r. refl, (λ r. refl, (λ r. cc, tt))))) }

blocks-pages : pages_of 0 blocks ≡ 0 ∷ 1 ∷ 2 ∷ 3 ∷ []
unfolding open_entries reverse_of is_reverse
blocks-pages = refl

two_blocks-pages : pages_of 0 (by 0 (Take 1 2) ∷ by 0 (Take 1 0) ∷ []) ≡ 2 ∷ 3 ∷ 0 ∷ 1 ∷ []
unfolding open_entries reverse_of is_reverse
two_blocks-pages = refl

blocks-free : free (replay (machine_of 4) blocks) ≡ Some []
unfolding after step named outcome_of fits updated_all check
blocks-free = refl

-- a block must begin at a multiple of its size
unaligned : replay (machine_of 4) (by 0 (Take 1 1) ∷ []) ≡ None
unfolding after step named outcome_of fits updated_all
unaligned = refl

-- ---- a granule that another build leases can't be delegated

foreign : replay (machine_of 2) (by 0 (Take 0 0) ∷ by 1 (Take 0 1) ∷ by 1 (Delegate 0) ∷ []) ≡ None
unfolding after step named outcome_of fits updated_all check
foreign = refl

-- a granule that nobody leases can't be delegated
unleased : replay (machine_of 2) (by 0 (Take 0 0) ∷ by 0 (Delegate 1) ∷ []) ≡ None
unfolding after step named outcome_of fits updated_all check
unleased = refl

-- a Fill with the value 256 is refused; by `too_far`, so is a Peek of byte 4096
too_much : is_some (replay (machine_of 1) (by 0 (Take 0 0) ∷ by 0 (Fill 0 256) ∷ [])) ≡ false
unfolding after step named outcome_of fits updated_all check
too_much = refl

too_far : is_some (replay (machine_of 1) (by 0 (Take 0 0) ∷ by 0 (Peek 0 4096 0) ∷ [])) ≡ false
unfolding after step named outcome_of fits updated_all check
too_far = refl
