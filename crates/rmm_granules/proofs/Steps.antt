-- Proofs that an RTT walk continues at an entry that leads to a table, and ends at any other entry or at the requested
-- level.
use Rattle.std.proofs.Common.{◌≡◌, ℕ, zero, suc, ◌+◌, ◌-◌, ◌<◌, ◌≤◌, Some, None, refl, ap, ◌∙◌, arith}
use Rattle.std.specs.Option.{option_map_or}
use Rattle.rmm_model.specs.declared.realm.RttWalk.{RttWalk}
use Rattle.rmm_model.specs.Machine.{Machine}
use Rattle.rmm_model.specs.Walk.{entry_at, table_below, walk_from}

abbrev pub at : ℕ → ℕ → RttWalk
at table level = record { table = table; level = level }

-- a walk that has not reached level `to` goes on to the table to which its entry leads, one level further down
pub walk_on : (m : Machine) (ipa table level to child : ℕ) → level < to → table_below m (entry_at m (at table level) ipa) ≡ Some child
    → walk_from m ipa (to - level) (at table level) ≡ walk_from m ipa (to - (level + 1)) (at child (level + 1))
unfolding walk_from
walk_on m ipa table level to child lt leads =
    let more : to - level ≡ suc (to - (level + 1)) = omega arith in
    ap (λ (n : ℕ). walk_from m ipa n (at table level)) more
    ∙ ap (λ o. option_map_or (λ (next : ℕ). walk_from m ipa (to - (level + 1)) (at next (level + 1))) o (at table level)) leads

-- a walk ends at an entry that leads to no table
pub walk_ends : (m : Machine) (ipa levels : ℕ) (place : RttWalk) → table_below m (entry_at m place ipa) ≡ None → walk_from m ipa levels place ≡ place
unfolding walk_from
walk_ends m ipa zero place none = refl
walk_ends m ipa (suc levels) place none = ap (λ o. option_map_or (λ (next : ℕ). walk_from m ipa levels (at next (place.level + 1))) o place) none

-- a walk at the requested level or a deeper one ends at once
pub walk_reached : (m : Machine) (ipa level to : ℕ) (place : RttWalk) → to ≤ level → walk_from m ipa (to - level) place ≡ place
unfolding walk_from
walk_reached m ipa level to place done =
    let none : to - level ≡ 0 = omega arith in
    ap (λ (n : ℕ). walk_from m ipa n place) none
