-- Proofs that a walk of a realm's translation tables can be made if the checks before the walk were made and passed.
use Rattle.std.proofs.Common.{◌≡◌, ℕ, ◌+◌, ◌-◌, ◌^◌, ◌&&◌, ◌||◌, Bool, true, false, not, nat_le, nat_lt, List, [], ◌∷◌, Option, Some, None, is_none, is_some, refl, sym, ◌∙◌, arith}
use Rattle.std.specs.List.{list_all}
use Rattle.std.proofs.lemmas.Bool.{and_parts, and_from, not-false, leb-true, le-leb, ltb-true, lt-ltb}
use Rattle.rmm_model.specs.declared.condition.Condition.{Condition}
use Rattle.rmm_model.specs.declared.condition.Condition.TheVariants.{Size, RdBound, RdState, RealmState, LevelBound, IpaAlign, IpaBound, BaseBound, TopBound, RecGranState, RecState, RecOwner}
use Rattle.rmm_model.specs.declared.realm.RmmRealm.{RmmRealm}
use Rattle.rmm_model.specs.Check.{Check}
use Rattle.rmm_model.specs.Granule.{realm_of}
use Rattle.rmm_model.specs.Machine.{Machine, state_at}
use Rattle.rmm_model.specs.Realm.{is_in_space, is_protected, is_unprotected}
use Rattle.rmm_model.specs.Command.Operand.{realm_at, is_level}
use Rattle.rmm_checks.specs.CanWalk.{can_walk}
use Rattle.rmm_checks.proofs.Sure.{sure}
use Rattle.rmm_checks.proofs.Walked.{sure_parts}
use Rattle.rmm_granules.proofs.Widths.{half_fits}

-- the conditions on which the check of a walk depends
abbrev pub before_walk : List Condition
before_walk = RdState ∷ IpaAlign ∷ IpaBound ∷ []

-- the conditions on which the check of a walk in a NEW realm depends
abbrev pub before_new_walk : List Condition
before_new_walk = RdState ∷ IpaAlign ∷ IpaBound ∷ RealmState ∷ []

-- a condition with a single check is sure to pass only if the check does not fail, and the conditions on which the
-- check depends are sure to pass
pub known : (n : ℕ) (cs : List Check) (x : Condition) (fails rest : Bool) → sure n cs x ≡ true → sure n cs x ≡ ((not fails && rest) || false) → (fails ≡ false) × (rest ≡ true)
known n cs x fails rest passes is = sure_parts fails rest (sym is ∙ passes)

-- the conditions on which a walk's check depends, for the first address of a range in a NEW realm
abbrev pub before_range : List Condition
before_range = Size ∷ RdState ∷ BaseBound ∷ TopBound ∷ RealmState ∷ []

abbrev pub before_request : List Condition
before_request = Size ∷ RecGranState ∷ RdState ∷ RecState ∷ RecOwner ∷ BaseBound ∷ TopBound ∷ []

-- if the check that a granule is one of the host's is sure to pass, the granule's address is in the machine
pub page_inside : (cs : List Check) (pas bound : Condition) (host inside : Bool) → sure 2 cs pas ≡ true
    → sure 2 cs pas ≡ ((not (not host) && list_all (sure 1 cs) (bound ∷ [])) || false)
    → sure 1 cs bound ≡ ((not (not inside) && true) || false) → inside ≡ true
page_inside cs pas bound host inside passes pas_is bound_is =
    let below = (known 2 cs pas (not host) (list_all (sure 1 cs) (bound ∷ [])) passes pas_is).1 in
    not-false inside (known 1 cs bound (not inside) true (and_parts (sure 1 cs bound) true below).0 bound_is).0

some_realm : (o : Option RmmRealm) → is_none o ≡ false → is_some o ≡ true
some_realm None h = cc
some_realm (Some realm) h = refl

one_less : (level : ℕ) → nat_le level 3 ≡ true → nat_le (level - 1) 3 ≡ true
one_less level h = let low = leb-true level 3 h in le-leb (level - 1) 3 (omega arith)

-- a level that is greater than another level is at least 1
pub one_below : (start level : ℕ) → nat_le (start + 1) level ≡ true → nat_le 1 level ≡ true
one_below start level h = let low = leb-true (start + 1) level h in le-leb 1 level (omega arith)

from_owner : (owner none is : Bool) → owner ≡ true → none ≡ false → (not owner || (none || is)) ≡ true → is ≡ true
from_owner true false is owned some h = h
from_owner true true is owned some h = cc
from_owner false none is owned some h = cc

half_in_space : (s2sz ipa : ℕ) → nat_lt ipa (2 ^ (s2sz - 1)) ≡ true → nat_lt ipa (2 ^ s2sz) ≡ true
half_in_space s2sz ipa h = lt-ltb ipa (2 ^ s2sz) (half_fits s2sz ipa (ltb-true ipa (2 ^ (s2sz - 1)) h))

module _ (m : Machine) (rd ipa : ℕ) where
  -- a walk to a level of at most 3 can be made for an address in the address space of an RD's realm
  pub may_walk : (to : ℕ) → is_none (realm_of (state_at m rd)) ≡ false → nat_le to 3 ≡ true → is_in_space (realm_at m rd) ipa ≡ true → can_walk m rd ipa to ≡ true
  may_walk to named low within =
      and_from (is_some (realm_of (state_at m rd))) (nat_le to 3 && is_in_space (realm_at m rd) ipa) (some_realm (realm_of (state_at m rd)) named)
      (and_from (nat_le to 3) (is_in_space (realm_at m rd) ipa) low within)

  -- a walk to level 3 can be made for a protected address of an RD's realm
  pub may_walk_page : is_none (realm_of (state_at m rd)) ≡ false → is_protected (realm_at m rd) ipa ≡ true → can_walk m rd ipa 3 ≡ true
  may_walk_page named protected = may_walk 3 named refl (half_in_space (realm_at m rd).s2sz ipa protected)

  module _ (cs : List Check) (made : list_all (sure 2 cs) before_walk ≡ true) where
    first : sure 2 cs RdState ≡ true
    first = (and_parts (sure 2 cs RdState) (sure 2 cs IpaAlign && (sure 2 cs IpaBound && true)) made).0

    rest : (sure 2 cs IpaAlign && (sure 2 cs IpaBound && true)) ≡ true
    rest = (and_parts (sure 2 cs RdState) (sure 2 cs IpaAlign && (sure 2 cs IpaBound && true)) made).1

    second : sure 2 cs IpaAlign ≡ true
    second = (and_parts (sure 2 cs IpaAlign) (sure 2 cs IpaBound && true) rest).0

    third : sure 2 cs IpaBound ≡ true
    third = (and_parts (sure 2 cs IpaBound) true (and_parts (sure 2 cs IpaAlign) (sure 2 cs IpaBound && true) rest).1).0

    named : sure 2 cs RdState ≡ ((not (is_none (realm_of (state_at m rd))) && list_all (sure 1 cs) (RdBound ∷ [])) || false) → is_none (realm_of (state_at m rd)) ≡ false
    named is = (known 2 cs RdState (is_none (realm_of (state_at m rd))) (list_all (sure 1 cs) (RdBound ∷ [])) first is).0

    within : (space : Bool) → sure 2 cs IpaBound ≡ ((not (not space) && list_all (sure 1 cs) (RdState ∷ [])) || false) → space ≡ true
    within space is = not-false space (known 2 cs IpaBound (not space) (list_all (sure 1 cs) (RdState ∷ [])) third is).0

    levelled : (fails level_ok : Bool) → sure 2 cs IpaAlign ≡ ((not fails && list_all (sure 1 cs) (LevelBound ∷ [])) || false)
        → sure 1 cs LevelBound ≡ ((not (not level_ok) && true) || false) → level_ok ≡ true
    levelled fails level_ok align is =
        let below = (known 2 cs IpaAlign fails (list_all (sure 1 cs) (LevelBound ∷ [])) second align).1 in
        not-false level_ok (known 1 cs LevelBound (not level_ok) true (and_parts (sure 1 cs LevelBound) true below).0 is).0

    -- if the checks before a walk are sure to pass, the given level is from `least` to 3, and the walk to the level
    -- above the given one can be made
    pub above_walk : (least level : ℕ) (fails : Bool)
        → sure 2 cs RdState ≡ ((not (is_none (realm_of (state_at m rd))) && list_all (sure 1 cs) (RdBound ∷ [])) || false)
        → sure 2 cs IpaAlign ≡ ((not fails && list_all (sure 1 cs) (LevelBound ∷ [])) || false)
        → sure 1 cs LevelBound ≡ ((not (not (is_level least level)) && true) || false)
        → sure 2 cs IpaBound ≡ ((not (not (is_in_space (realm_at m rd) ipa)) && list_all (sure 1 cs) (RdState ∷ [])) || false)
        → (can_walk m rd ipa (level - 1) ≡ true) × (nat_le level 3 ≡ true) × (nat_le least level ≡ true)
    above_walk least level fails rd_is align_is level_is bound_is =
        let level_ok = and_parts (nat_le least level) (nat_le level 3) (levelled fails (is_level least level) align_is level_is) in
        (may_walk (level - 1) (named rd_is) (one_less level level_ok.1) (within (is_in_space (realm_at m rd) ipa) bound_is), level_ok.1, level_ok.0)

    -- if the checks before a walk are sure to pass, the walk to the given level can be made for an unprotected address
    pub unprotected_walk : (block least level : ℕ) (fails : Bool)
        → sure 2 cs RdState ≡ ((not (is_none (realm_of (state_at m rd))) && list_all (sure 1 cs) (RdBound ∷ [])) || false)
        → sure 2 cs IpaAlign ≡ ((not fails && list_all (sure 1 cs) (LevelBound ∷ [])) || false)
        → sure 1 cs LevelBound ≡ ((not (not (nat_le block level && is_level least level)) && true) || false)
        → sure 2 cs IpaBound ≡ ((not (not (is_unprotected (realm_at m rd) ipa)) && list_all (sure 1 cs) (RdState ∷ [])) || false)
        → can_walk m rd ipa level ≡ true
    unprotected_walk block least level fails rd_is align_is level_is bound_is =
        let both = and_parts (nat_le block level) (is_level least level) (levelled fails (nat_le block level && is_level least level) align_is level_is) in
        let level_ok = and_parts (nat_le least level) (nat_le level 3) both.1 in
        let half = and_parts (not (is_protected (realm_at m rd) ipa)) (is_in_space (realm_at m rd) ipa) (within (is_unprotected (realm_at m rd) ipa) bound_is) in
        may_walk level (named rd_is) level_ok.1 half.1

    -- if the checks before a walk are sure to pass, the walk to level 3 can be made for a protected address
    pub page_walk :
        sure 2 cs RdState ≡ ((not (is_none (realm_of (state_at m rd))) && list_all (sure 1 cs) (RdBound ∷ [])) || false)
        → sure 2 cs IpaBound ≡ ((not (not (is_protected (realm_at m rd) ipa)) && list_all (sure 1 cs) (RdState ∷ [])) || false)
        → can_walk m rd ipa 3 ≡ true
    page_walk rd_is bound_is = may_walk_page (named rd_is) (within (is_protected (realm_at m rd) ipa) bound_is)

  -- if the checks before a walk in a NEW realm are sure to pass, the walk to level 3 can be made for a protected
  -- address
  pub new_page_walk : (cs : List Check) → list_all (sure 2 cs) before_new_walk ≡ true
      → sure 2 cs RdState ≡ ((not (is_none (realm_of (state_at m rd))) && list_all (sure 1 cs) (RdBound ∷ [])) || false)
      → sure 2 cs IpaBound ≡ ((not (not (is_protected (realm_at m rd) ipa)) && list_all (sure 1 cs) (RdState ∷ [])) || false)
      → can_walk m rd ipa 3 ≡ true
  new_page_walk cs made rd_is bound_is =
      let one = and_parts (sure 2 cs RdState) (sure 2 cs IpaAlign && (sure 2 cs IpaBound && (sure 2 cs RealmState && true))) made in
      let two = and_parts (sure 2 cs IpaAlign) (sure 2 cs IpaBound && (sure 2 cs RealmState && true)) one.1 in
      let three = and_parts (sure 2 cs IpaBound) (sure 2 cs RealmState && true) two.1 in
      may_walk_page (known 2 cs RdState (is_none (realm_of (state_at m rd))) (list_all (sure 1 cs) (RdBound ∷ [])) one.0 rd_is).0
      (not-false (is_protected (realm_at m rd) ipa) (known 2 cs IpaBound (not (is_protected (realm_at m rd) ipa)) (list_all (sure 1 cs) (RdState ∷ [])) three.0 bound_is).0)

  -- if the checks of a range in a NEW realm are sure to pass, a walk to level 3 can be made for the range's first
  -- address
  pub range_walk : (cs : List Check) → list_all (sure 2 cs) before_range ≡ true
      → sure 2 cs RdState ≡ ((not (is_none (realm_of (state_at m rd))) && list_all (sure 1 cs) (RdBound ∷ [])) || false)
      → sure 2 cs BaseBound ≡ ((not (not (is_protected (realm_at m rd) ipa)) && list_all (sure 1 cs) (RdState ∷ [])) || false)
      → can_walk m rd ipa 3 ≡ true
  range_walk cs made rd_is bound_is =
      let one = and_parts (sure 2 cs Size) (sure 2 cs RdState && (sure 2 cs BaseBound && (sure 2 cs TopBound && (sure 2 cs RealmState && true)))) made in
      let two = and_parts (sure 2 cs RdState) (sure 2 cs BaseBound && (sure 2 cs TopBound && (sure 2 cs RealmState && true))) one.1 in
      let three = and_parts (sure 2 cs BaseBound) (sure 2 cs TopBound && (sure 2 cs RealmState && true)) two.1 in
      may_walk_page (known 2 cs RdState (is_none (realm_of (state_at m rd))) (list_all (sure 1 cs) (RdBound ∷ [])) two.0 rd_is).0
      (not-false (is_protected (realm_at m rd) ipa) (known 2 cs BaseBound (not (is_protected (realm_at m rd) ipa)) (list_all (sure 1 cs) (RdState ∷ [])) three.0 bound_is).0)

  -- if the checks of a range that a REC asked for are sure to pass, a walk to level 3 can be made for the range's first
  -- address
  pub request_walk : (cs : List Check) (owner ends none : Bool) → list_all (sure 2 cs) before_request ≡ true
      → sure 2 cs Size ≡ ((not none && true) || false)
      → sure 2 cs RdState ≡ ((not (is_none (realm_of (state_at m rd))) && list_all (sure 1 cs) (RdBound ∷ [])) || false)
      → sure 2 cs RecOwner ≡ ((not (not owner) && list_all (sure 1 cs) (RecGranState ∷ RdState ∷ [])) || false)
      → sure 2 cs TopBound ≡ ((not (not (ends && (not owner || (none || is_protected (realm_at m rd) ipa)))) && list_all (sure 1 cs) (RecState ∷ [])) || false)
      → can_walk m rd ipa 3 ≡ true
  request_walk cs owner ends none made size_is rd_is owner_is top_is =
      let end : Bool = sure 2 cs BaseBound && (sure 2 cs TopBound && true) in
      let one = and_parts (sure 2 cs Size) (sure 2 cs RecGranState && (sure 2 cs RdState && (sure 2 cs RecState && (sure 2 cs RecOwner && end)))) made in
      let two = and_parts (sure 2 cs RecGranState) (sure 2 cs RdState && (sure 2 cs RecState && (sure 2 cs RecOwner && end))) one.1 in
      let three = and_parts (sure 2 cs RdState) (sure 2 cs RecState && (sure 2 cs RecOwner && end)) two.1 in
      let four = and_parts (sure 2 cs RecState) (sure 2 cs RecOwner && end) three.1 in
      let five = and_parts (sure 2 cs RecOwner) end four.1 in
      let six = and_parts (sure 2 cs BaseBound) (sure 2 cs TopBound && true) five.1 in
      let seven = and_parts (sure 2 cs TopBound) true six.1 in
      let owned = not-false owner (known 2 cs RecOwner (not owner) (list_all (sure 1 cs) (RecGranState ∷ RdState ∷ [])) five.0 owner_is).0 in
      let some : none ≡ false = (known 2 cs Size none true one.0 size_is).0 in
      let within : Bool = ends && (not owner || (none || is_protected (realm_at m rd) ipa)) in
      let both = not-false within (known 2 cs TopBound (not within) (list_all (sure 1 cs) (RecState ∷ [])) seven.0 top_is).0 in
      may_walk_page (known 2 cs RdState (is_none (realm_of (state_at m rd))) (list_all (sure 1 cs) (RdBound ∷ [])) three.0 rd_is).0
      (from_owner owner none (is_protected (realm_at m rd) ipa) owned some (and_parts ends (not owner || (none || is_protected (realm_at m rd) ipa)) both).1)
