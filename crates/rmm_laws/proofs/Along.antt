-- Proofs that a relation holds between the ends of an address's walks in two machines, if `IsMet` holds at each table
-- that serves the address.
use Rattle.std.proofs.Common.{◌≡◌, ℕ, zero, suc, ◌+◌, ◌-◌, ◌^◌, ◌<◌, ◌⊎◌, Option, Some, None, refl, sym, ap, subst, ⊎_elim, arith}
use Rattle.std.specs.Option.{option_map_or}
use Rattle.rmm_model.specs.declared.granule.RmmGranuleState.TheVariants.{Rd}
use Rattle.rmm_model.specs.declared.realm.RmmRealm.{RmmRealm}
use Rattle.rmm_model.specs.declared.realm.RttWalk.{RttWalk}
use Rattle.rmm_model.specs.Machine.{Machine, granule_at}
use Rattle.rmm_model.specs.Walk.{entry_at, table_below, walk_from, start_of, walk}
use Rattle.rmm_laws.specs.Half.{HasHalves}
use Rattle.rmm_laws.specs.Role.{IsLinked}
use Rattle.rmm_laws.proofs.Mappings.{served}
use Rattle.rmm_laws.proofs.Seats.{IsSeat, seat_next, start_seat}

-- a walk ends at an entry that leads to no table
pub stops : (m : Machine) (x levels : ℕ) (p : RttWalk) → table_below m (entry_at m p x) ≡ None → walk_from m x levels p ≡ p
unfolding walk_from
stops m x zero p none = refl
stops m x (suc levels) p none = ap (λ (o : Option ℕ). option_map_or (λ (table : ℕ). walk_from m x levels (record { table = table; level = p.level + 1 })) o p) none

-- a walk goes on to the table that an entry leads to
pub goes : (m : Machine) (x levels table : ℕ) (p : RttWalk) → table_below m (entry_at m p x) ≡ Some table → walk_from m x (suc levels) p ≡ walk_from m x levels (record { table = table; level = p.level + 1 })
unfolding walk_from
goes m x levels table p leads = ap (λ (o : Option ℕ). option_map_or (λ (t : ℕ). walk_from m x levels (record { table = t; level = p.level + 1 })) o p) leads

-- `Q` relates the ends of the walks of `x` in `m` and `n`, if each place on the way satisfies `IsMet`. From such a
-- place, either both walks go on alike and `Q` relates the place to itself, or `Q` relates the ends of the walks.
-- `Good` is a property of the tables on the way.
module _ (m n : Machine) (linked : IsLinked m) (halves : HasHalves m) (rd x : ℕ) (realm : RmmRealm) (Good : ℕ → Type 0) (Q : RttWalk → RttWalk → Type 0) where
  abbrev child : RttWalk → ℕ → RttWalk
  child place table = record { table = table; level = place.level + 1 }

  -- at place `p` the entries in both machines lead to the same `Good` table or to none, and `Q p p` holds
  pub record IsOn (p : RttWalk) : Type 0 where
    pub leads : table_below n (entry_at n p x) ≡ table_below m (entry_at m p x)
    pub good : (table : ℕ) → table_below m (entry_at m p x) ≡ Some table → Good table
    pub end : Q p p

  -- `Q` holds of the ends of both walks from a place
  abbrev pub Ends : ℕ → RttWalk → Type 0
  Ends levels p = Q (walk_from m x levels p) (walk_from n x levels p)

  abbrev pub IsMet : RttWalk → Type 0
  IsMet p = IsOn p ⊎ ((levels : ℕ) → p.level + levels ≡ 3 → Ends levels p)

  abbrev pub Each : Type 0
  Each = (p : RttWalk) → IsSeat m linked halves rd x realm p → Good p.table → IsMet p

  on : (levels : ℕ) (p : RttWalk) (o : Option ℕ) → table_below m (entry_at m p x) ≡ o → IsSeat m linked halves rd x realm p → IsOn p
      → ((table : ℕ) → IsSeat m linked halves rd x realm (child p table) → Good table → Ends levels (child p table))
      → Q (option_map_or (λ (table : ℕ). walk_from m x levels (child p table)) o p) (option_map_or (λ (table : ℕ). walk_from n x levels (child p table)) o p)
  on levels p (Some table) leads seat it rest = rest table (seat_next m linked halves rd x realm p table seat leads) (it.good table leads)
  on levels p None leads seat it rest = it.end

  from : (levels : ℕ) (p : RttWalk) → IsSeat m linked halves rd x realm p → Good p.table → p.level + levels ≡ 3 → Each → Ends levels p
  unfolding walk_from
  from zero p seat good far each =
      ⊎_elim (λ (it : IsOn p). it.end) (λ (ends : (levels : ℕ) → p.level + levels ≡ 3 → Ends levels p). ends zero far) (each p seat good)
  from (suc levels) p seat good far each =
      ⊎_elim
      (λ (it : IsOn p).
      subst
      (λ (o : Option ℕ). Q (option_map_or (λ (table : ℕ). walk_from m x levels (child p table)) (table_below m (entry_at m p x)) p) (option_map_or (λ (table : ℕ). walk_from n x levels (child p table)) o p))
      (sym it.leads)
      (on levels p (table_below m (entry_at m p x)) refl seat it (λ table there kind. from levels (child p table) there kind (omega arith) each)))
      (λ (ends : (levels : ℕ) → p.level + levels ≡ 3 → Ends levels p). ends (suc levels) far)
      (each p seat good)

  -- if `Each` holds, the realm has the same starting tables in both machines, and that of `x` is `Good`, then `Q` holds
  -- of the ends of the walks of `x`
  pub along : (after : RmmRealm) → after.start_level ≡ realm.start_level → after.first_table ≡ realm.first_table → (granule_at m rd).state ≡ Rd realm → x < 2 ^ realm.s2sz
      → Good (start_of realm x).table → Each → Q (walk m realm x 3) (walk n after x 3)
  unfolding walk start_of
  along after level first is within good each =
      let few = (served m rd realm linked is).level in
      let ends = from (3 - realm.start_level) (start_of realm x) (start_seat m linked halves rd x realm is within) good (omega arith) each in
      subst (λ (l : ℕ). Q (walk m realm x 3) (walk_from n x (3 - l) (start_of (record realm { start_level = l; first_table = after.first_table }) x))) (sym level)
      (subst (λ (t : ℕ). Q (walk m realm x 3) (walk_from n x (3 - realm.start_level) (start_of (record realm { first_table = t }) x))) (sym first) ends)
