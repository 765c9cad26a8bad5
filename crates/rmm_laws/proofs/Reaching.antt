-- Proofs that each table of a realm serves a range of addresses, and that a walk of each such address reaches the
-- table.
use Rattle.std.proofs.Common.{◌≡◌, ℕ, zero, suc, ◌+◌, ◌-◌, ◌*◌, ◌/◌, ◌<◌, ◌≤◌, Option, Some, None, refl, sym, ap, subst, ◌∙◌, ⊎_elim, arith}
use Rattle.std.specs.Option.{option_map_or}
use Rattle.std.proofs.lemmas.Bool.{both_ways}
use Rattle.rmm_model.specs.declared.granule.RmmGranule.{RmmGranule}
use Rattle.rmm_model.specs.declared.granule.RmmGranuleState.{RmmGranuleState}
use Rattle.rmm_model.specs.declared.granule.RmmGranuleState.TheVariants.{Rd, Rec as IsRec, RecAux, Data, Rtt}
use Rattle.rmm_model.specs.declared.realm.RmmRealm.{RmmRealm}
use Rattle.rmm_model.specs.declared.realm.RttWalk.{RttWalk}
use Rattle.rmm_model.specs.Granule.{realm_of}
use Rattle.rmm_model.specs.Level.{entry_size, entry_index, start_table_index}
use Rattle.rmm_model.specs.Machine.{Machine, granule_at, page_in}
use Rattle.rmm_model.specs.Table.{entry_in_page}
use Rattle.rmm_model.specs.Walk.{entry_at, table_below, walk_from, start_of, walk}
use Rattle.rmm_laws.specs.Role.{Used, used_at, level_in, has_user, uses, IsUsed, HasNoUser, IsLinked}
use Rattle.rmm_laws.specs.Walk.{IsTableOf, Serves}
use Rattle.rmm_laws.proofs.Owning.{IsUserOf, user_of, table_user}
use Rattle.rmm_laws.proofs.Passed.{some_same}
use Rattle.rmm_laws.proofs.Serving.{base_of, level_cases}

-- ---- walks of a step more

module _ (m : Machine) (x : ℕ) where
  abbrev child : RttWalk → ℕ → RttWalk
  child place table = record { table = table; level = place.level + 1 }

  one_more_at : (levels : ℕ) (place : RttWalk) (o : Option ℕ) → table_below m (entry_at m place x) ≡ o
      → ((table : ℕ) → walk_from m x (suc levels) (child place table) ≡ walk_from m x 1 (walk_from m x levels (child place table)))
      → option_map_or (λ (table : ℕ). walk_from m x (suc levels) (child place table)) o place ≡ walk_from m x 1 (option_map_or (λ (table : ℕ). walk_from m x levels (child place table)) o place)
  unfolding walk_from
  one_more_at levels place (Some table) leads rest = rest table
  one_more_at levels place None leads rest = sym (ap (λ (o : Option ℕ). option_map_or (λ (table : ℕ). child place table) o place) leads)

  one_more : (levels : ℕ) (place : RttWalk) → walk_from m x (suc levels) place ≡ walk_from m x 1 (walk_from m x levels place)
  unfolding walk_from
  one_more zero place = refl
  one_more (suc levels) place = one_more_at levels place (table_below m (entry_at m place x)) refl (λ table. one_more levels (child place table))

-- ---- addresses that a table serves

-- the number of the starting table for an address is `k` if the address is in the range of starting table `k`
start_place : (l : ℕ) → l ≤ 3 → (k x : ℕ) → k * (512 * entry_size l) ≤ x → x < k * (512 * entry_size l) + 512 * entry_size l → x / entry_size l / 512 ≡ k
unfolding entry_size
start_place l few =
    level_cases (λ (j : ℕ). (k x : ℕ) → k * (512 * entry_size j) ≤ x → x < k * (512 * entry_size j) + 512 * entry_size j → x / entry_size j / 512 ≡ k)
    (λ k x low high. omega arith) (λ k x low high. omega arith) (λ k x low high. omega arith) (λ k x low high. omega arith) l few

-- an address that the table below entry `i` serves has index `i`, and that table's range begins where the entry does
entry_place : (l : ℕ) → l ≤ 2 → (from i x : ℕ) → from ≡ base_of l x → from + i * entry_size l ≤ x → x < from + i * entry_size l + 512 * entry_size (l + 1) → i < 512
    → (entry_index l x ≡ i) × (from + i * entry_size l ≡ base_of (l + 1) x)
unfolding entry_size entry_index
entry_place zero few from i x is low high index = (omega arith, omega arith)
entry_place (suc zero) few from i x is low high index = (omega arith, omega arith)
entry_place (suc (suc zero)) few from i x is low high index = (omega arith, omega arith)
entry_place (suc (suc (suc l))) few from i x is low high index = absurd (omega arith)

-- an address that the table below an entry serves is served by the entry's own table too
wider : (l : ℕ) → l ≤ 2 → (from i x : ℕ) → from + i * entry_size l ≤ x → x < from + i * entry_size l + 512 * entry_size (l + 1) → i < 512 → (from ≤ x) × (x < from + 512 * entry_size l)
unfolding entry_size
wider zero few from i x low high index = (omega arith, omega arith)
wider (suc zero) few from i x low high index = (omega arith, omega arith)
wider (suc (suc zero)) few from i x low high index = (omega arith, omega arith)
wider (suc (suc (suc l))) few from i x low high index = absurd (omega arith)

module _ (m : Machine) (realm : RmmRealm) (x : ℕ) where
  reaches : (levels table first : ℕ) → Serves m realm levels table first → realm.start_level + levels ≤ 3 → first ≤ x → x < first + 512 * entry_size (realm.start_level + levels)
      → (walk_from m x levels (start_of realm x) ≡ record { table = table; level = realm.start_level + levels }) × (first ≡ base_of (realm.start_level + levels) x)
  unfolding Serves walk_from start_of start_table_index entry_at
  reaches zero table first (k, few, is, from) most low high =
      let none : realm.start_level + 0 ≡ realm.start_level = omega arith in
      let there : x / entry_size realm.start_level / 512 ≡ k =
      start_place realm.start_level (omega arith) k x (subst (λ (f : ℕ). f ≤ x) from low)
      (subst (λ (f : ℕ). x < f + 512 * entry_size realm.start_level) from (subst (λ (l : ℕ). x < first + 512 * entry_size l) none high)) in (
        ap (λ (n : ℕ). record { table = realm.first_table + n; level = realm.start_level }) there
            ∙ ap (λ (n : ℕ). record { table = n; level = realm.start_level }) (sym is)
            ∙ ap (λ (l : ℕ). record { table = table; level = l }) (sym none),
        from ∙ ap (λ (n : ℕ). n * (512 * entry_size realm.start_level)) (sym there) ∙ ap (λ (l : ℕ). base_of l x) (sym none),
      )
  reaches (suc levels) table first (above, from, i, served, index, leads, is) most low high =
      let l : ℕ = realm.start_level + levels in
      let deeper : realm.start_level + suc levels ≡ l + 1 = omega arith in
      let low_then : from + i * entry_size l ≤ x = subst (λ (f : ℕ). f ≤ x) is low in
      let high_then : x < from + i * entry_size l + 512 * entry_size (l + 1) =
      subst (λ (f : ℕ). x < f + 512 * entry_size (l + 1)) is (subst (λ (d : ℕ). x < first + 512 * entry_size d) deeper high) in
      let wide = wider l (omega arith) from i x low_then high_then index in
      let rest = reaches levels above from served (omega arith) wide.0 wide.1 in
      let place = entry_place l (omega arith) from i x rest.1 low_then high_then index in
      let leads_there : table_below m (entry_in_page (page_in m above) (entry_index l x)) ≡ Some table = ap (λ (j : ℕ). table_below m (entry_in_page (page_in m above) j)) place.0 ∙ leads in (
        one_more m x levels (start_of realm x)
            ∙ ap (walk_from m x 1) rest.0
            ∙ ap (λ (o : Option ℕ). option_map_or (λ (t : ℕ). record { table = t; level = l + 1 }) o (record { table = above; level = l })) leads_there
            ∙ ap (λ (d : ℕ). record { table = table; level = d }) (sym deeper),
        is ∙ place.1 ∙ ap (λ (d : ℕ). base_of d x) (sym deeper),
      )

  pub reached : (levels table first : ℕ) → Serves m realm levels table first → realm.start_level + levels ≤ 3 → first ≤ x → x < first + 512 * entry_size (realm.start_level + levels)
      → walk m realm x (realm.start_level + levels) ≡ record { table = table; level = realm.start_level + levels }
  unfolding walk
  reached levels table first serves most low high =
      let count : realm.start_level + levels - realm.start_level ≡ levels = omega arith in
      ap (λ (n : ℕ). walk_from m x n (start_of realm x)) count ∙ (reaches levels table first serves most low high).0

-- ---- each table serves

module _ (m : Machine) (linked : IsLinked m) (rd : ℕ) (realm : RmmRealm) (is : (granule_at m rd).state ≡ Rd realm) where
  -- table `g` serves the addresses from some `first` on, and is some `levels` further down than the starting tables
  pub record IsServer (g : ℕ) : Type 0 where
    pub levels : ℕ
    pub first : ℕ
    pub serves : Serves m realm levels g first
    pub depth : linked.level g ≡ realm.start_level + levels

  same_realm : (a b : RmmRealm) → Rd a ≡ Rd b → a ≡ b
  same_realm a b same = let both : Some a ≡ Some b = ap realm_of same in cc

  server_by : (fuel g x i k : ℕ) (s : RmmGranuleState) → ((y : ℕ) → linked.level y < fuel → IsTableOf m rd y → IsServer y) → linked.level g < suc fuel → IsTableOf m rd g → (granule_at m x).state ≡ s
      → uses m linked.level x i k ≡ Some (used_at m linked.level g) → IsUserOf s (granule_at m x).owner (linked.level x) x i (used_at m linked.level g) → IsServer g
  unfolding Serves
  server_by fuel g x i k (Rd other) rest low table state gives user =
      let owner : (granule_at m g).owner ≡ Some x = ap (λ (u : Used). u.attributes.owner) user.1 in
      let here : x ≡ rd = some_same (sym owner ∙ ap (λ (r : RmmGranule). r.owner) table) in
      let it : other ≡ realm = same_realm other realm (sym state ∙ ap (λ (y : ℕ). (granule_at m y).state) here ∙ is) in
      let number : g ≡ other.first_table + i = ap (λ (u : Used). u.number) user.1 in
      let level : level_in (granule_at m g).state (linked.level g) ≡ other.start_level = ap (λ (u : Used). u.level) user.1 in
      let level_is : linked.level g ≡ other.start_level = sym (ap (λ (r : RmmGranule). level_in r.state (linked.level g)) table) ∙ level in
      let plus : realm.start_level ≡ realm.start_level + 0 = omega arith in
      record {
        levels = 0;
        first = i * (512 * entry_size realm.start_level);
        serves = (i, subst (λ (r : RmmRealm). i < r.table_count) it user.0, number ∙ ap (λ (r : RmmRealm). r.first_table + i) it, refl);
        depth = level_is ∙ ap (λ (r : RmmRealm). r.start_level) it ∙ plus;
      }
  server_by fuel g x i k Rtt rest low table state gives user =
      let owner : (granule_at m x).owner ≡ Some rd = sym user.0 ∙ ap (λ (r : RmmGranule). r.owner) table in
      let there : IsTableOf m rd x = ap (λ (s : RmmGranuleState). record { state = s; owner = (granule_at m x).owner }) state ∙ ap (λ (o : Option ℕ). record { state = Rtt; owner = o }) owner in
      ⊎_elim
      (λ (below : ((granule_at m g).state ≡ Rtt) × (level_in (granule_at m g).state (linked.level g) ≡ linked.level x + 1)).
      let up : linked.level g ≡ linked.level x + 1 = sym (ap (λ (r : RmmGranule). level_in r.state (linked.level g)) table) ∙ below.1 in
      let before = rest x (omega arith) there in
      let depth = before.depth in
      let entry = table_user m x i k linked.level (used_at m linked.level g) state gives below.0 in
      record {
        levels = suc before.levels;
        first = before.first + i * entry_size (realm.start_level + before.levels);
        serves = (x, before.first, i, before.serves, entry.0, entry.1, refl);
        depth = omega arith;
      })
      (λ (memory : (granule_at m g).state ≡ Data). let t : (granule_at m g).state ≡ Rtt = ap (λ (r : RmmGranule). r.state) table in absurd (cc))
      user.1
  server_by fuel g x i k (IsRec rec) rest low table state gives user =
      let aux : (granule_at m g).state ≡ RecAux = ap (λ (r : RmmGranule). r.state) user in
      let t : (granule_at m g).state ≡ Rtt = ap (λ (r : RmmGranule). r.state) table in
      absurd (cc)
  server_by fuel g x i k _ rest low table state gives user = absurd user

  server : (fuel g : ℕ) → linked.level g < fuel → IsTableOf m rd g → IsServer g
  unfolding uses
  server zero g low table = absurd (omega arith)
  server (suc fuel) g low table =
      ⊎_elim
      (λ (r : IsUsed (uses m linked.level) (used_at m linked.level) g).
      server_by fuel g r.user r.index r.part (granule_at m r.user).state (server fuel) low table refl r.is
      (user_of m (granule_at m r.user).state (granule_at m r.user).owner (linked.level r.user) (page_in m r.user) r.user r.index r.part (used_at m linked.level g) r.is))
      (λ (r : HasNoUser (uses m linked.level) (used_at m linked.level) g).
      absurd (both_ways (has_user (granule_at m g).state) r.role (ap (λ (x : RmmGranule). has_user x.state) table)))
      (linked.roles g)

  pub serves_some : (g : ℕ) → IsTableOf m rd g → (levels : ℕ) × (first : ℕ) × Serves m realm levels g first × (linked.level g ≡ realm.start_level + levels)
  serves_some g table = let it = server (suc (linked.level g)) g (omega arith) table in (it.levels, it.first, it.serves, it.depth)
