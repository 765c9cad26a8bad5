-- Proofs that a walk of an address of a realm ends at a table of that realm.
use Rattle.std.proofs.Common.{◌≡◌, ℕ, zero, suc, ◌+◌, ◌-◌, ◌*◌, ◌/◌, ◌^◌, ◌<◌, ◌≤◌, ◌⊎◌, inl, inr, Option, Some, None, refl, sym, ap, subst, ◌∙◌, ⊎_elim, IfSome, length, arith, option_map}
use Rattle.std.specs.Option.{option_map_or}
use Rattle.std.specs.Prelude.{nat_lt, ◌==◌}
use Rattle.std.proofs.lemmas.Bool.{cond-true, and_from, lt-ltb}
use Rattle.std.proofs.lemmas.Bool.Decides.{nat_tests}
use Rattle.std.proofs.lemmas.Nat.{div_below}
use Rattle.rmm_model.specs.declared.entry.RmmRttEntry.{RmmRttEntry}
use Rattle.rmm_model.specs.declared.entry.RmmRttEntry.TheVariants.{Table}
use Rattle.rmm_model.specs.declared.granule.RmmGranule.{RmmGranule}
use Rattle.rmm_model.specs.declared.granule.RmmGranuleState.{RmmGranuleState}
use Rattle.rmm_model.specs.declared.granule.RmmGranuleState.TheVariants.{Rd, Rtt}
use Rattle.rmm_model.specs.declared.realm.RmmRealm.{RmmRealm}
use Rattle.rmm_model.specs.declared.realm.RttWalk.{RttWalk}
use Rattle.rmm_model.specs.Granule.{realm_of}
use Rattle.rmm_model.specs.Level.{entry_size, entry_index, start_table_index}
use Rattle.rmm_model.specs.Machine.{Machine, granule_at, page_in}
use Rattle.rmm_model.specs.Realm.{IsServed}
use Rattle.rmm_model.specs.Table.{entry_in_page}
use Rattle.rmm_model.specs.Walk.{entry_at, table_below, walk_from, start_of, walk}
use Rattle.rmm_laws.specs.Role.{Used, used, used_at, level_in, entry_uses, state_uses, uses, IsUsed, HasNoUser, IsLinked}
use Rattle.rmm_laws.specs.Walk.{IsTableOf}

pub entry_index-few : (level ipa : ℕ) → entry_index level ipa < 512
unfolding entry_index
entry_index-few level ipa = omega arith

pub entry_size-positive : (level : ℕ) → 0 < entry_size level
unfolding entry_size
entry_size-positive level = grind (arith, nat_tests)

pub start_inside : (level ipa width count : ℕ) → ipa < 2 ^ width → 2 ^ width ≤ count * (512 * entry_size level) → start_table_index level ipa < count
unfolding start_table_index
start_inside level ipa width count within served =
    let size : ℕ = entry_size level in
    let below : ipa < count * 512 * size = grind arith in
    div_below (ipa / size) 512 count (omega arith) (div_below ipa size (count * 512) (entry_size-positive level) below)

module _ (m : Machine) (proper : IsLinked m) where
  abbrev level_of : ℕ → ℕ
  level_of = proper.level

  -- a granule that is used has the attributes and the level with which it is used
  pub right : (x i k : ℕ) (u : Used) → uses m level_of x i k ≡ Some u → u ≡ used_at m level_of u.number
  right x i k u gives =
      ⊎_elim
      (λ (r : IsUsed (uses m level_of) (used_at m level_of) u.number).
      let same = r.once x i k u gives refl in
      let there : uses m level_of x i k ≡ Some (used_at m level_of u.number) =
      ap (λ (y : ℕ). uses m level_of y i k) same.0 ∙ ap (λ (j : ℕ). uses m level_of r.user j k) same.1 ∙ ap (λ (l : ℕ). uses m level_of r.user r.index l) same.2 ∙ r.is in
      let both : Some u ≡ Some (used_at m level_of u.number) = sym gives ∙ there in
      cc)
      (λ (r : HasNoUser (uses m level_of) (used_at m level_of) u.number). absurd (r.none x i k u gives refl))
      (proper.roles u.number)

  -- two uses of the same granule have the same user, index and part
  pub one_place : (x i k y j l : ℕ) (u v : Used) → uses m level_of x i k ≡ Some u → uses m level_of y j l ≡ Some v → u.number ≡ v.number → (x ≡ y) × (i ≡ j) × (k ≡ l)
  one_place x i k y j l u v one two same =
      ⊎_elim
      (λ (r : IsUsed (uses m level_of) (used_at m level_of) v.number).
      let a = r.once x i k u one same in
      let b = r.once y j l v two refl in
      (a.0 ∙ sym b.0, a.1 ∙ sym b.1, a.2 ∙ sym b.2))
      (λ (r : HasNoUser (uses m level_of) (used_at m level_of) v.number). absurd (r.none y j l v two refl))
      (proper.roles v.number)

  -- a table that is used has the owner and the level with which it is used
  pub table_right : (owner : Option ℕ) (level g : ℕ) → used Rtt owner level g ≡ used_at m level_of g → (granule_at m g ≡ record { state = Rtt; owner = owner }) × (level_of g ≡ level)
  table_right owner level g same =
      let attributes : granule_at m g ≡ record { state = Rtt; owner = owner } = sym (ap (λ (u : Used). u.attributes) same) in
      (attributes, sym (ap (λ (u : Used). u.level) same ∙ ap (λ (r : RmmGranule). level_in r.state (level_of g)) attributes))

  module _ (rd ipa : ℕ) where
    abbrev at : ℕ → ℕ → RttWalk
    at table level = record { table = table; level = level }

    -- a place of a walk is a table of the realm, with the level that `level_of` gives for the table
    pub record IsPlace (place : RttWalk) : Type 0 where
      pub table : IsTableOf m rd place.table
      pub level : level_of place.table ≡ place.level

    pub by_entry : (owner : Option ℕ) (level child : ℕ) (entry : RmmRttEntry) → table_below m entry ≡ Some child → entry_uses m owner level entry 0 ≡ Some (used Rtt owner (level + 1) child)
    by_entry owner level child (Table address) is = ap (option_map (used Rtt owner (level + 1))) is
    by_entry owner level child _ is = absurd (cc)

    -- the table at a walk's place uses at each index what its entry there uses, for the realm and the place's level
    pub uses-entry : (place : RttWalk) (i k : ℕ) → IsPlace place → i < 512 → uses m level_of place.table i k ≡ entry_uses m (Some rd) place.level (entry_in_page (page_in m place.table) i) k
    unfolding uses
    uses-entry place i k is lt =
        ap (λ (r : RmmGranule). state_uses m r.state r.owner (level_of place.table) (page_in m place.table) place.table i k) is.table
        ∙ cond-true _ _ _ (lt-ltb i 512 lt)
        ∙ ap (λ (l : ℕ). entry_uses m (Some rd) l (entry_in_page (page_in m place.table) i) k) is.level

    pub next : (place : RttWalk) (child : ℕ) → IsPlace place → table_below m (entry_at m place ipa) ≡ Some child → IsPlace (at child (place.level + 1))
    unfolding entry_at
    next place child is leads =
        let i : ℕ = entry_index place.level ipa in
        let gives = uses-entry place i 0 is (entry_index-few place.level ipa) ∙ by_entry (Some rd) place.level child (entry_in_page (page_in m place.table) i) leads in
        let there = table_right (Some rd) (place.level + 1) child (right place.table i 0 (used Rtt (Some rd) (place.level + 1) child) gives) in
        record { table = there.0; level = there.1 }

    -- the starting table of an address is a place of the walk
    pub start_is : (realm : RmmRealm) → (granule_at m rd).state ≡ Rd realm → ipa < 2 ^ realm.s2sz → IsPlace (start_of realm ipa)
    unfolding uses start_of
    start_is realm is within =
        let served : IsServed (length m.granules) realm = subst (λ (s : RmmGranuleState). IfSome (realm_of s) (IsServed (length m.granules))) is (proper.sound.tables.each rd) in
        let i : ℕ = start_table_index realm.start_level ipa in
        let inside : i < realm.table_count = start_inside realm.start_level ipa realm.s2sz realm.table_count within served.served in
        let gives : uses m level_of rd i 0 ≡ Some (used Rtt (Some rd) realm.start_level (realm.first_table + i)) =
        ap (λ (s : RmmGranuleState). state_uses m s (granule_at m rd).owner (level_of rd) (page_in m rd) rd i 0) is
        ∙ cond-true _ _ _ (and_from (nat_lt i realm.table_count) (0 == 0) (lt-ltb i realm.table_count inside) refl) in
        let there = table_right (Some rd) realm.start_level (realm.first_table + i) (right rd i 0 (used Rtt (Some rd) realm.start_level (realm.first_table + i)) gives) in
        record { table = there.0; level = there.1 }

    -- a walk to level `to` ends at `place`: at that level, or above it at an entry that leads to no table
    pub record IsEnd (to : ℕ) (place : RttWalk) : Type 0 where
      pub place_is : IsPlace place
      pub above : place.level ≤ to
      pub end : (place.level ≡ to) ⊎ (table_below m (entry_at m place ipa) ≡ None)

    on : (levels to : ℕ) (place : RttWalk) (o : Option ℕ) → table_below m (entry_at m place ipa) ≡ o → IsPlace place → place.level + suc levels ≡ to
        → ((child : ℕ) → IsPlace (at child (place.level + 1)) → IsEnd to (walk_from m ipa levels (at child (place.level + 1))))
        → IsEnd to (option_map_or (λ (child : ℕ). walk_from m ipa levels (at child (place.level + 1))) o place)
    on levels to place (Some child) leads is far rest = rest child (next place child is leads)
    on levels to place None leads is far rest = record { place_is = is; above = omega arith; end = inr leads }

    from : (levels to : ℕ) (place : RttWalk) → IsPlace place → place.level + levels ≡ to → IsEnd to (walk_from m ipa levels place)
    unfolding walk_from
    from zero to place is far = record { place_is = is; above = omega arith; end = inl (omega arith) }
    from (suc levels) to place is far =
        on levels to place (table_below m (entry_at m place ipa)) refl is far
        (λ child there. from levels to (at child (place.level + 1)) there (omega arith))

    pub walk_ends : (realm : RmmRealm) (level : ℕ) → (granule_at m rd).state ≡ Rd realm → ipa < 2 ^ realm.s2sz → realm.start_level ≤ level → IsEnd level (walk m realm ipa level)
    unfolding walk start_of
    walk_ends realm level is within least = from (level - realm.start_level) level (start_of realm ipa) (start_is realm is within) (omega arith)
