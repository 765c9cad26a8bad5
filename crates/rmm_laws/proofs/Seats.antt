-- Proofs that a walk ends at the table that covers the address, at an entry whose state is allowed in the address's
-- half of the address space.
use Rattle.std.proofs.Common.{◌≡◌, ℕ, zero, suc, ◌+◌, ◌-◌, ◌*◌, ◌/◌, ◌^◌, ◌<◌, ◌≤◌, Option, Some, None, refl, sym, ap, subst, ◌∙◌, ⊎_elim, arith}
use Rattle.std.specs.Option.{option_map_or}
use Rattle.std.specs.Prelude.{nat_lt, ◌==◌}
use Rattle.std.proofs.lemmas.Bool.{cases_lt, cond-true, and_from, lt-ltb}
use Rattle.rmm_model.specs.declared.entry.RmmRttEntry.{RmmRttEntry}
use Rattle.rmm_model.specs.declared.granule.RmmGranule.{RmmGranule}
use Rattle.rmm_model.specs.declared.granule.RmmGranuleState.{RmmGranuleState}
use Rattle.rmm_model.specs.declared.granule.RmmGranuleState.TheVariants.{Rd, Rtt}
use Rattle.rmm_model.specs.declared.realm.RmmRealm.{RmmRealm}
use Rattle.rmm_model.specs.declared.realm.RttWalk.{RttWalk}
use Rattle.rmm_model.specs.Granule.{of_realm}
use Rattle.rmm_model.specs.Level.{entry_size, entry_index, start_table_index}
use Rattle.rmm_model.specs.Machine.{Machine, granule_at, page_in}
use Rattle.rmm_model.specs.Table.{entry_in_page}
use Rattle.rmm_model.specs.Walk.{entry_at, table_below, walk_from, start_of, walk}
use Rattle.rmm_laws.specs.Half.{IsOfHalf, IsPlaced, HasHalves}
use Rattle.rmm_laws.specs.Role.{used, state_uses, uses, IsLinked}
use Rattle.rmm_laws.proofs.Halves.{realm_same}
use Rattle.rmm_laws.proofs.Mappings.{served}
use Rattle.rmm_laws.proofs.Passed.{some_same}
use Rattle.rmm_laws.proofs.Serving.{few_at, walk_serves}
use Rattle.rmm_laws.proofs.Sides.{side, half_size, sizes_fall, above, whole_index}
use Rattle.rmm_laws.proofs.Walks.{IsPlace, right, table_right, by_entry, next, start_is, start_inside, entry_index-few}

-- ---- tables of a realm

pub start_table : (m : Machine) (linked : IsLinked m) (rd k : ℕ) (realm : RmmRealm) → (granule_at m rd).state ≡ Rd realm → k < realm.table_count → granule_at m (realm.first_table + k) ≡ of_realm rd Rtt
unfolding uses
start_table m linked rd k realm is lt =
    let gives : uses m linked.level rd k 0 ≡ Some (used Rtt (Some rd) realm.start_level (realm.first_table + k)) =
    ap (λ (s : RmmGranuleState). state_uses m s (granule_at m rd).owner (linked.level rd) (page_in m rd) rd k 0) is
    ∙ cond-true _ _ _ (and_from (nat_lt k realm.table_count) (0 == 0) (lt-ltb k realm.table_count lt) refl) in
    (table_right m linked (Some rd) realm.start_level (realm.first_table + k) (right m linked rd k 0 (used Rtt (Some rd) realm.start_level (realm.first_table + k)) gives)).0

pub child_table : (m : Machine) (linked : IsLinked m) (table i child : ℕ) → (granule_at m table).state ≡ Rtt → i < 512 → table_below m (entry_in_page (page_in m table) i) ≡ Some child → (granule_at m child).state ≡ Rtt
unfolding uses
child_table m linked table i child is lt leads =
    let owner : Option ℕ = (granule_at m table).owner in
    let gives : uses m linked.level table i 0 ≡ Some (used Rtt (granule_at m table).owner (linked.level table + 1) child) =
    ap (λ (s : RmmGranuleState). state_uses m s (granule_at m table).owner (linked.level table) (page_in m table) table i 0) is
    ∙ cond-true _ _ _ (lt-ltb i 512 lt)
    ∙ by_entry m linked 0 0 owner (linked.level table) child (entry_in_page (page_in m table) i) leads in
    ap (λ (r : RmmGranule). r.state)
    (table_right m linked (granule_at m table).owner (linked.level table + 1) child (right m linked table i 0 (used Rtt (granule_at m table).owner (linked.level table + 1) child) gives)).0

-- ---- walks

module _ (m : Machine) (linked : IsLinked m) (halves : HasHalves m) (rd ipa : ℕ) (realm : RmmRealm) where
  -- `at` is a place of the walk of `ipa`; `halves` gives the table there the level of `at`, and the index of the table
  -- that covers `ipa`
  pub record IsSeat (at : RttWalk) : Type 0 where
    pub is : IsPlace m linked rd ipa at
    pub depth : halves.level at.table ≡ at.level
    pub seat : halves.place at.table ≡ ipa / entry_size at.level / 512

  pub seat_next : (at : RttWalk) (child : ℕ) → IsSeat at → table_below m (entry_at m at ipa) ≡ Some child → IsSeat (record { table = child; level = at.level + 1 })
  unfolding entry_at
  seat_next at child seat leads =
      let below : IsPlace m linked rd ipa (record { table = child; level = at.level + 1 }) = next m linked rd ipa at child seat.is leads in
      let few = few_at m linked rd ipa realm (record { table = child; level = at.level + 1 }) below in
      let step = halves.is.below at.table (entry_index at.level ipa) child (ap (λ (r : RmmGranule). r.state) seat.is.table) (entry_index-few at.level ipa) leads in
      record {
        is = below;
        depth = step.0 ∙ ap (λ (l : ℕ). l + 1) seat.depth;
        seat = step.1 ∙ ap (λ (p : ℕ). p * 512 + entry_index at.level ipa) seat.seat ∙ whole_index at.level ipa ∙ sym (above at.level ipa (omega arith));
      }

  on : (levels : ℕ) (at : RttWalk) (o : Option ℕ) → table_below m (entry_at m at ipa) ≡ o → IsSeat at
      → ((child : ℕ) → IsSeat (record { table = child; level = at.level + 1 }) → IsSeat (walk_from m ipa levels (record { table = child; level = at.level + 1 })))
      → IsSeat (option_map_or (λ (child : ℕ). walk_from m ipa levels (record { table = child; level = at.level + 1 })) o at)
  on levels at (Some child) leads seat rest = rest child (seat_next at child seat leads)
  on levels at None leads seat rest = seat

  from : (levels : ℕ) (at : RttWalk) → IsSeat at → IsSeat (walk_from m ipa levels at)
  unfolding walk_from
  from zero at seat = seat
  from (suc levels) at seat = on levels at (table_below m (entry_at m at ipa)) refl seat (λ child there. from levels (record { table = child; level = at.level + 1 }) there)

  module _ (is : (granule_at m rd).state ≡ Rd realm) (within : ipa < 2 ^ realm.s2sz) where
    pub start_seat : IsSeat (start_of realm ipa)
    unfolding start_of start_table_index
    start_seat =
        let fit = served m rd realm linked is in
        let there = halves.is.start rd (start_table_index realm.start_level ipa) realm is (start_inside realm.start_level ipa realm.s2sz realm.table_count within fit.served) in
        record { is = start_is m linked rd ipa realm is within; depth = there.0; seat = there.1 }

    pub walk_seat : (level : ℕ) → IsSeat (walk m realm ipa level)
    unfolding walk
    walk_seat level = from (level - realm.start_level) (start_of realm ipa) start_seat

    module _ (level : ℕ) where
      abbrev found : RttWalk
      found = walk m realm ipa level

      abbrev i : ℕ
      i = entry_index (walk m realm ipa level).level ipa

      -- the entry at the end of a walk is allowed in the half of the walk's address
      pub walk_half : IsOfHalf realm ipa (entry_at m (walk m realm ipa level) ipa)
      unfolding entry_at
      walk_half =
          let seat = walk_seat level in
          halves.is.half rd found.table i ipa realm is seat.is.table (entry_index-few found.level ipa)
          (ap (λ (l : ℕ). ipa / entry_size l) seat.depth ∙ sym (ap (λ (p : ℕ). p * 512 + i) seat.seat ∙ whole_index found.level ipa))

      pub walk_placed : IsPlaced m.settings (walk m realm ipa level).level (entry_at m (walk m realm ipa level) ipa)
      unfolding entry_at
      walk_placed =
          let seat = walk_seat level in
          subst (λ (l : ℕ). IsPlaced m.settings l (entry_in_page (page_in m found.table) i)) seat.depth
          (halves.is.block found.table i (ap (λ (r : RmmGranule). r.state) seat.is.table) (entry_index-few found.level ipa))

      pub found_few : (walk m realm ipa level).level ≤ 3
      found_few = few_at m linked rd ipa realm found (walk_seat level).is

      found_size : entry_size (walk m realm ipa level).level ≤ entry_size realm.start_level
      found_size =
          let deep = walk_serves m linked rd ipa realm level is within in
          let depth = deep.depth in
          let few = found_few in
          subst (λ (l : ℕ). entry_size l ≤ entry_size realm.start_level) (sym depth) (sizes_fall realm.start_level deep.levels (omega arith))

      -- an address that the entry at the end of a walk covers is in the lower half if the walk's address is
      pub in_half : (x : ℕ) → x / entry_size (walk m realm ipa level).level ≡ ipa / entry_size (walk m realm ipa level).level → ipa < 2 ^ (realm.s2sz - 1) → x < 2 ^ (realm.s2sz - 1)
      in_half x same low =
          let size = found_size in
          let wide = half_size realm.start_level (served m rd realm linked is).level realm.s2sz (halves.is.wide rd realm is) in
          side found.level found_few (realm.s2sz - 1) ipa x (omega arith) (sym same) low

      pub in_upper : (x : ℕ) → x / entry_size (walk m realm ipa level).level ≡ ipa / entry_size (walk m realm ipa level).level → 2 ^ (realm.s2sz - 1) ≤ ipa → 2 ^ (realm.s2sz - 1) ≤ x
      in_upper x same high =
          let size = found_size in
          let wide = half_size realm.start_level (served m rd realm linked is).level realm.s2sz (halves.is.wide rd realm is) in
          ⊎_elim
          (λ (low : x < 2 ^ (realm.s2sz - 1)). (let never = side found.level found_few (realm.s2sz - 1) x ipa (omega arith) same low in absurd (omega arith)))
          (λ (up : 2 ^ (realm.s2sz - 1) ≤ x). up)
          (cases_lt x (2 ^ (realm.s2sz - 1)))

      pub in_space : (x : ℕ) → x / entry_size (walk m realm ipa level).level ≡ ipa / entry_size (walk m realm ipa level).level → x < 2 ^ realm.s2sz
      in_space x same =
          let size = found_size in
          let wide = halves.is.wide rd realm is in
          side found.level found_few realm.s2sz ipa x (omega arith) (sym same) within

      -- if `e` is allowed at all addresses that the last entry of a walk covers, `e` satisfies condition `half` of
      -- `IsHalved` at that entry
      pub at_seat : (e : RmmRttEntry) → ((x : ℕ) → x / entry_size (walk m realm ipa level).level ≡ ipa / entry_size (walk m realm ipa level).level → IsOfHalf realm x e)
          → (other x : ℕ) (some : RmmRealm) → (granule_at m other).state ≡ Rd some → granule_at m (walk m realm ipa level).table ≡ of_realm other Rtt
          → x / entry_size (halves.level (walk m realm ipa level).table) ≡ halves.place (walk m realm ipa level).table * 512 + entry_index (walk m realm ipa level).level ipa → IsOfHalf some x e
      at_seat e half other x some there owned covers =
          let seat = walk_seat level in
          let here : other ≡ rd = some_same (ap (λ (r : RmmGranule). r.owner) (sym owned ∙ seat.is.table)) in
          let it : realm ≡ some = realm_same realm some (sym is ∙ sym (ap (λ (g : ℕ). (granule_at m g).state) here) ∙ there) in
          subst (λ (r : RmmRealm). IsOfHalf r x e) it
          (half x (ap (λ (l : ℕ). x / entry_size l) (sym seat.depth) ∙ covers ∙ ap (λ (p : ℕ). p * 512 + entry_index found.level ipa) seat.seat ∙ whole_index found.level ipa))
