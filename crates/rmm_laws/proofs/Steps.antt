-- Proofs that, given a DELEGATED granule, some call of a realm's teardown succeeds if the realm has a live entry, or if
-- none of its RECs runs.
use Rattle.std.proofs.Common.{◌≡◌, ◌≢◌, ℕ, zero, suc, ◌+◌, ◌-◌, ◌*◌, ◌/◌, ◌%◌, ◌^◌, ◌<◌, ◌≤◌, ◌==◌, Bool, true, false, not, List, Some, refl, sym, ap, subst, ◌∙◌, ⊎_elim, arith, ◌⊎◌, ◌||◌, inl, inr, length, unwrap_or, Option, None, ◌&&◌}
use Rattle.std.specs.Prelude.{nat_le, is_some}
use Rattle.std.proofs.lemmas.Bool.{cases_Bool, cases_eq, cases_lt, and_from, eq-eqb, le-leb, lt-ltb, le-ltb, both_ways, cond-true}
use Rattle.std.proofs.lemmas.List.{get_or_past}
use Rattle.rmi_abi.specs.declared.call.Call.TheVariants.{DataDestroy, RealmDestroy, RecDestroy, RttCreate, RttDestroy, RttUnmapUnprotected}
use Rattle.rmi_abi.specs.declared.word.Word.TheVariants.{Success}
use Rattle.rmm_model.specs.declared.entry.RmmRipas.{RmmRipas}
use Rattle.rmm_model.specs.declared.entry.RmmRttEntry.{RmmRttEntry}
use Rattle.rmm_model.specs.declared.entry.RmmRttEntry.TheVariants.{Unassigned, Assigned, Table, UnassignedNs, AssignedNs}
use Rattle.rmm_model.specs.declared.granule.RmmGranule.{RmmGranule}
use Rattle.rmm_model.specs.declared.granule.RmmGranuleState.{RmmGranuleState}
use Rattle.rmm_model.specs.declared.granule.RmmGranuleState.TheVariants.{Undelegated, Delegated, Rd, Rec as IsRec, Rtt}
use Rattle.rmm_model.specs.declared.realm.RmmRealm.{RmmRealm}
use Rattle.rmm_model.specs.declared.realm.RttWalk.{RttWalk}
use Rattle.rmm_model.specs.declared.rec.RmmRec.{RmmRec}
use Rattle.rmm_model.specs.Call.{performed}
use Rattle.rmm_model.specs.Entry.{is_live, is_mapping, is_table}
use Rattle.rmm_model.specs.Granule.{of_no_realm, of_realm, is_delegated, rec_of}
use Rattle.rmm_model.specs.Guest.{is_rec_named}
use Rattle.rmm_model.specs.Level.{entry_size, entry_index}
use Rattle.rmm_model.specs.Machine.{Machine, granule_at, page_in, is_aligned, is_inside, number_of, state_at}
use Rattle.rmm_model.specs.Realm.{is_in_space, is_protected}
use Rattle.rmm_model.specs.Rec.{is_running, no_rec}
use Rattle.rmm_model.specs.Table.{entry_in_page, first_live, has_live}
use Rattle.rmm_model.specs.Walk.{entry_at, table_below, walk}
use Rattle.rmm_model.specs.Command.Operand.{realm_at, rec_at, is_level}
use Rattle.rmm_model.specs.Command.RealmDestroy.{has_live_table}
use Rattle.rmm_model.specs.Command.RttCreate.{rtt_create}
use Rattle.rmm_laws.specs.Apart.{rd_named}
use Rattle.rmm_laws.specs.Half.{IsOfHalf, HasHalves}
use Rattle.rmm_laws.specs.Owner.{is_rec_in}
use Rattle.rmm_laws.specs.Proper.{IsProper}
use Rattle.rmm_laws.specs.Role.{IsSound, IsLinked, LeadsInside}
use Rattle.rmm_laws.specs.Step.{HasNextStep, HasRemoval}
use Rattle.rmm_laws.specs.Walk.{IsTableOf, Serves, walked_to}
use Rattle.rmm_laws.proofs.Entries.{named_inside}
use Rattle.rmm_laws.proofs.Mappings.{half}
use Rattle.rmm_laws.proofs.Orders.{rec_in}
use Rattle.rmm_laws.proofs.Passed.{realm_of-some}
use Rattle.rmm_laws.proofs.Reaching.{IsServer, serves_some, reached}
use Rattle.rmm_laws.proofs.Seats.{start_table, child_table}
use Rattle.rmm_laws.proofs.Serving.{level_cases}
use Rattle.rmm_laws.proofs.Teardown.{own_word, no_more, rd_tests, page_step, mapping_step, table_step, realm_step, rec_step}
use Rattle.rmm_laws.proofs.Tops.{first_live-live, first_live-most}
use Rattle.rmm_laws.proofs.Walks.{IsPlace, next}
use Rattle.rmm_laws.proofs.Writes.{taken_inside}

-- ---- addresses of entries

deeper_start : (l : ℕ) → l ≤ 2 → (p i : ℕ) → p * (512 * entry_size l) + i * entry_size l ≡ (p * 512 + i) * (512 * entry_size (l + 1))
unfolding entry_size
deeper_start zero few p i = omega arith
deeper_start (suc zero) few p i = omega arith
deeper_start (suc (suc zero)) few p i = omega arith
deeper_start (suc (suc (suc l))) few p i = absurd (omega arith)

-- at level `l`, if a table's range begins at `first`, the address `i` entries later is in the range and begins the
-- entry with index `i`
abbrev IsAddress : ℕ → Type 0
IsAddress l = (p i first : ℕ) → i < 512 → first ≡ p * (512 * entry_size l)
    → ((first + i * entry_size l) / entry_size l ≡ p * 512 + i) × ((first + i * entry_size l) / entry_size l % 512 ≡ i) × ((first + i * entry_size l) % entry_size l ≡ 0)
    × (first + i * entry_size l < first + 512 * entry_size l)

address_is : (l : ℕ) → l ≤ 3 → (p i first : ℕ) → i < 512 → first ≡ p * (512 * entry_size l)
    → ((first + i * entry_size l) / entry_size l ≡ p * 512 + i) × ((first + i * entry_size l) / entry_size l % 512 ≡ i) × ((first + i * entry_size l) % entry_size l ≡ 0)
    × (first + i * entry_size l < first + 512 * entry_size l)
unfolding entry_size
address_is l few =
    level_cases IsAddress
    (λ p i first lt is. (omega arith, omega arith, omega arith, omega arith)) (λ p i first lt is. (omega arith, omega arith, omega arith, omega arith))
    (λ p i first lt is. (omega arith, omega arith, omega arith, omega arith)) (λ p i first lt is. (omega arith, omega arith, omega arith, omega arith))
    l few

-- ---- tables that serve addresses are at the places of these

module _ (m : Machine) (linked : IsLinked m) (halves : HasHalves m) (rd : ℕ) (realm : RmmRealm) (is : (granule_at m rd).state ≡ Rd realm) where
  serves_place : (levels table first : ℕ) → Serves m realm levels table first → realm.start_level + levels ≤ 3
      → ((granule_at m table).state ≡ Rtt) × (halves.level table ≡ realm.start_level + levels) × (first ≡ halves.place table * (512 * entry_size (realm.start_level + levels)))
  unfolding Serves
  serves_place zero table first (k, few, at, from) most =
      let there = halves.is.start rd k realm is few in
      let none : realm.start_level ≡ realm.start_level + 0 = omega arith in
      let place : halves.place table ≡ k = ap halves.place at ∙ there.1 in (
        ap (λ (g : ℕ). (granule_at m g).state) at ∙ ap (λ (r : RmmGranule). r.state) (start_table m linked rd k realm is few),
        ap halves.level at ∙ there.0 ∙ none,
        from ∙ ap (λ (n : ℕ). n * (512 * entry_size realm.start_level)) (sym place) ∙ ap (λ (l : ℕ). halves.place table * (512 * entry_size l)) none,
      )
  serves_place (suc levels) table first (above, from, i, served, index, leads, at) most =
      let l : ℕ = realm.start_level + levels in
      let deeper : realm.start_level + levels + 1 ≡ realm.start_level + suc levels = omega arith in
      let rest = serves_place levels above from served (omega arith) in
      let below = halves.is.below above i table rest.0 index leads in (
        child_table m linked above i table rest.0 index leads,
        below.0 ∙ ap (λ (n : ℕ). n + 1) rest.1 ∙ deeper,
        at
            ∙ ap (λ (n : ℕ). n + i * entry_size (realm.start_level + levels)) rest.2
            ∙ deeper_start (realm.start_level + levels) (omega arith) (halves.place above) i
            ∙ ap (λ (n : ℕ). n * (512 * entry_size (realm.start_level + levels + 1))) (sym below.1)
            ∙ ap (λ (d : ℕ). halves.place table * (512 * entry_size d)) deeper,
      )

-- ---- a block is unfolded

no_table_then : (b : Bool) → b ≡ false → not (not b) ≡ false
no_table_then true never = absurd (cc)
no_table_then false never = refl

pub block_step : (m : Machine) (rd rtt ipa level : ℕ) → rd_named m rd ≡ Some (number_of m rd) → rtt % 4096 ≡ 0 → is_inside m rtt ≡ true → (granule_at m (number_of m rtt)).state ≡ Delegated
    → (realm_at m rd).start_level + 1 ≤ level → level ≤ 3 → ipa % entry_size (level - 1) ≡ 0 → ipa < 2 ^ (realm_at m rd).s2sz → (walk m (realm_at m rd) ipa (level - 1)).level ≡ level - 1
    → is_table (entry_at m (walk m (realm_at m rd) ipa (level - 1)) ipa) ≡ false → (performed (RttCreate rd rtt ipa level) m).0.word ≡ Success
unfolding rtt_create
block_step m rd rtt ipa level named rtt_aligned inside free least most aligned within reaches leaf =
    let tests = rd_tests m rd named in
    let realm : RmmRealm = realm_at m rd in
    let found : RttWalk = walk m realm ipa (level - 1) in
    let levels : is_level (realm.start_level + 1) level ≡ true = and_from (nat_le (realm.start_level + 1) level) (nat_le level 3) (le-leb (realm.start_level + 1) level least) (le-leb level 3 most) in
    own_word (RttCreate rd rtt ipa level) m (
      no_more (rtt % 4096 == 0) (eq-eqb (rtt % 4096) 0 rtt_aligned),
      (
        no_more (is_inside m rtt) inside,
        (
          no_more (is_delegated (state_at m rtt)) (ap is_delegated free),
          (
            tests.0,
            (
              tests.1,
              (
                tests.2,
                (
                  no_more _ levels,
                  (
                    no_more (ipa % entry_size (level - 1) == 0) (eq-eqb (ipa % entry_size (level - 1)) 0 aligned),
                    (
                      no_more (is_in_space realm ipa) (lt-ltb ipa (2 ^ realm.s2sz) within),
                      (no_more (found.level == level - 1) (eq-eqb found.level (level - 1) reaches), (no_table_then (is_table (entry_at m found ipa)) leaf, tt)),
                    ),
                  ),
                ),
              ),
            ),
          ),
        ),
      ),
    )

-- ---- a live entry of a page

live_entry : (page : List ℕ) → has_live page ≡ true → (j : ℕ) × (j < 512) × (is_live (entry_in_page page j) ≡ true)
unfolding has_live
live_entry page some =
    let most = first_live-most page 512 0 in
    let high = most.1 in
    ⊎_elim
    (λ (end : first_live page 512 0 ≡ 512).
    absurd (both_ways (not (first_live page 512 0 == 512)) (no_more (first_live page 512 0 == 512) (eq-eqb (first_live page 512 0) 512 end)) some))
    (λ (inner : first_live page 512 0 ≢ 512).
    (first_live page 512 0, omega arith, ⊎_elim (λ (live : is_live (entry_in_page page (first_live page 512 0)) ≡ true). live) (λ (end : first_live page 512 0 ≡ 0 + 512). absurd (inner (omega arith))) (first_live-live page 512 0)))
    (cases_eq (first_live page 512 0) 512)

or_right : (a b : Bool) → a ≡ false → (a || b) ≡ true → b ≡ true
or_right true b never some = absurd (cc)
or_right false b never some = some

-- if `has_live_table` holds of some adjacent tables, one of the tables has a live entry
live_start : (m : Machine) (first count : ℕ) → has_live_table m first count ≡ true → (k : ℕ) × (k < count) × (has_live (page_in m (first + k)) ≡ true)
unfolding has_live_table
live_start m first zero some = absurd (cc)
live_start m first (suc count) some =
    ⊎_elim
    (λ (live : has_live (page_in m first) ≡ true).
    let here : first ≡ first + 0 = omega arith in
    (0, omega arith, subst (λ (g : ℕ). has_live (page_in m g) ≡ true) here live))
    (λ (dead : has_live (page_in m first) ≡ false).
    let rest = live_start m (first + 1) count (or_right (has_live (page_in m first)) (has_live_table m (first + 1) count) dead some) in
    let within = rest.1 in
    let next_one : first + 1 + rest.0 ≡ first + suc rest.0 = omega arith in
    (suc rest.0, omega arith, subst (λ (g : ℕ). has_live (page_in m g) ≡ true) next_one rest.2))
    (cases_Bool (has_live (page_in m first)))

-- ---- the address at which a granule begins

pub begin_number : (m : Machine) (g : ℕ) → number_of m (m.settings.base + g * 4096) ≡ g
unfolding number_of
begin_number m g = omega arith

pub begin_aligned : (m : Machine) (g : ℕ) → IsSound m → (m.settings.base + g * 4096) % 4096 ≡ 0
begin_aligned m g sound = let base = sound.platform.base_aligned in omega arith

pub begin_inside : (m : Machine) (g : ℕ) → g < length m.granules → is_inside m (m.settings.base + g * 4096) ≡ true
unfolding is_inside
begin_inside m g within =
    let number : (m.settings.base + g * 4096 - m.settings.base) / 4096 ≡ g = omega arith in
    and_from _ _ (le-leb m.settings.base (m.settings.base + g * 4096) (omega arith)) (lt-ltb _ _ (subst (λ (n : ℕ). n < length m.granules) (sym number) within))

-- ---- the next step

module _ (m : Machine) (proper : IsProper m) (rd : ℕ) (named : rd_named m rd ≡ Some (number_of m rd)) where
  abbrev realm : RmmRealm
  realm = realm_at m rd

  is : (granule_at m (number_of m rd)).state ≡ Rd (realm_at m rd)
  is = realm_of-some (state_at m rd) (rd_tests m rd named).2

  -- Entry `i` of a table of the realm begins at the address `ipa`, which is the operand of its teardown calls.
  module _ (table i : ℕ) (there : IsTableOf m (number_of m rd) table) (index : i < 512) (server : IsServer m proper.linked (number_of m rd) realm is table) where
    abbrev l : ℕ
    l = realm.start_level + server.levels

    abbrev ipa : ℕ
    ipa = server.first + i * entry_size (realm.start_level + server.levels)

    few : l ≤ 3
    few = subst (λ (n : ℕ). n ≤ 3) server.depth (proper.linked.most table (ap (λ (r : RmmGranule). r.state) there))

    at_place : ((granule_at m table).state ≡ Rtt) × (proper.ordered.halves.level table ≡ l) × (server.first ≡ proper.ordered.halves.place table * (512 * entry_size l))
    at_place = serves_place m proper.linked proper.ordered.halves (number_of m rd) realm is server.levels table server.first server.serves few

    address : (ipa / entry_size l ≡ proper.ordered.halves.place table * 512 + i) × (ipa / entry_size l % 512 ≡ i) × (ipa % entry_size l ≡ 0) × (ipa < server.first + 512 * entry_size l)
    address = address_is l few (proper.ordered.halves.place table) i server.first index at_place.2

    walk_is : walk m realm ipa l ≡ walked_to table l
    walk_is = reached m realm ipa server.levels table server.first server.serves few (omega arith) address.3

    reaches : (walk m realm ipa l).level ≡ l
    reaches = ap (λ (w : RttWalk). w.level) walk_is

    entry_is : entry_at m (walk m realm ipa l) ipa ≡ entry_in_page (page_in m table) i
    unfolding entry_at entry_index
    entry_is = ap (λ (w : RttWalk). entry_in_page (page_in m w.table) (ipa / entry_size w.level % 512)) walk_is ∙ ap (entry_in_page (page_in m table)) address.1

    of_half : IsOfHalf realm ipa (entry_in_page (page_in m table) i)
    of_half = proper.ordered.halves.is.half (number_of m rd) table i ipa realm is there index (ap (λ (n : ℕ). ipa / entry_size n) at_place.1 ∙ address.0)

    child_there : (child : ℕ) → table_below m (entry_in_page (page_in m table) i) ≡ Some child → IsPlace m proper.linked (number_of m rd) ipa (record { table = child; level = l + 1 })
    unfolding entry_at entry_index
    child_there child leads =
        next m proper.linked (number_of m rd) ipa (record { table = table; level = l }) child (record { table = there; level = server.depth })
        (ap (λ (j : ℕ). table_below m (entry_in_page (page_in m table) j)) address.1 ∙ leads)

    page_size : l ≡ 3 → ipa % 4096 ≡ 0
    unfolding entry_size
    page_size deepest = subst (λ (n : ℕ). ipa % entry_size n ≡ 0) deepest address.2

    -- RMI_DATA_DESTROY succeeds at an ASSIGNED entry of level 3
    leaf_step : (ripas : RmmRipas) (a : ℕ) → l ≡ 3 → entry_in_page (page_in m table) i ≡ Assigned ripas a → IsOfHalf realm ipa (Assigned ripas a) → (performed (DataDestroy rd ipa) m).0.word ≡ Success
    leaf_step ripas a deepest at kind =
        page_step m rd ipa a ripas proper named (page_size deepest) (lt-ltb ipa (2 ^ (realm.s2sz - 1)) kind) (subst (λ (n : ℕ). (walk m realm ipa n).level ≡ n) deepest reaches)
        (subst (λ (n : ℕ). entry_at m (walk m realm ipa n) ipa ≡ Assigned ripas a) deepest (entry_is ∙ at))

    -- `spare` is the address of a DELEGATED granule, which can become a table in the realm's teardown.
    module _ (spare : ℕ) (spare_aligned : spare % 4096 ≡ 0) (spare_inside : is_inside m spare ≡ true) (spare_free : (granule_at m (number_of m spare)).state ≡ Delegated) where
      unfold_step : (ripas : RmmRipas) (a : ℕ) → l < 3 → ipa < 2 ^ realm.s2sz → entry_in_page (page_in m table) i ≡ Assigned ripas a → HasNextStep m rd spare
      unfold_step ripas a upper within at =
          let back : l + 1 - 1 ≡ l = omega arith in (
            RttCreate rd spare ipa (l + 1),
            (refl, refl, (ripas, a, subst (λ (n : ℕ). entry_at m (walk m realm ipa n) ipa ≡ Assigned ripas a) (sym back) (entry_is ∙ at))),
            block_step m rd spare ipa (l + 1) named spare_aligned spare_inside spare_free (omega arith) (omega arith) (subst (λ (n : ℕ). ipa % entry_size n ≡ 0) (sym back) address.2) within
                (subst (λ (n : ℕ). (walk m realm ipa n).level ≡ n) (sym back) reaches)
                (subst (λ (n : ℕ). is_table (entry_at m (walk m realm ipa n) ipa) ≡ false) (sym back) (ap is_table (entry_is ∙ at))),
          )

      destroy_step : (child : ℕ) → table_below m (entry_in_page (page_in m table) i) ≡ Some child → ipa < 2 ^ realm.s2sz → has_live (page_in m child) ≡ false → HasNextStep m rd spare
      destroy_step child leads within dead =
          let back : l + 1 - 1 ≡ l = omega arith in
          let below = child_there child leads in
          let most = subst (λ (n : ℕ). n ≤ 3) below.level (proper.linked.most child (ap (λ (r : RmmGranule). r.state) below.table)) in (
            RttDestroy rd ipa (l + 1),
            refl,
            table_step m rd ipa (l + 1) child named (omega arith) most (subst (λ (n : ℕ). ipa % entry_size n ≡ 0) (sym back) address.2) within
                (subst (λ (n : ℕ). (walk m realm ipa n).level ≡ n) (sym back) reaches)
                (subst (λ (n : ℕ). table_below m (entry_at m (walk m realm ipa n) ipa) ≡ Some child) (sym back) (ap (table_below m) entry_is ∙ leads)) dead,
          )

      -- a live entry gives the realm a next step, on the premise that a live entry in a table below gives one
      step_by : (e : RmmRttEntry) → entry_in_page (page_in m table) i ≡ e → is_live e ≡ true → IsOfHalf realm ipa e → LeadsInside m e
          → ((child : ℕ) → table_below m (entry_in_page (page_in m table) i) ≡ Some child → has_live (page_in m child) ≡ true → HasNextStep m rd spare) → HasNextStep m rd spare
      step_by (Unassigned ripas) at live kind leads rest = absurd (cc)
      step_by UnassignedNs at live kind leads rest = absurd (cc)
      step_by (Assigned ripas a) at live kind leads rest =
          ⊎_elim
          (λ (upper : l < 3). unfold_step ripas a upper (half realm.s2sz ipa kind) at)
          (λ (least : 3 ≤ l).
          let deepest : l ≡ 3 = (let f = few in omega arith) in
          (DataDestroy rd ipa, refl, leaf_step ripas a deepest at kind))
          (cases_lt l 3)
      step_by (AssignedNs desc) at live kind leads rest = (
        RttUnmapUnprotected rd ipa l,
        refl,
        mapping_step m rd ipa l desc named
            (subst (λ (n : ℕ). m.settings.block_level ≤ n) at_place.1 (proper.ordered.halves.is.block table i at_place.0 index (ap is_mapping at)).0) (omega arith) few address.2
            (and_from (not (is_protected realm ipa)) (is_in_space realm ipa) (ap not (le-ltb ipa (2 ^ (realm.s2sz - 1)) kind.0)) (lt-ltb ipa (2 ^ realm.s2sz) kind.1)) reaches (entry_is ∙ at),
      )
      step_by (Table a) at live kind leads rest =
          let below : table_below m (entry_in_page (page_in m table) i) ≡ Some (number_of m a) = ap (table_below m) at ∙ named_inside m a leads.0 in
          ⊎_elim
          (λ (some : has_live (page_in m (number_of m a)) ≡ true). rest (number_of m a) below some)
          (λ (dead : has_live (page_in m (number_of m a)) ≡ false). destroy_step (number_of m a) below kind dead)
          (cases_Bool (has_live (page_in m (number_of m a))))

  -- RMI_DATA_DESTROY succeeds at some address for an ASSIGNED entry of level 3 in a table of the realm
  pub page_removal : (table i : ℕ) (ripas : RmmRipas) (a : ℕ) → IsTableOf m (number_of m rd) table → i < 512 → proper.linked.level table ≡ 3 → entry_in_page (page_in m table) i ≡ Assigned ripas a
      → (ipa : ℕ) × ((performed (DataDestroy rd ipa) m).0.word ≡ Success)
  page_removal table i ripas a there index deepest at =
      let server = serves_some m proper.linked (number_of m rd) realm is table there in
      let s : IsServer m proper.linked (number_of m rd) realm is table = record { levels = server.0; first = server.1; serves = server.2; depth = server.3 } in
      let first : ℕ = server.1 + i * entry_size (realm.start_level + server.0) in
      (first, leaf_step table i there index s ripas a (sym server.3 ∙ deepest) at (subst (IsOfHalf realm first) at (of_half table i there index s)))

  -- if some REC of the realm does not run, the realm satisfies `HasRemoval`, by RMI_REC_DESTROY
  rec_removal : (g : ℕ) (rec : RmmRec) → granule_at m g ≡ of_realm (number_of m rd) (IsRec rec) → is_running rec.state ≡ false → HasRemoval m rd
  rec_removal g rec there ready =
      let a : ℕ = m.settings.base + g * 4096 in
      let state : state_at m a ≡ IsRec rec = ap (λ (h : ℕ). (granule_at m h).state) (begin_number m g) ∙ ap (λ (r : RmmGranule). r.state) there in
      let within : g < length m.granules = (let s = ap (λ (r : RmmGranule). r.state) there in taken_inside m g (λ free. cc)) in
      let tests : is_rec_named m (m.settings.base + g * 4096) ≡ true =
      and_from (is_aligned a && is_inside m a) (is_some (rec_of (state_at m a))) (and_from (is_aligned a) (is_inside m a) (eq-eqb (a % 4096) 0 (begin_aligned m g proper.linked.sound)) (begin_inside m g within))
      (ap (λ (s : RmmGranuleState). is_some (rec_of s)) state) in
      let at : rec_at m a ≡ rec = ap (λ (s : RmmGranuleState). unwrap_or (rec_of s) no_rec) state in
      let owner : (granule_at m (number_of m a)).owner ≡ Some (number_of m rd) = ap (λ (h : ℕ). (granule_at m h).owner) (begin_number m g) ∙ ap (λ (r : RmmGranule). r.owner) there in
      (RecDestroy a, cond-true (is_rec_named m a) (granule_at m (number_of m a)).owner None tests ∙ owner, rec_step m a tests (ap (λ (r : RmmRec). is_running r.state) at ∙ ready))

  -- some granule is a REC of the realm, or none of the first `count` granules is
  some_rec_or_none : (count : ℕ) → ((g : ℕ) × (is_rec_in (number_of m rd) (granule_at m g) ≡ true)) ⊎ ((g : ℕ) → g < count → is_rec_in (number_of m rd) (granule_at m g) ≡ false)
  some_rec_or_none zero = inr (λ g lt. absurd (omega arith))
  some_rec_or_none (suc count) =
      ⊎_elim
      (λ (some : (g : ℕ) × (is_rec_in (number_of m rd) (granule_at m g) ≡ true)). inl some)
      (λ (none : (g : ℕ) → g < count → is_rec_in (number_of m rd) (granule_at m g) ≡ false). ⊎_elim
      (λ (sure : is_rec_in (number_of m rd) (granule_at m count) ≡ true). inl (count, sure))
      (λ (no : is_rec_in (number_of m rd) (granule_at m count) ≡ false).
      inr (λ g lt. ⊎_elim
      (λ (last : g ≡ count). ap (λ (h : ℕ). is_rec_in (number_of m rd) (granule_at m h)) last ∙ no)
      (λ (before : g ≢ count). none g (omega arith))
      (cases_eq g count)))
      (cases_Bool (is_rec_in (number_of m rd) (granule_at m count))))
      (some_rec_or_none count)

  no_rec_past : ((g : ℕ) → g < length m.granules → is_rec_in (number_of m rd) (granule_at m g) ≡ false) → (g : ℕ) → is_rec_in (number_of m rd) (granule_at m g) ≡ false
  no_rec_past none g =
      ⊎_elim
      (λ (within : g < length m.granules). none g within)
      (λ (past : length m.granules ≤ g). ap (is_rec_in (number_of m rd)) (get_or_past m.granules g (of_no_realm Undelegated) past))
      (cases_lt g (length m.granules))

  module _ (spare : ℕ) (spare_aligned : spare % 4096 ≡ 0) (spare_inside : is_inside m spare ≡ true) (spare_free : (granule_at m (number_of m spare)).state ≡ Delegated) where
    next_from : (fuel table i : ℕ) → 4 ≤ proper.linked.level table + fuel → IsTableOf m (number_of m rd) table → i < 512 → is_live (entry_in_page (page_in m table) i) ≡ true → HasNextStep m rd spare
    next_from zero table i enough there index live = (let most = proper.linked.most table (ap (λ (r : RmmGranule). r.state) there) in absurd (omega arith))
    next_from (suc fuel) table i enough there index live =
        let server = serves_some m proper.linked (number_of m rd) realm is table there in
        let s : IsServer m proper.linked (number_of m rd) realm is table = record { levels = server.0; first = server.1; serves = server.2; depth = server.3 } in
        step_by table i there index s spare spare_aligned spare_inside spare_free (entry_in_page (page_in m table) i) refl live (of_half table i there index s) (proper.linked.inside table i (ap (λ (r : RmmGranule). r.state) there) index)
        (λ child leads some.
        let below = child_there table i there index s child leads in
        let deeper = below.level in
        let depth = server.3 in
        let entry = live_entry (page_in m child) some in
        next_from fuel child entry.0 (omega arith) below.table entry.1 entry.2)

    pub next_step : (table i : ℕ) → IsTableOf m (number_of m rd) table → i < 512 → is_live (entry_in_page (page_in m table) i) ≡ true → HasNextStep m rd spare
    next_step table i there index live = next_from 4 table i (omega arith) there index live

    -- a realm without RECs satisfies `HasNextStep` or `HasRemoval`
    without_recs : ((g : ℕ) → is_rec_in (number_of m rd) (granule_at m g) ≡ false) → HasNextStep m rd spare ⊎ HasRemoval m rd
    without_recs none =
        ⊎_elim
        (λ (some : has_live_table m realm.first_table realm.table_count ≡ true).
        let start = live_start m realm.first_table realm.table_count some in
        let entry = live_entry (page_in m (realm.first_table + start.0)) start.2 in
        inl (next_step (realm.first_table + start.0) entry.0 (start_table m proper.linked (number_of m rd) start.0 realm is start.1) entry.1 entry.2))
        (λ (dead : has_live_table m realm.first_table realm.table_count ≡ false). inr (RealmDestroy rd, refl, realm_step m rd proper named none dead))
        (cases_Bool (has_live_table m realm.first_table realm.table_count))

    -- a realm none of whose RECs runs satisfies `HasNextStep` or `HasRemoval`
    pub step_or_end : ((g : ℕ) (rec : RmmRec) → granule_at m g ≡ of_realm (number_of m rd) (IsRec rec) → is_running rec.state ≡ false) → HasNextStep m rd spare ⊎ HasRemoval m rd
    step_or_end ready =
        ⊎_elim
        (λ (some : (g : ℕ) × (is_rec_in (number_of m rd) (granule_at m g) ≡ true)).
        let it = rec_in (number_of m rd) (granule_at m some.0) some.1 in
        let there : granule_at m some.0 ≡ of_realm (number_of m rd) (IsRec it.0) = ap (λ (s : RmmGranuleState). record { state = s; owner = (granule_at m some.0).owner }) it.1 ∙ ap (λ (o : Option ℕ). record { state = IsRec it.0; owner = o }) it.2 in
        inr (rec_removal some.0 it.0 there (ready some.0 it.0 there)))
        (λ (none : (g : ℕ) → g < length m.granules → is_rec_in (number_of m rd) (granule_at m g) ≡ false). without_recs (no_rec_past none))
        (some_rec_or_none (length m.granules))
