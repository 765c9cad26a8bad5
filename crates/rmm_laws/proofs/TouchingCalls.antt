-- Proofs that no call changes a granule of a realm other than the realm that the call names.
use Rattle.std.proofs.Common.{◌≡◌, false, not, ℕ, zero, suc, ◌+◌, ◌-◌, ◌^◌, ◌<◌, ◌≤◌, inl, inr, Option, Some, None, unwrap_or, refl, sym, ap, subst, ◌∙◌, arith, true}
use Rattle.std.specs.Prelude.{nat_le, nat_lt, is_none, is_some}
use Rattle.std.proofs.lemmas.Bool.{and_parts, eqb-true, leb-true, ltb-true}
use Rattle.rmi_abi.specs.declared.realm_params.RealmParams.{RealmParams}
use Rattle.rmm_model.specs.declared.entry.RmmRttEntry.{RmmRttEntry}
use Rattle.rmm_model.specs.declared.granule.RmmGranule.{RmmGranule}
use Rattle.rmm_model.specs.declared.granule.RmmGranuleState.TheVariants.{Undelegated, Delegated, Rd, Data, Rtt}
use Rattle.rmm_model.specs.declared.realm.RmmRealm.{RmmRealm}
use Rattle.rmm_model.specs.declared.realm.RttWalk.{RttWalk}
use Rattle.rmm_model.specs.Granule.{is_undelegated, is_delegated, of_realm, realm_of}
use Rattle.rmm_model.specs.Level.{entry_index}
use Rattle.rmm_model.specs.Machine.{Machine, granule_at, page_in, is_aligned, is_inside, number_of, state_at, with_granule}
use Rattle.rmm_model.specs.Realm.{is_in_space}
use Rattle.rmm_model.specs.Table.{entry_in_page}
use Rattle.rmm_model.specs.Walk.{entry_at, table_below, memory_below, walk}
use Rattle.rmm_model.specs.Command.DataCreate.{data_create, source_checks, target_checks}
use Rattle.rmm_model.specs.Command.DataCreateUnknown.{data_create_unknown}
use Rattle.rmm_model.specs.Command.DataDestroy.{data_destroy}
use Rattle.rmm_model.specs.Command.GranuleDelegate.{granule_delegate}
use Rattle.rmm_model.specs.Command.GranuleUndelegate.{granule_undelegate}
use Rattle.rmm_model.specs.Command.Operand.{realm_at, is_level}
use Rattle.rmm_model.specs.Command.RealmActivate.{realm_activate}
use Rattle.rmm_model.specs.Command.RealmCreate.{realm_create, params_at, params_checks, are_delegated, can_start, realm_for, with_tables}
use Rattle.rmm_model.specs.Command.RealmDestroy.{realm_destroy, is_realm_live, has_live_table, without_tables}
use Rattle.rmm_model.specs.Command.RipasRange.{with_ripas_from}
use Rattle.rmm_model.specs.Command.RttCreate.{rtt_create}
use Rattle.rmm_model.specs.Command.RttDestroy.{rtt_destroy}
use Rattle.rmm_model.specs.Command.RttFold.{rtt_fold}
use Rattle.rmm_model.specs.Command.RttInitRipas.{rtt_init_ripas, range_checks}
use Rattle.rmm_model.specs.Command.RttMapUnprotected.{rtt_map_unprotected}
use Rattle.rmm_model.specs.Command.RttSetRipas.{rtt_set_ripas, ripas_request_checks, is_rec_of}
use Rattle.rmm_model.specs.Command.RttUnmapUnprotected.{rtt_unmap_unprotected}
use Rattle.rmm_laws.specs.Apart.{rd_named}
use Rattle.rmm_laws.specs.Role.{Used, used, entry_uses, IsLinked}
use Rattle.rmm_laws.proofs.Guests.{same_owner}
use Rattle.rmm_laws.proofs.Mappings.{place_is, served, protected_within, unprotected_within, owned_protected, by_memory, some_of}
use Rattle.rmm_laws.proofs.Ordering.{memory_is}
use Rattle.rmm_laws.proofs.Passed.{Passed, yes_from, is_delegated-true, is_undelegated-true, realm_of-some, rd_named-is}
use Rattle.rmm_laws.proofs.Realms.{all_delegated, start_is, or_none}
use Rattle.rmm_laws.proofs.Touching.{Touches, IsMine, untouched, touch_granule, touch_page, touch_blank}
use Rattle.rmm_laws.proofs.Walks.{IsPlace, next, right, uses-entry, entry_index-few}

-- the RD that a call names by an address: the number of the granule there
abbrev By : Machine → ℕ → Option ℕ
By m rd = Some (number_of m rd)

-- `Touches` for the RD at an address gives `Touches` for the realm that a call names by this address
pub by_rd : (m n : Machine) (rd : ℕ) → not (is_aligned rd) ≡ false → not (is_inside m rd) ≡ false → is_none (realm_of (state_at m rd)) ≡ false → Touches false m n (By m rd) → Touches false m n (rd_named m rd)
by_rd m n rd aligned inside is touches = subst (λ (o : Option ℕ). Touches false m n o) (sym (rd_named-is m rd aligned inside is)) touches

own_rd : (m : Machine) (rd : ℕ) → IsMine false m (By m rd) (number_of m rd)
own_rd m rd = inl (inl refl)

own : (m : Machine) (rd g : ℕ) → (granule_at m g).owner ≡ Some (number_of m rd) → IsMine false m (By m rd) g
own m rd g is = inl (inr is)

spare : (m : Machine) (named : Option ℕ) (g : ℕ) → (granule_at m g).state ≡ Delegated → IsMine false m named g
spare m named g is = inr is

-- ---- granules

pub delegate_touches : (address : ℕ) (m : Machine) → Passed (granule_delegate address m).checks → Touches true m (granule_delegate address m).machine None
unfolding granule_delegate
delegate_touches address m ok =
    touch_blank true m m None (number_of m address) Delegated (untouched true m None) (inr (inl (is_undelegated-true (state_at m address) (yes_from (is_undelegated (state_at m address)) ok.1.1.0))))

pub undelegate_touches : (address : ℕ) (m : Machine) → Passed (granule_undelegate address m).checks → Touches false m (granule_undelegate address m).machine None
unfolding granule_undelegate
undelegate_touches address m ok =
    touch_blank false m m None (number_of m address) Undelegated (untouched false m None) (spare m None (number_of m address) (is_delegated-true (state_at m address) (yes_from (is_delegated (state_at m address)) ok.1.1.0)))

-- ---- realms

pub activate_touches : (rd : ℕ) (m : Machine) → Passed (realm_activate rd m).checks → Touches false m (realm_activate rd m).machine (rd_named m rd)
unfolding realm_activate
activate_touches rd m ok =
    by_rd m (realm_activate rd m).machine rd ok.0 ok.1.0 ok.1.1.0
    (touch_granule false m m (By m rd) (number_of m rd) _ (untouched false m (By m rd)) (own_rd m rd))

made_touches : (m : Machine) (rd k : ℕ) (realm : RmmRealm) → ((i : ℕ) → i < k → (granule_at m (realm.first_table + i)).state ≡ Delegated) → Touches false m (with_tables m rd realm k) None
unfolding with_tables
made_touches m rd zero realm free = untouched false m None
made_touches m rd (suc k) realm free =
    let mine = spare m None (realm.first_table + k) (free k (omega arith)) in
    touch_page false m (with_granule (with_tables m rd realm k) (realm.first_table + k) (of_realm rd Rtt)) None (realm.first_table + k) _
    (touch_granule false m (with_tables m rd realm k) None (realm.first_table + k) (of_realm rd Rtt) (made_touches m rd k realm (λ i lt. free i (omega arith))) mine) mine

pub realm_create_touches : (rd params : ℕ) (m : Machine) → Passed (realm_create rd params m).checks → Touches false m (realm_create rd params m).machine None
unfolding realm_create params_checks can_start realm_for
realm_create_touches rd params m ok =
    let p : RealmParams = params_at m params in
    let free = is_delegated-true (state_at m rd) (yes_from (is_delegated (state_at m rd)) ok.1.1.1.1.1.1.1.1.1.1.0) in
    let starts = and_parts _ (are_delegated m (number_of m p.rtt_base) p.rtt_num_start) (yes_from _ ok.1.1.1.1.1.1.1.1.1.1.1.0) in
    let tables = made_touches m (number_of m rd) p.rtt_num_start (realm_for m p) (λ i lt. all_delegated m (number_of m p.rtt_base) p.rtt_num_start i starts.1 lt) in
    let there = touch_granule false m _ None (number_of m rd) _ tables (spare m None (number_of m rd) free) in
    record { settings = there.settings; count = there.count; each = there.each }

gone_touches : (m : Machine) (rd k : ℕ) (realm : RmmRealm) → ((i : ℕ) → i < k → (granule_at m (realm.first_table + i)).owner ≡ Some (number_of m rd)) → Touches false m (without_tables m realm k) (By m rd)
unfolding without_tables
gone_touches m rd zero realm owned = untouched false m (By m rd)
gone_touches m rd (suc k) realm owned =
    touch_blank false m (without_tables m realm k) (By m rd) (realm.first_table + k) Delegated (gone_touches m rd k realm (λ i lt. owned i (omega arith))) (own m rd (realm.first_table + k) (owned k (omega arith)))

pub realm_destroy_touches : (rd : ℕ) (m : Machine) → IsLinked m → Passed (realm_destroy rd m).checks → Touches false m (realm_destroy rd m).machine (rd_named m rd)
unfolding realm_destroy is_realm_live
realm_destroy_touches rd m proper ok =
    by_rd m (realm_destroy rd m).machine rd ok.0 ok.1.0 ok.1.1.0
    (let realm : RmmRealm = realm_at m rd in
    let is = realm_of-some (state_at m rd) ok.1.1.0 in
    let dead = (or_none (nat_lt 0 realm.rec_count) (has_live_table m realm.first_table realm.table_count) ok.1.1.1.0).1 in
    let tables = gone_touches m rd realm.table_count realm (λ i lt. ap (λ (r : RmmGranule). r.owner) (start_is m proper (number_of m rd) realm is dead i lt).0) in
    let there = touch_blank false m (without_tables m realm realm.table_count) (By m rd) (number_of m rd) Delegated tables (own_rd m rd) in
    record { settings = there.settings; count = there.count; each = there.each })

-- ---- tables

module _ (m : Machine) (proper : IsLinked m) (rd ipa level : ℕ) (is : (granule_at m (number_of m rd)).state ≡ Rd (realm_at m rd)) (within : ipa < 2 ^ (realm_at m rd).s2sz) (least : (realm_at m rd).start_level ≤ level) where
  -- a call may touch the table at which a walk ends, since it belongs to the realm
  own_place : IsMine false m (By m rd) (walk m (realm_at m rd) ipa level).table
  own_place = own m rd (walk m (realm_at m rd) ipa level).table (ap (λ (r : RmmGranule). r.owner) (place_is m proper (number_of m rd) ipa level (realm_at m rd) is within least).table)

  -- a call may touch the table to which the last entry of a walk leads, since it belongs to the realm
  own_below : (g : ℕ) → table_below m (entry_at m (walk m (realm_at m rd) ipa level) ipa) ≡ Some g → IsMine false m (By m rd) g
  own_below g named =
      own m rd g (ap (λ (r : RmmGranule). r.owner)
      (next m proper (number_of m rd) ipa (walk m (realm_at m rd) ipa level) g (place_is m proper (number_of m rd) ipa level (realm_at m rd) is within least) named).table)

  -- a call may touch the page to which the last entry of a walk leads, since it belongs to the realm
  own_memory : (g : ℕ) → level ≡ 3 → (walk m (realm_at m rd) ipa level).level ≡ 3 → memory_below m (entry_at m (walk m (realm_at m rd) ipa level) ipa) ≡ Some g → IsMine false m (By m rd) g
  unfolding entry_at
  own_memory g three reaches named =
      let found : RttWalk = walk m (realm_at m rd) ipa level in
      let end : IsPlace m proper (number_of m rd) ipa found = place_is m proper (number_of m rd) ipa level (realm_at m rd) is within least in
      let i : ℕ = entry_index found.level ipa in
      let entry : RmmRttEntry = entry_in_page (page_in m found.table) i in
      let both = by_memory m (Some (number_of m rd)) entry g named in
      let one : entry_uses m (Some (number_of m rd)) found.level entry 0 ≡ Some (used Data (Some (number_of m rd)) 0 g) =
      subst (λ (l : ℕ). entry_uses m (Some (number_of m rd)) l entry 0 ≡ Some (used Data (Some (number_of m rd)) 0 g)) (sym reaches) both.0 in
      let gives = uses-entry m proper (number_of m rd) ipa found i 0 end (entry_index-few found.level ipa) ∙ one in
      own m rd g (sym (ap (λ (u : Used). u.attributes.owner) (right m proper found.table i 0 (used Data (Some (number_of m rd)) 0 g) gives)))

pub rtt_create_touches : (rd rtt ipa level : ℕ) (m : Machine) → IsLinked m → Passed (rtt_create rd rtt ipa level m).checks → Touches false m (rtt_create rd rtt ipa level m).machine (rd_named m rd)
unfolding rtt_create
rtt_create_touches rd rtt ipa level m proper ok =
    by_rd m (rtt_create rd rtt ipa level m).machine rd ok.1.1.1.0 ok.1.1.1.1.0 ok.1.1.1.1.1.0
    (let realm : RmmRealm = realm_at m rd in
    let free = spare m (By m rd) (number_of m rtt) (is_delegated-true (state_at m rtt) (yes_from (is_delegated (state_at m rtt)) ok.1.1.0)) in
    let is = realm_of-some (state_at m rd) ok.1.1.1.1.1.0 in
    let least : realm.start_level + 1 ≤ level = leb-true _ _ (and_parts (nat_le (realm.start_level + 1) level) (nat_le level 3) (yes_from _ ok.1.1.1.1.1.1.0)).0 in
    let within : ipa < 2 ^ realm.s2sz = ltb-true _ _ (yes_from (is_in_space realm ipa) ok.1.1.1.1.1.1.1.1.0) in
    touch_page false m _ (By m rd) (walk m realm ipa (level - 1)).table _
    (touch_page false m (with_granule m (number_of m rtt) (of_realm (number_of m rd) Rtt)) (By m rd) (number_of m rtt) _
    (touch_granule false m m (By m rd) (number_of m rtt) (of_realm (number_of m rd) Rtt) (untouched false m (By m rd)) free) free)
    (own_place m proper rd ipa (level - 1) is within (omega arith)))

pub rtt_destroy_touches : (rd ipa level : ℕ) (m : Machine) → IsLinked m → Passed (rtt_destroy rd ipa level m).checks → Touches false m (rtt_destroy rd ipa level m).machine (rd_named m rd)
unfolding rtt_destroy
rtt_destroy_touches rd ipa level m proper ok =
    by_rd m (rtt_destroy rd ipa level m).machine rd ok.0 ok.1.0 ok.1.1.0
    (let realm : RmmRealm = realm_at m rd in
    let is = realm_of-some (state_at m rd) ok.1.1.0 in
    let least : realm.start_level + 1 ≤ level = leb-true _ _ (and_parts (nat_le (realm.start_level + 1) level) (nat_le level 3) (yes_from _ ok.1.1.1.0)).0 in
    let within : ipa < 2 ^ realm.s2sz = ltb-true _ _ (yes_from (is_in_space realm ipa) ok.1.1.1.1.1.0) in
    let below : Option ℕ = table_below m (entry_at m (walk m realm ipa (level - 1)) ipa) in
    touch_blank false m _ (By m rd) (unwrap_or below 0) Delegated
    (touch_page false m m (By m rd) (walk m realm ipa (level - 1)).table _ (untouched false m (By m rd)) (own_place m proper rd ipa (level - 1) is within (omega arith)))
    (own_below m proper rd ipa (level - 1) is within (omega arith) (unwrap_or below 0) (some_of below (yes_from (is_some below) ok.1.1.1.1.1.1.1.0))))

pub rtt_fold_touches : (rd ipa level : ℕ) (m : Machine) → IsLinked m → Passed (rtt_fold rd ipa level m).checks → Touches false m (rtt_fold rd ipa level m).machine (rd_named m rd)
unfolding rtt_fold
rtt_fold_touches rd ipa level m proper ok =
    by_rd m (rtt_fold rd ipa level m).machine rd ok.0 ok.1.0 ok.1.1.0
    (let realm : RmmRealm = realm_at m rd in
    let is = realm_of-some (state_at m rd) ok.1.1.0 in
    let least : realm.start_level + 1 ≤ level = leb-true _ _ (and_parts (nat_le (realm.start_level + 1) level) (nat_le level 3) (yes_from _ ok.1.1.1.0)).0 in
    let within : ipa < 2 ^ realm.s2sz = ltb-true _ _ (yes_from (is_in_space realm ipa) ok.1.1.1.1.1.0) in
    let below : Option ℕ = table_below m (entry_at m (walk m realm ipa (level - 1)) ipa) in
    touch_blank false m _ (By m rd) (unwrap_or below 0) Delegated
    (touch_page false m m (By m rd) (walk m realm ipa (level - 1)).table _ (untouched false m (By m rd)) (own_place m proper rd ipa (level - 1) is within (omega arith)))
    (own_below m proper rd ipa (level - 1) is within (omega arith) (unwrap_or below 0) (some_of below (yes_from (is_some below) ok.1.1.1.1.1.1.1.0))))

pub map_touches : (rd ipa level desc : ℕ) (m : Machine) → IsLinked m → Passed (rtt_map_unprotected rd ipa level desc m).checks → Touches false m (rtt_map_unprotected rd ipa level desc m).machine (rd_named m rd)
unfolding rtt_map_unprotected
map_touches rd ipa level desc m proper ok =
    by_rd m (rtt_map_unprotected rd ipa level desc m).machine rd ok.0 ok.1.0 ok.1.1.0
    (let realm : RmmRealm = realm_at m rd in
    let is = realm_of-some (state_at m rd) ok.1.1.0 in
    let levels = and_parts (nat_le m.settings.block_level level) (is_level realm.start_level level) (yes_from _ ok.1.1.1.0) in
    let least = leb-true _ _ (and_parts (nat_le realm.start_level level) (nat_le level 3) levels.1).0 in
    touch_page false m m (By m rd) (walk m realm ipa level).table _ (untouched false m (By m rd)) (own_place m proper rd ipa level is (unprotected_within realm ipa (yes_from _ ok.1.1.1.1.1.0)) least))

pub unmap_touches : (rd ipa level : ℕ) (m : Machine) → IsLinked m → Passed (rtt_unmap_unprotected rd ipa level m).checks → Touches false m (rtt_unmap_unprotected rd ipa level m).machine (rd_named m rd)
unfolding rtt_unmap_unprotected
unmap_touches rd ipa level m proper ok =
    by_rd m (rtt_unmap_unprotected rd ipa level m).machine rd ok.0 ok.1.0 ok.1.1.0
    (let realm : RmmRealm = realm_at m rd in
    let is = realm_of-some (state_at m rd) ok.1.1.0 in
    let levels = and_parts (nat_le m.settings.block_level level) (is_level realm.start_level level) (yes_from _ ok.1.1.1.0) in
    let least = leb-true _ _ (and_parts (nat_le realm.start_level level) (nat_le level 3) levels.1).0 in
    touch_page false m m (By m rd) (walk m realm ipa level).table _ (untouched false m (By m rd)) (own_place m proper rd ipa level is (unprotected_within realm ipa (yes_from _ ok.1.1.1.1.1.0)) least))

-- ---- RIPAS

pub init_ripas_touches : (rd base top : ℕ) (m : Machine) → IsLinked m → Passed (rtt_init_ripas rd base top m).checks → Touches false m (rtt_init_ripas rd base top m).machine (rd_named m rd)
unfolding rtt_init_ripas with_ripas_from range_checks
init_ripas_touches rd base top m proper ok =
    by_rd m (rtt_init_ripas rd base top m).machine rd ok.1.0 ok.1.1.0 ok.1.1.1.0
    (let realm : RmmRealm = realm_at m rd in
    let is = realm_of-some (state_at m rd) ok.1.1.1.0 in
    let within = protected_within realm base (yes_from _ ok.1.1.1.1.1.1.0) in
    touch_granule false m _ (By m rd) (number_of m rd) _
    (touch_page false m m (By m rd) (walk m realm base 3).table _ (untouched false m (By m rd)) (own_place m proper rd base 3 is within (served m (number_of m rd) realm proper is).level))
    (own_rd m rd))

pub set_ripas_touches : (rd rec base top : ℕ) (m : Machine) → IsLinked m → Passed (rtt_set_ripas rd rec base top m).checks → Touches false m (rtt_set_ripas rd rec base top m).machine (rd_named m rd)
unfolding rtt_set_ripas with_ripas_from ripas_request_checks
set_ripas_touches rd rec base top m proper ok =
    by_rd m (rtt_set_ripas rd rec base top m).machine rd ok.1.0 ok.1.1.0 ok.1.1.1.0
    (let realm : RmmRealm = realm_at m rd in
    let is = realm_of-some (state_at m rd) ok.1.1.1.0 in
    let within = protected_within realm base (owned_protected realm (is_rec_of m rd rec) _ (nat_le top base) base ok.1.1.1.1.1.1.1.1.1.0 ok.0 (yes_from _ ok.1.1.1.1.1.1.1.1.1.1.1.0)) in
    let owner = same_owner (granule_at m (number_of m rec)).owner (Some (number_of m rd)) (yes_from (is_rec_of m rd rec) ok.1.1.1.1.1.1.1.1.1.0) in
    touch_granule false m _ (By m rd) (number_of m rec) _
    (touch_page false m m (By m rd) (walk m realm base 3).table _ (untouched false m (By m rd)) (own_place m proper rd base 3 is within (served m (number_of m rd) realm proper is).level))
    (own m rd (number_of m rec) owner))

-- ---- memory

pub data_create_touches : (rd target ipa source flags : ℕ) (m : Machine) → IsLinked m → Passed (data_create rd target ipa source flags m).checks → Touches false m (data_create rd target ipa source flags m).machine (rd_named m rd)
unfolding data_create source_checks target_checks
data_create_touches rd target ipa source flags m proper ok =
    by_rd m (data_create rd target ipa source flags m).machine rd ok.1.1.1.1.1.1.1.0 ok.1.1.1.1.1.1.1.1.0 ok.1.1.1.1.1.1.1.1.1.0
    (let realm : RmmRealm = realm_at m rd in
    let is = realm_of-some (state_at m rd) ok.1.1.1.1.1.1.1.1.1.0 in
    let free = spare m (By m rd) (number_of m target) (is_delegated-true (state_at m target) (yes_from (is_delegated (state_at m target)) ok.1.1.1.1.1.1.0)) in
    let within = protected_within realm ipa (yes_from _ ok.1.1.1.1.1.1.1.1.1.1.1.0) in
    touch_granule false m _ (By m rd) (number_of m rd) _
    (touch_page false m _ (By m rd) (walk m realm ipa 3).table _
    (touch_page false m (with_granule m (number_of m target) (of_realm (number_of m rd) Data)) (By m rd) (number_of m target) _
    (touch_granule false m m (By m rd) (number_of m target) (of_realm (number_of m rd) Data) (untouched false m (By m rd)) free) free)
    (own_place m proper rd ipa 3 is within (served m (number_of m rd) realm proper is).level))
    (own_rd m rd))

pub data_create_unknown_touches : (rd target ipa : ℕ) (m : Machine) → IsLinked m → Passed (data_create_unknown rd target ipa m).checks → Touches false m (data_create_unknown rd target ipa m).machine (rd_named m rd)
unfolding data_create_unknown
data_create_unknown_touches rd target ipa m proper ok =
    by_rd m (data_create_unknown rd target ipa m).machine rd ok.1.1.1.0 ok.1.1.1.1.0 ok.1.1.1.1.1.0
    (let realm : RmmRealm = realm_at m rd in
    let is = realm_of-some (state_at m rd) ok.1.1.1.1.1.0 in
    let free = spare m (By m rd) (number_of m target) (is_delegated-true (state_at m target) (yes_from (is_delegated (state_at m target)) ok.1.1.0)) in
    let within = protected_within realm ipa (yes_from _ ok.1.1.1.1.1.1.1.0) in
    touch_page false m _ (By m rd) (walk m realm ipa 3).table _
    (touch_page false m (with_granule m (number_of m target) (of_realm (number_of m rd) Data)) (By m rd) (number_of m target) _
    (touch_granule false m m (By m rd) (number_of m target) (of_realm (number_of m rd) Data) (untouched false m (By m rd)) free) free)
    (own_place m proper rd ipa 3 is within (served m (number_of m rd) realm proper is).level))

pub data_destroy_touches : (rd ipa : ℕ) (m : Machine) → IsLinked m → Passed (data_destroy rd ipa m).checks → Touches false m (data_destroy rd ipa m).machine (rd_named m rd)
unfolding data_destroy
data_destroy_touches rd ipa m proper ok =
    by_rd m (data_destroy rd ipa m).machine rd ok.0 ok.1.0 ok.1.1.0
    (let realm : RmmRealm = realm_at m rd in
    let is = realm_of-some (state_at m rd) ok.1.1.0 in
    let within = protected_within realm ipa (yes_from _ ok.1.1.1.1.0) in
    let level = (served m (number_of m rd) realm proper is).level in
    let reaches : (walk m realm ipa 3).level ≡ 3 = eqb-true _ _ (yes_from _ ok.1.1.1.1.1.0) in
    let below : Option ℕ = memory_below m (entry_at m (walk m realm ipa 3) ipa) in
    touch_blank false m _ (By m rd) (unwrap_or below 0) Delegated
    (touch_page false m m (By m rd) (walk m realm ipa 3).table _ (untouched false m (By m rd)) (own_place m proper rd ipa 3 is within level))
    (own m rd (unwrap_or below 0)
    (ap (λ (r : RmmGranule). r.owner) (memory_is m proper rd ipa is within reaches (unwrap_or below 0) (some_of below (yes_from (is_some below) ok.1.1.1.1.1.1.0))))))
