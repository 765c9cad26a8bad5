-- Proofs that RMI_REALM_CREATE and RMI_REALM_DESTROY keep the invariant `IsProper` on roles and owners of granules.
use Rattle.std.proofs.Common.{◌≡◌, ◌≢◌, ℕ, zero, suc, ◌+◌, ◌*◌, ◌%◌, ◌<◌, ◌≤◌, ◌^◌, inl, inr, true, false, length, Option, Some, None, refl, sym, ap, subst, ◌∙◌, ⊎_elim, arith}
use Rattle.std.specs.Prelude.{nat_le, nat_lt, is_some, IfSome}
use Rattle.std.specs.List.{count_by}
use Rattle.std.proofs.lemmas.Bool.{cases_eq, cases_Bool, and_left, and_parts, leb-true, ltb-true, eqb-true, lt-ltb, both_ways}
use Rattle.granule_addr.specs.Page.{zero_page}
use Rattle.rmi_abi.specs.declared.realm_params.RealmParams.{RealmParams}
use Rattle.rmm_model.specs.declared.granule.RmmGranule.{RmmGranule}
use Rattle.rmm_model.specs.declared.granule.RmmGranuleState.{RmmGranuleState}
use Rattle.rmm_model.specs.declared.granule.RmmGranuleState.TheVariants.{Undelegated, Delegated, Rd, Rec as IsRec, RecAux, Data, Rtt}
use Rattle.rmm_model.specs.declared.realm.RmmRealm.{RmmRealm}
use Rattle.rmm_model.specs.Granule.{of_no_realm, of_realm, is_delegated, realm_of, rec_of}
use Rattle.rmm_model.specs.Level.{entry_size}
use Rattle.rmm_model.specs.Machine.{Machine, granule_at, granule_count, page_in, is_inside, number_of, state_at, with_granule, with_blank, with_vmid}
use Rattle.rmm_model.specs.Realm.{IsServed, is_start}
use Rattle.rmm_model.specs.Command.Operand.{realm_at}
use Rattle.rmm_model.specs.Command.RealmCreate.{realm_create, params_at, params_checks, is_supported, are_delegated, can_start, realm_for, with_tables}
use Rattle.rmm_model.specs.Command.RealmDestroy.{realm_destroy, has_live_table, is_realm_live, without_tables}
use Rattle.rmm_laws.specs.Half.{HasHalves}
use Rattle.rmm_laws.specs.Owner.{is_rd, IsOwner, is_owner, IsOrderly, IsOrderlyAt, is_rec_in, IsOrdered}
use Rattle.rmm_laws.specs.Proper.{IsProper}
use Rattle.rmm_laws.specs.Role.{Used, used_at, level_in, has_user, uses, IsUsed, HasNoUser, IsSound}
use Rattle.rmm_laws.proofs.Entries.{number_inside}
use Rattle.rmm_laws.proofs.Halves.{has_space, kept_or_plain}
use Rattle.rmm_laws.proofs.NewRealms.{new_halves}
use Rattle.rmm_laws.proofs.Orders.{KeepsOwner, orderly_same, is_counter, counted, plain_in, total-alike, none_counted, some_rec, rd_of, no_rec_of, rec_in, rec_in-true, ordered_vmid}
use Rattle.rmm_laws.proofs.Owning.{IsUserOf, user_of}
use Rattle.rmm_laws.proofs.Passed.{Passed, yes_from, some_same, is_delegated-true, realm_of-some}
use Rattle.rmm_laws.proofs.Realms.{IsRealm, NoStart, IsStart, start_or_none, start_uses, or_none, vmid_kept, made_other, made_count, made_tables, count_is, levels, is_realm, realm_there, gone_count, gone_other, gone_sound, gone_tables, was_realm, cleared_count, rd_in, start_is, no_realm_there, all_delegated, fits, not_start, multiple}
use Rattle.rmm_laws.proofs.Writes.{granule_at-same, granule_at-other, page_in-same, page_in-other, taken_inside}

-- ---- RMI_REALM_CREATE

module _ (m : Machine) (proper : IsProper m) (rd : ℕ) (realm : RmmRealm) (fit : IsServed (length m.granules) realm) (rd_inside : rd < length m.granules) (rd_free : (granule_at m rd).state ≡ Delegated)
    (apart : (i : ℕ) → i < realm.table_count → realm.first_table + i ≢ rd) (free : (i : ℕ) → i < realm.table_count → (granule_at m (realm.first_table + i)).state ≡ Delegated) (fresh : realm.rec_count ≡ 0)
    (wide : entry_size realm.start_level < 2 ^ realm.s2sz) where
  abbrev tables : Machine
  tables = with_tables m rd realm realm.table_count

  abbrev new : Machine
  new = with_granule tables rd (of_no_realm (Rd realm))

  step : IsRealm m new proper.linked.level (levels m proper.linked rd realm fit rd_inside rd_free apart free) rd realm
  step = is_realm m proper.linked rd realm fit rd_inside rd_free apart free

  inside_then : rd < length tables.granules
  inside_then = let c = count_is m proper.linked rd realm fit rd_inside rd_free apart free in omega arith

  rd_now : granule_at new rd ≡ of_no_realm (Rd realm)
  rd_now = granule_at-same tables rd (of_no_realm (Rd realm)) inside_then

  -- an RD that existed before is neither the new RD nor a new starting table
  rd_kept : (x : ℕ) → is_rd (granule_at m x).state ≡ true → (x ≢ rd) × NoStart realm x
  rd_kept x sure = (
    λ same. (let never : is_rd (granule_at m x).state ≡ false = ap (λ (y : ℕ). is_rd (granule_at m y).state) same ∙ ap is_rd rd_free in absurd (both_ways (is_rd (granule_at m x).state) never sure)),
    λ i lt same. (let never : is_rd (granule_at m x).state ≡ false = ap (λ (y : ℕ). is_rd (granule_at m y).state) same ∙ ap is_rd (free i lt) in absurd (both_ways (is_rd (granule_at m x).state) never sure)),
  )

  keeps : (owner : Option ℕ) → KeepsOwner m new owner
  keeps owner x named sure = let other = rd_kept x sure in ap (λ (r : RmmGranule). is_rd r.state) (step.beside x other.0 other.1).0 ∙ sure

  orderly_then : (h : ℕ) → IsOrderlyAt new h
  orderly_then h =
      ⊎_elim
      (λ (here : h ≡ rd). subst (λ (x : ℕ). IsOrderlyAt new x) (sym here) (subst (λ (r : RmmGranule). IsOrderly new r.state r.owner (page_in new rd)) (sym rd_now) refl))
      (λ (other : h ≢ rd). ⊎_elim
      (λ (start : IsStart realm h).
      subst (λ (x : ℕ). IsOrderlyAt new x) (sym start.2)
      (subst (λ (r : RmmGranule). IsOrderly new r.state r.owner (page_in new (realm.first_table + start.0))) (sym (step.made start.0 start.1)) (ap is_rd step.rd_made)))
      (λ (none : NoStart realm h).
      let same = step.beside h other none in
      orderly_same m new step.settings step.count h same.0 same.1 (keeps (granule_at m h).owner) (proper.ordered.each h))
      (start_or_none realm h))
      (cases_eq h rd)

  -- making the starting tables changes no realm's count of RECs
  tables_total : (k x : ℕ) → k ≤ realm.table_count → count_by (is_rec_in x) (with_tables m rd realm k).granules ≡ count_by (is_rec_in x) m.granules
  unfolding with_tables
  tables_total zero x few = refl
  tables_total (suc k) x few =
      let before : Machine = with_tables m rd realm k in
      let g : ℕ = realm.first_table + k in
      let was : (granule_at before g).state ≡ Delegated = ap (λ (r : RmmGranule). r.state) (made_other m rd realm k g (λ i lt at. omega arith)).0 ∙ free k (omega arith) in
      let c = made_count m rd realm k in
      let bound = fit.inside in
      total-alike before g (of_realm rd Rtt) x (omega arith) (sym (plain_in (granule_at before g) x (ap is_counter was)))
      ∙ tables_total k x (omega arith)

  rd_was : (granule_at tables rd).state ≡ Delegated
  rd_was = ap (λ (r : RmmGranule). r.state) (made_other m rd realm realm.table_count rd (λ i lt at. apart i lt (sym at))).0 ∙ rd_free

  total_then : (x : ℕ) → count_by (is_rec_in x) new.granules ≡ count_by (is_rec_in x) m.granules
  total_then x =
      total-alike tables rd (of_no_realm (Rd realm)) x inside_then (sym (plain_in (granule_at tables rd) x (ap is_counter rd_was)))
      ∙ tables_total realm.table_count x (omega arith)

  recs_then : (x : ℕ) (other : RmmRealm) → (granule_at new x).state ≡ Rd other → other.rec_count ≡ count_by (is_rec_in x) new.granules
  recs_then x other is =
      ⊎_elim
      (λ (here : x ≡ rd).
      let both : Rd other ≡ Rd realm = sym is ∙ ap (λ (y : ℕ). (granule_at new y).state) here ∙ step.rd_made in
      let none = none_counted m rd (no_rec_of m rd proper.ordered (ap is_rd rd_free)) in
      some_same (ap counted both) ∙ fresh ∙ sym (total_then x ∙ ap (λ (y : ℕ). count_by (is_rec_in y) m.granules) here ∙ none))
      (λ (apart_then : x ≢ rd). ⊎_elim
      (λ (start : IsStart realm x).
      let table : (granule_at new x).state ≡ Rtt = ap (λ (y : ℕ). (granule_at new y).state) start.2 ∙ ap (λ (r : RmmGranule). r.state) (step.made start.0 start.1) in
      absurd (cc))
      (λ (none : NoStart realm x).
      proper.ordered.recs x other (sym (ap (λ (r : RmmGranule). r.state) (step.beside x apart_then none).0) ∙ is) ∙ sym (total_then x))
      (start_or_none realm x))
      (cases_eq x rd)

  halves_then : HasHalves new
  halves_then = new_halves m new proper.linked proper.ordered.halves rd realm (levels m proper.linked rd realm fit rd_inside rd_free apart free) step wide fit.level
      (λ i lt. (made_tables m rd realm proper.linked.sound fit.inside realm.table_count i (omega arith) lt).1)
      (λ g is.
      let owns : IsOwner m (Some rd) = subst (IsOwner m) (ap (λ (r : RmmGranule). r.owner) is) (rd_of m g proper.ordered Rtt (ap (λ (r : RmmGranule). r.state) is) refl) in
      both_ways (is_rd (granule_at m rd).state) (ap is_rd rd_free) owns)

  realm_ordered : IsOrdered new
  realm_ordered = record { each = orderly_then; recs = recs_then; halves = halves_then }

  realm_proper : (vmid : ℕ) → IsProper (with_vmid new vmid true)
  realm_proper vmid = record {
    linked = vmid_kept new vmid true (realm_there m proper.linked rd realm fit rd_inside rd_free apart free);
    ordered = ordered_vmid new vmid true realm_ordered;
  }

-- an entry of a valid starting level is smaller than the address space
start_wide : (s2sz level count : ℕ) → is_start s2sz level count ≡ true → entry_size level < 2 ^ s2sz
unfolding is_start
start_wide s2sz level count is = ltb-true _ _ (and_parts _ _ (and_parts _ _ (and_parts _ _ is).0).0).1

pub realm_created : (rd params : ℕ) (m : Machine) → IsProper m → Passed (realm_create rd params m).checks → IsProper (realm_create rd params m).machine
unfolding realm_create params_checks can_start realm_for
realm_created rd params m proper ok =
    let sound = proper.linked.sound in
    let p : RealmParams = params_at m params in
    let supported : is_supported m.settings p ≡ true = yes_from (is_supported m.settings p) ok.1.1.1.1.0 in
    let start : is_start p.s2sz p.rtt_level_start p.rtt_num_start ≡ true = yes_from _ ok.1.1.1.1.1.0 in
    let base : p.rtt_base % (p.rtt_num_start * 4096) ≡ 0 = eqb-true _ _ (yes_from _ ok.1.1.1.1.1.1.0) in
    let alias = ok.1.1.1.1.1.1.1.0 in
    let aligned : rd % 4096 ≡ 0 = eqb-true _ _ (yes_from _ ok.1.1.1.1.1.1.1.1.0) in
    let rd_inside : is_inside m rd ≡ true = yes_from (is_inside m rd) ok.1.1.1.1.1.1.1.1.1.0 in
    let free = is_delegated-true (state_at m rd) (yes_from (is_delegated (state_at m rd)) ok.1.1.1.1.1.1.1.1.1.1.0) in
    let starts = and_parts _ (are_delegated m (number_of m p.rtt_base) p.rtt_num_start) (yes_from _ ok.1.1.1.1.1.1.1.1.1.1.1.0) in
    let range = and_parts (is_inside m p.rtt_base) (nat_le (number_of m p.rtt_base + p.rtt_num_start) (granule_count m)) starts.0 in
    realm_proper m proper (number_of m rd) (realm_for m p) (fits m p sound supported start (leb-true _ _ range.1)) (number_inside m rd rd_inside) free
    (λ i lt. not_start m p rd i alias rd_inside range.0 aligned (multiple p.rtt_base p.rtt_num_start base (omega arith)) sound.platform.base_aligned lt)
    (λ i lt. all_delegated m (number_of m p.rtt_base) p.rtt_num_start i starts.1 lt) refl (start_wide p.s2sz p.rtt_level_start p.rtt_num_start start) p.vmid

-- ---- RMI_REALM_DESTROY

module _ (m : Machine) (proper : IsProper m) (rd : ℕ) (realm : RmmRealm) (is : (granule_at m rd).state ≡ Rd realm) (dead : has_live_table m realm.first_table realm.table_count ≡ false) (none : realm.rec_count ≡ 0) where
  abbrev cleared : Machine
  cleared = without_tables m realm realm.table_count

  abbrev gone : Machine
  gone = with_blank cleared rd Delegated

  abbrev level : ℕ → ℕ
  level = proper.linked.level

  was : IsRealm gone m proper.linked.level proper.linked.level rd realm
  was = was_realm m proper.linked rd realm is dead

  -- no granule is a REC of the realm
  no_rec_left : (h : ℕ) → is_rec_in rd (granule_at m h) ≡ false
  no_rec_left h =
      ⊎_elim
      (λ (sure : is_rec_in rd (granule_at m h) ≡ true).
      let it = rec_in rd (granule_at m h) sure in
      let state = it.1 in
      let some = some_rec m h rd (taken_inside m h (λ free. cc)) sure in
      let count = proper.ordered.recs rd realm is in
      absurd (omega arith))
      (λ (no : is_rec_in rd (granule_at m h) ≡ false). no)
      (cases_Bool (is_rec_in rd (granule_at m h)))

  -- a starting table uses nothing
  start_uses_none : (x : ℕ) → IsStart realm x → (i k : ℕ) → uses m level x i k ≡ None
  start_uses_none x start i k = ap (λ (y : ℕ). uses m level y i k) start.2 ∙ start_uses gone m level level rd realm was start.0 i k start.1

  same_realm : (a b : RmmRealm) → Rd a ≡ Rd b → a ≡ b
  same_realm a b same = let both : Some a ≡ Some b = ap realm_of same in cc

  -- a used table of the realm is a starting table, if each table of the realm at a smaller level is a starting table
  start_by : (fuel h x i k : ℕ) (s : RmmGranuleState) → ((y : ℕ) → level y < fuel → (granule_at m y).state ≡ Rtt → (granule_at m y).owner ≡ Some rd → IsStart realm y) → level h < suc fuel → (granule_at m h).state ≡ Rtt
      → (granule_at m h).owner ≡ Some rd → (granule_at m x).state ≡ s → uses m level x i k ≡ Some (used_at m level h) → IsUserOf s (granule_at m x).owner (level x) x i (used_at m level h) → IsStart realm h
  start_by fuel h x i k (Rd other) starts low table owned state gives user =
      let here : x ≡ rd = some_same (sym (ap (λ (u : Used). u.attributes.owner) user.1) ∙ owned) in
      let it : other ≡ realm = same_realm other realm (sym state ∙ ap (λ (y : ℕ). (granule_at m y).state) here ∙ is) in
      let number : h ≡ other.first_table + i = ap (λ (u : Used). u.number) user.1 in
      subst (λ (r : RmmRealm). IsStart r h) it (i, user.0, number)
  start_by fuel h x i k Rtt starts low table owned state gives user =
      ⊎_elim
      (λ (below : ((granule_at m h).state ≡ Rtt) × (level_in (granule_at m h).state (level h) ≡ level x + 1)).
      let up : level h ≡ level x + 1 = sym (ap (λ (s : RmmGranuleState). level_in s (level h)) table) ∙ below.1 in
      let start = starts x (omega arith) state (sym user.0 ∙ owned) in
      let none = start_uses_none x start i k in
      absurd (cc))
      (λ (memory : (granule_at m h).state ≡ Data). absurd (cc))
      user.1
  start_by fuel h x i k (IsRec rec) starts low table owned state gives user =
      let aux : (granule_at m h).state ≡ RecAux = ap (λ (r : RmmGranule). r.state) user in
      absurd (cc)
  start_by fuel h x i k _ starts low table owned state gives user = absurd user

  -- before a successful RMI_REALM_DESTROY, each table of the realm is a starting table
  starts : (fuel h : ℕ) → level h < fuel → (granule_at m h).state ≡ Rtt → (granule_at m h).owner ≡ Some rd → IsStart realm h
  unfolding uses
  starts zero h low table owned = absurd (omega arith)
  starts (suc fuel) h low table owned =
      ⊎_elim
      (λ (r : IsUsed (uses m level) (used_at m level) h).
      start_by fuel h r.user r.index r.part (granule_at m r.user).state (starts fuel) low table owned refl r.is
      (user_of m (granule_at m r.user).state (granule_at m r.user).owner (level r.user) (page_in m r.user) r.user r.index r.part (used_at m level h) r.is))
      (λ (r : HasNoUser (uses m level) (used_at m level) h). absurd (both_ways (has_user (granule_at m h).state) r.role (ap has_user table)))
      (proper.linked.roles h)

  -- no table of the realm uses anything
  no_table : (x i k : ℕ) (u : Used) → (granule_at m x).state ≡ Rtt → (granule_at m x).owner ≡ Some rd → uses m level x i k ≡ Some u → ⊥
  no_table x i k u table owned gives =
      let none = start_uses_none x (starts (suc (level x)) x (omega arith) table owned) i k in
      cc

  -- a granule of the realm that is no table is not used
  no_user : (h x i k : ℕ) (s : RmmGranuleState) → (granule_at m h).owner ≡ Some rd → ((granule_at m h).state ≡ Rtt → ⊥) → (granule_at m x).state ≡ s → uses m level x i k ≡ Some (used_at m level h)
      → IsUserOf s (granule_at m x).owner (level x) x i (used_at m level h) → ⊥
  no_user h x i k (Rd other) owned not_table state gives user = not_table (ap (λ (u : Used). u.attributes.state) user.1)
  no_user h x i k Rtt owned not_table state gives user = no_table x i k (used_at m level h) state (sym user.0 ∙ owned) gives
  no_user h x i k (IsRec rec) owned not_table state gives user =
      both_ways (is_rec_in rd (granule_at m x)) (no_rec_left x) (rec_in-true rd (granule_at m x) rec state (sym (ap (λ (r : RmmGranule). r.owner) user) ∙ owned))
  no_user h x i k _ owned not_table state gives user = user

  -- before a successful RMI_REALM_DESTROY, a granule of the realm whose state requires a user is a table
  used_not : (h : ℕ) → (granule_at m h).owner ≡ Some rd → ((granule_at m h).state ≡ Rtt → ⊥) → has_user (granule_at m h).state ≡ true → ⊥
  unfolding uses
  used_not h owned not_table used_is =
      ⊎_elim
      (λ (r : IsUsed (uses m level) (used_at m level) h).
      no_user h r.user r.index r.part (granule_at m r.user).state owned not_table refl r.is
      (user_of m (granule_at m r.user).state (granule_at m r.user).owner (level r.user) (page_in m r.user) r.user r.index r.part (used_at m level h) r.is))
      (λ (r : HasNoUser (uses m level) (used_at m level) h). both_ways (has_user (granule_at m h).state) r.role used_is)
      (proper.linked.roles h)

  pub not_owned : (h : ℕ) (s : RmmGranuleState) → NoStart realm h → (granule_at m h).state ≡ s → IsOrderly m s (granule_at m h).owner (page_in m h) → (granule_at m h).owner ≡ Some rd → ⊥
  not_owned h Undelegated no_start state orderly owned = let never : None ≡ Some rd = sym orderly ∙ owned in cc
  not_owned h Delegated no_start state orderly owned = let never : None ≡ Some rd = sym orderly.0 ∙ owned in cc
  not_owned h (Rd other) no_start state orderly owned = let never : None ≡ Some rd = sym orderly ∙ owned in cc
  not_owned h (IsRec rec) no_start state orderly owned = both_ways (is_rec_in rd (granule_at m h)) (no_rec_left h) (rec_in-true rd (granule_at m h) rec state owned)
  not_owned h Rtt no_start state orderly owned = let start = starts (suc (level h)) h (omega arith) state owned in no_start start.0 start.1 start.2
  not_owned h Data no_start state orderly owned = used_not h owned (λ table. cc) (ap has_user state)
  not_owned h RecAux no_start state orderly owned = used_not h owned (λ table. cc) (ap has_user state)

  -- an RD of another realm is no starting table of the destroyed realm
  rd_kept_then : (x : ℕ) → x ≢ rd → is_rd (granule_at m x).state ≡ true → NoStart realm x
  rd_kept_then x other sure i lt same =
      let never : is_rd (granule_at m x).state ≡ false = ap (λ (y : ℕ). is_rd (granule_at m y).state) same ∙ ap (λ (r : RmmGranule). is_rd r.state) (start_is m proper.linked rd realm is dead i lt).0 in
      both_ways (is_rd (granule_at m x).state) never sure

  rd_inside_then : rd < length cleared.granules
  rd_inside_then = let c = cleared_count m proper.linked rd realm is dead in let r = rd_in m proper.linked rd realm is dead in omega arith

  fit_then : IsServed (length m.granules) realm
  fit_then = subst (λ (s : RmmGranuleState). IfSome (realm_of s) (IsServed (length m.granules))) is (proper.linked.sound.tables.each rd)

  sound_then : IsSound cleared
  sound_then = gone_sound m realm proper.linked.sound fit_then.inside realm.table_count (omega arith)

  pub rd_gone : granule_at gone rd ≡ of_no_realm Delegated
  rd_gone = granule_at-same cleared rd (of_no_realm Delegated) rd_inside_then

  pub rd_zero : page_in gone rd ≡ zero_page
  rd_zero = let p = sound_then.pages in let r = rd_inside_then in page_in-same (with_granule cleared rd (of_no_realm Delegated)) rd zero_page (omega arith)

  pub start_gone : (i : ℕ) → i < realm.table_count → (granule_at gone (realm.first_table + i) ≡ of_no_realm Delegated) × (page_in gone (realm.first_table + i) ≡ zero_page)
  start_gone i lt =
      let g : ℕ = realm.first_table + i in
      let other : g ≢ rd = λ same. (
      let table : (granule_at m g).state ≡ Rtt = ap (λ (r : RmmGranule). r.state) (start_is m proper.linked rd realm is dead i lt).0 in
      let states : (granule_at m g).state ≡ (granule_at m rd).state = ap (λ (y : ℕ). (granule_at m y).state) same in
      cc) in
      let freed = gone_tables m realm proper.linked.sound fit_then.inside realm.table_count i (omega arith) lt in
      (granule_at-other cleared rd g (of_no_realm Delegated) other ∙ freed.0, page_in-other (with_granule cleared rd (of_no_realm Delegated)) rd g zero_page other ∙ freed.1)

  orderly_gone : (h : ℕ) → IsOrderlyAt gone h
  orderly_gone h =
      ⊎_elim
      (λ (here : h ≡ rd). subst (λ (x : ℕ). IsOrderlyAt gone x) (sym here) (subst (λ (r : RmmGranule). IsOrderly gone r.state r.owner (page_in gone rd)) (sym rd_gone) (refl, rd_zero)))
      (λ (other : h ≢ rd). ⊎_elim
      (λ (start : IsStart realm h).
      let freed = start_gone start.0 start.1 in
      subst (λ (x : ℕ). IsOrderlyAt gone x) (sym start.2)
      (subst (λ (r : RmmGranule). IsOrderly gone r.state r.owner (page_in gone (realm.first_table + start.0))) (sym freed.0) (refl, freed.1)))
      (λ (no_start : NoStart realm h).
      let same = was.beside h other no_start in
      orderly_same m gone (sym was.settings) (sym was.count) h (sym same.0) (sym same.1)
      (λ x named sure.
      let apart : x ≢ rd = λ here. not_owned h (granule_at m h).state no_start refl (proper.ordered.each h) (named ∙ ap (λ (y : ℕ). Some y) here) in
      ap (λ (r : RmmGranule). is_rd r.state) (sym (was.beside x apart (rd_kept_then x apart sure)).0) ∙ sure)
      (proper.ordered.each h))
      (start_or_none realm h))
      (cases_eq h rd)

  cleared_total : (k x : ℕ) → k ≤ realm.table_count → count_by (is_rec_in x) (without_tables m realm k).granules ≡ count_by (is_rec_in x) m.granules
  unfolding without_tables
  cleared_total zero x few = refl
  cleared_total (suc k) x few =
      let before : Machine = without_tables m realm k in
      let g : ℕ = realm.first_table + k in
      let table : (granule_at before g).state ≡ Rtt =
      ap (λ (r : RmmGranule). r.state) (gone_other m realm k g (λ i lt at. omega arith)).0 ∙ ap (λ (r : RmmGranule). r.state) (start_is m proper.linked rd realm is dead k (omega arith)).0 in
      let c = gone_count m realm k in
      let bound = fit_then.inside in
      total-alike before g (of_no_realm Delegated) x (omega arith) (sym (plain_in (granule_at before g) x (ap is_counter table)))
      ∙ cleared_total k x (omega arith)

  -- the RD is still the RD of the realm after the starting tables have become DELEGATED
  rd_before : (granule_at cleared rd).state ≡ Rd realm
  rd_before =
      ap (λ (r : RmmGranule). r.state)
      (gone_other m realm realm.table_count rd (λ i lt at. (
      let table : (granule_at m rd).state ≡ Rtt = ap (λ (y : ℕ). (granule_at m y).state) at ∙ ap (λ (r : RmmGranule). r.state) (start_is m proper.linked rd realm is dead i lt).0 in
      cc))).0
      ∙ is

  gone_total : (x : ℕ) → count_by (is_rec_in x) gone.granules ≡ count_by (is_rec_in x) m.granules
  gone_total x =
      total-alike cleared rd (of_no_realm Delegated) x rd_inside_then
      (sym (and_left (is_some (rec_of (granule_at cleared rd).state)) (is_owner x (granule_at cleared rd).owner) (ap (λ (s : RmmGranuleState). is_some (rec_of s)) rd_before)))
      ∙ cleared_total realm.table_count x (omega arith)

  recs_gone : (x : ℕ) (other : RmmRealm) → (granule_at gone x).state ≡ Rd other → other.rec_count ≡ count_by (is_rec_in x) gone.granules
  recs_gone x other there =
      ⊎_elim
      (λ (here : x ≡ rd). let free : (granule_at gone x).state ≡ Delegated = ap (λ (y : ℕ). (granule_at gone y).state) here ∙ ap (λ (r : RmmGranule). r.state) rd_gone in absurd (cc))
      (λ (apart : x ≢ rd). ⊎_elim
      (λ (start : IsStart realm x).
      let free : (granule_at gone x).state ≡ Delegated = ap (λ (y : ℕ). (granule_at gone y).state) start.2 ∙ ap (λ (r : RmmGranule). r.state) (start_gone start.0 start.1).0 in
      absurd (cc))
      (λ (no_start : NoStart realm x).
      proper.ordered.recs x other (ap (λ (r : RmmGranule). r.state) (was.beside x apart no_start).0 ∙ there) ∙ sym (gone_total x))
      (start_or_none realm x))
      (cases_eq x rd)

  halves_gone : HasHalves gone
  halves_gone =
      kept_or_plain m gone (sym was.settings) (sym was.count) (λ h.
      ⊎_elim
      (λ (here : h ≡ rd). inr (ap (λ (x : ℕ). has_space (granule_at gone x).state) here ∙ ap (λ (r : RmmGranule). has_space r.state) rd_gone))
      (λ (other : h ≢ rd). ⊎_elim
      (λ (start : IsStart realm h). inr (ap (λ (x : ℕ). has_space (granule_at gone x).state) start.2 ∙ ap (λ (r : RmmGranule). has_space r.state) (start_gone start.0 start.1).0))
      (λ (no_start : NoStart realm h). (let same = was.beside h other no_start in inl (sym same.0, sym same.1)))
      (start_or_none realm h))
      (cases_eq h rd)) proper.ordered.halves

  pub gone_like : (gone.settings ≡ m.settings) × (length gone.granules ≡ length m.granules)
  gone_like = (sym was.settings, sym was.count)

  -- a granule that was DELEGATED before RMI_REALM_DESTROY is DELEGATED once the realm's granules are wiped
  pub gone_spare : (h : ℕ) → (granule_at m h).state ≡ Delegated → (granule_at gone h).state ≡ Delegated
  gone_spare h free =
      ⊎_elim
      (λ (here : h ≡ rd). ap (λ (x : ℕ). (granule_at gone x).state) here ∙ ap (λ (r : RmmGranule). r.state) rd_gone)
      (λ (other : h ≢ rd). ⊎_elim
      (λ (start : IsStart realm h). ap (λ (x : ℕ). (granule_at gone x).state) start.2 ∙ ap (λ (r : RmmGranule). r.state) (start_gone start.0 start.1).0)
      (λ (no_start : NoStart realm h). sym (ap (λ (r : RmmGranule). r.state) (was.beside h other no_start).0) ∙ free)
      (start_or_none realm h))
      (cases_eq h rd)

  realm_gone_ordered : IsOrdered gone
  realm_gone_ordered = record { each = orderly_gone; recs = recs_gone; halves = halves_gone }

  realm_gone_proper : (vmid : ℕ) → IsProper (with_vmid gone vmid false)
  realm_gone_proper vmid = record {
    linked = vmid_kept gone vmid false (no_realm_there m proper.linked rd realm is dead);
    ordered = ordered_vmid gone vmid false realm_gone_ordered;
  }

pub none_if : (n : ℕ) → nat_lt 0 n ≡ false → n ≡ 0
none_if zero never = refl
none_if (suc n) never = let sure : nat_lt 0 (suc n) ≡ true = lt-ltb 0 (suc n) (omega arith) in absurd (both_ways (nat_lt 0 (suc n)) never sure)

pub realm_destroyed : (rd : ℕ) (m : Machine) → IsProper m → Passed (realm_destroy rd m).checks → IsProper (realm_destroy rd m).machine
unfolding realm_destroy is_realm_live
realm_destroyed rd m proper ok =
    let realm : RmmRealm = realm_at m rd in
    let is = realm_of-some (state_at m rd) ok.1.1.0 in
    let parts = or_none (nat_lt 0 realm.rec_count) (has_live_table m realm.first_table realm.table_count) ok.1.1.1.0 in
    realm_gone_proper m proper (number_of m rd) realm is parts.1 (none_if realm.rec_count parts.0) realm.vmid
