-- A proof that RMI_REC_CREATE keeps the invariant `IsProper` on roles and owners of granules.
use Rattle.std.proofs.Common.{◌≡◌, ◌≢◌, ℕ, zero, suc, ◌+◌, ◌-◌, ◌*◌, ◌%◌, ◌^◌, ◌<◌, ◌≤◌, ◌⊎◌, inl, inr, ◌==◌, ◌&&◌, Bool, true, false, not, List, length, Option, Some, None, option_map, unwrap_or, refl, sym, ap, subst, ◌∙◌, ⊎_elim, arith}
use Rattle.std.specs.Prelude.{nat_le, nat_lt, is_some, cond, if◌then◌else◌, IfSome}
use Rattle.std.specs.List.{count_by}
use Rattle.std.proofs.lemmas.Bool.{cases_eq, cases_lt, cond-true, cond-false, and_left, and_parts, and_from, and_cases, ltb-true, eqb-true, eq-eqb, ne_eqb, le-leb, lt-ltb, le-ltb, both_ways, not-true}
use Rattle.std.proofs.lemmas.List.{length-set}
use Rattle.granule_addr.specs.Page.{zero_page}
use Rattle.page_arena.specs.Pages.{length-page_of}
use Rattle.rmi_abi.specs.declared.settings.RmmSettings.{RmmSettings}
use Rattle.rmi_abi.specs.RecParams.{aux_in, mpidr_in, is_runnable_in}
use Rattle.rmm_model.specs.declared.granule.RmmGranule.{RmmGranule}
use Rattle.rmm_model.specs.declared.granule.RmmGranuleState.{RmmGranuleState}
use Rattle.rmm_model.specs.declared.granule.RmmGranuleState.TheVariants.{Delegated, Rd, Rec as IsRec, RecAux, Rtt}
use Rattle.rmm_model.specs.declared.realm.RmmRealm.{RmmRealm}
use Rattle.rmm_model.specs.declared.rec.RmmRec.{RmmRec}
use Rattle.rmm_model.specs.Granule.{of_no_realm, of_realm, is_delegated, realm_of, rec_of}
use Rattle.rmm_model.specs.Machine.{Machine, granule_at, page_in, is_aligned, is_inside, number_of, state_at, with_granule}
use Rattle.rmm_model.specs.Level.{entry_size}
use Rattle.rmm_model.specs.Realm.{IsServed}
use Rattle.rmm_model.specs.Rec.{aux_of, new_rec}
use Rattle.rmm_model.specs.Table.{entry_in_page}
use Rattle.rmm_model.specs.Walk.{granule_named}
use Rattle.rmm_model.specs.Command.Auxiliary.{with_aux}
use Rattle.rmm_model.specs.Command.Operand.{realm_at}
use Rattle.rmm_model.specs.Command.RecCreate.{rec_create, all_from, is_apart, can_be_aux, aux_checks, rec_word, rec_page, with_created_rec}
use Rattle.rmm_laws.specs.Apart.{rd_named}
use Rattle.rmm_laws.specs.Half.{HasHalves}
use Rattle.rmm_laws.specs.Owner.{is_rd, is_owner, IsOrderly, IsOrderlyAt, is_rec_in, IsOrdered}
use Rattle.rmm_laws.specs.Proper.{IsProper}
use Rattle.rmm_laws.specs.Guest.{IsRecMadeOf}
use Rattle.rmm_laws.specs.Role.{Used, used, used_at, has_user, level_in, state_uses, uses, IsSound, IsLinked, IsBegin, LeadsInside}
use Rattle.rmm_laws.proofs.Entries.{number_inside, address_few, begins, named_inside}
use Rattle.rmm_laws.proofs.Halves.{SameSpace, has_space, kept_or_plain, same_space}
use Rattle.rmm_laws.proofs.Orders.{is_counter, counted, plain_in, total-set, total-alike, orderly_same, orderly_but}
use Rattle.rmm_laws.proofs.PageWords.{length-with_words, word_of_page-with_words}
use Rattle.rmm_laws.proofs.Passed.{Passed, yes_from, some_same, is_delegated-true, realm_of-some, rd_named-is}
use Rattle.rmm_laws.proofs.Recs.{keep_realm}
use Rattle.rmm_laws.proofs.SameTables.{KeepsSome, KeepsTables, some_old, some_both, some_wiped}
use Rattle.rmm_laws.proofs.Touching.{Touches, touch_page, touch_granule, untouched}
use Rattle.rmm_laws.proofs.Uses.{IsMore, added, removed}
use Rattle.rmm_laws.proofs.Wiping.{some_of, none_of, either_same, first_named, IsWiped, all_wiped, all_total, touch_wiped}
use Rattle.rmm_laws.proofs.Writes.{is_user, granule_at-same, granule_at-other, page_in-same, page_in-other, named-same, uses-same, uses-plain, used_at-same, leads-same, begin-same, taken_inside, sound-with_granule, sound-with_page}

-- ---- a REC with its auxiliary granules

-- In `p` the granules of a REC and its auxiliary granules are DELEGATED; in `q` they are the REC and its auxiliary
-- granules. All other granules are the same.
pub record IsRecMade (p q : Machine) (owner : Option ℕ) (g : ℕ) : Type 0 where
  pub settings : q.settings ≡ p.settings
  pub count : length q.granules ≡ length p.granules
  pub rec : RmmRec
  pub free : (granule_at p g).state ≡ Delegated
  pub made : granule_at q g ≡ record { state = IsRec rec; owner = owner }
  pub aux_free : (i h : ℕ) → i < q.settings.aux → granule_named q (aux_of (page_in q g) i) ≡ Some h → (granule_at p h).state ≡ Delegated
  pub aux_made : (i h : ℕ) → i < q.settings.aux → granule_named q (aux_of (page_in q g) i) ≡ Some h → granule_at q h ≡ record { state = RecAux; owner = owner }
  pub apart : (i j h : ℕ) → i < q.settings.aux → j < q.settings.aux → granule_named q (aux_of (page_in q g) i) ≡ Some h → granule_named q (aux_of (page_in q g) j) ≡ Some h → i ≡ j
  pub beside : (h : ℕ) → h ≢ g → ((i : ℕ) → i < q.settings.aux → granule_named q (aux_of (page_in q g) i) ≢ Some h) → (granule_at q h ≡ granule_at p h) × (page_in q h ≡ page_in p h)

module _ (p q : Machine) (level : ℕ → ℕ) (owner : Option ℕ) (g : ℕ) (step : IsRecMade p q owner g) where
  abbrev name : ℕ → Option ℕ
  name i = granule_named q (aux_of (page_in q g) i)

  abbrev is_new : ℕ → ℕ → Bool
  is_new i k = (nat_lt i q.settings.aux && k == 0) && is_some (granule_named q (aux_of (page_in q g) i))

  -- if `is_new` holds of index `i` and part `k`, then `k` is 0, and the REC's page names an auxiliary granule at index
  -- `i`
  new_place : (i k : ℕ) → is_new i k ≡ true → (i < q.settings.aux) × (k ≡ 0) × (name i ≡ Some (unwrap_or (name i) 0))
  new_place i k sure =
      let parts = and_parts (nat_lt i q.settings.aux && k == 0) (is_some (name i)) sure in
      let two = and_parts (nat_lt i q.settings.aux) (k == 0) parts.0 in
      (ltb-true i q.settings.aux two.0, eqb-true k 0 two.1, some_of (name i) parts.1)

  rec_uses : (i k : ℕ) → uses q level g i k ≡ (if nat_lt i q.settings.aux && k == 0 then option_map (used RecAux owner 0) (name i) else None)
  unfolding uses
  rec_uses i k = ap (λ (r : RmmGranule). state_uses q r.state r.owner (level g) (page_in q g) g i k) step.made

  none_before : (i k : ℕ) → uses p level g i k ≡ None
  none_before i k = uses-plain p level g i k (ap is_user step.free)

  aux_used : (i h : ℕ) → i < q.settings.aux → name i ≡ Some h → used RecAux owner 0 h ≡ used_at q level h
  aux_used i h lt is = sym (ap (λ (r : RmmGranule). record { number = h; attributes = r; level = level_in r.state (level h) }) (step.aux_made i h lt is))

  rec_beside : (i k : ℕ) → is_new i k ≡ false → uses q level g i k ≡ uses p level g i k
  rec_beside i k never =
      rec_uses i k
      ∙ ⊎_elim
      (λ (out : (nat_lt i q.settings.aux && k == 0) ≡ false). cond-false _ _ _ out)
      (λ (none : is_some (name i) ≡ false).
      ap (λ (o : Option ℕ). if nat_lt i q.settings.aux && k == 0 then option_map (used RecAux owner 0) o else None) (none_of (name i) none)
      ∙ either_same (nat_lt i q.settings.aux && k == 0) None)
      (and_cases (nat_lt i q.settings.aux && k == 0) (is_some (name i)) never)
      ∙ sym (none_before i k)

  all_beside : (x i k : ℕ) → (x ≢ g) ⊎ (is_new i k ≡ false) → uses q level x i k ≡ uses p level x i k
  all_beside x i k old =
      ⊎_elim
      (λ (here : x ≡ g).
      subst (λ (y : ℕ). uses q level y i k ≡ uses p level y i k) (sym here)
      (⊎_elim (λ (other : x ≢ g). absurd (other here)) (λ (never : is_new i k ≡ false). rec_beside i k never) old))
      (λ (other : x ≢ g).
      ⊎_elim
      (λ (aux : (j : ℕ) × (j < q.settings.aux) × (name j ≡ Some x)).
      uses-plain q level x i k (ap (λ (r : RmmGranule). is_user r.state) (step.aux_made aux.0 x aux.1 aux.2))
      ∙ sym (uses-plain p level x i k (ap is_user (step.aux_free aux.0 x aux.1 aux.2))))
      (λ (none : (j : ℕ) → j < q.settings.aux → name j ≢ Some x).
      let same = step.beside x other none in
      uses-same p q step.settings step.count level level x i k same.0 same.1 refl)
      (first_named (λ j. granule_named q (aux_of (page_in q g) j)) x q.settings.aux))
      (cases_eq x g)

  new_is : (i h : ℕ) → i < q.settings.aux → name i ≡ Some h → is_new i 0 ≡ true
  new_is i h lt is = and_from (nat_lt i q.settings.aux && 0 == 0) (is_some (name i)) (and_from (nat_lt i q.settings.aux) (0 == 0) (lt-ltb i q.settings.aux lt) refl) (ap is_some is)

  more : IsMore (uses p level) (uses q level) (used_at p level) (used_at q level)
  more = record {
    user = g;
    is_new = λ i k. (nat_lt i q.settings.aux && k == 0) && is_some (granule_named q (aux_of (page_in q g) i));
    new = λ i k. unwrap_or (granule_named q (aux_of (page_in q g) i)) 0;
    before = λ i k sure. none_before i k;
    after = λ i k sure.
        let place = new_place i k sure in
        let parts = and_parts (nat_lt i q.settings.aux && k == 0) (is_some (name i)) sure in
        rec_uses i k
        ∙ cond-true _ _ _ parts.0
        ∙ ap (option_map (used RecAux owner 0)) place.2
        ∙ ap (λ (u : Used). Some u) (aux_used i (unwrap_or (name i) 0) place.0 place.2);
    beside = all_beside;
    apart = λ i k j l sure also same.
        let one = new_place i k sure in
        let two = new_place j l also in
        (step.apart i j (unwrap_or (name i) 0) one.0 two.0 one.2 (two.2 ∙ ap (λ (h : ℕ). Some h) (sym same)), one.1 ∙ sym two.1);
    free = λ i k sure. let place = new_place i k sure in ap has_user (step.aux_free i (unwrap_or (name i) 0) place.0 place.2);
    made = λ i k sure. let place = new_place i k sure in ap (λ (r : RmmGranule). has_user r.state) (step.aux_made i (unwrap_or (name i) 0) place.0 place.2);
    others = λ h not_new.
        ⊎_elim
        (λ (here : h ≡ g).
        inr (
          ap (λ (x : ℕ). has_user (granule_at p x).state) here ∙ ap has_user step.free,
          ap (λ (x : ℕ). has_user (granule_at q x).state) here ∙ ap (λ (r : RmmGranule). has_user r.state) step.made,
        ))
        (λ (other : h ≢ g).
        let same = step.beside h other (λ i lt is. not_new i 0 (new_is i h lt is) (sym (ap (λ (o : Option ℕ). unwrap_or o 0) is))) in
        inl (used_at-same p q step.settings step.count level level h same.0 refl))
        (cases_eq h g);
    new_or_not = λ h. ⊎_elim
        (λ (aux : (j : ℕ) × (j < q.settings.aux) × (name j ≡ Some h)).
        inl (aux.0, 0, new_is aux.0 h aux.1 aux.2, sym (ap (λ (o : Option ℕ). unwrap_or o 0) aux.2)))
        (λ (none : (j : ℕ) → j < q.settings.aux → name j ≢ Some h).
        inr (λ i k sure same. let place = new_place i k sure in none i place.0 (place.2 ∙ ap (λ (x : ℕ). Some x) (sym same))))
        (first_named (λ j. granule_named q (aux_of (page_in q g) j)) h q.settings.aux);
    number_before = λ h. refl;
    number_after = λ h. refl;
  }

  -- a granule that is a table in `p` or in `q` is the same in both
  table_same : (t : ℕ) → ((granule_at q t).state ≡ Rtt) ⊎ ((granule_at p t).state ≡ Rtt) → (granule_at q t ≡ granule_at p t) × (page_in q t ≡ page_in p t)
  table_same t is =
      step.beside t
      (λ here. ⊎_elim
      (λ (table : (granule_at q t).state ≡ Rtt). let r : (granule_at q t).state ≡ IsRec step.rec = ap (λ (x : ℕ). (granule_at q x).state) here ∙ ap (λ (r : RmmGranule). r.state) step.made in cc)
      (λ (table : (granule_at p t).state ≡ Rtt). let r : (granule_at p t).state ≡ Delegated = ap (λ (x : ℕ). (granule_at p x).state) here ∙ step.free in cc)
      is)
      (λ i lt at. ⊎_elim
      (λ (table : (granule_at q t).state ≡ Rtt). let r : (granule_at q t).state ≡ RecAux = ap (λ (r : RmmGranule). r.state) (step.aux_made i t lt at) in cc)
      (λ (table : (granule_at p t).state ≡ Rtt). let r : (granule_at p t).state ≡ Delegated = step.aux_free i t lt at in cc)
      is)

module _ (p q : Machine) (proper : IsLinked p) (owner : Option ℕ) (g : ℕ) (step : IsRecMade p q owner g) (sound : IsSound q) where
  pub rec_made : IsLinked q
  rec_made = record {
    sound = sound;
    level = proper.level;
    roles = added (uses p proper.level) (uses q proper.level) (used_at p proper.level) (used_at q proper.level) (more p q proper.level owner g step) proper.roles;
    most = λ t is. proper.most t (sym (ap (λ (r : RmmGranule). r.state) (table_same p q proper.level owner g step t (inl is)).0) ∙ is);
    inside = λ t j is lt.
        let same = table_same p q proper.level owner g step t (inl is) in
        leads-same p q step.settings step.count (entry_in_page (page_in q t) j)
        (subst (λ (page : List ℕ). LeadsInside p (entry_in_page page j)) (sym same.1) (proper.inside t j (sym (ap (λ (r : RmmGranule). r.state) same.0) ∙ is) lt));
  }

module _ (p q : Machine) (proper : IsLinked q) (owner : Option ℕ) (g : ℕ) (step : IsRecMade p q owner g) (sound : IsSound p) where
  pub rec_gone : IsLinked p
  rec_gone = record {
    sound = sound;
    level = proper.level;
    roles = removed (uses p proper.level) (uses q proper.level) (used_at p proper.level) (used_at q proper.level) (more p q proper.level owner g step) proper.roles;
    most = λ t is. proper.most t (ap (λ (r : RmmGranule). r.state) (table_same p q proper.level owner g step t (inr is)).0 ∙ is);
    inside = λ t j is lt.
        let same = table_same p q proper.level owner g step t (inr is) in
        leads-same q p (sym step.settings) (sym step.count) (entry_in_page (page_in p t) j)
        (subst (λ (page : List ℕ). LeadsInside q (entry_in_page page j)) same.1 (proper.inside t j (ap (λ (r : RmmGranule). r.state) same.0 ∙ is) lt));
  }

-- ---- tests of auxiliary granules

all_from-at : (test : ℕ → Bool) (i count k : ℕ) → all_from test i count ≡ true → k < count → test (i + k) ≡ true
unfolding all_from
all_from-at test i zero k all lt = absurd (omega arith)
all_from-at test i (suc count) zero all lt = let here : i + 0 ≡ i = omega arith in ap test here ∙ (and_parts (test i) (all_from test (i + 1) count) all).0
all_from-at test i (suc count) (suc k) all lt =
    let next : i + suc k ≡ i + 1 + k = omega arith in
    ap test next ∙ all_from-at test (i + 1) count k (and_parts (test i) (all_from test (i + 1) count) all).1 (omega arith)

all_at : (test : ℕ → Bool) (count k : ℕ) → all_from test 0 count ≡ true → k < count → test k ≡ true
all_at test count k all lt = let here : k ≡ 0 + k = omega arith in ap test here ∙ all_from-at test 0 count k all lt

-- the page of a new REC names the auxiliary granules that the parameters name
rec_aux : (page : List ℕ) (i : ℕ) → i < 16 → aux_in page i < 2 ^ 64 → aux_of (rec_page page) i ≡ aux_in page i
unfolding rec_page
rec_aux page i lt few =
    let index : 32 + i - 32 ≡ i = omega arith in
    let word : rec_word page (32 + i) ≡ aux_in page i =
    cond-false (nat_lt (32 + i) 8) _ _ (le-ltb (32 + i) 8 (omega arith))
    ∙ cond-false (32 + i == 31) _ _ (ne_eqb (32 + i) 31 (omega arith))
    ∙ cond-true (nat_le 32 (32 + i)) _ _ (le-leb 32 (32 + i) (omega arith))
    ∙ ap (aux_in page) index in
    word_of_page-with_words (rec_word page) zero_page (length-page_of 0) 48 (32 + i) (omega arith) (omega arith) (subst (λ (w : ℕ). w < 2 ^ 64) (sym word) few)
    ∙ word

-- ---- the command RMI_REC_CREATE

module _ (m : Machine) (proper : IsLinked m) (owner rec : ℕ) (realm : RmmRealm) (rd_is : (granule_at m owner).state ≡ Rd realm) (rec_in : is_inside m rec ≡ true) (rec_aligned : rec % 4096 ≡ 0)
    (rec_free : state_at m rec ≡ Delegated) (page : List ℕ)
    (aligned : (i : ℕ) → i < m.settings.aux → aux_in page i % 4096 ≡ 0) (inside : (i : ℕ) → i < m.settings.aux → is_inside m (aux_in page i) ≡ true)
    (free : (i : ℕ) → i < m.settings.aux → (granule_at m (number_of m (aux_in page i))).state ≡ Delegated)
    (other : (i : ℕ) → i < m.settings.aux → aux_in page i ≢ rec) (apart : (i j : ℕ) → i < m.settings.aux → j < i → aux_in page j ≢ aux_in page i) where
  abbrev g : ℕ
  g = number_of m rec

  abbrev new : RmmRec
  new = new_rec (is_runnable_in page) (mpidr_in page)

  abbrev marked : Machine
  marked = with_granule m g (of_realm owner (IsRec new))

  abbrev one : Machine
  one = with_created_rec m owner g page

  abbrev all : Machine
  all = with_aux one g (of_realm owner RecAux) m.settings.aux

  g_in : g < length m.granules
  g_in = number_inside m rec rec_in

  length-rec_page : length (rec_page page) ≡ 4096
  unfolding rec_page
  length-rec_page = length-with_words (rec_word page) zero_page (length-page_of 0) 48 (omega arith)

  one_count : length one.granules ≡ length m.granules
  one_count = length-set m.granules g (of_realm owner (IsRec new))

  one_sound : IsSound one
  one_sound = sound-with_page marked g (rec_page page) length-rec_page (sound-with_granule m g (of_realm owner (IsRec new)) g_in tt proper.sound)

  one_page : page_in one g ≡ rec_page page
  one_page = let p = proper.sound.pages in let i = g_in in page_in-same marked g (rec_page page) (omega arith)

  -- each auxiliary granule that the new REC's page names is the granule at the address in the parameters
  aux_named : (i : ℕ) → i < m.settings.aux → granule_named one (aux_of (page_in one g) i) ≡ Some (number_of m (aux_in page i))
  aux_named i lt =
      let few = proper.sound.platform.aux in
      let address = address_few m (aux_in page i) proper.sound (inside i lt) in
      ap (λ (p : List ℕ). granule_named one (aux_of p i)) one_page
      ∙ ap (granule_named one) (rec_aux page i (omega arith) (omega arith))
      ∙ named-same m one refl one_count (aux_in page i)
      ∙ named_inside m (aux_in page i) (inside i lt)

  -- two aligned addresses inside the machine whose granules have the same number are equal
  same_address : (a b : ℕ) → is_inside m a ≡ true → is_inside m b ≡ true → a % 4096 ≡ 0 → b % 4096 ≡ 0 → number_of m a ≡ number_of m b → a ≡ b
  same_address a b a_in b_in a_aligned b_aligned same =
      (begins m a proper.sound a_in a_aligned).1 ∙ ap (λ (k : ℕ). m.settings.base + k * 4096) same ∙ sym (begins m b proper.sound b_in b_aligned).1

  not_g : (i : ℕ) → i < m.settings.aux → granule_named one (aux_of (page_in one g) i) ≢ Some g
  not_g i lt is = other i lt (same_address (aux_in page i) rec (inside i lt) rec_in (aligned i lt) rec_aligned (some_same (sym (aux_named i lt) ∙ is)))

  wiped : IsWiped one g (of_realm owner RecAux) (λ n. tt) m.settings.aux all
  wiped = all_wiped one g (of_realm owner RecAux) (λ n. tt) m.settings.aux one_sound not_g

  all_aux_count : all.settings.aux ≡ m.settings.aux
  all_aux_count = ap (λ (s : RmmSettings). s.aux) wiped.settings

  below : (i : ℕ) → i < all.settings.aux → i < m.settings.aux
  below i lt = subst (λ (n : ℕ). i < n) all_aux_count lt

  all_name : (i : ℕ) → granule_named all (aux_of (page_in all g) i) ≡ granule_named one (aux_of (page_in one g) i)
  all_name i = named-same one all wiped.settings wiped.count (aux_of (page_in all g) i) ∙ ap (λ (p : List ℕ). granule_named one (aux_of p i)) (wiped.other g not_g).1

  number_named : (i h : ℕ) → i < all.settings.aux → granule_named all (aux_of (page_in all g) i) ≡ Some h → h ≡ number_of m (aux_in page i)
  number_named i h lt is = some_same (sym is ∙ all_name i ∙ aux_named i (below i lt))

  not_before : (i j : ℕ) → i < m.settings.aux → j < m.settings.aux → aux_in page i ≡ aux_in page j → i ≡ j
  not_before i j i_lt j_lt same =
      ⊎_elim
      (λ (eq : i ≡ j). eq)
      (λ (ne : i ≢ j). ⊎_elim
      (λ (low : i < j). absurd (apart j i j_lt low same))
      (λ (high : j ≤ i). absurd (apart i j i_lt (omega arith) (sym same)))
      (cases_lt i j))
      (cases_eq i j)

  is_made : IsRecMade m all (Some owner) g
  is_made = record {
    settings = wiped.settings;
    count = wiped.count ∙ one_count;
    rec = new;
    free = rec_free;
    made = (wiped.other g not_g).0 ∙ granule_at-same m g (of_realm owner (IsRec new)) g_in;
    aux_free = λ i h lt is. ap (λ (x : ℕ). (granule_at m x).state) (number_named i h lt is) ∙ free i (below i lt);
    aux_made = λ i h lt is. wiped.hit i h (below i lt) (sym (all_name i) ∙ is);
    apart = λ i j h lt also is at.
        not_before i j (below i lt) (below j also)
        (same_address (aux_in page i) (aux_in page j) (inside i (below i lt)) (inside j (below j also)) (aligned i (below i lt)) (aligned j (below j also)) (sym (number_named i h lt is) ∙ number_named j h also at));
    beside = λ h ne none.
        let same = wiped.other h (λ i lt is. none i (subst (λ (n : ℕ). i < n) (sym all_aux_count) lt) (all_name i ∙ is)) in
        (same.0 ∙ granule_at-other m g h (of_realm owner (IsRec new)) ne, same.1 ∙ page_in-other marked g h (rec_page page) ne);
  }

  owner_not_g : owner ≢ g
  owner_not_g same = let s : (granule_at m owner).state ≡ (granule_at m g).state = ap (λ (x : ℕ). (granule_at m x).state) same in let r = rd_is in let f = rec_free in cc

  owner_still : granule_at all owner ≡ granule_at m owner
  owner_still =
      (wiped.other owner (λ i lt is.
      let same : owner ≡ number_of m (aux_in page i) = some_same (sym is ∙ aux_named i lt) in
      let s : (granule_at m owner).state ≡ Delegated = ap (λ (x : ℕ). (granule_at m x).state) same ∙ free i lt in
      let r = rd_is in
      cc)).0
      ∙ granule_at-other m g owner (of_realm owner (IsRec new)) owner_not_g

  -- the number of granules stays the same
  aux_count : length all.granules ≡ length m.granules
  aux_count = wiped.count ∙ one_count

  beside_all : (h : ℕ) → h ≢ g → ((i : ℕ) → i < m.settings.aux → granule_named one (aux_of (page_in one g) i) ≢ Some h) → (granule_at all h ≡ granule_at m h) × (page_in all h ≡ page_in m h)
  beside_all h ne none =
      let same = wiped.other h none in
      (same.0 ∙ granule_at-other m g h (of_realm owner (IsRec new)) ne, same.1 ∙ page_in-other marked g h (rec_page page) ne)

  owner_rd : is_rd (granule_at all owner).state ≡ true
  owner_rd = ap (λ (r : RmmGranule). is_rd r.state) owner_still ∙ ap is_rd rd_is

  -- an RD is neither the REC nor an auxiliary granule
  not_rd : (h : ℕ) → is_rd (granule_at m h).state ≡ true → (h ≢ g) × ((i : ℕ) → i < m.settings.aux → granule_named one (aux_of (page_in one g) i) ≢ Some h)
  not_rd h sure = (
    λ same. both_ways (is_rd (granule_at m h).state) (ap (λ (x : ℕ). is_rd (granule_at m x).state) same ∙ ap is_rd rec_free) sure,
    λ i lt is. both_ways (is_rd (granule_at m h).state) (ap (λ (x : ℕ). is_rd (granule_at m x).state) (some_same (sym is ∙ aux_named i lt)) ∙ ap is_rd (free i lt)) sure,
  )

  aux_begins : (k : ℕ) → k < all.settings.aux → IsBegin all (aux_of (page_in all g) k)
  aux_begins k lt =
      let within = below k lt in
      let few = proper.sound.platform.aux in
      let address = address_few m (aux_in page k) proper.sound (inside k within) in
      let word : aux_of (page_in all g) k ≡ aux_in page k = ap (λ (p : List ℕ). aux_of p k) ((wiped.other g not_g).1 ∙ one_page) ∙ rec_aux page k (omega arith) (omega arith) in
      subst (IsBegin all) (sym word) (begin-same m all wiped.settings aux_count (aux_in page k) (begins m (aux_in page k) proper.sound (inside k within) (aligned k within)))

  orderly_all : IsOrdered m → (h : ℕ) → IsOrderlyAt all h
  orderly_all ordered h =
      ⊎_elim
      (λ (here : h ≡ g).
      subst (λ (x : ℕ). IsOrderlyAt all x) (sym here) (subst (λ (r : RmmGranule). IsOrderly all r.state r.owner (page_in all g)) (sym is_made.made) (owner_rd, aux_begins)))
      (λ (apart_from : h ≢ g). ⊎_elim
      (λ (aux : (i : ℕ) × (i < m.settings.aux) × (granule_named one (aux_of (page_in one g) i) ≡ Some h)).
      subst (λ (r : RmmGranule). IsOrderly all r.state r.owner (page_in all h)) (sym (wiped.hit aux.0 h aux.1 aux.2)) owner_rd)
      (λ (none : (i : ℕ) → i < m.settings.aux → granule_named one (aux_of (page_in one g) i) ≢ Some h).
      let same = beside_all h apart_from none in
      orderly_same m all wiped.settings aux_count h same.0 same.1
      (λ x owns sure. let other_rd = not_rd x sure in ap (λ (r : RmmGranule). is_rd r.state) (beside_all x other_rd.0 other_rd.1).0 ∙ sure) (ordered.each h))
      (first_named (λ i. granule_named one (aux_of (page_in one g) i)) h m.settings.aux))
      (cases_eq h g)

  all_halves : HasHalves m → HasHalves all
  all_halves =
      kept_or_plain m all wiped.settings aux_count (λ h.
      ⊎_elim
      (λ (here : h ≡ g). inr (ap (λ (x : ℕ). has_space (granule_at all x).state) here ∙ ap (λ (r : RmmGranule). has_space r.state) is_made.made))
      (λ (apart_from : h ≢ g). ⊎_elim
      (λ (aux : (i : ℕ) × (i < m.settings.aux) × (granule_named one (aux_of (page_in one g) i) ≡ Some h)). inr (ap (λ (r : RmmGranule). has_space r.state) (wiped.hit aux.0 h aux.1 aux.2)))
      (λ (none : (i : ℕ) → i < m.settings.aux → granule_named one (aux_of (page_in one g) i) ≢ Some h). inl (beside_all h apart_from none))
      (first_named (λ i. granule_named one (aux_of (page_in one g) i)) h m.settings.aux))
      (cases_eq h g))

  -- the count of RECs rises by one for the realm of the owner, and stays the same for each other realm
  total_then : (x : ℕ) → count_by (is_rec_in x) all.granules ≡ count_by (is_rec_in x) m.granules + cond (owner == x) 1 0
  total_then x =
      let now : ℕ = count_by (is_rec_in x) one.granules in
      let none : ℕ = cond (is_rec_in x (granule_at m g)) 1 0 in
      let zero_is : none ≡ 0 = ap (λ (b : Bool). cond b 1 0) (plain_in (granule_at m g) x (ap is_counter rec_free)) in
      let sum : now + none ≡ count_by (is_rec_in x) m.granules + cond (owner == x) 1 0 = total-set m g (of_realm owner (IsRec new)) x g_in in
      all_total one g (of_realm owner RecAux) (λ n. tt) refl one_sound x m.settings.aux not_g
      (λ i h lt is.
      let apart_from : h ≢ g = λ same. not_g i lt (is ∙ ap (λ (y : ℕ). Some y) same) in
      ap (λ (r : RmmGranule). is_counter r.state) (granule_at-other m g h (of_realm owner (IsRec new)) apart_from)
      ∙ ap (λ (y : ℕ). is_counter (granule_at m y).state) (some_same (sym is ∙ aux_named i lt)) ∙ ap is_counter (free i lt))
      ∙ (let left : now ≡ now + none = omega arith in left ∙ sum)

  owner_in : owner < length all.granules
  owner_in = let s = owner_rd in taken_inside all owner (λ none. (let never : is_rd (granule_at all owner).state ≡ false = ap is_rd none in both_ways (is_rd (granule_at all owner).state) never s))

  module _ (ordered : IsOrdered m) (next : RmmRealm) (one_more : next.rec_count ≡ realm.rec_count + 1) (space : SameSpace next realm) where
    abbrev full : Machine
    full = with_granule all owner (of_no_realm (Rd next))

    owner_now : granule_at full owner ≡ of_no_realm (Rd next)
    owner_now = granule_at-same all owner (of_no_realm (Rd next)) owner_in

    same_total : (x : ℕ) → count_by (is_rec_in x) full.granules ≡ count_by (is_rec_in x) all.granules
    same_total x =
        let state : (granule_at all owner).state ≡ Rd realm = ap (λ (r : RmmGranule). r.state) owner_still ∙ rd_is in
        total-alike all owner (of_no_realm (Rd next)) x owner_in
        (sym (and_left (is_some (rec_of (granule_at all owner).state)) (is_owner x (granule_at all owner).owner) (ap (λ (s : RmmGranuleState). is_some (rec_of s)) state)))

    recs_then : (x : ℕ) (some_realm : RmmRealm) → (granule_at full x).state ≡ Rd some_realm → some_realm.rec_count ≡ count_by (is_rec_in x) full.granules
    recs_then x some_realm is =
        let total = same_total x ∙ total_then x in
        ⊎_elim
        (λ (here : x ≡ owner).
        let both : Rd some_realm ≡ Rd next = sym is ∙ ap (λ (y : ℕ). (granule_at full y).state) here ∙ ap (λ (r : RmmGranule). r.state) owner_now in
        let counts : some_realm.rec_count ≡ next.rec_count = some_same (ap counted both) in
        let before : realm.rec_count ≡ count_by (is_rec_in x) m.granules = ordered.recs owner realm rd_is ∙ ap (λ (y : ℕ). count_by (is_rec_in y) m.granules) (sym here) in
        let one_is : cond (owner == x) 1 0 ≡ 1 = ap (λ (b : Bool). cond b 1 0) (eq-eqb owner x (sym here)) in
        counts ∙ one_more ∙ ap (λ (n : ℕ). n + 1) before ∙ ap (λ (n : ℕ). count_by (is_rec_in x) m.granules + n) (sym one_is) ∙ sym total)
        (λ (apart_from : x ≢ owner).
        let still : (granule_at all x).state ≡ Rd some_realm = sym (ap (λ (r : RmmGranule). r.state) (granule_at-other all owner x (of_no_realm (Rd next)) apart_from)) ∙ is in
        let none_is : cond (owner == x) 1 0 ≡ 0 = ap (λ (b : Bool). cond b 1 0) (ne_eqb owner x (λ same. apart_from (sym same))) in
        let plus : (n : ℕ) → n + 0 ≡ n = λ n. omega arith in
        let none_more : count_by (is_rec_in x) m.granules + cond (owner == x) 1 0 ≡ count_by (is_rec_in x) m.granules =
        ap (λ (n : ℕ). count_by (is_rec_in x) m.granules + n) none_is ∙ plus (count_by (is_rec_in x) m.granules) in
        let not_rec : x ≢ g = λ same. (let rec_is : (granule_at all x).state ≡ IsRec is_made.rec = ap (λ (y : ℕ). (granule_at all y).state) same ∙ ap (λ (r : RmmGranule). r.state) is_made.made in cc) in
        let not_aux : (i : ℕ) → i < m.settings.aux → granule_named one (aux_of (page_in one g) i) ≢ Some x =
        λ i lt at. (let aux_is : (granule_at all x).state ≡ RecAux = ap (λ (r : RmmGranule). r.state) (wiped.hit i x lt at) in cc) in
        ordered.recs x some_realm (sym (ap (λ (r : RmmGranule). r.state) (beside_all x not_rec not_aux).0) ∙ still) ∙ sym (total ∙ none_more))
        (cases_eq x owner)

    pub created_ordered : IsOrdered (with_granule (with_aux (with_created_rec m owner (number_of m rec) page) (number_of m rec) (of_realm owner RecAux) m.settings.aux) owner (of_no_realm (Rd next)))
    created_ordered = record {
      each = orderly_but all full refl (length-set all.granules owner (of_no_realm (Rd next))) owner (λ h ne. (granule_at-other all owner h (of_no_realm (Rd next)) ne, refl))
          (λ sure. ap (λ (r : RmmGranule). is_rd r.state) owner_now)
          (subst (λ (r : RmmGranule). IsOrderly full r.state r.owner (page_in full owner)) (sym owner_now) refl) (orderly_all ordered);
      recs = recs_then;
      halves = same_space all owner realm next owner_in (ap (λ (r : RmmGranule). r.state) owner_still ∙ rd_is) space (all_halves ordered.halves);
    }

  pub created : (next : RmmRealm) → next.table_count ≡ realm.table_count → next.first_table ≡ realm.first_table → next.start_level ≡ realm.start_level → IsServed (length m.granules) next
      → IsLinked (with_granule (with_aux (with_created_rec m owner (number_of m rec) page) (number_of m rec) (of_realm owner RecAux) m.settings.aux) owner (of_no_realm (Rd next)))
  created next tables first level served =
      keep_realm all owner realm next (rec_made m all proper (Some owner) g is_made wiped.sound) (ap (λ (r : RmmGranule). r.state) owner_still ∙ rd_is) tables first level
      (subst (λ (n : ℕ). IsServed n next) (sym (wiped.count ∙ one_count)) served)

  -- creating a REC leaves each granule as it was, if its state is neither an RD's nor DELEGATED
  pub created_some : (P : RmmGranuleState → Type 0) → ((r : RmmRealm) → P (Rd r) → ⊥) → (P Delegated → ⊥) → (next : RmmRealm)
      → KeepsSome P m (with_granule (with_aux (with_created_rec m owner (number_of m rec) page) (number_of m rec) (of_realm owner RecAux) m.settings.aux) owner (of_no_realm (Rd next)))
  created_some P no_rd no_free next =
      some_old P m all (with_granule all owner (of_no_realm (Rd next))) owner (λ it. no_rd realm (subst P rd_is it))
      (some_wiped P m one g (of_realm owner RecAux) (λ n. tt) m.settings.aux all
      (some_both P m m g (of_realm owner (IsRec new)) (rec_page page) (λ it. no_free (subst P rec_free it)) (λ x it. (refl, refl)))
      wiped
      (λ i h lt is it. no_free (subst P (ap (λ (x : ℕ). (granule_at m x).state) (some_same (sym is ∙ aux_named i lt)) ∙ free i lt) it)))
      (λ x other. (granule_at-other all owner x (of_no_realm (Rd next)) other, refl))

  -- after RMI_REC_CREATE, the REC's granule has the attributes and the contents of a new REC
  pub created_rec : (next : RmmRealm)
      → (granule_at (with_granule (with_aux (with_created_rec m owner (number_of m rec) page) (number_of m rec) (of_realm owner RecAux) m.settings.aux) owner (of_no_realm (Rd next))) (number_of m rec)
      ≡ of_realm owner (IsRec (new_rec (is_runnable_in page) (mpidr_in page))))
      × (page_in (with_aux (with_created_rec m owner (number_of m rec) page) (number_of m rec) (of_realm owner RecAux) m.settings.aux) (number_of m rec) ≡ rec_page page)
  created_rec next =
      let beside : g ≢ owner = λ same. (let states : (granule_at m g).state ≡ (granule_at m owner).state = ap (λ (x : ℕ). (granule_at m x).state) same in cc) in (
        granule_at-other all owner g (of_no_realm (Rd next)) beside ∙ (wiped.other g not_g).0 ∙ granule_at-same m g (of_realm owner (IsRec new)) g_in,
        (wiped.other g not_g).1 ∙ one_page,
      )

  pub created_touches : (next : RmmRealm) → Touches false m (with_granule (with_aux (with_created_rec m owner (number_of m rec) page) (number_of m rec) (of_realm owner RecAux) m.settings.aux) owner (of_no_realm (Rd next))) (Some owner)
  created_touches next =
      touch_granule false m all (Some owner) owner (of_no_realm (Rd next))
      (touch_wiped false m one (Some owner) g (of_realm owner RecAux) (λ n. tt) m.settings.aux all
      (touch_page false m marked (Some owner) g (rec_page page) (touch_granule false m m (Some owner) g (of_realm owner (IsRec new)) (untouched false m (Some owner)) (inr rec_free)) (inr rec_free))
      wiped
      (λ i h lt is. inr (ap (λ (x : ℕ). (granule_at m x).state) (some_same (sym is ∙ aux_named i lt)) ∙ free i lt)))
      (inl (inl refl))

-- All checks of an RMI_REC_CREATE have passed, on a machine that satisfies `IsProper`.
module _ (rd rec params : ℕ) (m : Machine) (proper : IsProper m) (ok : Passed (rec_create rd rec params m).checks) where
  abbrev params_page : List ℕ
  params_page = page_in m (number_of m params)

  rec_begins : (rec % 4096 ≡ 0) × (is_inside m rec ≡ true) × (state_at m rec ≡ Delegated)
  unfolding rec_create
  rec_begins = (
    eqb-true _ _ (yes_from (is_aligned rec) ok.1.1.1.0),
    yes_from (is_inside m rec) ok.1.1.1.1.0,
    is_delegated-true (state_at m rec) (yes_from (is_delegated (state_at m rec)) ok.1.1.1.1.1.0),
  )

  rd_there : (granule_at m (number_of m rd)).state ≡ Rd (realm_at m rd)
  unfolding rec_create
  rd_there = realm_of-some (state_at m rd) ok.1.1.1.1.1.1.1.1.0

  aux_aligned : (i : ℕ) → i < m.settings.aux → aux_in params_page i % 4096 ≡ 0
  unfolding rec_create aux_checks
  aux_aligned i lt = eqb-true _ _ (all_at (λ k. is_aligned (aux_in (page_in m (number_of m params)) k)) m.settings.aux i (yes_from _ ok.1.1.1.1.1.1.1.1.1.1.0) lt)

  aux_inside : (i : ℕ) → i < m.settings.aux → is_inside m (aux_in params_page i) ≡ true
  unfolding rec_create aux_checks
  aux_inside i lt = all_at (λ k. is_inside m (aux_in (page_in m (number_of m params)) k)) m.settings.aux i (yes_from _ ok.1.1.1.1.1.1.1.1.1.1.1.0) lt

  aux_free : (i : ℕ) → i < m.settings.aux → (granule_at m (number_of m (aux_in params_page i))).state ≡ Delegated
  unfolding rec_create aux_checks
  aux_free i lt =
      is_delegated-true _
      (and_parts (is_inside m (aux_in params_page i)) _ (all_at (λ k. can_be_aux m (aux_in (page_in m (number_of m params)) k)) m.settings.aux i (yes_from _ ok.1.1.1.1.1.1.1.1.1.1.1.1.1.0) lt)).1

  aux_apart : (i : ℕ) → i < m.settings.aux → is_apart rec params_page i ≡ true
  unfolding rec_create aux_checks
  aux_apart i lt = all_at (is_apart rec (page_in m (number_of m params))) m.settings.aux i (yes_from _ ok.1.1.1.1.1.1.1.1.1.1.1.1.0) lt

  aux_other : (i : ℕ) → i < m.settings.aux → aux_in params_page i ≢ rec
  aux_other i lt same = both_ways (aux_in params_page i == rec) (not-true _ (and_parts _ _ (aux_apart i lt)).0) (eq-eqb _ _ same)

  aux_distinct : (i j : ℕ) → i < m.settings.aux → j < i → aux_in params_page j ≢ aux_in params_page i
  aux_distinct i j lt before same =
      both_ways (aux_in params_page j == aux_in params_page i)
      (not-true _ (all_at (λ k. not (aux_in (page_in m (number_of m params)) k == aux_in (page_in m (number_of m params)) i)) i j (and_parts _ _ (aux_apart i lt)).1 before)) (eq-eqb _ _ same)

  still_served : (next : RmmRealm) → next.first_table ≡ (realm_at m rd).first_table → next.table_count ≡ (realm_at m rd).table_count → next.start_level ≡ (realm_at m rd).start_level → next.s2sz ≡ (realm_at m rd).s2sz
      → IsServed (length m.granules) next
  still_served next first count level width =
      let s : IsServed (length m.granules) (realm_at m rd) = subst (λ (s : RmmGranuleState). IfSome (realm_of s) (IsServed (length m.granules))) rd_there (proper.linked.sound.tables.each (number_of m rd)) in
      record {
        few = s.few;
        inside = subst (λ (n : ℕ). n + next.table_count ≤ length m.granules) (sym first) (subst (λ (n : ℕ). (realm_at m rd).first_table + n ≤ length m.granules) (sym count) s.inside);
        most = subst (λ (n : ℕ). n ≤ 16) (sym count) s.most;
        level = subst (λ (n : ℕ). n ≤ 3) (sym level) s.level;
        width = subst (λ (n : ℕ). n ≤ 48) (sym width) s.width;
        served = subst (λ (w : ℕ). 2 ^ w ≤ next.table_count * (512 * entry_size next.start_level)) (sym width)
            (subst (λ (n : ℕ). 2 ^ (realm_at m rd).s2sz ≤ n * (512 * entry_size next.start_level)) (sym count)
            (subst (λ (l : ℕ). 2 ^ (realm_at m rd).s2sz ≤ (realm_at m rd).table_count * (512 * entry_size l)) (sym level) s.served));
      }

  pub rec_created : IsProper (rec_create rd rec params m).machine
  unfolding rec_create
  rec_created = record {
    linked = created m proper.linked (number_of m rd) rec (realm_at m rd) rd_there rec_begins.1 rec_begins.0 rec_begins.2 params_page aux_aligned aux_inside aux_free aux_other aux_distinct
        _ refl refl refl (still_served _ refl refl refl refl);
    ordered = created_ordered m proper.linked (number_of m rd) rec (realm_at m rd) rd_there rec_begins.1 rec_begins.0 rec_begins.2 params_page aux_aligned aux_inside aux_free aux_other aux_distinct
        proper.ordered _ refl (refl, refl, refl, refl);
  }

  pub rec_created_some : (P : RmmGranuleState → Type 0) → ((r : RmmRealm) → P (Rd r) → ⊥) → (P Delegated → ⊥) → KeepsSome P m (rec_create rd rec params m).machine
  unfolding rec_create
  rec_created_some P no_rd no_free =
      created_some m proper.linked (number_of m rd) rec (realm_at m rd) rd_there rec_begins.1 rec_begins.0 rec_begins.2 params_page aux_aligned aux_inside aux_free aux_other aux_distinct P no_rd no_free _

  pub rec_created_made : IsRecMadeOf m (rec_create rd rec params m).machine rd rec params
  unfolding rec_create
  rec_created_made = created_rec m proper.linked (number_of m rd) rec (realm_at m rd) rd_there rec_begins.1 rec_begins.0 rec_begins.2 params_page aux_aligned aux_inside aux_free aux_other aux_distinct _

  pub rec_created_tables : KeepsTables m (rec_create rd rec params m).machine
  rec_created_tables = rec_created_some (λ s. s ≡ Rtt) (λ r is. cc) (λ is. cc)

  pub rec_created_touches : Touches false m (rec_create rd rec params m).machine (rd_named m rd)
  unfolding rec_create
  rec_created_touches =
      subst (λ (o : Option ℕ). Touches false m (rec_create rd rec params m).machine o) (sym (rd_named-is m rd ok.1.1.1.1.1.1.0 ok.1.1.1.1.1.1.1.0 ok.1.1.1.1.1.1.1.1.0))
      (created_touches m proper.linked (number_of m rd) rec (realm_at m rd) rd_there rec_begins.1 rec_begins.0 rec_begins.2 params_page aux_aligned aux_inside aux_free aux_other aux_distinct _)
