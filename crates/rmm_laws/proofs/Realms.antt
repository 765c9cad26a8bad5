-- Proofs that RMI_REALM_CREATE and RMI_REALM_DESTROY keep the invariant that each granule has one role.
use Rattle.std.proofs.Common.{◌≡◌, ◌≢◌, ℕ, zero, suc, ◌+◌, ◌-◌, ◌*◌, ◌/◌, ◌%◌, ◌^◌, ◌<◌, ◌≤◌, ◌⊎◌, inl, inr, ◌==◌, ◌&&◌, ◌||◌, Bool, true, false, List, length, Some, None, refl, sym, ap, subst, ◌∙◌, ⊎_elim, lit≤, arith}
use Rattle.std.specs.Prelude.{nat_le, nat_lt, if◌then◌else◌, IfSome}
use Rattle.std.proofs.lemmas.Bool.{cases_eq, cases_lt, cond_both, cond-true, cond-false, and_parts, and_from, and_left, and_right, leb-true, ltb-true, eqb-true, eq-eqb, le-leb, lt-ltb, lt-leb, le-ltb, both_ways}
use Rattle.std.proofs.lemmas.List.{length-set}
use Rattle.std.proofs.lemmas.Nat.{div-add-mod', mod_below}
use Rattle.granule_addr.specs.Page.{zero_page}
use Rattle.page_arena.specs.Pages.{length-page_of}
use Rattle.rmi_abi.specs.declared.realm_params.RealmParams.{RealmParams}
use Rattle.rmm_model.specs.declared.entry.RmmRttEntry.{RmmRttEntry}
use Rattle.rmm_model.specs.declared.granule.RmmGranule.{RmmGranule}
use Rattle.rmm_model.specs.declared.granule.RmmGranuleState.{RmmGranuleState}
use Rattle.rmm_model.specs.declared.granule.RmmGranuleState.TheVariants.{Delegated, Rd, Rtt}
use Rattle.rmm_model.specs.declared.realm.RmmRealm.{RmmRealm}
use Rattle.rmm_model.specs.Entry.{entry_of, entry_word}
use Rattle.rmm_model.specs.Granule.{of_no_realm, of_realm, realm_of}
use Rattle.rmm_model.specs.Level.{entry_size}
use Rattle.rmm_model.specs.Machine.{Machine, granule_at, page_in, is_inside, number_of, with_granule, with_page, with_blank, with_vmid}
use Rattle.rmm_model.specs.Realm.{IsServed, is_protected, is_start, start_count}
use Rattle.rmm_model.specs.Table.{entry_in_page, has_live}
use Rattle.rmm_model.specs.Command.RealmCreate.{is_supported, is_start_table, are_delegated, realm_for, start_entry, start_page, with_tables}
use Rattle.rmm_model.specs.Command.RealmDestroy.{has_live_table, without_tables}
use Rattle.rmm_laws.specs.Role.{Used, used, used_at, has_user, level_in, state_uses, uses, IsSound, IsLinked, LeadsInside}
use Rattle.rmm_laws.proofs.Children.{is_free, free_leads, free_word, empty_table, unused_free}
use Rattle.rmm_laws.proofs.EntryWords.{entry_word-fits}
use Rattle.rmm_laws.proofs.Keeping.{keep_proper}
use Rattle.rmm_laws.proofs.PageWords.{length-with_words, word_of_page-with_words}
use Rattle.rmm_laws.proofs.Passed.{is_delegated-true}
use Rattle.rmm_laws.proofs.Uses.{IsMore, added, removed}
use Rattle.rmm_laws.proofs.Walks.{right, table_right, entry_size-positive}
use Rattle.rmm_laws.proofs.Writes.{is_user, granule_at-same, granule_at-other, page_in-same, page_in-other, uses-same, uses-plain, used_at-same, leads-same, sound-with_granule, sound-with_page, taken_inside}

pub or_none : (a b : Bool) → (a || b) ≡ false → (a ≡ false) × (b ≡ false)
or_none true b none = absurd (cc)
or_none false b none = (refl, none)

-- ---- the VMIDs of a machine are in no role

pub vmid_kept : (m : Machine) (vmid : ℕ) (is_used : Bool) → IsLinked m → IsLinked (with_vmid m vmid is_used)
vmid_kept m vmid is_used proper =
    let n : Machine = with_vmid m vmid is_used in
    keep_proper m n (record {
      settings = refl;
      count = refl;
      sound = record {
        platform = proper.sound.platform;
        few = proper.sound.few;
        pages = proper.sound.pages;
        whole = proper.sound.whole;
        tables = proper.sound.tables;
      };
      same = λ level g i part. uses-same m n refl refl level level g i part refl refl refl;
      states = λ g. inl refl;
      inside = λ table i is lt. proper.inside table i is lt;
    }) proper

-- ---- a realm with its starting tables

-- a granule is no starting table of a realm
abbrev pub NoStart : RmmRealm → ℕ → Type 0
NoStart realm g = (i : ℕ) → i < realm.table_count → g ≢ realm.first_table + i

abbrev pub IsStart : RmmRealm → ℕ → Type 0
IsStart realm g = (i : ℕ) × (i < realm.table_count) × (g ≡ realm.first_table + i)

pub start_or_none : (realm : RmmRealm) (g : ℕ) → IsStart realm g ⊎ NoStart realm g
start_or_none realm g =
    ⊎_elim
    (λ (below : g < realm.first_table). inr (λ i lt same. omega arith))
    (λ (above : realm.first_table ≤ g). ⊎_elim
    (λ (within : g < realm.first_table + realm.table_count). inl (g - realm.first_table, omega arith, omega arith))
    (λ (past : realm.first_table + realm.table_count ≤ g). inr (λ i lt same. omega arith))
    (cases_lt g (realm.first_table + realm.table_count)))
    (cases_lt g realm.first_table)

-- In `p` the granules of an RD and its starting tables are DELEGATED; in `q` they are the realm's, and the tables use
-- nothing. All other granules are the same.
pub record IsRealm (p q : Machine) (before after : ℕ → ℕ) (rd : ℕ) (realm : RmmRealm) : Type 0 where
  pub settings : q.settings ≡ p.settings
  pub count : length q.granules ≡ length p.granules
  pub rd_free : (granule_at p rd).state ≡ Delegated
  pub rd_made : (granule_at q rd).state ≡ Rd realm
  pub free : (i : ℕ) → i < realm.table_count → (granule_at p (realm.first_table + i)).state ≡ Delegated
  pub made : (i : ℕ) → i < realm.table_count → granule_at q (realm.first_table + i) ≡ of_realm rd Rtt
  pub level : (i : ℕ) → i < realm.table_count → after (realm.first_table + i) ≡ realm.start_level
  pub empty : (i j : ℕ) → i < realm.table_count → j < 512 → is_free (entry_in_page (page_in q (realm.first_table + i)) j) ≡ true
  pub beside : (g : ℕ) → g ≢ rd → NoStart realm g → (granule_at q g ≡ granule_at p g) × (page_in q g ≡ page_in p g) × (after g ≡ before g)

module _ (p q : Machine) (before after : ℕ → ℕ) (rd : ℕ) (realm : RmmRealm) (step : IsRealm p q before after rd realm) where
  abbrev is_new : ℕ → ℕ → Bool
  is_new i k = nat_lt i realm.table_count && k == 0

  rd_uses : (i k : ℕ) → uses q after rd i k ≡ (if nat_lt i realm.table_count && k == 0 then Some (used Rtt (Some rd) realm.start_level (realm.first_table + i)) else None)
  unfolding uses
  rd_uses i k = ap (λ (s : RmmGranuleState). state_uses q s (granule_at q rd).owner (after rd) (page_in q rd) rd i k) step.rd_made

  none_before : (i k : ℕ) → uses p before rd i k ≡ None
  none_before i k = uses-plain p before rd i k (ap is_user step.rd_free)

  start_used : (i : ℕ) → i < realm.table_count → used Rtt (Some rd) realm.start_level (realm.first_table + i) ≡ used_at q after (realm.first_table + i)
  start_used i lt =
      let g : ℕ = realm.first_table + i in
      sym (ap (λ (r : RmmGranule). record { number = g; attributes = r; level = level_in r.state (after g) }) (step.made i lt)
      ∙ ap (λ (l : ℕ). record { number = g; attributes = of_realm rd Rtt; level = l }) (step.level i lt))

  pub start_uses : (i j k : ℕ) → i < realm.table_count → uses q after (realm.first_table + i) j k ≡ None
  unfolding uses
  start_uses i j k lt =
      let g : ℕ = realm.first_table + i in
      ap (λ (r : RmmGranule). state_uses q r.state r.owner (after g) (page_in q g) g j k) (step.made i lt)
      ∙ empty_table q (page_in q g) (λ h few. step.empty i h lt few) (Some rd) (after g) g j k

  all_beside : (x i k : ℕ) → (x ≢ rd) ⊎ (is_new i k ≡ false) → uses q after x i k ≡ uses p before x i k
  all_beside x i k old =
      ⊎_elim
      (λ (here : x ≡ rd).
      subst (λ (y : ℕ). uses q after y i k ≡ uses p before y i k) (sym here)
      (⊎_elim (λ (other : x ≢ rd). absurd (other here))
      (λ (never : is_new i k ≡ false). rd_uses i k ∙ cond-false (is_new i k) (Some (used Rtt (Some rd) realm.start_level (realm.first_table + i))) None never ∙ sym (none_before i k))
      old))
      (λ (other : x ≢ rd).
      ⊎_elim
      (λ (start : IsStart realm x).
      subst (λ (y : ℕ). uses q after y i k ≡ uses p before y i k) (sym start.2)
      (start_uses start.0 i k start.1 ∙ sym (uses-plain p before (realm.first_table + start.0) i k (ap is_user (step.free start.0 start.1)))))
      (λ (none : NoStart realm x).
      let same = step.beside x other none in
      uses-same p q step.settings step.count before after x i k same.0 same.1 same.2)
      (start_or_none realm x))
      (cases_eq x rd)

  more : IsMore (uses p before) (uses q after) (used_at p before) (used_at q after)
  more = record {
    user = rd;
    is_new = λ i k. nat_lt i realm.table_count && k == 0;
    new = λ i k. realm.first_table + i;
    before = λ i k sure. none_before i k;
    after = λ i k sure.
        rd_uses i k
        ∙ cond-true (is_new i k) (Some (used Rtt (Some rd) realm.start_level (realm.first_table + i))) None sure
        ∙ ap (λ (u : Used). Some u) (start_used i (ltb-true i realm.table_count (and_parts (nat_lt i realm.table_count) (k == 0) sure).0));
    beside = all_beside;
    apart = λ i k j l sure also same.
        let one = and_parts (nat_lt i realm.table_count) (k == 0) sure in
        let two = and_parts (nat_lt j realm.table_count) (l == 0) also in
        (omega arith, eqb-true k 0 one.1 ∙ sym (eqb-true l 0 two.1));
    free = λ i k sure. ap has_user (step.free i (ltb-true i realm.table_count (and_parts (nat_lt i realm.table_count) (k == 0) sure).0));
    made = λ i k sure. ap (λ (r : RmmGranule). has_user r.state) (step.made i (ltb-true i realm.table_count (and_parts (nat_lt i realm.table_count) (k == 0) sure).0));
    others = λ g not_new.
        let none : NoStart realm g = λ i lt. not_new i 0 (and_from (nat_lt i realm.table_count) (0 == 0) (lt-ltb i realm.table_count lt) refl) in
        ⊎_elim
        (λ (here : g ≡ rd).
        inr (ap (λ (x : ℕ). has_user (granule_at p x).state) here ∙ ap has_user step.rd_free, ap (λ (x : ℕ). has_user (granule_at q x).state) here ∙ ap has_user step.rd_made))
        (λ (other : g ≢ rd). let same = step.beside g other none in inl (used_at-same p q step.settings step.count before after g same.0 same.2))
        (cases_eq g rd);
    new_or_not = λ g. ⊎_elim
        (λ (start : IsStart realm g). inl (start.0, 0, and_from (nat_lt start.0 realm.table_count) (0 == 0) (lt-ltb start.0 realm.table_count start.1) refl, start.2))
        (λ (none : NoStart realm g). inr (λ i k sure. none i (ltb-true i realm.table_count (and_parts (nat_lt i realm.table_count) (k == 0) sure).0)))
        (start_or_none realm g);
    number_before = λ g. refl;
    number_after = λ g. refl;
  }

  -- a table in `q` is a starting table of the realm, or it is another granule than the RD and all starting tables
  table_cases : (g : ℕ) → (granule_at q g).state ≡ Rtt → IsStart realm g ⊎ ((g ≢ rd) × NoStart realm g)
  table_cases g is =
      ⊎_elim
      (λ (start : IsStart realm g). inl start)
      (λ (none : NoStart realm g). inr (
        λ same. (
            let states : (granule_at q g).state ≡ (granule_at q rd).state = ap (λ (x : ℕ). (granule_at q x).state) same in
            let made = step.rd_made in
            cc),
        none,
      ))
      (start_or_none realm g)

module _ (p q : Machine) (proper : IsLinked p) (after : ℕ → ℕ) (rd : ℕ) (realm : RmmRealm) (step : IsRealm p q proper.level after rd realm) (sound : IsSound q) (few : realm.start_level ≤ 3) where
  still_table : (g : ℕ) → (granule_at q g).state ≡ Rtt → g ≢ rd → NoStart realm g → (granule_at p g).state ≡ Rtt
  still_table g is other none = sym (ap (λ (r : RmmGranule). r.state) (step.beside g other none).0) ∙ is

  realm_made : IsLinked q
  realm_made = record {
    sound = sound;
    level = after;
    roles = added (uses p proper.level) (uses q after) (used_at p proper.level) (used_at q after) (more p q proper.level after rd realm step) proper.roles;
    most = λ table is. ⊎_elim
        (λ (start : IsStart realm table). subst (λ (x : ℕ). after x ≤ 3) (sym start.2) (subst (λ (l : ℕ). l ≤ 3) (sym (step.level start.0 start.1)) few))
        (λ (old : (table ≢ rd) × NoStart realm table).
        subst (λ (l : ℕ). l ≤ 3) (sym (step.beside table old.0 old.1).2) (proper.most table (still_table table is old.0 old.1)))
        (table_cases p q proper.level after rd realm step table is);
    inside = λ table j is lt. ⊎_elim
        (λ (start : IsStart realm table).
        subst (λ (x : ℕ). LeadsInside q (entry_in_page (page_in q x) j)) (sym start.2) (free_leads q (entry_in_page (page_in q (realm.first_table + start.0)) j) (step.empty start.0 j start.1 lt)))
        (λ (old : (table ≢ rd) × NoStart realm table).
        leads-same p q step.settings step.count (entry_in_page (page_in q table) j)
        (subst (λ (page : List ℕ). LeadsInside p (entry_in_page page j)) (sym (step.beside table old.0 old.1).1) (proper.inside table j (still_table table is old.0 old.1) lt)))
        (table_cases p q proper.level after rd realm step table is);
  }

module _ (p q : Machine) (proper : IsLinked q) (rd : ℕ) (realm : RmmRealm) (step : IsRealm p q proper.level proper.level rd realm) (sound : IsSound p) where
  other_table : (g : ℕ) → (granule_at p g).state ≡ Rtt → (g ≢ rd) × NoStart realm g
  other_table g is = (
    λ same. (
        let states : (granule_at p g).state ≡ (granule_at p rd).state = ap (λ (x : ℕ). (granule_at p x).state) same in
        let free = step.rd_free in
        cc),
    λ i lt same. (
        let states : (granule_at p g).state ≡ (granule_at p (realm.first_table + i)).state = ap (λ (x : ℕ). (granule_at p x).state) same in
        let free = step.free i lt in
        cc),
  )

  table_still : (g : ℕ) → (granule_at p g).state ≡ Rtt → (granule_at q g).state ≡ Rtt
  table_still g is = let other = other_table g is in ap (λ (r : RmmGranule). r.state) (step.beside g other.0 other.1).0 ∙ is

  realm_gone : IsLinked p
  realm_gone = record {
    sound = sound;
    level = proper.level;
    roles = removed (uses p proper.level) (uses q proper.level) (used_at p proper.level) (used_at q proper.level) (more p q proper.level proper.level rd realm step) proper.roles;
    most = λ table is. proper.most table (table_still table is);
    inside = λ table j is lt.
        let other = other_table table is in
        leads-same q p (sym step.settings) (sym step.count) (entry_in_page (page_in p table) j)
        (subst (λ (page : List ℕ). LeadsInside q (entry_in_page page j)) (step.beside table other.0 other.1).1 (proper.inside table j (table_still table is) lt));
  }

-- ---- the starting tables that are made

either_free : (realm : RmmRealm) (n : ℕ) → is_free (start_entry realm n) ≡ true
either_free realm n = cond_both (is_protected realm (n * entry_size realm.start_level)) _ _ (λ (e : RmmRttEntry). is_free e ≡ true) (λ sure. refl) (λ never. refl)

start_free : (realm : RmmRealm) (k j : ℕ) → j < 512 → is_free (entry_in_page (start_page realm k) j) ≡ true
unfolding start_page entry_in_page
start_free realm k j lt =
    ap (λ (w : ℕ). is_free (entry_of w))
    (word_of_page-with_words (λ (i : ℕ). entry_word (start_entry realm (k * 512 + i))) zero_page (length-page_of 0) 512 j (lit≤ tt) lt (entry_word-fits (start_entry realm (k * 512 + j))))
    ∙ free_word (start_entry realm (k * 512 + j)) (either_free realm (k * 512 + j))

length-start_page : (realm : RmmRealm) (k : ℕ) → length (start_page realm k) ≡ 4096
unfolding start_page
length-start_page realm k = length-with_words (λ (i : ℕ). entry_word (start_entry realm (k * 512 + i))) zero_page (length-page_of 0) 512 (lit≤ tt)

module _ (m : Machine) (rd : ℕ) (realm : RmmRealm) where
  pub made_count : (k : ℕ) → length (with_tables m rd realm k).granules ≡ length m.granules
  unfolding with_tables
  made_count zero = refl
  made_count (suc k) = length-set (with_tables m rd realm k).granules (realm.first_table + k) (of_realm rd Rtt) ∙ made_count k

  pub made_settings : (k : ℕ) → (with_tables m rd realm k).settings ≡ m.settings
  unfolding with_tables
  made_settings zero = refl
  made_settings (suc k) = made_settings k

  pub made_other : (k g : ℕ) → ((i : ℕ) → i < k → g ≢ realm.first_table + i) → (granule_at (with_tables m rd realm k) g ≡ granule_at m g) × (page_in (with_tables m rd realm k) g ≡ page_in m g)
  unfolding with_tables
  made_other zero g none = (refl, refl)
  made_other (suc k) g none =
      let rest = made_other k g (λ i lt. none i (omega arith)) in (
        granule_at-other (with_tables m rd realm k) (realm.first_table + k) g (of_realm rd Rtt) (none k (omega arith)) ∙ rest.0,
        page_in-other (with_granule (with_tables m rd realm k) (realm.first_table + k) (of_realm rd Rtt)) (realm.first_table + k) g (start_page realm k) (none k (omega arith)) ∙ rest.1,
      )

  module _ (sound : IsSound m) (inside : realm.first_table + realm.table_count ≤ length m.granules) where
    pub made_sound : (k : ℕ) → k ≤ realm.table_count → IsSound (with_tables m rd realm k)
    unfolding with_tables
    made_sound zero few = sound
    made_sound (suc k) few =
        let count = made_count k in
        sound-with_page (with_granule (with_tables m rd realm k) (realm.first_table + k) (of_realm rd Rtt)) (realm.first_table + k) (start_page realm k) (length-start_page realm k)
        (sound-with_granule (with_tables m rd realm k) (realm.first_table + k) (of_realm rd Rtt) (omega arith) tt (made_sound k (omega arith)))

    pub made_tables : (k i : ℕ) → k ≤ realm.table_count → i < k
        → (granule_at (with_tables m rd realm k) (realm.first_table + i) ≡ of_realm rd Rtt) × (page_in (with_tables m rd realm k) (realm.first_table + i) ≡ start_page realm i)
    unfolding with_tables
    made_tables zero i few lt = absurd (omega arith)
    made_tables (suc k) i few lt =
        let count = made_count k in
        let pages = (made_sound k (omega arith)).pages in
        let before : Machine = with_tables m rd realm k in
        let marked : Machine = with_granule before (realm.first_table + k) (of_realm rd Rtt) in
        let last : Machine = with_page marked (realm.first_table + k) (start_page realm k) in
        ⊎_elim
        (λ (same : i ≡ k).
        subst (λ (x : ℕ). (granule_at last (realm.first_table + x) ≡ of_realm rd Rtt) × (page_in last (realm.first_table + x) ≡ start_page realm x)) (sym same)
        (granule_at-same before (realm.first_table + k) (of_realm rd Rtt) (omega arith), page_in-same marked (realm.first_table + k) (start_page realm k) (omega arith)))
        (λ (ne : i ≢ k).
        let rest = made_tables k i (omega arith) (omega arith) in
        let apart : realm.first_table + i ≢ realm.first_table + k = λ at. ne (omega arith) in (
          granule_at-other before (realm.first_table + k) (realm.first_table + i) (of_realm rd Rtt) apart ∙ rest.0,
          page_in-other marked (realm.first_table + k) (realm.first_table + i) (start_page realm k) apart ∙ rest.1,
        ))
        (cases_eq i k)

-- ---- the command RMI_REALM_CREATE

pub all_delegated : (m : Machine) (first count k : ℕ) → are_delegated m first count ≡ true → k < count → (granule_at m (first + k)).state ≡ Delegated
unfolding are_delegated
all_delegated m first zero k all lt = absurd (omega arith)
all_delegated m first (suc count) zero all lt =
    let here : first ≡ first + 0 = omega arith in
    subst (λ (x : ℕ). (granule_at m x).state ≡ Delegated) here (is_delegated-true (granule_at m first).state (and_parts _ _ all).0)
all_delegated m first (suc count) (suc k) all lt =
    let next : first + 1 + k ≡ first + suc k = omega arith in
    subst (λ (x : ℕ). (granule_at m x).state ≡ Delegated) next (all_delegated m (first + 1) count k (and_parts _ _ all).1 (omega arith))

-- `n` divided by `d` and rounded up, times `d`, is at least `n`
ceiling : (n d : ℕ) → 0 < d → n ≤ (n + (d - 1)) / d * d
ceiling n d some =
    let whole = div-add-mod' (n + (d - 1)) d in
    let rest = mod_below (n + (d - 1)) d some in
    omega arith

pub fits : (m : Machine) (p : RealmParams) → IsSound m → is_supported m.settings p ≡ true → is_start p.s2sz p.rtt_level_start p.rtt_num_start ≡ true
    → number_of m p.rtt_base + p.rtt_num_start ≤ length m.granules → IsServed (length m.granules) (realm_for m p)
unfolding is_start start_count realm_for
fits m p sound supported start inside =
    let a = and_parts _ _ start in
    let b = and_parts _ _ a.0 in
    let c = and_parts _ _ b.0 in
    let wide : p.s2sz ≤ m.settings.s2sz = leb-true _ _ (and_parts _ _ (and_parts _ _ supported).0).1 in
    let widest = sound.platform.widest in
    let size = entry_size-positive p.rtt_level_start in
    let some : 0 < 512 * entry_size p.rtt_level_start = omega arith in
    let same : p.rtt_num_start ≡ (2 ^ p.s2sz + (512 * entry_size p.rtt_level_start - 1)) / (512 * entry_size p.rtt_level_start) = eqb-true _ _ a.1 in
    record {
      few = sound.few;
      inside = inside;
      most = leb-true _ _ b.1;
      level = leb-true _ _ c.0;
      width = omega arith;
      served = subst (λ (n : ℕ). 2 ^ p.s2sz ≤ n * (512 * entry_size p.rtt_level_start)) (sym same) (ceiling (2 ^ p.s2sz) (512 * entry_size p.rtt_level_start) some);
    }

module _ (m : Machine) (proper : IsLinked m) (rd : ℕ) (realm : RmmRealm) (fit : IsServed (length m.granules) realm) (rd_in : rd < length m.granules) (rd_free : (granule_at m rd).state ≡ Delegated)
    (apart : (i : ℕ) → i < realm.table_count → realm.first_table + i ≢ rd) (free : (i : ℕ) → i < realm.table_count → (granule_at m (realm.first_table + i)).state ≡ Delegated) where
  abbrev tables : Machine
  tables = with_tables m rd realm realm.table_count

  abbrev new : Machine
  new = with_granule tables rd (of_no_realm (Rd realm))

  abbrev pub levels : ℕ → ℕ
  levels g = if nat_le realm.first_table g && nat_lt g (realm.first_table + realm.table_count) then realm.start_level else proper.level g

  pub count_is : length tables.granules ≡ length m.granules
  count_is = made_count m rd realm realm.table_count

  level_of_start : (i : ℕ) → i < realm.table_count → levels (realm.first_table + i) ≡ realm.start_level
  level_of_start i lt = cond-true _ _ _ (and_from _ _ (le-leb realm.first_table (realm.first_table + i) (omega arith)) (lt-ltb (realm.first_table + i) (realm.first_table + realm.table_count) (omega arith)))

  level_of_other : (g : ℕ) → NoStart realm g → levels g ≡ proper.level g
  level_of_other g none =
      let out : (nat_le realm.first_table g && nat_lt g (realm.first_table + realm.table_count)) ≡ false =
      ⊎_elim
      (λ (below : g < realm.first_table). and_left (nat_le realm.first_table g) (nat_lt g (realm.first_table + realm.table_count)) (lt-leb realm.first_table g below))
      (λ (above : realm.first_table ≤ g). and_right (nat_le realm.first_table g) (nat_lt g (realm.first_table + realm.table_count)) (le-ltb g (realm.first_table + realm.table_count)
      (⊎_elim (λ (within : g < realm.first_table + realm.table_count). absurd (none (g - realm.first_table) (omega arith) (omega arith))) (λ (past : realm.first_table + realm.table_count ≤ g). past)
      (cases_lt g (realm.first_table + realm.table_count)))))
      (cases_lt g realm.first_table) in
      cond-false (nat_le realm.first_table g && nat_lt g (realm.first_table + realm.table_count)) realm.start_level (proper.level g) out

  pub is_realm : IsRealm m new proper.level levels rd realm
  is_realm = record {
    settings = made_settings m rd realm realm.table_count;
    count = length-set tables.granules rd (of_no_realm (Rd realm)) ∙ count_is;
    rd_free = rd_free;
    rd_made = ap (λ (r : RmmGranule). r.state) (granule_at-same tables rd (of_no_realm (Rd realm)) (let c = count_is in omega arith));
    free = free;
    made = λ i lt. granule_at-other tables rd (realm.first_table + i) (of_no_realm (Rd realm)) (apart i lt) ∙ (made_tables m rd realm proper.sound fit.inside realm.table_count i (omega arith) lt).0;
    level = level_of_start;
    empty = λ i j lt few. ap (λ (page : List ℕ). is_free (entry_in_page page j)) (made_tables m rd realm proper.sound fit.inside realm.table_count i (omega arith) lt).1 ∙ start_free realm i j few;
    beside = λ g other none.
        let same = made_other m rd realm realm.table_count g none in
        (granule_at-other tables rd g (of_no_realm (Rd realm)) other ∙ same.0, same.1, level_of_other g none);
  }

  new_sound : IsSound new
  new_sound =
      sound-with_granule tables rd (of_no_realm (Rd realm)) (let c = count_is in omega arith) (subst (λ (n : ℕ). IsServed n realm) (sym count_is) fit)
      (made_sound m rd realm proper.sound fit.inside realm.table_count (omega arith))

  pub realm_there : IsLinked new
  realm_there = realm_made m new proper levels rd realm is_realm new_sound fit.level

-- an RD's address that is not the address of a starting table is in no starting table's granule
pub not_start : (m : Machine) (p : RealmParams) (rd i : ℕ) → is_start_table p rd ≡ false → is_inside m rd ≡ true → is_inside m p.rtt_base ≡ true → rd % 4096 ≡ 0 → p.rtt_base % 4096 ≡ 0
    → m.settings.base % 4096 ≡ 0 → i < p.rtt_num_start → number_of m p.rtt_base + i ≢ number_of m rd
unfolding is_inside number_of
not_start m p rd i none rd_in in_base aligned base_aligned machine lt same =
    let a : m.settings.base ≤ rd = leb-true _ _ (and_parts _ _ rd_in).0 in
    let b : m.settings.base ≤ p.rtt_base = leb-true _ _ (and_parts _ _ in_base).0 in
    let from : p.rtt_base ≤ rd = omega arith in
    let to : rd - p.rtt_base < p.rtt_num_start * 4096 = omega arith in
    let offset : (rd - p.rtt_base) % 4096 ≡ 0 = omega arith in
    both_ways (is_start_table p rd) none (and_from _ _ (and_from _ _ (le-leb p.rtt_base rd from) (lt-ltb _ _ to)) (eq-eqb _ _ offset))

pub multiple : (base n : ℕ) → base % (n * 4096) ≡ 0 → 0 < n → base % 4096 ≡ 0
multiple base n is some =
    let whole = div-add-mod' base (n * 4096) in
    let q : ℕ = base / (n * 4096) in
    let multiple_is : base ≡ q * n * 4096 = grind arith in
    omega arith

-- ---- the command RMI_REALM_DESTROY

module _ (m : Machine) (realm : RmmRealm) where
  pub gone_count : (k : ℕ) → length (without_tables m realm k).granules ≡ length m.granules
  unfolding without_tables
  gone_count zero = refl
  gone_count (suc k) = length-set (without_tables m realm k).granules (realm.first_table + k) (of_no_realm Delegated) ∙ gone_count k

  pub gone_settings : (k : ℕ) → (without_tables m realm k).settings ≡ m.settings
  unfolding without_tables
  gone_settings zero = refl
  gone_settings (suc k) = gone_settings k

  pub gone_other : (k g : ℕ) → ((i : ℕ) → i < k → g ≢ realm.first_table + i) → (granule_at (without_tables m realm k) g ≡ granule_at m g) × (page_in (without_tables m realm k) g ≡ page_in m g)
  unfolding without_tables
  gone_other zero g none = (refl, refl)
  gone_other (suc k) g none =
      let rest = gone_other k g (λ i lt. none i (omega arith)) in (
        granule_at-other (without_tables m realm k) (realm.first_table + k) g (of_no_realm Delegated) (none k (omega arith)) ∙ rest.0,
        page_in-other (with_granule (without_tables m realm k) (realm.first_table + k) (of_no_realm Delegated)) (realm.first_table + k) g zero_page (none k (omega arith)) ∙ rest.1,
      )

  module _ (sound : IsSound m) (inside : realm.first_table + realm.table_count ≤ length m.granules) where
    pub gone_sound : (k : ℕ) → k ≤ realm.table_count → IsSound (without_tables m realm k)
    unfolding without_tables
    gone_sound zero few = sound
    gone_sound (suc k) few =
        let count = gone_count k in
        sound-with_page (with_granule (without_tables m realm k) (realm.first_table + k) (of_no_realm Delegated)) (realm.first_table + k) zero_page (length-page_of 0)
        (sound-with_granule (without_tables m realm k) (realm.first_table + k) (of_no_realm Delegated) (omega arith) tt (gone_sound k (omega arith)))

    pub gone_tables : (k i : ℕ) → k ≤ realm.table_count → i < k
        → (granule_at (without_tables m realm k) (realm.first_table + i) ≡ of_no_realm Delegated) × (page_in (without_tables m realm k) (realm.first_table + i) ≡ zero_page)
    unfolding without_tables
    gone_tables zero i few lt = absurd (omega arith)
    gone_tables (suc k) i few lt =
        let count = gone_count k in
        let pages = (gone_sound k (omega arith)).pages in
        let before : Machine = without_tables m realm k in
        let marked : Machine = with_granule before (realm.first_table + k) (of_no_realm Delegated) in
        let last : Machine = with_page marked (realm.first_table + k) zero_page in
        ⊎_elim
        (λ (same : i ≡ k).
        subst (λ (x : ℕ). (granule_at last (realm.first_table + x) ≡ of_no_realm Delegated) × (page_in last (realm.first_table + x) ≡ zero_page)) (sym same)
        (granule_at-same before (realm.first_table + k) (of_no_realm Delegated) (omega arith), page_in-same marked (realm.first_table + k) zero_page (omega arith)))
        (λ (ne : i ≢ k).
        let rest = gone_tables k i (omega arith) (omega arith) in
        let apart : realm.first_table + i ≢ realm.first_table + k = λ at. ne (omega arith) in (
          granule_at-other before (realm.first_table + k) (realm.first_table + i) (of_no_realm Delegated) apart ∙ rest.0,
          page_in-other marked (realm.first_table + k) (realm.first_table + i) zero_page apart ∙ rest.1,
        ))
        (cases_eq i k)

pub none_live : (m : Machine) (first count i : ℕ) → has_live_table m first count ≡ false → i < count → has_live (page_in m (first + i)) ≡ false
unfolding has_live_table
none_live m first zero i none lt = absurd (omega arith)
none_live m first (suc count) zero none lt =
    let here : first ≡ first + 0 = omega arith in
    subst (λ (x : ℕ). has_live (page_in m x) ≡ false) here (or_none (has_live (page_in m first)) (has_live_table m (first + 1) count) none).0
none_live m first (suc count) (suc i) none lt =
    let next : first + 1 + i ≡ first + suc i = omega arith in
    subst (λ (x : ℕ). has_live (page_in m x) ≡ false) next (none_live m (first + 1) count i (or_none (has_live (page_in m first)) (has_live_table m (first + 1) count) none).1 (omega arith))

module _ (m : Machine) (proper : IsLinked m) (rd : ℕ) (realm : RmmRealm) (is : (granule_at m rd).state ≡ Rd realm) (dead : has_live_table m realm.first_table realm.table_count ≡ false) where
  fit : IsServed (length m.granules) realm
  fit = subst (λ (s : RmmGranuleState). IfSome (realm_of s) (IsServed (length m.granules))) is (proper.sound.tables.each rd)

  pub rd_in : rd < length m.granules
  rd_in = taken_inside m rd (λ free. cc)

  -- each starting table is a table of the realm at the realm's starting level
  pub start_is : (i : ℕ) → i < realm.table_count → (granule_at m (realm.first_table + i) ≡ of_realm rd Rtt) × (proper.level (realm.first_table + i) ≡ realm.start_level)
  unfolding uses
  start_is i lt =
      let gives : uses m proper.level rd i 0 ≡ Some (used Rtt (Some rd) realm.start_level (realm.first_table + i)) =
      ap (λ (s : RmmGranuleState). state_uses m s (granule_at m rd).owner (proper.level rd) (page_in m rd) rd i 0) is
      ∙ cond-true _ _ _ (and_from (nat_lt i realm.table_count) (0 == 0) (lt-ltb i realm.table_count lt) refl) in
      table_right m proper (Some rd) realm.start_level (realm.first_table + i) (right m proper rd i 0 (used Rtt (Some rd) realm.start_level (realm.first_table + i)) gives)

  rd_apart : (i : ℕ) → i < realm.table_count → realm.first_table + i ≢ rd
  rd_apart i lt same =
      let s : (granule_at m (realm.first_table + i)).state ≡ Rtt = ap (λ (r : RmmGranule). r.state) (start_is i lt).0 in
      let t : (granule_at m (realm.first_table + i)).state ≡ (granule_at m rd).state = ap (λ (x : ℕ). (granule_at m x).state) same in
      let r = is in
      cc

  abbrev cleared : Machine
  cleared = without_tables m realm realm.table_count

  abbrev gone : Machine
  gone = with_blank cleared rd Delegated

  pub cleared_count : length cleared.granules ≡ length m.granules
  cleared_count = gone_count m realm realm.table_count

  pub was_realm : IsRealm gone m proper.level proper.level rd realm
  was_realm = record {
    settings = sym (gone_settings m realm realm.table_count);
    count = sym (length-set cleared.granules rd (of_no_realm Delegated) ∙ cleared_count);
    rd_free = ap (λ (r : RmmGranule). r.state) (granule_at-same cleared rd (of_no_realm Delegated) (let c = cleared_count in let r = rd_in in omega arith));
    rd_made = is;
    free = λ i lt.
        ap (λ (r : RmmGranule). r.state) (granule_at-other cleared rd (realm.first_table + i) (of_no_realm Delegated) (rd_apart i lt))
        ∙ ap (λ (r : RmmGranule). r.state) (gone_tables m realm proper.sound fit.inside realm.table_count i (omega arith) lt).0;
    made = λ i lt. (start_is i lt).0;
    level = λ i lt. (start_is i lt).1;
    empty = λ i j lt few. unused_free (page_in m (realm.first_table + i)) (none_live m realm.first_table realm.table_count i dead lt) j few;
    beside = λ g other none.
        let same = gone_other m realm realm.table_count g none in (
          sym (granule_at-other cleared rd g (of_no_realm Delegated) other ∙ same.0),
          sym (page_in-other (with_granule cleared rd (of_no_realm Delegated)) rd g zero_page other ∙ same.1),
          refl,
        );
  }

  gone_is_sound : IsSound gone
  gone_is_sound =
      sound-with_page (with_granule cleared rd (of_no_realm Delegated)) rd zero_page (length-page_of 0)
      (sound-with_granule cleared rd (of_no_realm Delegated) (let c = cleared_count in let r = rd_in in omega arith) tt (gone_sound m realm proper.sound fit.inside realm.table_count (omega arith)))

  pub no_realm_there : IsLinked gone
  no_realm_there = realm_gone gone m proper rd realm was_realm gone_is_sound
