-- Proofs that each granule keeps one role when an entry of a table begins to use a granule, or ceases to use it.
use Rattle.std.proofs.Common.{◌≡◌, ◌≢◌, ℕ, ◌<◌, ◌≤◌, ◌⊎◌, inl, inr, ◌==◌, ◌&&◌, Bool, true, false, length, Some, None, refl, sym, ap, subst, ◌∙◌, ⊎_elim}
use Rattle.std.specs.Prelude.{nat_lt, if◌then◌else◌}
use Rattle.std.proofs.lemmas.Bool.{cases_eq, cases_lt, and_parts, and_from, eqb-true, eq-eqb, lt-ltb, le-ltb, cond-true, cond-false, both_ways}
use Rattle.rmm_model.specs.declared.entry.RmmRttEntry.{RmmRttEntry}
use Rattle.rmm_model.specs.declared.granule.RmmGranule.{RmmGranule}
use Rattle.rmm_model.specs.declared.granule.RmmGranuleState.{RmmGranuleState}
use Rattle.rmm_model.specs.declared.granule.RmmGranuleState.TheVariants.{Delegated, Rtt}
use Rattle.rmm_model.specs.Machine.{Machine, granule_at, page_in}
use Rattle.rmm_model.specs.Table.{entry_in_page}
use Rattle.rmm_laws.specs.Role.{has_user, used_at, entry_uses, state_uses, uses, IsSound, IsLinked, LeadsInside}
use Rattle.rmm_laws.proofs.Uses.{IsMore, added, removed}
use Rattle.rmm_laws.proofs.Writes.{is_user, uses-same, uses-plain, used_at-same, entry_uses-same, leads-same}

-- a table uses at each index below 512 what its entry uses, and nothing at other indices
pub uses-table : (m : Machine) (level : ℕ → ℕ) (t j k : ℕ) → (granule_at m t).state ≡ Rtt
    → uses m level t j k ≡ (if nat_lt j 512 then entry_uses m (granule_at m t).owner (level t) (entry_in_page (page_in m t) j) k else None)
unfolding uses
uses-table m level t j k is = ap (λ (s : RmmGranuleState). state_uses m s (granule_at m t).owner (level t) (page_in m t) t j k) is

pub uses-table_in : (m : Machine) (level : ℕ → ℕ) (t j k : ℕ) → (granule_at m t).state ≡ Rtt → j < 512
    → uses m level t j k ≡ entry_uses m (granule_at m t).owner (level t) (entry_in_page (page_in m t) j) k
uses-table_in m level t j k is lt = uses-table m level t j k is ∙ cond-true _ _ _ (lt-ltb j 512 lt)

pub uses-table_out : (m : Machine) (level : ℕ → ℕ) (t j k : ℕ) → (granule_at m t).state ≡ Rtt → 512 ≤ j → uses m level t j k ≡ None
uses-table_out m level t j k is past = uses-table m level t j k is ∙ cond-false _ _ _ (le-ltb j 512 past)

-- Granule `g` is DELEGATED in `m`; in `n`, entry `i` of table `t` uses `g`, and `g` uses nothing. The entry uses
-- nothing in `m`. All other granules and entries are the same.
pub record IsOneMore (m n : Machine) (before after : ℕ → ℕ) (t i g : ℕ) : Type 0 where
  pub settings : n.settings ≡ m.settings
  pub count : length n.granules ≡ length m.granules
  pub table : (granule_at m t).state ≡ Rtt
  pub index : i < 512
  pub free : (granule_at m g).state ≡ Delegated
  pub made : has_user (granule_at n g).state ≡ true
  pub beside : (h : ℕ) → h ≢ g → granule_at n h ≡ granule_at m h
  pub levels : (h : ℕ) → h ≢ g → after h ≡ before h
  pub pages : (h : ℕ) → h ≢ g → h ≢ t → page_in n h ≡ page_in m h
  pub old : (k : ℕ) → entry_uses m (granule_at m t).owner (before t) (entry_in_page (page_in m t) i) k ≡ None
  pub new : entry_uses n (granule_at m t).owner (before t) (entry_in_page (page_in n t) i) 0 ≡ Some (used_at n after g)
  pub only : (k : ℕ) → k ≢ 0 → entry_uses n (granule_at m t).owner (before t) (entry_in_page (page_in n t) i) k ≡ None
  pub empty : (j k : ℕ) → uses n after g j k ≡ None
  pub entries : (j : ℕ) → j < 512 → j ≢ i → entry_in_page (page_in n t) j ≡ entry_in_page (page_in m t) j

module _ (m n : Machine) (before after : ℕ → ℕ) (t i g : ℕ) (step : IsOneMore m n before after t i g) where
  -- a table of the first machine is another granule than `g`
  pub other_table : (h : ℕ) → (granule_at m h).state ≡ Rtt → h ≢ g
  other_table h is same =
      let f = step.free in
      let s : (granule_at m h).state ≡ (granule_at m g).state = ap (λ (k : ℕ). (granule_at m k).state) same in
      cc

  still_table : (granule_at n t).state ≡ Rtt
  still_table = ap (λ (r : RmmGranule). r.state) (step.beside t (other_table t step.table)) ∙ step.table

  -- in the second machine, the table uses at each index what its entry there uses
  there : (j k : ℕ) → j < 512 → uses n after t j k ≡ entry_uses n (granule_at m t).owner (before t) (entry_in_page (page_in n t) j) k
  there j k lt =
      uses-table_in n after t j k still_table lt
      ∙ ap (λ (r : RmmGranule). entry_uses n r.owner (after t) (entry_in_page (page_in n t) j) k) (step.beside t (other_table t step.table))
      ∙ ap (λ (l : ℕ). entry_uses n (granule_at m t).owner l (entry_in_page (page_in n t) j) k) (step.levels t (other_table t step.table))

  words : (j k : ℕ) → j ≢ i → uses n after t j k ≡ uses m before t j k
  words j k other =
      ⊎_elim
      (λ (lt : j < 512).
      there j k lt
      ∙ ap (λ (e : RmmRttEntry). entry_uses n (granule_at m t).owner (before t) e k) (step.entries j lt other)
      ∙ entry_uses-same m n step.settings step.count (granule_at m t).owner (before t) (entry_in_page (page_in m t) j) k
      ∙ sym (uses-table_in m before t j k step.table lt))
      (λ (past : 512 ≤ j). uses-table_out n after t j k still_table past ∙ sym (uses-table_out m before t j k step.table past))
      (cases_lt j 512)

  none_before : (k : ℕ) → uses m before t i k ≡ None
  none_before k = uses-table_in m before t i k step.table step.index ∙ step.old k

  abbrev both : ℕ → ℕ → Bool
  both j k = j == i && k == 0

  table_beside : (j k : ℕ) → both j k ≡ false → uses n after t j k ≡ uses m before t j k
  table_beside j k never =
      ⊎_elim
      (λ (same : j ≡ i).
      let rest : k ≢ 0 = λ zero. both_ways (both j k) never (and_from (j == i) (k == 0) (eq-eqb j i same) (eq-eqb k 0 zero)) in
      ap (λ (x : ℕ). uses n after t x k) same ∙ there i k step.index ∙ step.only k rest
      ∙ sym (ap (λ (x : ℕ). uses m before t x k) same ∙ none_before k))
      (λ (other : j ≢ i). words j k other)
      (cases_eq j i)

  all_beside : (x j k : ℕ) → (x ≢ t) ⊎ (both j k ≡ false) → uses n after x j k ≡ uses m before x j k
  all_beside x j k old =
      ⊎_elim
      (λ (here : x ≡ t).
      subst (λ (y : ℕ). uses n after y j k ≡ uses m before y j k) (sym here)
      (⊎_elim (λ (other : x ≢ t). absurd (other here)) (λ (never : both j k ≡ false). table_beside j k never) old))
      (λ (other : x ≢ t).
      ⊎_elim
      (λ (it : x ≡ g).
      subst (λ (y : ℕ). uses n after y j k ≡ uses m before y j k) (sym it)
      (step.empty j k ∙ sym (uses-plain m before g j k (ap is_user step.free))))
      (λ (ne : x ≢ g). uses-same m n step.settings step.count before after x j k (step.beside x ne) (step.pages x ne other) (step.levels x ne))
      (cases_eq x g))
      (cases_eq x t)

  more : IsMore (uses m before) (uses n after) (used_at m before) (used_at n after)
  more = record {
    user = t;
    is_new = λ j k. j == i && k == 0;
    new = λ j k. g;
    before = λ j k sure. ap (λ (x : ℕ). uses m before t x k) (eqb-true j i (and_parts (j == i) (k == 0) sure).0) ∙ none_before k;
    after = λ j k sure.
        let parts = and_parts (j == i) (k == 0) sure in
        ap (λ (x : ℕ). uses n after t x k) (eqb-true j i parts.0) ∙ ap (uses n after t i) (eqb-true k 0 parts.1) ∙ there i 0 step.index ∙ step.new;
    beside = all_beside;
    apart = λ j k h l sure also same.
        let one = and_parts (j == i) (k == 0) sure in
        let two = and_parts (h == i) (l == 0) also in
        (eqb-true j i one.0 ∙ sym (eqb-true h i two.0), eqb-true k 0 one.1 ∙ sym (eqb-true l 0 two.1));
    free = λ j k sure. ap has_user step.free;
    made = λ j k sure. step.made;
    others = λ h not_new.
        let other : h ≢ g = not_new i 0 (and_from (i == i) (0 == 0) (eq-eqb i i refl) refl) in
        inl (used_at-same m n step.settings step.count before after h (step.beside h other) (step.levels h other));
    new_or_not = λ h. ⊎_elim
        (λ (same : h ≡ g). inl (i, 0, and_from (i == i) (0 == 0) (eq-eqb i i refl) refl, same))
        (λ (other : h ≢ g). inr (λ j k sure. other))
        (cases_eq h g);
    number_before = λ h. refl;
    number_after = λ h. refl;
  }

  was_table : (h : ℕ) → h ≢ g → (granule_at n h).state ≡ Rtt → (granule_at m h).state ≡ Rtt
  was_table h other is = sym (ap (λ (r : RmmGranule). r.state) (step.beside h other)) ∙ is

-- ---- one more

module _ (m n : Machine) (proper : IsLinked m) (after : ℕ → ℕ) (t i g : ℕ) (step : IsOneMore m n proper.level after t i g) (sound : IsSound n)
    (few : (granule_at n g).state ≡ Rtt → after g ≤ 3) (leads : LeadsInside m (entry_in_page (page_in n t) i))
    (below : (granule_at n g).state ≡ Rtt → (j : ℕ) → j < 512 → LeadsInside m (entry_in_page (page_in n g) j)) where
  leads_now : (table j : ℕ) → (granule_at n table).state ≡ Rtt → j < 512 → LeadsInside m (entry_in_page (page_in n table) j)
  leads_now table j is lt =
      ⊎_elim
      (λ (it : table ≡ g). subst (λ (x : ℕ). LeadsInside m (entry_in_page (page_in n x) j)) (sym it) (below (subst (λ (x : ℕ). (granule_at n x).state ≡ Rtt) it is) j lt))
      (λ (ne : table ≢ g).
      let was = was_table m n proper.level after t i g step table ne is in
      ⊎_elim
      (λ (here : table ≡ t).
      subst (λ (x : ℕ). LeadsInside m (entry_in_page (page_in n x) j)) (sym here)
      (⊎_elim
      (λ (same : j ≡ i). subst (λ (k : ℕ). LeadsInside m (entry_in_page (page_in n t) k)) (sym same) leads)
      (λ (other : j ≢ i). subst (LeadsInside m) (sym (step.entries j lt other)) (proper.inside t j step.table lt))
      (cases_eq j i)))
      (λ (other : table ≢ t). subst (λ p. LeadsInside m (entry_in_page p j)) (sym (step.pages table ne other)) (proper.inside table j was lt))
      (cases_eq table t))
      (cases_eq table g)

  pub one_more_proper : IsLinked n
  one_more_proper = record {
    sound = sound;
    level = after;
    roles = added (uses m proper.level) (uses n after) (used_at m proper.level) (used_at n after) (more m n proper.level after t i g step) proper.roles;
    most = λ table is. ⊎_elim
        (λ (it : table ≡ g). subst (λ (x : ℕ). after x ≤ 3) (sym it) (few (subst (λ (x : ℕ). (granule_at n x).state ≡ Rtt) it is)))
        (λ (ne : table ≢ g). subst (λ (l : ℕ). l ≤ 3) (sym (step.levels table ne)) (proper.most table (was_table m n proper.level after t i g step table ne is)))
        (cases_eq table g);
    inside = λ table j is lt. leads-same m n step.settings step.count (entry_in_page (page_in n table) j) (leads_now table j is lt);
  }

-- ---- one less

module _ (m n : Machine) (proper : IsLinked n) (t i g : ℕ) (step : IsOneMore m n proper.level proper.level t i g) (sound : IsSound m)
    (leads : LeadsInside n (entry_in_page (page_in m t) i)) where
  still : (h : ℕ) → (granule_at m h).state ≡ Rtt → (granule_at n h).state ≡ Rtt
  still h is = ap (λ (r : RmmGranule). r.state) (step.beside h (other_table m n proper.level proper.level t i g step h is)) ∙ is

  leads_then : (table j : ℕ) → (granule_at m table).state ≡ Rtt → j < 512 → LeadsInside n (entry_in_page (page_in m table) j)
  leads_then table j is lt =
      ⊎_elim
      (λ (here : table ≡ t).
      subst (λ (x : ℕ). LeadsInside n (entry_in_page (page_in m x) j)) (sym here)
      (⊎_elim
      (λ (same : j ≡ i). subst (λ (k : ℕ). LeadsInside n (entry_in_page (page_in m t) k)) (sym same) leads)
      (λ (other : j ≢ i). subst (LeadsInside n) (step.entries j lt other) (proper.inside t j (still t step.table) lt))
      (cases_eq j i)))
      (λ (other : table ≢ t).
      subst (λ p. LeadsInside n (entry_in_page p j)) (step.pages table (other_table m n proper.level proper.level t i g step table is) other) (proper.inside table j (still table is) lt))
      (cases_eq table t)

  pub one_less_proper : IsLinked m
  one_less_proper = record {
    sound = sound;
    level = proper.level;
    roles = removed (uses m proper.level) (uses n proper.level) (used_at m proper.level) (used_at n proper.level) (more m n proper.level proper.level t i g step) proper.roles;
    most = λ table is. proper.most table (still table is);
    inside = λ table j is lt. leads-same n m (sym step.settings) (sym step.count) (entry_in_page (page_in m table) j) (leads_then table j is lt);
  }
