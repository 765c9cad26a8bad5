-- A proof that a realm still owns the granules of its tables and data pages after an entry is written.
use Rattle.std.proofs.Common.{◌≡◌, ◌≢◌, ℕ, suc, ◌/◌, ◌<◌, ◌≤◌, cond, set, List, length, Option, Some, None, ◌⊎◌, inl, inr, ⊎_elim, refl, sym, ap, ◌∙◌, arith}
use Rattle.std.specs.Prelude.{option_and_then}
use Rattle.std.proofs.lemmas.List.{length-set, get_or-set_same, get_or-set_other}
use Rattle.std.proofs.lemmas.Option.{same_Some}
use Rattle.granule_addr.specs.Ipa.{covered_count, entry_index, served_count}
use Rattle.granule_addr.specs.declared.width.Root.{Root}
use Rattle.rtt.specs.Granules.{granule_at, undelegated, IsIn}
use Rattle.rtt.specs.declared.granule.Granule.{Granule}
use Rattle.realm_model.specs.declared.states.GranuleState.{GranuleState}
use Rattle.realm_model.specs.declared.states.GranuleState.TheVariants.{Data as InData, Rtt as InRtt}
use Rattle.realm_model.specs.declared.states.EntryState.TheVariants.{Unassigned}
use Rattle.realm_model.specs.Rows.{Row, table_of, data_of}
use Rattle.rtt.specs.Tables.{Entries, table_at, entry_at, data_at}
use Rattle.rtt.specs.Realm.{IsInside, HasGranules}
use Rattle.rtt.proofs.EntryKinds.{data_of-unassigned}
use Rattle.rtt.proofs.PlaceLaws.{index_below, served_below, is_under, under_cases}
use Rattle.rtt.proofs.TableAt.{data_in, data_at-entry}
use Rattle.rtt.proofs.Writes.{Writes, entry_at-written, table_cases}

-- ---- a granule that moves to another state

-- One granule has the given state and realm afterwards, and each other granule is as it was.
pub record Moves (granules new_granules : List Granule) (granule : ℕ) (state : GranuleState) (realm : Option ℕ) : Type 0 where
  pub now : IsIn new_granules granule state realm
  pub others : (other : ℕ) (other_state : GranuleState) (other_realm : Option ℕ) → other ≢ granule → IsIn granules other other_state other_realm → IsIn new_granules other other_state other_realm

pub Moves-set : (granules : List Granule) (granule : ℕ) (state : GranuleState) (realm : Option ℕ) → granule < length granules
    → Moves granules (set granules granule (record { state = state; realm = realm })) granule state realm
Moves-set granules granule state realm inside =
    let x : Granule = record { state = state; realm = realm } in
    let len = length-set granules granule x in
    record {
      now = record { inside = omega arith; is = get_or-set_same granules granule x undelegated inside };
      others = λ other other_state other_realm apart was.
          let there = was.inside in
          record { inside = omega arith; is = get_or-set_other granules granule other x undelegated apart ∙ was.is };
    }

-- granules in different states are different
pub apart_states : (granules : List Granule) (granule other : ℕ) (state other_state : GranuleState) (realm other_realm : Option ℕ)
    → IsIn granules granule state realm → IsIn granules other other_state other_realm → state ≢ other_state → granule ≢ other
apart_states granules granule other state other_state realm other_realm is other_is differ same =
    differ (ap (λ (x : Granule). x.state) (sym is.is ∙ ap (granule_at granules) same ∙ other_is.is))

-- granules of different realms are different
pub apart_realms : (granules : List Granule) (granule other : ℕ) (state other_state : GranuleState) (realm other_realm : ℕ)
    → IsIn granules granule state (Some realm) → IsIn granules other other_state (Some other_realm) → realm ≢ other_realm → granule ≢ other
apart_realms granules granule other state other_state realm other_realm is other_is differ same =
    let realms : Some realm ≡ Some other_realm = ap (λ (x : Granule). x.realm) (sym is.is ∙ ap (granule_at granules) same ∙ other_is.is) in
    differ (same_Some realm other_realm realms)

-- ---- an entry that is written

-- The tables and pages that stay, and the new ones, are RTT and DATA granules of the realm afterwards. No new table is
-- a table that stays, and no new page is a page that stays.
pub record Fits (entries : Entries) (new_granules : List Granule) (rd : ℕ) (root : Root) (level ipa : ℕ) (entry : Row) : Type 0 where
  pub tables_stay : (other_level other table : ℕ) → IsInside root.width other_level other → table_at entries root other_level other ≡ Some table
      → (other_level ≡ suc level → other / covered_count level ≢ ipa / covered_count level) → IsIn new_granules table InRtt (Some rd)
  pub table_new : (table : ℕ) → level < 3 → table_of entry ≡ Some table → IsIn new_granules table InRtt (Some rd)
  pub table_once : (other_level other table : ℕ) → level < 3 → table_of entry ≡ Some table → IsInside root.width other_level other
      → table_at entries root other_level other ≡ Some table → (other_level ≡ suc level → other / covered_count level ≢ ipa / covered_count level) → ⊥
  pub data_stays : (other_level other page : ℕ) → IsInside root.width other_level other → data_at entries root other_level other ≡ Some page
      → (other_level ≡ level → other / covered_count level ≢ ipa / covered_count level) → IsIn new_granules page InData (Some rd)
  pub data_new : (page : ℕ) → data_of entry ≡ Some page → IsIn new_granules page InData (Some rd)
  pub data_once : (other_level other page : ℕ) → data_of entry ≡ Some page → IsInside root.width other_level other
      → data_at entries root other_level other ≡ Some page → (other_level ≡ level → other / covered_count level ≢ ipa / covered_count level) → ⊥

none_of_data : (entries : Entries) (o : Option ℕ) (index : ℕ) → ((child : ℕ) → o ≡ Some child → (entries child index).state ≡ Unassigned)
    → data_in (option_and_then (λ t. Some (entries t index)) o) ≡ None
none_of_data entries None index h = refl
none_of_data entries (Some child) index h = data_of-unassigned (entries child index) (h child refl)

module _ (entries new : Entries) (granules : List Granule) (rd : ℕ) (root : Root) (level ipa table : ℕ) (entry : Row)
    (own : HasGranules entries granules rd root) (w : Writes entries new root level ipa table entry) where
  -- after the write, the page of data for an IPA granule is the one that the written entry leads to, or the same as
  -- before
  data_cases : (l i page : ℕ) → IsInside root.width l i → data_at new root l i ≡ Some page
      → ((data_of entry ≡ Some page) × (l ≡ level) × (i / covered_count level ≡ ipa / covered_count level))
      ⊎ ((data_at entries root l i ≡ Some page) × (l ≡ level → i / covered_count level ≢ ipa / covered_count level))
  data_cases l i page inside is =
      let index = entry_index l i in
      let below = option_and_then (λ t. Some (new t index)) (table_of entry) in
      let was = entry_at entries root l i in
      let under_test = is_under (suc level) level ipa l i in
      let now = data_at-entry new root l i ∙ ap data_in (entry_at-written entries new granules rd root level ipa table entry own w l i inside) in
      elim (under_cases level level ipa l i) [
        | inl u ↦ inl (sym (now ∙ ap (λ c. data_in (cond c (Some entry) (cond under_test below was))) u.0) ∙ is, u.1, u.2)
        | inr u ↦
            let beside : data_at new root l i ≡ data_in (cond under_test below was) = now ∙ ap (λ c. data_in (cond c (Some entry) (cond under_test below was))) u.0 in
            elim (under_cases (suc level) level ipa l i) [
              | inl v ↦
                  let deep : level < 3 = let e = v.1 in let most = inside.most in omega arith in
                  let none : data_at new root l i ≡ None = beside ∙ ap (λ c. data_in (cond c below was)) v.0
                  ∙ none_of_data new (table_of entry) index (λ child c. w.new_below child index deep c (index_below l i)) in
                  let clash : None ≡ Some page = sym none ∙ is in cc
              | inr v ↦ inr (data_at-entry entries root l i ∙ sym (beside ∙ ap (λ c. data_in (cond c below was)) v.0) ∙ is, u.1)
            ]
      ]

  -- The realm owns the granules of its tables and data pages after the entry is written, if the granules satisfy
  -- `Fits`.
  pub HasGranules-written : (new_granules : List Granule) → Fits entries new_granules rd root level ipa entry → HasGranules new new_granules rd root
  HasGranules-written new_granules fits = record {
    tables = λ l i t inside is. ⊎_elim (λ n. fits.table_new t (deep l n.1 inside.most) n.0) (λ o. fits.tables_stay l i t inside o.0 o.1)
        (table_cases entries new granules rd root level ipa table entry own w l i t inside is);
    tables_once = λ l i m j t inside inside' is is'. elim (table_cases entries new granules rd root level ipa table entry own w l i t inside is) [
      | inl n ↦ elim (table_cases entries new granules rd root level ipa table entry own w m j t inside' is') [
        | inl n' ↦
            let s = served_below level w.inside.least (deep l n.1 inside.most) in
            let l_served : served_count l ≡ covered_count level = ap served_count n.1 ∙ s in
            let m_served : served_count m ≡ covered_count level = ap served_count n'.1 ∙ s in
            (n.1 ∙ sym n'.1, ap (λ (k : ℕ). i / k) l_served ∙ n.2 ∙ sym n'.2 ∙ sym (ap (λ (k : ℕ). j / k) m_served))
        | inr o' ↦ absurd (fits.table_once m j t (deep l n.1 inside.most) n.0 inside' o'.0 o'.1)
      ]
      | inr o ↦ elim (table_cases entries new granules rd root level ipa table entry own w m j t inside' is') [
        | inl n' ↦ absurd (fits.table_once l i t (deep m n'.1 inside'.most) n'.0 inside o.0 o.1)
        | inr o' ↦ own.tables_once l i m j t inside inside' o.0 o'.0
      ]
    ];
    «data» = λ l i page inside is. ⊎_elim (λ n. fits.data_new page n.0) (λ o. fits.data_stays l i page inside o.0 o.1) (data_cases l i page inside is);
    data_once = λ l i m j page inside inside' is is'. elim (data_cases l i page inside is) [
      | inl n ↦ elim (data_cases m j page inside' is') [
        | inl n' ↦ (n.1 ∙ sym n'.1, ap (λ (k : ℕ). i / covered_count k) n.1 ∙ n.2 ∙ sym n'.2 ∙ sym (ap (λ (k : ℕ). j / covered_count k) n'.1))
        | inr o' ↦ absurd (fits.data_once m j page n.0 inside' o'.0 o'.1)
      ]
      | inr o ↦ elim (data_cases m j page inside' is') [
        | inl n' ↦ absurd (fits.data_once l i page n'.0 inside o.0 o.1)
        | inr o' ↦ own.data_once l i m j page inside inside' o.0 o'.0
      ]
    ];
  }
    where
      deep : (l : ℕ) → l ≡ suc level → l ≤ 3 → level < 3
      deep l e most = omega arith
