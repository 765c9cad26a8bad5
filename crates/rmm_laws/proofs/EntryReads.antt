-- Proofs that writing entries that lead to no table changes a property of addresses, such as RIPAS, only at the
-- addresses of these entries.
use Rattle.std.proofs.Common.{◌≡◌, ◌≢◌, ℕ, zero, suc, ◌+◌, ◌-◌, ◌*◌, ◌/◌, ◌%◌, ◌^◌, ◌<◌, ◌≤◌, ◌⊎◌, inl, inr, ◌||◌, true, false, List, length, refl, sym, ap, subst, ◌∙◌, ⊎_elim, arith}
use Rattle.std.specs.Prelude.{nat_le}
use Rattle.std.proofs.Math.Bool.{or-false}
use Rattle.std.proofs.lemmas.Bool.{cases_Bool, cases_eq, cond_both, and_parts, cond-false, cond-true, leb-false}
use Rattle.rmm_model.specs.declared.entry.Changeable.{Changeable}
use Rattle.rmm_model.specs.declared.entry.RmmRipas.{RmmRipas}
use Rattle.rmm_model.specs.declared.entry.RmmRipas.TheVariants.{Destroyed}
use Rattle.rmm_model.specs.declared.entry.RmmRttEntry.{RmmRttEntry}
use Rattle.rmm_model.specs.declared.entry.RmmRttEntry.TheVariants.{Unassigned, Assigned}
use Rattle.rmm_model.specs.declared.granule.RmmGranuleState.TheVariants.{Rd}
use Rattle.rmm_model.specs.declared.realm.RmmRealm.{RmmRealm}
use Rattle.rmm_model.specs.declared.realm.RttWalk.{RttWalk}
use Rattle.rmm_model.specs.Entry.{can_change, entry_with_ripas, is_table, ripas_in}
use Rattle.rmm_model.specs.Level.{entry_size, entry_index}
use Rattle.rmm_model.specs.Machine.{Machine, granule_at, page_in}
use Rattle.rmm_model.specs.Table.{entry_in_page, first_fixed}
use Rattle.rmm_model.specs.Walk.{entry_at, table_below, walk}
use Rattle.rmm_model.specs.Command.RipasRange.{change_count, entries_below}
use Rattle.rmm_laws.specs.Proper.{IsProper}
use Rattle.rmm_laws.specs.Ripas.{IsBetween}
use Rattle.rmm_laws.specs.Walk.{IsTableOf}
use Rattle.rmm_laws.proofs.Along.{IsMet, along}
use Rattle.rmm_laws.proofs.Halves.{none_below}
use Rattle.rmm_laws.proofs.KeptTables.{read_at, IsReadAs, IsRead, on_same}
use Rattle.rmm_laws.proofs.Mappings.{first_fixed-most}
use Rattle.rmm_laws.proofs.Seats.{IsSeat, walk_seat}
use Rattle.rmm_laws.proofs.Serving.{level_cases}
use Rattle.rmm_laws.proofs.Sides.{whole_index}
use Rattle.rmm_laws.proofs.Walks.{entry_index-few}

-- an address covered by the entry that begins at `ipa` is between `ipa` and the end of that entry
pub entry_between : (l : ℕ) → l ≤ 3 → (ipa x : ℕ) → ipa % entry_size l ≡ 0 → x / entry_size l ≡ ipa / entry_size l → IsBetween ipa (ipa + entry_size l) x
unfolding entry_size
entry_between l few =
    level_cases (λ (k : ℕ). (ipa x : ℕ) → ipa % entry_size k ≡ 0 → x / entry_size k ≡ ipa / entry_size k → IsBetween ipa (ipa + entry_size k) x)
    (λ ipa x begins same. (omega arith, omega arith)) (λ ipa x begins same. (omega arith, omega arith)) (λ ipa x begins same. (omega arith, omega arith)) (λ ipa x begins same. (omega arith, omega arith)) l few

-- Machines `m` and `n` have the same settings; entries of the table at which the walk of `ipa` ends may differ.
module _ (m n : Machine) (proper : IsProper m) (settings : n.settings ≡ m.settings) (count : length n.granules ≡ length m.granules) (rd ipa level : ℕ) (realm : RmmRealm)
    (is : (granule_at m rd).state ≡ Rd realm) (within : ipa < 2 ^ realm.s2sz) where
  abbrev found : RttWalk
  found = walk m realm ipa level

  abbrev at : ℕ
  at = entry_index (walk m realm ipa level).level ipa

  -- a walk of `x` that comes to the last table of the walk of `ipa` has the same level there, and the entry at the
  -- index of `x` covers `x`
  pub covered : (x : ℕ) (p : RttWalk) → IsSeat m proper.linked proper.ordered.halves rd x realm p → p.table ≡ (walk m realm ipa level).table
      → (p.level ≡ (walk m realm ipa level).level) × (x / entry_size (walk m realm ipa level).level ≡ ipa / entry_size (walk m realm ipa level).level / 512 * 512 + entry_index p.level x)
  covered x p seat here =
      let there = walk_seat m proper.linked proper.ordered.halves rd ipa realm is within level in
      let same : p.level ≡ found.level = sym seat.depth ∙ ap proper.ordered.halves.level here ∙ there.depth in
      let place : x / entry_size found.level / 512 ≡ ipa / entry_size found.level / 512 =
      ap (λ (l : ℕ). x / entry_size l / 512) (sym same) ∙ sym seat.seat ∙ ap proper.ordered.halves.place here ∙ there.seat in
      (same, sym (whole_index found.level x) ∙ ap (λ (q : ℕ). q * 512 + entry_index found.level x) place ∙ ap (λ (l : ℕ). ipa / entry_size found.level / 512 * 512 + entry_index l x) (sym same))

  -- `F` gives the value that is read at an address, from the entry and its level; `G` relates an old value to a new one
  -- that is allowed
  module _ (x : ℕ) (A : Type 0) (F : RmmRttEntry → ℕ → A) (G : A → A → Type 0) where
    -- entry `j` is as it was, or is no TABLE before and after and satisfies `IsReadAs` if the entry covers the address
    abbrev pub IsChanged : ℕ → Type 0
    IsChanged j =
        (entry_in_page (page_in n (walk m realm ipa level).table) j ≡ entry_in_page (page_in m (walk m realm ipa level).table) j)
        ⊎ ((is_table (entry_in_page (page_in m (walk m realm ipa level).table) j) ≡ false) × (is_table (entry_in_page (page_in n (walk m realm ipa level).table) j) ≡ false)
        × (x / entry_size (walk m realm ipa level).level ≡ ipa / entry_size (walk m realm ipa level).level / 512 * 512 + j
        → IsReadAs A F G (entry_in_page (page_in m (walk m realm ipa level).table) j) (entry_in_page (page_in n (walk m realm ipa level).table) j) (walk m realm ipa level).level))

    module _ (each : (j : ℕ) → j < 512 → IsChanged j) (others : (g : ℕ) → IsTableOf m rd g → g ≢ (walk m realm ipa level).table → page_in n g ≡ page_in m g) where
      abbrev Q : RttWalk → RttWalk → Type 0
      Q p q = (q ≡ p) × IsReadAs A F G (entry_at m p x) (entry_at n p x) p.level

      abbrev Met : RttWalk → Type 0
      Met p = IsMet m n proper.linked proper.ordered.halves rd x realm (λ table. Unit {0}) Q p

      met_same : (p : RttWalk) → entry_at n p x ≡ entry_at m p x → Met p
      met_same p entry = inl (on_same m n proper settings count rd x realm (λ table. Unit {0}) Q p entry (λ table leads. tt) (refl, inl (ap (λ (e : RmmRttEntry). F e p.level) entry)))

      met_here : (p : RttWalk) → IsSeat m proper.linked proper.ordered.halves rd x realm p → p.table ≡ (walk m realm ipa level).table → Met p
      unfolding entry_at
      met_here p seat here =
          let j : ℕ = entry_index p.level x in
          let before : entry_in_page (page_in m p.table) j ≡ entry_in_page (page_in m found.table) j = ap (λ (t : ℕ). entry_in_page (page_in m t) j) here in
          let after : entry_in_page (page_in n p.table) j ≡ entry_in_page (page_in n found.table) j = ap (λ (t : ℕ). entry_in_page (page_in n t) j) here in
          let covers = covered x p seat here in
          ⊎_elim
          (λ (same : entry_in_page (page_in n found.table) j ≡ entry_in_page (page_in m found.table) j). met_same p (after ∙ same ∙ sym before))
          (λ other.
          let none_before = ap (λ (e : RmmRttEntry). table_below m e) before ∙ none_below m (entry_in_page (page_in m found.table) j) (entry_in_page (page_in m found.table) j) refl other.0 in
          let none_after = ap (λ (e : RmmRttEntry). table_below n e) after ∙ none_below n (entry_in_page (page_in n found.table) j) (entry_in_page (page_in n found.table) j) refl other.1 in
          let there : IsReadAs A F G (entry_in_page (page_in m found.table) j) (entry_in_page (page_in n found.table) j) p.level =
          subst (λ (l : ℕ). IsReadAs A F G (entry_in_page (page_in m found.table) j) (entry_in_page (page_in n found.table) j) l) (sym covers.0) (other.2 covers.1) in
          inl (record {
            leads = none_after ∙ sym none_before;
            good = λ table leads. tt;
            end = (refl, subst (λ (t : ℕ). IsReadAs A F G (entry_in_page (page_in m t) j) (entry_in_page (page_in n t) j) p.level) (sym here) there);
          }))
          (each j (entry_index-few p.level x))

      met : (p : RttWalk) → IsSeat m proper.linked proper.ordered.halves rd x realm p → Unit {0} → Met p
      unfolding entry_at
      met p seat good =
          ⊎_elim
          (λ (here : p.table ≡ found.table). met_here p seat here)
          (λ (other : p.table ≢ found.table). met_same p (ap (λ (q : List ℕ). entry_in_page q (entry_index p.level x)) (others p.table seat.is.table other)))
          (cases_eq p.table found.table)

      -- If each entry of the table satisfies `IsChanged`, the walk of the address ends at the same place in both
      -- machines, at entries that satisfy `IsReadAs`. The realm's other tables have the same pages.
      pub changed : (after : RmmRealm) → after.start_level ≡ realm.start_level → after.first_table ≡ realm.first_table → x < 2 ^ realm.s2sz → Q (walk m realm x 3) (walk n after x 3)
      changed after start first inside = along m n proper.linked proper.ordered.halves rd x realm (λ table. Unit {0}) Q after start first is inside tt met

      pub changed_read : (after : RmmRealm) → after.start_level ≡ realm.start_level → after.first_table ≡ realm.first_table → x < 2 ^ realm.s2sz
          → IsRead A F m n realm after x ⊎ G (read_at A F m realm x) (read_at A F n after x)
      changed_read after start first inside =
          let both = changed after start first inside in
          subst (λ (q : RttWalk). (F (entry_at n q x) q.level ≡ read_at A F m realm x) ⊎ G (read_at A F m realm x) (F (entry_at n q x) q.level)) (sym both.0) both.1

    -- replacing one entry satisfies `IsChanged` at each index, if neither entry is a TABLE, and both satisfy `IsReadAs`
    -- when they cover the address
    pub one_changed : (e : RmmRttEntry) → entry_in_page (page_in n (walk m realm ipa level).table) (entry_index (walk m realm ipa level).level ipa) ≡ e
        → ((j : ℕ) → j < 512 → j ≢ entry_index (walk m realm ipa level).level ipa → entry_in_page (page_in n (walk m realm ipa level).table) j ≡ entry_in_page (page_in m (walk m realm ipa level).table) j)
        → is_table (entry_at m (walk m realm ipa level) ipa) ≡ false → is_table e ≡ false
        → (x / entry_size (walk m realm ipa level).level ≡ ipa / entry_size (walk m realm ipa level).level → IsReadAs A F G (entry_at m (walk m realm ipa level) ipa) e (walk m realm ipa level).level)
        → (j : ℕ) → j < 512 → IsChanged j
    unfolding entry_at
    one_changed e now beside before leaf given j lt =
        let old : RmmRttEntry = entry_in_page (page_in m found.table) at in
        ⊎_elim
        (λ (here : j ≡ at). subst (λ (i : ℕ). IsChanged i) (sym here) (inr (
          before,
          ap is_table now ∙ leaf,
          λ covers. subst (λ (f : RmmRttEntry). IsReadAs A F G old f found.level) (sym now) (given (covers ∙ whole_index found.level ipa)),
        )))
        (λ (other : j ≢ at). inl (beside j lt other))
        (cases_eq j at)

-- ---- ranges

fixed_from : (changeable : Changeable) (page : List ℕ) (count i j : ℕ) → i ≤ j → j < first_fixed changeable page count i → can_change changeable (entry_in_page page j) ≡ true
unfolding first_fixed
fixed_from changeable page zero i j low high = absurd (omega arith)
fixed_from changeable page (suc count) i j low high =
    ⊎_elim
    (λ (can : can_change changeable (entry_in_page page i) ≡ true).
    let more : j < first_fixed changeable page count (i + 1) = subst (λ (k : ℕ). j < k) (cond-true (can_change changeable (entry_in_page page i)) (first_fixed changeable page count (i + 1)) i can) high in
    ⊎_elim
    (λ (same : j ≡ i). ap (λ (k : ℕ). can_change changeable (entry_in_page page k)) same ∙ can)
    (λ (other : j ≢ i). fixed_from changeable page count (i + 1) j (omega arith) more)
    (cases_eq j i))
    (λ (cannot : can_change changeable (entry_in_page page i) ≡ false).
    let none : j < i = subst (λ (k : ℕ). j < k) (cond-false (can_change changeable (entry_in_page page i)) (first_fixed changeable page count (i + 1)) i cannot) high in
    absurd (omega arith))
    (cases_Bool (can_change changeable (entry_in_page page i)))

-- each entry in the range that a command changes is one whose RIPAS can be changed
pub can_in_range : (m : Machine) (changeable : Changeable) (found : RttWalk) (base top j : ℕ) → entry_index found.level base ≤ j → j < entry_index found.level base + change_count m changeable found base top
    → can_change changeable (entry_in_page (page_in m found.table) j) ≡ true
unfolding change_count
can_in_range m changeable found base top j low high =
    fixed_from changeable (page_in m found.table) (entries_below found base top) (entry_index found.level base) j low (omega arith)

-- a command changes the RIPAS of no more entries than fit between `base` and `top`
pub change_below : (m : Machine) (changeable : Changeable) (found : RttWalk) (base top : ℕ) → change_count m changeable found base top ≤ (top - base) / entry_size found.level
unfolding change_count entries_below
change_below m changeable found base top =
    let first : ℕ = entry_index found.level base in
    let most = first_fixed-most changeable (page_in m found.table) (entries_below found base top) first in
    let below : entries_below found base top ≤ (top - base) / entry_size found.level =
    cond_both (nat_le ((top - base) / entry_size found.level) (512 - first)) _ _ (λ (k : ℕ). k ≤ (top - base) / entry_size found.level) (λ sure. omega arith)
    (λ never. (let less = leb-false _ _ never in omega arith)) in
    omega arith

abbrev IsInRange : ℕ → Type 0
IsInRange l = (base top x place first j count : ℕ) → base % entry_size l ≡ 0 → base / entry_size l ≡ place * 512 + first → x / entry_size l ≡ place * 512 + j → first ≤ j → j < first + count
    → count ≤ (top - base) / entry_size l → IsBetween base top x

range_between : (l : ℕ) → l ≤ 3 → IsInRange l
unfolding entry_size
range_between l few =
    level_cases IsInRange
    (λ base top x place first j count begins at covers low high below. (omega arith, omega arith))
    (λ base top x place first j count begins at covers low high below. (omega arith, omega arith))
    (λ base top x place first j count begins at covers low high below. (omega arith, omega arith))
    (λ base top x place first j count begins at covers low high below. (omega arith, omega arith))
    l few

-- an address in an entry whose RIPAS is changed is at or above `base` and below `top`
pub in_range : (m : Machine) (changeable : Changeable) (found : RttWalk) (base top x j : ℕ) → found.level ≤ 3 → base % entry_size found.level ≡ 0
    → x / entry_size found.level ≡ base / entry_size found.level / 512 * 512 + j → entry_index found.level base ≤ j → j < entry_index found.level base + change_count m changeable found base top → IsBetween base top x
in_range m changeable found base top x j few begins covers low high =
    range_between found.level few base top x (base / entry_size found.level / 512) (entry_index found.level base) j (change_count m changeable found base top) begins (sym (whole_index found.level base)) covers low high
    (change_below m changeable found base top)

-- an entry whose RIPAS can be changed is no table before and after the change, and has the new RIPAS after it
pub changed_to : (changeable : Changeable) (ripas : RmmRipas) (e : RmmRttEntry) → can_change changeable e ≡ true → (is_table e ≡ false) × (is_table (entry_with_ripas ripas e) ≡ false) × (ripas_in (entry_with_ripas ripas e) ≡ ripas)
changed_to changeable ripas (Unassigned old) can = (refl, refl, refl)
changed_to changeable ripas (Assigned old address) can = (refl, refl, refl)
changed_to changeable ripas _ can = absurd (cc)

-- an entry with RIPAS DESTROYED can be changed only if `changeable` includes DESTROYED
pub destroyed_too : (changeable : Changeable) (e : RmmRttEntry) → can_change changeable e ≡ true → ripas_in e ≡ Destroyed → changeable.destroyed ≡ true
destroyed_too changeable (Unassigned Destroyed) can is = sym (or-false changeable.destroyed) ∙ can
destroyed_too changeable (Assigned Destroyed address) can is = sym (or-false changeable.destroyed) ∙ (and_parts changeable.assigned (changeable.destroyed || false) can).1
destroyed_too changeable _ can is = absurd (cc)
