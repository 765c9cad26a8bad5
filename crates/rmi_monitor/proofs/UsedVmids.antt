-- Proofs that an RMM's flags still mark exactly the VMIDs in use after a realm is created or destroyed.
use Rattle.std.proofs.Common.{◌≡◌, ◌≢◌, ℕ, zero, suc, ◌+◌, ◌<◌, ◌≤◌, Bool, true, false, cond, List, [], ◌∷◌}
use Rattle.std.proofs.Common.{length, map, set, get_or, replicate, Option, Some, None, option_map, refl, sym, ap, ◌∙◌, subst, ⊎_elim, arith}
use Rattle.std.specs.Prelude.{◌||◌, ◌==◌}
use Rattle.std.specs.List.{list_any, count_by, cons_option, filter_map, range_with_len}
use Rattle.std.proofs.lemmas.Bool.{cases_eq, eq-eqb, ne_eqb}
use Rattle.std.proofs.lemmas.List.{ext_get_or}
use Rattle.std.proofs.lemmas.List.FromFn.{get_or-map-range_with_len, length-map-range_with_len}
use Rattle.std.proofs.lemmas.List.Sums.{sum_by-cons, sum_by-set}
use Rattle.realm_model.specs.Machine.{Cell, RealmRow}
use Rattle.realm_model.specs.Step.{used_vmids}
use Rattle.rmi_monitor.specs.Attributes.{RealmAttributes, realm_row}
use Rattle.rtt.specs.Tables.{rows}
use Rattle.rmi_monitor.specs.Inside.{Fields, realm_at, recs_of, cell_of, machine_of, IsWhole}
use Rattle.rmi_monitor.specs.Places.{is_realm_with}
use Rattle.granule_addr.specs.Vmids.{is_used, IsMarked}

list_any-map : {A B : Type 0} (p : B → Bool) (f : A → B) (xs : List A) → list_any p (map f xs) ≡ list_any (λ x. p (f x)) xs
list_any-map p f [] = refl
list_any-map p f (x ∷ xs) = ap (λ t. p (f x) || t) (list_any-map p f xs)

list_any-same : {A : Type 0} (p q : A → Bool) (xs : List A) → ((x : A) → p x ≡ q x) → list_any p xs ≡ list_any q xs
list_any-same p q [] same = refl
list_any-same p q (x ∷ xs) same = ap (λ t. t || list_any p xs) (same x) ∙ ap (λ t. q x || t) (list_any-same p q xs same)

-- the result of `p` for an option's value, or `false` if the option has no value
abbrev tests : {B : Type 0} → (B → Bool) → Option B → Bool
tests p o = elim o [ Some y ↦ p y | None ↦ false ]

one_more : {B : Type 0} (p : B → Bool) (o : Option B) (ys : List B) (rest : Bool) → list_any p ys ≡ rest → list_any p (cons_option o ys) ≡ (tests p o || rest)
one_more p None ys rest e = e
one_more p (Some y) ys rest e = ap (λ t. p y || t) e

list_any-filter_map : {A B : Type 0} (p : B → Bool) (f : A → Option B) (xs : List A) → list_any p (filter_map f xs) ≡ list_any (λ x. tests p (f x)) xs
list_any-filter_map p f [] = refl
list_any-filter_map p f (x ∷ xs) = one_more p (f x) (filter_map f xs) (list_any (λ y. tests p (f y)) xs) (list_any-filter_map p f xs)

eqb-swap : (n m : ℕ) → (n == m) ≡ (m == n)
eqb-swap n m = ⊎_elim (λ (same : n ≡ m). eq-eqb n m same ∙ sym (eq-eqb m n (sym same))) (λ (ne : n ≢ m). ne_eqb n m ne ∙ sym (ne_eqb m n (λ e. ne (sym e)))) (cases_eq n m)

-- the elements at all indexes of a list, in sequence, make up the list
at_places : {A : Type 0} (xs : List A) (d : A) → map (λ i. get_or xs i d) (range_with_len 0 (length xs)) ≡ xs
at_places xs d =
    let long = length-map-range_with_len (λ i. get_or xs i d) 0 (length xs) in
    ext_get_or d (map (λ i. get_or xs i d) (range_with_len 0 (length xs))) xs long
    (λ i h. get_or-map-range_with_len (λ j. get_or xs j d) 0 (length xs) i i d (subst (λ n. i < n) long h) (omega arith))

-- ---- how many pass a test

module _ {A : Type 0} (p : A → Bool) where
  count_more : (x : A) (xs : List A) → count_by p (x ∷ xs) ≡ cond (p x) 1 0 + count_by p xs
  count_more x xs = sum_by-cons (λ y. cond (p y) 1 0) x xs

  -- if exactly one element passes `p` when `one` is true, and none otherwise, `list_any p xs` equals `one`
  any-count : (xs : List A) (one : Bool) → count_by p xs ≡ cond one 1 0 → list_any p xs ≡ one
  any-count [] true e = absurd (omega (arith, e))
  any-count [] false e = refl
  any-count (x ∷ xs) one e = by (p x) (sym (count_more x xs) ∙ e) (any-count xs one)
    where
      by : (t : Bool) → cond t 1 0 + count_by p xs ≡ cond one 1 0 → (count_by p xs ≡ cond one 1 0 → list_any p xs ≡ one) → (t || list_any p xs) ≡ one
      by true h rest = some one h
        where
          some : (one : Bool) → 1 + count_by p xs ≡ cond one 1 0 → true ≡ one
          some true h = refl
          some false h = absurd (omega (arith, h))
      by false h rest = rest (omega (arith, h))

  -- if `x` fails the test `p`, no element of a list of copies of `x` passes `p`
  count-none : (n : ℕ) (x : A) → p x ≡ false → count_by p (replicate n x) ≡ 0
  count-none zero x e = refl
  count-none (suc n) x e = count_more x (replicate n x) ∙ (λ i. cond (e i) 1 0 + count-none n x e i)

  -- two lists of the same length, whose elements pass `p` at the same indexes, have equally many elements that pass `p`
  count-alike : (xs ys : List A) (d : A) → length xs ≡ length ys → ((i : ℕ) → p (get_or xs i d) ≡ p (get_or ys i d)) → count_by p xs ≡ count_by p ys
  count-alike [] [] d long same = refl
  count-alike [] (y ∷ ys) d long same = absurd (omega (arith, long))
  count-alike (x ∷ xs) [] d long same = absurd (omega (arith, long))
  count-alike (x ∷ xs) (y ∷ ys) d long same =
      count_more x xs
      ∙ (λ i. cond (same 0 i) 1 0 + count-alike xs ys d (omega (arith, long)) (λ k. same (suc k)) i)
      ∙ sym (count_more y ys)

  -- writing an element lowers the number of elements that pass `p` by one if the old element passed, and raises it by
  -- one if the new one passes
  count-set : (xs : List A) (i : ℕ) (y d : A) → i < length xs → count_by p (set xs i y) + cond (p (get_or xs i d)) 1 0 ≡ count_by p xs + cond (p y) 1 0
  count-set xs i y d inside = sum_by-set (λ x. cond (p x) 1 0) xs i y d inside

-- ---- the VMIDs of an RMM

-- exactly one realm has each VMID that is marked as used, and no realm has any other VMID
abbrev pub AreUsed : List (Option RealmAttributes) → List Bool → Type 0
AreUsed realms used = (vmid : ℕ) → count_by (is_realm_with vmid) realms ≡ cond (is_used used vmid) 1 0

pub used-none : (n : ℕ) (used : List Bool) → ((vmid : ℕ) → is_used used vmid ≡ false) → AreUsed (replicate n None) used
used-none n used none vmid = count-none (is_realm_with vmid) n None refl ∙ sym (ap (λ t. cond t 1 0) (none vmid))

-- `AreUsed` still holds after one realm gets other attributes and keeps its VMID
pub used-kept : (old new : List (Option RealmAttributes)) (used : List Bool) → AreUsed old used → length new ≡ length old
    → (rd : ℕ) (realm now : RealmAttributes) → get_or old rd None ≡ Some realm → get_or new rd None ≡ Some now → now.vmid ≡ realm.vmid
    → ((g : ℕ) → g ≢ rd → get_or new g None ≡ get_or old g None) → AreUsed new used
used-kept old new used was long rd realm now there is same others vmid =
    count-alike (is_realm_with vmid) new old None long (λ g. ⊎_elim
    (λ (s : g ≡ rd).
    ap (λ k. is_realm_with vmid (get_or new k None)) s
    ∙ ap (is_realm_with vmid) is
    ∙ ap (λ v. v == vmid) same
    ∙ ap (is_realm_with vmid) (sym there)
    ∙ ap (λ k. is_realm_with vmid (get_or old k None)) (sym s))
    (λ (ne : g ≢ rd). ap (is_realm_with vmid) (others g ne))
    (cases_eq g rd))
    ∙ was vmid

module _ (realms : List (Option RealmAttributes)) (old new : List Bool) (was : AreUsed realms old) (rd : ℕ) (inside : rd < length realms) (realm : RealmAttributes) where
  has : (vmid : ℕ) → vmid ≡ realm.vmid → is_realm_with vmid (Some realm) ≡ true
  has vmid same = eq-eqb realm.vmid vmid (sym same)

  has_not : (vmid : ℕ) → vmid ≢ realm.vmid → is_realm_with vmid (Some realm) ≡ false
  has_not vmid other = ne_eqb realm.vmid vmid (λ e. other (sym e))

  -- `AreUsed` holds after a realm is created whose VMID was not used, and is now marked
  pub used-create : get_or realms rd None ≡ None → is_used old realm.vmid ≡ false → IsMarked old new realm.vmid true → AreUsed (set realms rd (Some realm)) new
  used-create none unused marked vmid = ⊎_elim
      (λ (s : vmid ≡ realm.vmid).
      let one : count_by (is_realm_with vmid) (set realms rd (Some realm)) + 0 ≡ count_by (is_realm_with vmid) realms + 1 =
      written ∙ ap (λ t. count_by (is_realm_with vmid) realms + cond t 1 0) (has vmid s) in
      let before : count_by (is_realm_with vmid) realms ≡ 0 = was vmid ∙ ap (λ t. cond t 1 0) (ap (is_used old) s ∙ unused) in
      let now : ◌≡◌ {A = ℕ} (cond (is_used new vmid) 1 0) 1 = ap (λ t. cond t 1 0) (ap (is_used new) s ∙ marked.one) in
      omega (arith, one, before, now))
      (λ (ne : vmid ≢ realm.vmid).
      let same : count_by (is_realm_with vmid) (set realms rd (Some realm)) + 0 ≡ count_by (is_realm_with vmid) realms + 0 =
      written ∙ ap (λ t. count_by (is_realm_with vmid) realms + cond t 1 0) (has_not vmid ne) in
      let before = was vmid in
      let kept : ◌≡◌ {A = ℕ} (cond (is_used new vmid) 1 0) (cond (is_used old vmid) 1 0) = ap (λ t. cond t 1 0) (marked.others vmid ne) in
      omega (arith, same, before, kept))
      (cases_eq vmid realm.vmid)
    where
      written : count_by (is_realm_with vmid) (set realms rd (Some realm)) + 0 ≡ count_by (is_realm_with vmid) realms + cond (is_realm_with vmid (Some realm)) 1 0
      written =
          ap (λ o. count_by (is_realm_with vmid) (set realms rd (Some realm)) + cond (is_realm_with vmid o) 1 0) (sym none)
          ∙ count-set (is_realm_with vmid) realms rd (Some realm) None inside

  -- `AreUsed` holds after a realm is destroyed, and its VMID is no longer marked
  pub used-destroy : get_or realms rd None ≡ Some realm → IsMarked old new realm.vmid false → AreUsed (set realms rd None) new
  used-destroy there marked vmid = ⊎_elim
      (λ (s : vmid ≡ realm.vmid).
      let one : count_by (is_realm_with vmid) (set realms rd None) + 1 ≡ count_by (is_realm_with vmid) realms + 0 =
      ap (λ t. count_by (is_realm_with vmid) (set realms rd None) + cond t 1 0) (sym (has vmid s)) ∙ written in
      let before = was vmid in
      let few = at_most (is_used old vmid) in
      let now : ◌≡◌ {A = ℕ} (cond (is_used new vmid) 1 0) 0 = ap (λ t. cond t 1 0) (ap (is_used new) s ∙ marked.one) in
      omega (arith, one, before, few, now))
      (λ (ne : vmid ≢ realm.vmid).
      let same : count_by (is_realm_with vmid) (set realms rd None) + 0 ≡ count_by (is_realm_with vmid) realms + 0 =
      ap (λ t. count_by (is_realm_with vmid) (set realms rd None) + cond t 1 0) (sym (has_not vmid ne)) ∙ written in
      let before = was vmid in
      let kept : ◌≡◌ {A = ℕ} (cond (is_used new vmid) 1 0) (cond (is_used old vmid) 1 0) = ap (λ t. cond t 1 0) (marked.others vmid ne) in
      omega (arith, same, before, kept))
      (cases_eq vmid realm.vmid)
    where
      written : count_by (is_realm_with vmid) (set realms rd None) + cond (is_realm_with vmid (Some realm)) 1 0 ≡ count_by (is_realm_with vmid) realms + 0
      written =
          ap (λ o. count_by (is_realm_with vmid) (set realms rd None) + cond (is_realm_with vmid o) 1 0) (sym there)
          ∙ count-set (is_realm_with vmid) realms rd None None inside

      at_most : (t : Bool) → cond t 1 0 ≤ 1
      at_most true = omega arith
      at_most false = omega arith

-- ---- the machine

module _ (fields : Fields) (whole : IsWhole fields) (vmid : ℕ) where
  abbrev vmid_of : Cell → Option ℕ
  vmid_of cell = option_map (λ (realm : RealmRow). realm.vmid) cell.descriptor

  abbrev has_vmid : Cell → Bool
  has_vmid cell = tests (λ v. vmid == v) (vmid_of cell)

  at_granule : (g : ℕ) → has_vmid (cell_of fields g) ≡ is_realm_with vmid (realm_at fields g)
  at_granule g = by (realm_at fields g)
    where
      by : (o : Option RealmAttributes)
          → tests (λ v. vmid == v) (option_map (λ (realm : RealmRow). realm.vmid) (option_map (λ r. realm_row r (recs_of fields.granules fields.recs g) (rows fields.pages r.root)) o))
          ≡ is_realm_with vmid o
      by (Some r) = eqb-swap vmid r.vmid
      by None = refl

  -- a realm of the machine has the VMID exactly if the fields mark the VMID as used
  pub any_used : list_any (λ v. vmid == v) (used_vmids (machine_of fields)) ≡ is_used fields.used vmid
  unfolding machine_of
  any_used =
      list_any-filter_map (λ v. vmid == v) vmid_of (map (cell_of fields) (range_with_len 0 (length fields.granules)))
      ∙ list_any-map has_vmid (cell_of fields) (range_with_len 0 (length fields.granules))
      ∙ list_any-same (λ g. has_vmid (cell_of fields g)) (λ g. is_realm_with vmid (realm_at fields g)) (range_with_len 0 (length fields.granules)) at_granule
      ∙ sym (list_any-map (is_realm_with vmid) (realm_at fields) (range_with_len 0 (length fields.granules)))
      ∙ ap (λ n. list_any (is_realm_with vmid) (map (realm_at fields) (range_with_len 0 n))) (sym whole.realm_places)
      ∙ ap (list_any (is_realm_with vmid)) (at_places fields.realms None)
      ∙ any-count (is_realm_with vmid) fields.realms (is_used fields.used vmid) (whole.vmids_used vmid)
