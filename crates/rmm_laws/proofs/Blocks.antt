-- Proofs that a block and the 512 entries into which the block is unfolded use the same pages of memory.
use Rattle.std.proofs.Common.{◌≡◌, ◌≢◌, ℕ, zero, suc, ◌+◌, ◌*◌, ◌^◌, ◌<◌, ◌≤◌, ◌⊎◌, inl, inr, ◌==◌, ◌&&◌, true, false, length, Option, Some, None, option_map, refl, sym, ap, subst, ◌∙◌, ⊎_elim, arith}
use Rattle.std.specs.Prelude.{if◌then◌else◌}
use Rattle.std.proofs.lemmas.Bool.{cases_eq, cond-true, cond-false, and_parts, and_from, and_left, and_right, eqb-true, eq-eqb, ne_eqb, lt-ltb, le-ltb, le-leb, both_ways}
use Rattle.rmm_model.specs.declared.entry.RmmRipas.{RmmRipas}
use Rattle.rmm_model.specs.declared.entry.RmmRttEntry.TheVariants.{Assigned}
use Rattle.rmm_model.specs.declared.granule.RmmGranuleState.TheVariants.{Data}
use Rattle.rmm_model.specs.declared.realm.RttWalk.{RttWalk}
use Rattle.rmm_model.specs.Level.{entry_size, entry_index}
use Rattle.rmm_model.specs.Machine.{Machine, is_inside, number_of}
use Rattle.rmm_laws.specs.Role.{Used, used, page_count, entry_uses, IsLinked, IsBegin}
use Rattle.rmm_laws.proofs.Entries.{named_inside}
use Rattle.rmm_laws.proofs.Uses.{IsMore, has_user_at}
use Rattle.rmm_laws.proofs.Walks.{IsPlace, entry_index-few}

-- ---- uses without those of one entry

abbrev pub cut : (ℕ → ℕ → ℕ → Option Used) → ℕ → ℕ → ℕ → ℕ → ℕ → Option Used
cut G t i x j k = if x == t && j == i then None else G x j k

pub cut_there : (G : ℕ → ℕ → ℕ → Option Used) (t i k : ℕ) → cut G t i t i k ≡ None
cut_there G t i k = cond-true (t == t && i == i) None (G t i k) (and_from (t == t) (i == i) (eq-eqb t t refl) (eq-eqb i i refl))

pub cut_beside : (G : ℕ → ℕ → ℕ → Option Used) (t i x j k : ℕ) → (x ≢ t) ⊎ (j ≢ i) → cut G t i x j k ≡ G x j k
cut_beside G t i x j k (inl other) = cond-false (x == t && j == i) None (G x j k) (and_left (x == t) (j == i) (ne_eqb x t other))
cut_beside G t i x j k (inr other) = cond-false (x == t && j == i) None (G x j k) (and_right (x == t) (j == i) (ne_eqb j i other))

module _ (G : ℕ → ℕ → ℕ → Option Used) (S T : ℕ → Used) (t i g : ℕ) (one : G t i 0 ≡ Some (T g)) (only : (k : ℕ) → k ≢ 0 → G t i k ≡ None)
    (free : has_user_at (S g) ≡ false) (made : has_user_at (T g) ≡ true) (same : (h : ℕ) → h ≢ g → T h ≡ S h)
    (before_number : (h : ℕ) → (S h).number ≡ h) (after_number : (h : ℕ) → (T h).number ≡ h) where
  beside_cut : (x j k : ℕ) → (x ≢ t) ⊎ ((j == i && k == 0) ≡ false) → G x j k ≡ cut G t i x j k
  beside_cut x j k old =
      ⊎_elim
      (λ (here : x ≡ t).
      ⊎_elim
      (λ (at : j ≡ i).
      let rest : k ≢ 0 = λ zero. ⊎_elim
      (λ (other : x ≢ t). other here)
      (λ (never : (j == i && k == 0) ≡ false). both_ways (j == i && k == 0) never (and_from (j == i) (k == 0) (eq-eqb j i at) (eq-eqb k 0 zero)))
      old in
      let there : G x j k ≡ None = ap (λ (y : ℕ). G y j k) here ∙ ap (λ (h : ℕ). G t h k) at ∙ only k rest in
      let none : cut G t i x j k ≡ None = ap (λ (y : ℕ). cut G t i y j k) here ∙ ap (λ (h : ℕ). cut G t i t h k) at ∙ cut_there G t i k in
      there ∙ sym none)
      (λ (other : j ≢ i). sym (cut_beside G t i x j k (inr other)))
      (cases_eq j i))
      (λ (other : x ≢ t). sym (cut_beside G t i x j k (inl other)))
      (cases_eq x t)

  pub cut_more : IsMore (cut G t i) G S T
  cut_more = record {
    user = t;
    is_new = λ j k. j == i && k == 0;
    new = λ j k. g;
    before = λ j k sure. ap (λ (h : ℕ). cut G t i t h k) (eqb-true j i (and_parts (j == i) (k == 0) sure).0) ∙ cut_there G t i k;
    after = λ j k sure.
        let parts = and_parts (j == i) (k == 0) sure in
        ap (λ (h : ℕ). G t h k) (eqb-true j i parts.0) ∙ ap (G t i) (eqb-true k 0 parts.1) ∙ one;
    beside = beside_cut;
    apart = λ j k h l sure also at.
        let a = and_parts (j == i) (k == 0) sure in
        let b = and_parts (h == i) (l == 0) also in
        (eqb-true j i a.0 ∙ sym (eqb-true h i b.0), eqb-true k 0 a.1 ∙ sym (eqb-true l 0 b.1));
    free = λ j k sure. free;
    made = λ j k sure. made;
    others = λ h not_new. inl (same h (not_new i 0 (and_from (i == i) (0 == 0) (eq-eqb i i refl) refl)));
    new_or_not = λ h. ⊎_elim
        (λ (at : h ≡ g). inl (i, 0, and_from (i == i) (0 == 0) (eq-eqb i i refl) refl, at))
        (λ (other : h ≢ g). inr (λ j k sure. other))
        (cases_eq h g);
    number_before = before_number;
    number_after = after_number;
  }

-- ---- pages of levels

-- an entry has 512 times the pages of an entry one level down; the latter has at least one page, and at most 2^30 bytes
pub sizes : (l : ℕ) → l ≤ 2 → (entry_size (l + 1) ≡ page_count (l + 1) * 4096) × (page_count l ≡ 512 * page_count (l + 1)) × (0 < page_count (l + 1)) × (entry_size (l + 1) ≤ 2 ^ 30)
unfolding entry_size
sizes zero few = (refl, refl, omega arith, omega arith)
sizes (suc zero) few = (refl, refl, omega arith, omega arith)
sizes (suc (suc zero)) few = (refl, refl, omega arith, omega arith)
sizes (suc (suc (suc l))) few = absurd (omega arith)

-- ---- a block of memory at a place

module _ (m : Machine) (proper : IsLinked m) (rd ipa : ℕ) (place : RttWalk) (end : IsPlace m proper rd ipa place) (ripas : RmmRipas) (a : ℕ) (few : place.level ≤ 2) where
  abbrev t : ℕ
  t = place.table

  abbrev i : ℕ
  i = entry_index place.level ipa

  abbrev l : ℕ
  l = place.level

  abbrev c : ℕ
  c = page_count (l + 1)

  abbrev first : ℕ
  first = number_of m a

  abbrev pub memory : ℕ → Used
  memory k = used Data (Some rd) 0 (number_of m a + k)

  index : i < 512
  index = entry_index-few l ipa

  -- part `k` of a block uses page `k` of the block's memory
  pub block_uses : (k : ℕ) → IsBegin m a → k < page_count l → entry_uses m (Some rd) l (Assigned ripas a) k ≡ Some (used Data (Some rd) 0 (number_of m a + k))
  block_uses k begin lt = cond-true _ _ _ (lt-ltb k (page_count l) lt) ∙ ap (option_map (λ f. used Data (Some rd) 0 (f + k))) (named_inside m a begin.0)

  -- a block uses nothing after its last page
  pub block_end : (k : ℕ) → page_count l ≤ k → entry_uses m (Some rd) l (Assigned ripas a) k ≡ None
  block_end k past = cond-false _ _ _ (le-ltb k (page_count l) past)

  -- the memory of child `j` begins after the pages of `j` children, counted from the beginning of the block's memory
  module _ (begin : IsBegin m a) (j : ℕ) where
    abbrev child : ℕ
    child = a + j * entry_size (l + 1)

    pub child_is : a + j * entry_size (l + 1) ≡ m.settings.base + (number_of m a + j * page_count (l + 1)) * 4096
    child_is =
        let size = (sizes l few).0 in
        let product : j * entry_size (l + 1) ≡ j * page_count (l + 1) * 4096 = ap (λ (s : ℕ). j * s) size ∙ omega arith in
        let a_is = begin.1 in
        omega arith

    pub child_number : number_of m (a + j * entry_size (l + 1)) ≡ number_of m a + j * page_count (l + 1)
    unfolding number_of
    child_number = let is = child_is in omega arith

    pub child_begin : number_of m a + j * page_count (l + 1) < length m.granules → IsBegin m (a + j * entry_size (l + 1))
    unfolding is_inside entry_size number_of
    child_begin within =
        let is = child_is in
        let number = child_number in (
          and_from _ _ (le-leb m.settings.base (a + j * entry_size (l + 1)) (omega arith)) (lt-ltb _ _ (subst (λ (n : ℕ). n < length m.granules) (sym number) within)),
          is ∙ ap (λ (n : ℕ). m.settings.base + n * 4096) (sym number),
        )

    pub child_uses : (k : ℕ) → IsBegin m (a + j * entry_size (l + 1)) → k < page_count (l + 1)
        → entry_uses m (Some rd) (l + 1) (Assigned ripas (a + j * entry_size (l + 1))) k ≡ Some (used Data (Some rd) 0 (number_of m a + (j * page_count (l + 1) + k)))
    child_uses k there lt =
        let sum : number_of m a + j * page_count (l + 1) + k ≡ number_of m a + (j * page_count (l + 1) + k) = omega arith in
        cond-true _ _ _ (lt-ltb k (page_count (l + 1)) lt)
        ∙ ap (option_map (λ f. used Data (Some rd) 0 (f + k))) (named_inside m (a + j * entry_size (l + 1)) there.0 ∙ ap (λ (n : ℕ). Some n) child_number)
        ∙ ap (λ (n : ℕ). Some (used Data (Some rd) 0 n)) sum

    pub child_end : (k : ℕ) → page_count (l + 1) ≤ k → entry_uses m (Some rd) (l + 1) (Assigned ripas (a + j * entry_size (l + 1))) k ≡ None
    child_end k past = cond-false _ _ _ (le-ltb k (page_count (l + 1)) past)
