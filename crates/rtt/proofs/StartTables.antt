-- Lemmas on setting consecutive elements of a list to one value, and on starting tables: the granule of each, and the
-- IPA granules that it serves.
use Rattle.std.proofs.Common.{◌≡◌, ◌≢◌, ℕ, zero, suc, ◌+◌, ◌-◌, ◌*◌, ◌<◌, ◌≤◌, List, length, set, get_or, ◌⊎◌, inl, inr, ⊎_elim, refl, sym, ap, subst, ◌∙◌, arith}
use Rattle.std.specs.List.{All, range_with_len}
use Rattle.std.proofs.lemmas.List.{length-set, get_or-set_same, get_or-set_other}
use Rattle.std.proofs.lemmas.List.FromFn.{length-range_with_len, get_or-range_with_len}
use Rattle.std.proofs.lemmas.Bool.{cases_eq}
use Rattle.std.proofs.lemmas.Nat.{pow_pos}
use Rattle.granule_addr.specs.Ipa.{start_index, served_count}
use Rattle.granule_addr.specs.Root.{start_count, served_space, starting_tables}
use Rattle.granule_addr.specs.declared.width.Root.{Root}
use Rattle.realm_model.specs.StepLaw.{set_each}

-- ---- a list with one element at each place of a run

module _ {X : Type 0} (x : X) where
  -- setting a run of `n + 1` elements gives the same list as setting the first `n` of them and then the last
  pub set_each-range_more : (first n : ℕ) (xs : List X) → set_each x (range_with_len first (suc n)) xs ≡ set (set_each x (range_with_len first n) xs) (first + n) x
  unfolding set_each
  set_each-range_more first zero xs = let same : first ≡ first + 0 = omega arith in ap (λ (k : ℕ). set xs k x) same
  set_each-range_more first (suc n) xs =
      let same : first + 1 + n ≡ first + suc n = omega arith in
      set_each-range_more (first + 1) n (set xs first x) ∙ ap (λ (k : ℕ). set (set_each x (range_with_len (first + 1) n) (set xs first x)) k x) same

  -- setting the elements of a run leaves each other element unchanged
  pub get_or-set_each_beside : (first n : ℕ) (xs : List X) (k : ℕ) (d : X) → (k < first) ⊎ (first + n ≤ k) → get_or (set_each x (range_with_len first n) xs) k d ≡ get_or xs k d
  unfolding set_each
  get_or-set_each_beside first zero xs k d out = refl
  get_or-set_each_beside first (suc n) xs k d out =
      let apart : k ≢ first = λ same. ⊎_elim (λ (low : k < first). omega arith) (λ (high : first + suc n ≤ k). omega arith) out in
      get_or-set_each_beside (first + 1) n (set xs first x) k d (⊎_elim (λ (low : k < first). inl (omega arith)) (λ (high : first + suc n ≤ k). inr (omega arith)) out)
      ∙ get_or-set_other xs first k x d apart

  -- after the elements of a run inside the list are set, each of them has the new value
  pub get_or-set_each_inside : (first n : ℕ) (xs : List X) (k : ℕ) (d : X) → first ≤ k → k < first + n → first + n ≤ length xs → get_or (set_each x (range_with_len first n) xs) k d ≡ x
  unfolding set_each
  get_or-set_each_inside first zero xs k d low high fits = absurd (omega arith)
  get_or-set_each_inside first (suc n) xs k d low high fits =
      let len : length (set xs first x) ≡ length xs = length-set xs first x in
      ⊎_elim
      (λ (same : k ≡ first).
      get_or-set_each_beside (first + 1) n (set xs first x) k d (inl (omega arith))
      ∙ ap (λ (j : ℕ). get_or (set xs first x) j d) same ∙ get_or-set_same xs first x d (omega arith))
      (λ (ne : k ≢ first). get_or-set_each_inside (first + 1) n (set xs first x) k d (omega arith) (omega arith) (omega arith))
      (cases_eq k first)

-- ---- starting tables by number

-- the starting table with a given number has a property that all starting tables have
pub start_is : (P : ℕ → Type 0) (root : Root) → All P (starting_tables root) → (number : ℕ) → number < start_count root.width → P (root.first + number)
unfolding starting_tables
start_is P root all number few =
    subst P (get_or-range_with_len root.first (start_count root.width) number 0 few)
    (all number 0 (subst (λ (n : ℕ). number < n) (sym (length-range_with_len root.first (start_count root.width))) few))

-- if the granule of each starting table is below `n`, the number just past the last of these granules is at most `n`
pub starts_fit : (root : Root) (n : ℕ) → ((number : ℕ) → number < start_count root.width → root.first + number < n) → root.first + start_count root.width ≤ n
starts_fit root n each =
    let some : 0 < start_count root.width = pow_pos (root.width - 39) in
    let last = each (start_count root.width - 1) (omega arith) in
    omega arith

-- ---- IPA granules that a starting table serves

-- the index of the starting table that serves an IPA granule is below the number of starting tables
pub start_index_below : (width ipa : ℕ) → ipa < served_space width → start_index ipa < start_count width
start_index_below width ipa below = omega arith

-- the first IPA granule of the starting table with a given number is in the address space, and is served by that table
pub first_served : (width number : ℕ) → number < start_count width → (number * served_count 1 < served_space width) × (start_index (number * served_count 1) ≡ number)
first_served width number few = (omega arith, omega arith)
