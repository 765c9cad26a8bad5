-- A proof that the finite map made from a function has the function's row at each place, if the function has no row
-- outside the map's bounds.
use Rattle.std.specs.Prelude.{◌≡◌, ◌≢◌, ℕ, zero, suc, ◌<◌, ◌≤◌, cond, List, [], ◌∷◌, ◌++◌, Option, Some, None, ◌⊎◌, true, false}
use Rattle.std.specs.Ordering.{eq_by_cmp}
use Rattle.std.specs.FinMap.{find, get, get-from_entries, same_map}
use Rattle.std.proofs.Common.{refl, sym, ap, ◌∙◌, inl, inr, ⊎_elim, arith}
use Rattle.std.proofs.lemmas.Bool.{cases_eq, cases_lt}
use Rattle.realm_model.specs.Rows.{Row, Rows, place_cmp}
use Rattle.realm_model.proofs.Maps.{place_total, same_place, place_cmp-IsAntisymmetric}
use Rattle.realm_model.proofs.Rows.{is_place as is_at, place_self}
use Rattle.realm_model.proofs.Booleans.{true_false}
use Rattle.rtt.specs.FiniteRows.{row_before, rows_below, rows_by}

-- the function has rows only at levels 1 to 3 and at IPA granules below `space`
pub record IsBounded (space : ℕ) (at : ℕ → ℕ → Option Row) : Type 0 where
  pub levels : (level ipa : ℕ) → level ≡ 0 ⊎ 4 ≤ level → at level ipa ≡ None
  pub granules : (level ipa : ℕ) → space ≤ ipa → at level ipa ≡ None

-- `is_at` is true of two places exactly if the places are equal
pub place_tells : (q k : ℕ × ℕ) → ((is_at q k ≡ true) × (q ≡ k)) ⊎ ((is_at q k ≡ false) × (q ≡ k → ⊥))
place_tells q k =
    elim (is_at q k) as (λ b. is_at q k ≡ b → ((b ≡ true) × (q ≡ k)) ⊎ ((b ≡ false) × (q ≡ k → ⊥))) [
      | true ↦ λ e. inl (refl, same_place q k e)
      | false ↦ λ e. inr (refl, λ same. true_false _ (place_self q) (ap (is_at q) same ∙ e))
    ] refl

-- two maps of rows are equal if they have the same row at each place
pub same_rows : (rows other : Rows) → ((level ipa : ℕ) → get rows (level, ipa) ≡ get other (level, ipa)) → rows ≡ other
same_rows rows other same = same_map place_total place_cmp-IsAntisymmetric rows other (λ q. same q.0 q.1)

first_some : Option Row → Option Row → Option Row
first_some (Some row) rest = Some row
first_some None rest = rest

first_some_none : (o : Option Row) → first_some o None ≡ o
unfolding first_some
first_some_none None = refl
first_some_none (Some row) = refl

find-append : (q : ℕ × ℕ) (xs ys : List ((ℕ × ℕ) × Row)) → find place_cmp q (xs ++ ys) ≡ first_some (find place_cmp q xs) (find place_cmp q ys)
unfolding first_some
find-append q [] ys = refl
find-append q (x ∷ xs) ys =
    elim (eq_by_cmp place_cmp q x.0) as (λ b. cond b (Some x.1) (find place_cmp q (xs ++ ys)) ≡ first_some (cond b (Some x.1) (find place_cmp q xs)) (find place_cmp q ys)) [
      | true ↦ refl
      | false ↦ find-append q xs ys
    ]

-- the list of a level's rows at the first `n` IPA granules has no row at another level, and none from IPA granule `n`
-- on
find_none : (at : ℕ → ℕ → Option Row) (level n other ipa : ℕ) → (other ≡ level → ipa < n → ⊥) → find place_cmp (other, ipa) (rows_below at level n) ≡ None
unfolding rows_below row_before
find_none at level zero other ipa out = refl
find_none at level (suc n) other ipa out =
    let rest = find_none at level n other ipa (λ e lt. out e (omega arith)) in
    elim (at level n) as (λ o. find place_cmp (other, ipa) (row_before level n o (rows_below at level n)) ≡ None) [
      | None ↦ rest
      | Some row ↦ elim (place_tells (other, ipa) (level, n)) [
        | inl t ↦ absurd (out (ap (λ (q : ℕ × ℕ). q.0) t.1) (let s : ipa ≡ n = ap (λ (q : ℕ × ℕ). q.1) t.1 in omega arith))
        | inr t ↦ ap (λ b. cond b (Some row) (find place_cmp (other, ipa) (rows_below at level n))) t.0 ∙ rest
      ]
    ]

-- the list of a level has the function's row at each place of that level before the list's end
find_at : (at : ℕ → ℕ → Option Row) (level n ipa : ℕ) → ipa < n → find place_cmp (level, ipa) (rows_below at level n) ≡ at level ipa
unfolding rows_below row_before
find_at at level zero ipa lt = absurd (omega arith)
find_at at level (suc n) ipa lt =
    elim (cases_eq ipa n) [
      | inl s ↦
          let rest = find_none at level n level ipa (λ e below. omega arith) in
          elim (at level n) as (λ o. at level n ≡ o → find place_cmp (level, ipa) (row_before level n o (rows_below at level n)) ≡ at level ipa) [
            | None ↦ λ is. rest ∙ sym (ap (at level) s ∙ is)
            | Some row ↦ λ is. elim (place_tells (level, ipa) (level, n)) [
              | inl t ↦ ap (λ b. cond b (Some row) (find place_cmp (level, ipa) (rows_below at level n))) t.0 ∙ sym (ap (at level) s ∙ is)
              | inr t ↦ absurd (t.1 (ap (λ (k : ℕ). (level, k)) s))
            ]
          ] refl
      | inr ne ↦
          let rest = find_at at level n ipa (omega arith) in
          elim (at level n) as (λ o. find place_cmp (level, ipa) (row_before level n o (rows_below at level n)) ≡ at level ipa) [
            | None ↦ rest
            | Some row ↦ elim (place_tells (level, ipa) (level, n)) [
              | inl t ↦ absurd (ne (ap (λ (q : ℕ × ℕ). q.1) t.1))
              | inr t ↦ ap (λ b. cond b (Some row) (find place_cmp (level, ipa) (rows_below at level n))) t.0 ∙ rest
            ]
          ]
    ]

three_levels : (space : ℕ) (at : ℕ → ℕ → Option Row) (level ipa : ℕ) → get (rows_by space at) (level, ipa)
    ≡ first_some (find place_cmp (level, ipa) (rows_below at 1 space)) (first_some (find place_cmp (level, ipa) (rows_below at 2 space)) (find place_cmp (level, ipa) (rows_below at 3 space)))
unfolding rows_by
three_levels space at level ipa =
    get-from_entries place_total (rows_below at 1 space ++ (rows_below at 2 space ++ rows_below at 3 space)) (level, ipa)
    ∙ find-append (level, ipa) (rows_below at 1 space) (rows_below at 2 space ++ rows_below at 3 space)
    ∙ ap (first_some (find place_cmp (level, ipa) (rows_below at 1 space))) (find-append (level, ipa) (rows_below at 2 space) (rows_below at 3 space))

-- The map made from a bounded function has at each place what the function has there.
pub get-rows_by : (space : ℕ) (at : ℕ → ℕ → Option Row) → IsBounded space at → (level ipa : ℕ) → get (rows_by space at) (level, ipa) ≡ at level ipa
unfolding first_some
get-rows_by space at bounded level ipa =
    let at_level : (k : ℕ) → ipa < space → level ≡ k → find place_cmp (level, ipa) (rows_below at k space) ≡ at level ipa = λ k lt e.
    ap (λ (j : ℕ). find place_cmp (level, ipa) (rows_below at j space)) (sym e) ∙ find_at at level space ipa lt in
    let off : (k : ℕ) → level ≢ k → find place_cmp (level, ipa) (rows_below at k space) ≡ None = λ k ne.
    find_none at k space level ipa (λ e lt. ne e) in
    three_levels space at level ipa ∙ elim (cases_lt ipa space) [
      | inl lt ↦ elim (cases_eq level 1) [
        | inl one ↦ rw (at_level 1 lt one, off 2 (omega arith), off 3 (omega arith)) (first_some_none (at level ipa))
        | inr not_one ↦ elim (cases_eq level 2) [
          | inl two ↦ rw (off 1 not_one, at_level 2 lt two, off 3 (omega arith)) (first_some_none (at level ipa))
          | inr not_two ↦ elim (cases_eq level 3) [
            | inl is_three ↦ rw (off 1 not_one, off 2 not_two) (at_level 3 lt is_three)
            | inr not_three ↦ rw (off 1 not_one, off 2 not_two, off 3 not_three) (sym (bounded.levels level ipa (⊎_elim (λ z. inl z) (λ p. inr (omega arith)) (cases_eq level 0))))
          ]
        ]
      ]
      | inr past ↦
          let none : (k : ℕ) → find place_cmp (level, ipa) (rows_below at k space) ≡ None = λ k. find_none at k space level ipa (λ e lt. omega arith) in
          rw (none 1, none 2, none 3) (sym (bounded.granules level ipa past))
    ]
