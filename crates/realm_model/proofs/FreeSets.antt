-- Proofs that leaving out a build frees the granules that it leased, and leaves the other builds' parts of the world
-- unchanged.
use Rattle.std.proofs.Common.{◌≡◌, ◌≢◌, ℕ, zero, suc, ◌+◌, ◌<◌, ◌≤◌, Bool, true, false, cond, ◌&&◌, ◌||◌, not, ◌⊎◌, inl, inr, List, [], ◌∷◌, length, map, Option, Some, None, refl, sym, ap, ◌∙◌, arith}
use Rattle.std.specs.Prelude.{◌==◌, ◌↔◌, filter, slice_get, option_map}
use Rattle.std.specs.Option.{option_eq}
use Rattle.std.specs.List.{Contains, range_with_len}
use Rattle.std.proofs.lemmas.Bool.{eqb-true, eqb-false, eq-eqb, ne_eqb}
use Rattle.std.proofs.lemmas.Option.{slice_get-map, slice_get_within}
use Rattle.realm_model.specs.declared.act.Event.{Event}
use Rattle.realm_model.specs.Machine.{Limits, Cell, Machine, blank}
use Rattle.realm_model.specs.World.{World, same_lease, is_leased_to, free_set, each, hidden, unleased, is_of, is_of_other, part_of, without}
use Rattle.realm_model.specs.History.{pages_of, replay, IsLegal}
use Rattle.realm_model.specs.Command.Check.{is_in}
use Rattle.realm_model.proofs.Lists.{Contains-from_in, in_from_Contains}
use Rattle.realm_model.proofs.Leases.{leased}
use Rattle.realm_model.proofs.Pages.{is_in-pages_of}
use Rattle.realm_model.proofs.Booleans.{or_true, and_false}

-- ---- the free set

is_in-filter : (p : ℕ → Bool) (k : ℕ) (xs : List ℕ) → is_in k (filter p xs) ≡ (is_in k xs && p k)
is_in-filter p k [] = refl
is_in-filter p k (x ∷ xs) =
    let rest = is_in-filter p k xs in
    elim (k == x) as (λ t. (k == x) ≡ t → is_in k (cond (p x) (x ∷ filter p xs) (filter p xs)) ≡ ((t || is_in k xs) && p k)) [
      | true ↦ λ e. here rest (eqb-true k x e) (p x) refl
      | false ↦ λ e. there rest e (p x)
    ] refl
  where
    here : is_in k (filter p xs) ≡ (is_in k xs && p k) → k ≡ x → (t : Bool) → p x ≡ t → is_in k (cond t (x ∷ filter p xs) (filter p xs)) ≡ (true && p k)
    here rest same true e = ap (λ t. t || is_in k (filter p xs)) (eq-eqb k x same) ∙ sym (ap p same ∙ e)
    here rest same false e = rest ∙ ap (λ t. is_in k xs && t) (ap p same ∙ e) ∙ and_false (is_in k xs) ∙ sym (ap p same ∙ e)

    there : is_in k (filter p xs) ≡ (is_in k xs && p k) → (k == x) ≡ false → (t : Bool) → is_in k (cond t (x ∷ filter p xs) (filter p xs)) ≡ (is_in k xs && p k)
    there rest e true = ap (λ t. t || is_in k (filter p xs)) e ∙ rest
    there rest e false = rest

is_in-range : (k a n : ℕ) → a ≤ k → k < a + n → is_in k (range_with_len a n) ≡ true
is_in-range k a zero low high = absurd (omega arith)
is_in-range k a (suc n) low high = elim (k == a) as (λ t. (k == a) ≡ t → (t || is_in k (range_with_len (a + 1) n)) ≡ true) [
  | true ↦ λ e. refl
  | false ↦ λ e. let apart : k ≢ a = eqb-false k a e in is_in-range k (a + 1) n (omega arith) (omega arith)
] refl

-- a granule of the machine is in the free set exactly if nobody leases it
pub is_in-free_set : (w : World) (g : ℕ) → is_in g (free_set w) ≡ is_leased_to None w.leases g
is_in-free_set w g =
    is_in-filter (is_leased_to None w.leases) g (range_with_len 0 (length w.leases))
    ∙ elim (is_leased_to None w.leases g) as (λ t. is_leased_to None w.leases g ≡ t → (is_in g (range_with_len 0 (length w.leases)) && t) ≡ t) [
      | true ↦ λ e. ap (λ t. t && true) (is_in-range g 0 (length w.leases) (omega arith) (within (slice_get_within w.leases g None (leased None w.leases g e))))
      | false ↦ λ e. and_false (is_in g (range_with_len 0 (length w.leases)))
    ] refl
  where
    within : g < length w.leases → g < 0 + length w.leases
    within h = omega arith

-- a granule is free without build `b` exactly if it is free in the world or `b` leases it
free_without : (b : ℕ) (w : World) (g : ℕ) → is_leased_to None (without w b).leases g ≡ (is_leased_to None w.leases g || is_leased_to (Some b) w.leases g)
free_without b w g = ap (λ o. option_eq same_lease o (Some None)) (slice_get-map (unleased (is_of b)) w.leases g) ∙ of_lease (slice_get w.leases g)
  where
    of_lease : (o : Option (Option ℕ)) → option_eq same_lease (option_map (unleased (is_of b)) o) (Some None) ≡ (option_eq same_lease o (Some None) || option_eq same_lease o (Some (Some b)))
    of_lease None = refl
    of_lease (Some None) = refl
    of_lease (Some (Some c)) = elim (c == b) as (λ t. same_lease (cond t None (Some c)) None ≡ t) [ true ↦ refl | false ↦ refl ]

pub free_set-without : (limits : Limits) (b : ℕ) (history : List Event) (w : World) → IsLegal limits history → replay limits history ≡ Some w → (g : ℕ)
    → Contains (free_set (without w b)) g ↔ (Contains (free_set w) g ⊎ Contains (pages_of b history) g)
free_set-without limits b history w legal at_w g =
    let whole : is_in g (free_set (without w b)) ≡ (is_in g (free_set w) || is_in g (pages_of b history)) =
    is_in-free_set (without w b) g ∙ free_without b w g ∙ sym (λ i. is_in-free_set w g i || is_in-pages_of limits b history w legal at_w g i) in (
      λ c. either (is_in g (free_set w)) (is_in g (pages_of b history)) refl refl (sym whole ∙ in_from_Contains (free_set (without w b)) g c),
      λ s. elim s [
        | inl c ↦ Contains-from_in (free_set (without w b)) g (whole ∙ ap (λ t. t || is_in g (pages_of b history)) (in_from_Contains (free_set w) g c))
        | inr c ↦ Contains-from_in (free_set (without w b)) g (whole ∙ ap (λ t. is_in g (free_set w) || t) (in_from_Contains (pages_of b history) g c) ∙ or_true (is_in g (free_set w)))
      ],
    )
  where
    either : (s t : Bool) → is_in g (free_set w) ≡ s → is_in g (pages_of b history) ≡ t → (s || t) ≡ true → Contains (free_set w) g ⊎ Contains (pages_of b history) g
    either true t e f h = inl (Contains-from_in (free_set w) g e)
    either false t e f h = inr (Contains-from_in (pages_of b history) g (f ∙ h))

-- ---- parts

-- leaving out a build does not change the part of another build
pub part_of-without : (b c : ℕ) (w : World) → c ≢ b → part_of (without w b) c ≡ part_of w c
part_of-without b c w apart = λ i. record { machine = cells w.leases w.machine i; leases = leases w.leases i }
  where
    one : (l : Option ℕ) → unleased (is_of_other c) (unleased (is_of b) l) ≡ unleased (is_of_other c) l
    one None = refl
    one (Some x) = elim (x == b) as (λ t. (x == b) ≡ t → unleased (is_of_other c) (cond t None (Some x)) ≡ unleased (is_of_other c) (Some x)) [
      | true ↦ λ e. sym (ap (λ t. cond (not t) None (Some x)) (ap (λ y. y == c) (eqb-true x b e) ∙ ne_eqb b c (λ q. apart (sym q))))
      | false ↦ λ e. refl
    ] refl

    leases : (ls : List (Option ℕ)) → map (unleased (is_of_other c)) (map (unleased (is_of b)) ls) ≡ map (unleased (is_of_other c)) ls
    leases [] = refl
    leases (l ∷ ls) = λ i. one l i ∷ leases ls i

    cell : (l : Option ℕ) (x : Cell) → hidden (is_of_other c) (unleased (is_of b) l) (hidden (is_of b) l x) ≡ hidden (is_of_other c) l x
    cell None x = refl
    cell (Some y) x = elim (y == b) as (λ t. (y == b) ≡ t → hidden (is_of_other c) (cond t None (Some y)) (cond t blank x) ≡ hidden (is_of_other c) (Some y) x) [
      | true ↦ λ e. sym (ap (λ t. cond (not t) blank x) (ap (λ z. z == c) (eqb-true y b e) ∙ ne_eqb b c (λ q. apart (sym q))))
      | false ↦ λ e. refl
    ] refl

    cells : (ls : List (Option ℕ)) (machine : Machine) → each (hidden (is_of_other c)) (map (unleased (is_of b)) ls) (each (hidden (is_of b)) ls machine) ≡ each (hidden (is_of_other c)) ls machine
    cells [] machine = refl
    cells (l ∷ ls) [] = refl
    cells (l ∷ ls) (x ∷ machine) = λ i. cell l x i ∷ cells ls machine i
