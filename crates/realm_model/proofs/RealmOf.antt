-- Proofs that a build leases the RD of its realm, that the RD's cell holds the realm's attributes, and that other
-- builds' events change neither.
use Rattle.std.proofs.Common.{◌≡◌, ◌≢◌, ℕ, zero, suc, ◌+◌, Bool, true, false, cond, ◌&&◌, not, List, [], ◌∷◌, ◌++◌, length, Option, Some, None, refl, sym, ap, ◌∙◌, subst, arith, pred}
use Rattle.std.specs.Prelude.{is_some, slice_get, ◌==◌}
use Rattle.std.proofs.lemmas.Bool.{and_parts, and_from, eq-eqb}
use Rattle.std.proofs.lemmas.Option.{same_Some}
use Rattle.std.proofs.lemmas.List.{get_or_at, length-append, append_assoc}
use Rattle.realm_model.specs.declared.act.Event.{Event}
use Rattle.realm_model.specs.Machine.{Limits, RealmRow, Cell, Machine, Seen, blank, cell_at, seen}
use Rattle.realm_model.specs.World.{World, is_leased_to, same_lease, realm_from, realm_of, each, hidden, is_of_other, part_of}
use Rattle.realm_model.specs.Outcome.{realm_is}
use Rattle.realm_model.specs.Step.{step}
use Rattle.realm_model.proofs.Leases.{lease_same, leased_from, lease_is, leased}
use Rattle.realm_model.proofs.Booleans.{neither, none_from}
use Rattle.realm_model.proofs.Lists.{head_or, tail}
use Rattle.realm_model.proofs.HiddenSteps.{realm_kept, part_of-other_step}
use Rattle.realm_model.proofs.Clean.{IsClean, scrubbed}
use Rattle.realm_model.proofs.Parts.{IsSoundPart}

abbrev pub IsAt : Machine → Option Seen → Type 0
IsAt m None = Unit {0}
IsAt m (Some rd) = cell_at m rd.number ≡ rd.cell

IsAt-realm_from : (b : ℕ) (leases : List (Option ℕ)) (front machine : Machine) → IsAt (front ++ machine) (realm_from b (length front) leases machine)
unfolding realm_from
IsAt-realm_from b [] front machine = tt
IsAt-realm_from b (l ∷ leases) front [] = tt
IsAt-realm_from b (l ∷ leases) front (c ∷ machine) =
    elim (same_lease l (Some b) && is_some c.descriptor) as (λ t. IsAt (front ++ c ∷ machine)
    (cond t (Some (record { number = length front; cell = c })) (realm_from b (suc (length front)) leases machine))) [
      | true ↦ get_or_at front c machine blank (length front) refl
      | false ↦
          let long : length (front ++ c ∷ []) ≡ suc (length front) = simp length-append (omega arith) in
          subst (λ n. IsAt (front ++ c ∷ machine) (realm_from b n leases machine)) long
          (subst (λ m. IsAt m (realm_from b (length (front ++ c ∷ [])) leases machine)) (append_assoc front (c ∷ []) machine) (IsAt-realm_from b leases (front ++ c ∷ []) machine))
    ]

pub IsAt-realm_of : (b : ℕ) (w : World) → IsAt w.machine (realm_of b w)
IsAt-realm_of b w = IsAt-realm_from b w.leases [] w.machine

abbrev pub IsHeld : ℕ → List (Option ℕ) → Option Seen → Type 0
IsHeld b leases None = Unit {0}
IsHeld b leases (Some rd) = is_leased_to (Some b) leases rd.number ≡ true

slice_get_at : (front : List (Option ℕ)) (l : Option ℕ) (rest : List (Option ℕ)) → slice_get (front ++ l ∷ rest) (length front) ≡ Some l
slice_get_at [] l rest = refl
slice_get_at (x ∷ front) l rest = slice_get_at front l rest

IsHeld-realm_from : (b : ℕ) (front leases : List (Option ℕ)) (machine : Machine) → IsHeld b (front ++ leases) (realm_from b (length front) leases machine)
unfolding realm_from
IsHeld-realm_from b front [] machine = tt
IsHeld-realm_from b front (l ∷ leases) [] = tt
IsHeld-realm_from b front (l ∷ leases) (c ∷ machine) =
    elim (same_lease l (Some b) && is_some c.descriptor) as (λ t. (same_lease l (Some b) && is_some c.descriptor) ≡ t
    → IsHeld b (front ++ l ∷ leases) (cond t (Some (record { number = length front; cell = c })) (realm_from b (suc (length front)) leases machine))) [
      | true ↦ λ e. leased_from (Some b) (front ++ l ∷ leases) (length front) (slice_get_at front l leases ∙ ap Some (lease_is l (Some b) (and_parts _ _ e).0))
      | false ↦ λ e.
          let long : length (front ++ l ∷ []) ≡ suc (length front) = simp length-append (omega arith) in
          subst (λ n. IsHeld b (front ++ l ∷ leases) (realm_from b n leases machine)) long
          (subst (λ ls. IsHeld b ls (realm_from b (length (front ++ l ∷ [])) leases machine)) (append_assoc front (l ∷ []) leases) (IsHeld-realm_from b (front ++ l ∷ []) leases machine))
    ] refl

pub IsHeld-realm_of : (b : ℕ) (w : World) → IsHeld b w.leases (realm_of b w)
IsHeld-realm_of b w = IsHeld-realm_from b [] w.leases w.machine

-- if the realm of the RD `rd` passes a test by `realm_is`, the test holds of `rd` and the realm's row
pub realm_test : (rd : Seen) (d : RealmRow) (test : Seen → RealmRow → Bool) → realm_is (Some rd) test ≡ true → rd.cell.descriptor ≡ Some d → test rd d ≡ true
realm_test rd d test fit is = sym (ap (λ o. elim o [ Some realm ↦ test rd realm | None ↦ false ]) is) ∙ fit

-- ---- a build with no realm

no_row_here : (b : ℕ) (l : Option ℕ) (c : Cell) → scrubbed l c ≡ c → (same_lease l (Some b) && is_some c.descriptor) ≡ false → (hidden (is_of_other b) l c).descriptor ≡ None
no_row_here b None c clean none = sym (ap (λ (x : Cell). x.descriptor) clean)
no_row_here b (Some o) c clean none = by_test (o == b) none
  where
    by_test : (t : Bool) → (t && is_some c.descriptor) ≡ false → (cond (not t) blank c).descriptor ≡ None
    by_test true e = none_from c.descriptor e
    by_test false e = refl

pub no_row : (b n : ℕ) (leases : List (Option ℕ)) (machine : Machine) → each scrubbed leases machine ≡ machine → realm_from b n leases machine ≡ None
    → (g : ℕ) → (cell_at (each (hidden (is_of_other b)) leases machine) g).descriptor ≡ None
unfolding realm_from
no_row b n [] machine clean none g = refl
no_row b n (l ∷ leases) [] clean none g = refl
no_row b n (l ∷ leases) (c ∷ machine) clean none zero = no_row_here b l c (ap (head_or blank) clean) (neither _ _ _ none).0
no_row b n (l ∷ leases) (c ∷ machine) clean none (suc g) = no_row b (suc n) leases machine (ap tail clean) (neither _ _ _ none).1 g

-- a build has the same realm in its part as in the world
pub realm_of-part_of : (b : ℕ) (w : World) → realm_of b (part_of w b) ≡ realm_of b w
realm_of-part_of b w = realm_kept (is_of_other b) b 0 (ap not (eq-eqb b b refl)) w.leases w.machine

-- if free granules are blank, a step of another build leaves a build's realm as it is
pub realm_of-other_step : (limits : Limits) (b : ℕ) (w v : World) (e : Event) → e.build ≢ b → IsClean w → step limits w e ≡ Some v → realm_of b v ≡ realm_of b w
realm_of-other_step limits b w v e apart clean s = sym (realm_of-part_of b v) ∙ ap (realm_of b) (part_of-other_step limits b w v e apart clean s) ∙ realm_of-part_of b w

-- ---- a realm that is known

-- the search for a build's realm finds the only granule with a realm row, if the build leases it
realm_from_there : (b n g : ℕ) (leases : List (Option ℕ)) (machine : Machine) → slice_get leases g ≡ Some (Some b) → is_some (cell_at machine g).descriptor ≡ true
    → ((h : ℕ) → is_some (cell_at machine h).descriptor ≡ true → h ≡ g) → realm_from b n leases machine ≡ Some (record { number = n + g; cell = cell_at machine g })
unfolding realm_from
realm_from_there b n g [] machine leased row alone = cc
realm_from_there b n g (l ∷ leases) [] leased row alone = cc
realm_from_there b n zero (l ∷ leases) (c ∷ machine) leased row alone =
    let test : (same_lease l (Some b) && is_some c.descriptor) ≡ true = and_from _ _ (ap (λ x. same_lease x (Some b)) (same_Some _ _ leased) ∙ lease_same (Some b)) row in
    ap (λ t. cond t (Some (record { number = n; cell = c })) (realm_from b (suc n) leases machine)) test
    ∙ (λ i. Some (record { number = zero_more n i; cell = c }))
  where
    zero_more : (n : ℕ) → n ≡ n + 0
    zero_more n = omega arith
realm_from_there b n (suc g) (l ∷ leases) (c ∷ machine) leased row alone =
    let test : (same_lease l (Some b) && is_some c.descriptor) ≡ false = no_row_first (same_lease l (Some b)) (is_some c.descriptor) (λ some. let same : 0 ≡ suc g = alone 0 some in omega arith) in
    ap (λ t. cond t (Some (record { number = n; cell = c })) (realm_from b (suc n) leases machine)) test
    ∙ realm_from_there b (suc n) g leases machine leased row (λ h some. ap pred (alone (suc h) some))
    ∙ (λ i. Some (record { number = one_more n g i; cell = cell_at machine g }))
  where
    one_more : (n g : ℕ) → suc n + g ≡ n + suc g
    one_more n g = omega arith

    no_row_first : (s t : Bool) → (t ≡ true → ⊥) → (s && t) ≡ false
    no_row_first true true h = absurd (h refl)
    no_row_first true false h = refl
    no_row_first false t h = refl

pub realm_of_there : (b : ℕ) (w : World) (part : IsSoundPart w) (g : ℕ) (d : RealmRow) → is_leased_to (Some b) w.leases g ≡ true
    → (cell_at w.machine g).descriptor ≡ Some d → realm_of b w ≡ Some (seen w.machine g)
realm_of_there b w part g d lease is =
    realm_from_there b 0 g w.leases w.machine (leased (Some b) w.leases g lease) (ap is_some is)
    (λ h some. at_rd h some ∙ sym (at_rd g (ap is_some is)))
    ∙ (λ i. Some (record { number = zero_less g i; cell = cell_at w.machine g }))
  where
    at_rd : (h : ℕ) → is_some (cell_at w.machine h).descriptor ≡ true → h ≡ part.rd
    at_rd h some = let c = part.cells h in c.alone (sym c.descriptor ∙ some)

    zero_less : (n : ℕ) → 0 + n ≡ n
    zero_less n = omega arith
