-- Lemmas on the comparison of two leases, and on lists of leases and of cells after a write at one granule.
use Rattle.std.proofs.Common.{◌≡◌, ℕ, zero, suc, true, false, List, [], ◌∷◌, map, set, Option, Some, None, refl, sym, ap, ◌∙◌, ◌||◌}
use Rattle.std.specs.Prelude.{slice_get, option_map, ◌==◌, replicate}
use Rattle.std.specs.Option.{option_eq}
use Rattle.std.specs.List.{All, list_all}
use Rattle.std.proofs.lemmas.Bool.{eqb-true, eq-eqb, and_parts, and_from}
use Rattle.std.proofs.lemmas.Option.{slice_get-map, get_or_from_slice_get}
use Rattle.std.proofs.lemmas.List.{set-get_or}
use Rattle.std.proofs.lemmas.List.Elements.{All-nil, All-cons, All-head, All-tail}
use Rattle.realm_model.specs.Machine.{Cell, Machine, blank, cell_at}
use Rattle.realm_model.specs.World.{same_lease, is_leased_to, each}
use Rattle.realm_model.specs.Command.Check.{is_in}

pub lease_is : (a b : Option ℕ) → same_lease a b ≡ true → a ≡ b
lease_is None None e = refl
lease_is None (Some y) e = cc
lease_is (Some x) None e = cc
lease_is (Some x) (Some y) e = ap Some (eqb-true x y e)

pub lease_same : (a : Option ℕ) → same_lease a a ≡ true
lease_same None = refl
lease_same (Some x) = eq-eqb x x refl

-- if `o` passes the comparison with `lease`, `o` is `Some lease`
leased_there : (o : Option (Option ℕ)) (lease : Option ℕ) → option_eq same_lease o (Some lease) ≡ true → o ≡ Some lease
leased_there None lease e = cc
leased_there (Some l) lease e = ap Some (lease_is l lease e)

pub leased : (lease : Option ℕ) (leases : List (Option ℕ)) (g : ℕ) → is_leased_to lease leases g ≡ true → slice_get leases g ≡ Some lease
leased lease leases g e = leased_there (slice_get leases g) lease e

pub leased_from : (lease : Option ℕ) (leases : List (Option ℕ)) (g : ℕ) → slice_get leases g ≡ Some lease → is_leased_to lease leases g ≡ true
leased_from lease leases g e = ap (λ o. option_eq same_lease o (Some lease)) e ∙ lease_same lease

-- applying `f` to all leases keeps the lease of a granule, if `f` does not change that lease
pub leased-map : (f : Option ℕ → Option ℕ) (lease : Option ℕ) (leases : List (Option ℕ)) (g : ℕ) → f lease ≡ lease
    → is_leased_to lease leases g ≡ true → is_leased_to lease (map f leases) g ≡ true
leased-map f lease leases g kept e =
    leased_from lease (map f leases) g (slice_get-map f leases g ∙ ap (option_map f) (leased lease leases g e) ∙ ap Some kept)

-- writing the lease that a granule already has changes nothing
pub set_lease : (leases : List (Option ℕ)) (g : ℕ) (lease : Option ℕ) → slice_get leases g ≡ Some lease → set leases g lease ≡ leases
set_lease leases g lease e = ap (set leases g) (sym (get_or_from_slice_get leases g lease lease e)) ∙ set-get_or leases g lease

pub each-set : {L C : Type 0} (f : L → C → C) (ls : List L) (cs : List C) (g : ℕ) (l : L) (c : C) → each f (set ls g l) (set cs g c) ≡ set (each f ls cs) g (f l c)
each-set f [] cs g l c = refl
each-set f (x ∷ ls) [] zero l c = refl
each-set f (x ∷ ls) [] (suc g) l c = refl
each-set f (x ∷ ls) (y ∷ cs) zero l c = refl
each-set f (x ∷ ls) (y ∷ cs) (suc g) l c = ap (λ r. f x y ∷ r) (each-set f ls cs g l c)

-- if `f` leaves a blank cell with a given lease blank, `each f` replaces the cell of a granule with that lease by the
-- result of `f`
pub cell_at-each : (f : Option ℕ → Cell → Cell) (ls : List (Option ℕ)) (cells : Machine) (g : ℕ) (lease : Option ℕ)
    → f lease blank ≡ blank → slice_get ls g ≡ Some lease → cell_at (each f ls cells) g ≡ f lease (cell_at cells g)
cell_at-each f [] cells g lease none e = cc
cell_at-each f (l ∷ ls) [] g lease none e = sym none
cell_at-each f (l ∷ ls) (c ∷ cells) zero lease none e = let same : l ≡ lease = cc in ap (λ x. f x c) same
cell_at-each f (l ∷ ls) (c ∷ cells) (suc g) lease none e = cell_at-each f ls cells g lease none e

-- writing the cell that a granule already has changes nothing
pub set_cell : (cells : Machine) (g : ℕ) (c : Cell) → cell_at cells g ≡ c → set cells g c ≡ cells
set_cell cells g c e = ap (set cells g) (sym e) ∙ set-get_or cells g blank

-- ---- granules that are leased so

pub all_leased : (lease : Option ℕ) (leases : List (Option ℕ)) (gs : List ℕ) → list_all (is_leased_to lease leases) gs ≡ true → All (λ g. slice_get leases g ≡ Some lease) gs
all_leased lease leases [] h = All-nil (λ g. slice_get leases g ≡ Some lease)
all_leased lease leases (g ∷ gs) h =
    let parts = and_parts _ _ h in
    All-cons (λ g. slice_get leases g ≡ Some lease) g gs (leased lease leases g parts.0) (all_leased lease leases gs parts.1)

pub leased_all : (lease : Option ℕ) (leases : List (Option ℕ)) (gs : List ℕ) → All (λ g. slice_get leases g ≡ Some lease) gs → list_all (is_leased_to lease leases) gs ≡ true
leased_all lease leases [] h = refl
leased_all lease leases (g ∷ gs) h =
    and_from _ _ (leased_from lease leases g (All-head (λ g. slice_get leases g ≡ Some lease) g gs h)) (leased_all lease leases gs (All-tail (λ g. slice_get leases g ≡ Some lease) g gs h))

pub in_leased : (lease : Option ℕ) (leases : List (Option ℕ)) (gs : List ℕ) → list_all (is_leased_to lease leases) gs ≡ true → (k : ℕ) → is_in k gs ≡ true → slice_get leases k ≡ Some lease
in_leased lease leases [] h k e = cc
in_leased lease leases (g ∷ gs) h k e =
    let parts = and_parts _ _ h in
    elim (k == g) as (λ t. (k == g) ≡ t → (t || is_in k gs) ≡ true → slice_get leases k ≡ Some lease) [
      | true ↦ λ same e. ap (slice_get leases) (eqb-true k g same) ∙ leased lease leases g parts.0
      | false ↦ λ same e. in_leased lease leases gs parts.1 k e
    ] refl e

-- each cell of a machine of blank cells is blank
pub cell_at-replicate : (n g : ℕ) → cell_at (replicate n blank) g ≡ blank
cell_at-replicate zero g = refl
cell_at-replicate (suc n) zero = refl
cell_at-replicate (suc n) (suc g) = cell_at-replicate n g
