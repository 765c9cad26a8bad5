-- Lemmas that give the cell and the lease of each granule after a sequence of updates.
use Rattle.std.proofs.Common.{◌≡◌, ℕ, zero, suc, ◌<◌, Bool, true, false, cond, ◌||◌, ◌⊎◌, inl, inr, List, [], ◌∷◌, ◌++◌, map, set, length, Option, Some, None, refl, sym, ap, ◌∙◌, subst}
use Rattle.std.specs.Prelude.{◌==◌, slice_get}
use Rattle.std.specs.List.{list_all}
use Rattle.std.proofs.lemmas.Bool.{and_parts, eqb-true, eqb-false, eq-eqb}
use Rattle.std.proofs.lemmas.Option.{same_Some, slice_get_within}
use Rattle.std.proofs.lemmas.List.{length-set, get_or-set_same, get_or-set_other}
use Rattle.realm_model.specs.Machine.{Cell, Machine, Seen, blank, left, cell_at, seen}
use Rattle.realm_model.specs.Update.{Update, Put, PutByte, Lease, Free, granule_of, cell_after, lease_after, lease_before}
use Rattle.realm_model.specs.World.{World, updated, updated_all, is_leased_to}
use Rattle.realm_model.proofs.Booleans.{guarded, cond_or}
use Rattle.realm_model.proofs.Leases.{set_lease, leased}
use Rattle.realm_model.specs.Command.Check.{is_in}
use Rattle.realm_model.proofs.Lists.{slice_get-set}

-- the world has as many leases as cells
abbrev pub IsSquare : World → Type 0
IsSquare w = length w.leases ≡ length w.machine

pub IsSquare-updated_all : (b : ℕ) (us : List Update) (w v : World) → IsSquare w → updated_all b us w ≡ Some v → IsSquare v
unfolding updated_all
IsSquare-updated_all b [] w v h e = subst IsSquare (same_Some _ _ e) h
IsSquare-updated_all b (u ∷ us) w v h e =
    IsSquare-updated_all b us (updated b u w) v (length-set w.leases (granule_of u) (lease_after b u) ∙ h
    ∙ sym (length-set w.machine (granule_of u) (cell_after u (cell_at w.machine (granule_of u))))) (guarded _ _ _ e).1

abbrev pub put_at : List Update → ℕ → Cell → Cell
put_at [] k c = c
put_at (u ∷ us) k c = put_at us k (cond (k == granule_of u) (cell_after u c) c)

cell_set : (u : Update) (m : Machine) (k : ℕ) → granule_of u < length m → cell_at (set m (granule_of u) (cell_after u (cell_at m (granule_of u)))) k ≡ cond
    (k == granule_of u) (cell_after u (cell_at m k)) (cell_at m k)
cell_set u m k within =
    let g = granule_of u in
    elim (k == g) as (λ t. (k == g) ≡ t → cell_at (set m g (cell_after u (cell_at m g))) k ≡ cond t (cell_after u (cell_at m k)) (cell_at m k)) [
      | true ↦ λ e. let same : k ≡ g = eqb-true k g e in
          ap (cell_at (set m g (cell_after u (cell_at m g)))) same ∙ get_or-set_same m g (cell_after u (cell_at m g)) blank within ∙ ap (λ n. cell_after u (cell_at m n)) (sym same)
      | false ↦ λ e. get_or-set_other m g k (cell_after u (cell_at m g)) blank (eqb-false k g e)
    ] refl

within_square : (w : World) (g : ℕ) (lease : Option ℕ) → IsSquare w → is_leased_to lease w.leases g ≡ true → g < length w.machine
within_square w g lease square h = subst (λ n. g < n) square (slice_get_within w.leases g lease (leased lease w.leases g h))

IsSquare-set : (b : ℕ) (u : Update) (w : World) → IsSquare w → IsSquare (updated b u w)
IsSquare-set b u w square = length-set w.leases (granule_of u) (lease_after b u) ∙ square ∙ sym (length-set w.machine (granule_of u) (cell_after u (cell_at w.machine (granule_of u))))

-- after a build's updates, the cell of each granule is the one that `put_at` gives
pub cell_put : (b : ℕ) (us : List Update) (w v : World) → IsSquare w → updated_all b us w ≡ Some v → (k : ℕ) → cell_at v.machine k ≡ put_at us k (cell_at w.machine k)
unfolding updated_all
cell_put b [] w v square e k = ap (λ (x : World). cell_at x.machine k) (sym (same_Some _ _ e))
cell_put b (u ∷ us) w v square e k =
    let both = guarded _ _ _ e in
    cell_put b us (updated b u w) v (IsSquare-set b u w square) both.1 k
    ∙ ap (put_at us k) (cell_set u w.machine k (within_square w (granule_of u) (lease_before b u) square both.0))

pub put_other : (us : List Update) (k : ℕ) (c : Cell) → is_in k (map granule_of us) ≡ false → put_at us k c ≡ c
put_other [] k c h = refl
put_other (u ∷ us) k c h =
    let parts = or_false _ _ h in
    ap (λ t. put_at us k (cond t (cell_after u c) c)) parts.0 ∙ put_other us k c parts.1
  where
    or_false : (s t : Bool) → (s || t) ≡ false → (s ≡ false) × (t ≡ false)
    or_false true t e = cc
    or_false false t e = (refl, e)

pub put_more : (us vs : List Update) (k : ℕ) (c : Cell) → put_at (us ++ vs) k c ≡ put_at vs k (put_at us k c)
put_more [] vs k c = refl
put_more (u ∷ us) vs k c = put_more us vs k (cond (k == granule_of u) (cell_after u c) c)

-- if the last of some updates writes `x` to a granule, the granule has the cell `x` after them
pub put_last : (us : List Update) (n : ℕ) (x c : Cell) → put_at (us ++ Put n x ∷ []) n c ≡ x
put_last us n x c = put_more us (Put n x ∷ []) n c ∙ ap (λ t. cond t x (put_at us n c)) (eq-eqb n n refl)

-- ---- one cell at each of some granules

abbrev pub each_put : Cell → List ℕ → List Update
each_put x gs = map (λ g. Put g x) gs

abbrev pub lefts : List ℕ → List Update
lefts gs = each_put left gs

pub put_at-each_put : (x : Cell) (gs : List ℕ) (k : ℕ) (c : Cell) → put_at (each_put x gs) k c ≡ cond (is_in k gs) x c
put_at-each_put x [] k c = refl
put_at-each_put x (g ∷ gs) k c = put_at-each_put x gs k (cond (k == g) x c) ∙ cond_or (k == g) (is_in k gs) x c

pub granules-each_put : (x : Cell) (gs : List ℕ) → map granule_of (each_put x gs) ≡ gs
granules-each_put x [] = refl
granules-each_put x (g ∷ gs) = ap (λ r. g ∷ r) (granules-each_put x gs)

abbrev pub put_seen : Cell → Seen → Update
put_seen x g = Put g.number x

pub seen-each_put : (m : Machine) (x : Cell) (gs : List ℕ) → map (put_seen x) (map (seen m) gs) ≡ each_put x gs
seen-each_put m x [] = refl
seen-each_put m x (g ∷ gs) = ap (λ r. Put g x ∷ r) (seen-each_put m x gs)

-- if putting `f x` in front of a list of updates preserves `P`, putting all of `map f xs` in front preserves `P`
module _ {X : Type 0} (P : List Update → Type 0) (f : X → Update) (more : (x : X) (us : List Update) → P us → P (f x ∷ us)) where
  pub each_in_front : (xs : List X) (us : List Update) → P us → P (map f xs ++ us)
  each_in_front [] us h = h
  each_in_front (x ∷ xs) us h = more x (map f xs ++ us) (each_in_front xs us h)

  pub each_alone : (xs : List X) → P [] → P (map f xs)
  each_alone [] h = h
  each_alone (x ∷ xs) h = more x (map f xs) (each_alone xs h)

-- after a cell is written at `g`, each granule has its old cell, or is `g` and has the new one
pub set_cases : (m : Machine) (g : ℕ) (x : Cell) (k : ℕ) → (cell_at (set m g x) k ≡ cell_at m k) ⊎ ((k ≡ g) × (cell_at (set m g x) k ≡ x))
set_cases [] g x k = inl refl
set_cases (c ∷ m) zero x zero = inr (refl, refl)
set_cases (c ∷ m) zero x (suc k) = inl refl
set_cases (c ∷ m) (suc g) x zero = inl refl
set_cases (c ∷ m) (suc g) x (suc k) = elim (set_cases m g x k) [ inl e ↦ inl e | inr b ↦ inr (ap suc b.0, b.1) ]

-- ---- leases that updates leave

abbrev pub is_put : Update → Bool
is_put (Put g x) = true
is_put (PutByte g offset v) = true
is_put (Lease g) = false
is_put (Free g) = false

put_leases : (b : ℕ) (u : Update) (leases : List (Option ℕ)) → is_put u ≡ true → is_leased_to (lease_before b u) leases (granule_of u) ≡ true → set leases (granule_of u) (lease_after b u) ≡ leases
put_leases b (Put g x) leases h l = set_lease leases g (Some b) (leased (Some b) leases g l)
put_leases b (PutByte g offset v) leases h l = set_lease leases g (Some b) (leased (Some b) leases g l)
put_leases b (Lease g) leases h l = cc
put_leases b (Free g) leases h l = cc

pub puts_leases : (b : ℕ) (us : List Update) (w v : World) → list_all is_put us ≡ true → updated_all b us w ≡ Some v → v.leases ≡ w.leases
unfolding updated_all
puts_leases b [] w v puts e = ap (λ (x : World). x.leases) (sym (same_Some _ _ e))
puts_leases b (u ∷ us) w v puts e =
    let both = guarded _ _ _ e in
    let parts = and_parts _ _ puts in
    puts_leases b us (updated b u w) v parts.1 both.1 ∙ put_leases b u w.leases parts.0 both.0

-- ---- updates of a block

abbrev pub takes : List ℕ → List Update
takes gs = map (λ g. Lease g) gs

abbrev pub frees : List ℕ → List Update
frees gs = map (λ g. Free g) gs

pub seen_takes : (m : Machine) (gs : List ℕ) → map (λ (a : Seen). Lease a.number) (map (seen m) gs) ≡ takes gs
seen_takes m [] = refl
seen_takes m (g ∷ gs) = ap (λ r. Lease g ∷ r) (seen_takes m gs)

pub seen_frees : (m : Machine) (gs : List ℕ) → map (λ (a : Seen). Free a.number) (map (seen m) gs) ≡ frees gs
seen_frees m [] = refl
seen_frees m (g ∷ gs) = ap (λ r. Free g ∷ r) (seen_frees m gs)

pub leases_taken : (b : ℕ) (gs : List ℕ) (w v : World) → updated_all b (takes gs) w ≡ Some v → (k : ℕ) → slice_get v.leases k ≡ cond (is_in k gs) (Some (Some b)) (slice_get w.leases k)
unfolding updated_all
leases_taken b [] w v e k = ap (λ (x : World). slice_get x.leases k) (sym (same_Some _ _ e))
leases_taken b (g ∷ gs) w v e k =
    let both = guarded _ _ _ e in
    leases_taken b gs (updated b (Lease g) w) v both.1 k
    ∙ ap (λ o. cond (is_in k gs) (Some (Some b)) o) (slice_get-set w.leases g k (Some b) None (leased None w.leases g both.0))
    ∙ cond_or (k == g) (is_in k gs) (Some (Some b)) (slice_get w.leases k)

pub leases_freed : (b : ℕ) (gs : List ℕ) (w v : World) → updated_all b (frees gs) w ≡ Some v → (k : ℕ) → slice_get v.leases k ≡ cond (is_in k gs) (Some None) (slice_get w.leases k)
unfolding updated_all
leases_freed b [] w v e k = ap (λ (x : World). slice_get x.leases k) (sym (same_Some _ _ e))
leases_freed b (g ∷ gs) w v e k =
    let both = guarded _ _ _ e in
    leases_freed b gs (updated b (Free g) w) v both.1 k
    ∙ ap (λ o. cond (is_in k gs) (Some None) o) (slice_get-set w.leases g k None (Some b) (leased (Some b) w.leases g both.0))
    ∙ cond_or (k == g) (is_in k gs) (Some None) (slice_get w.leases k)

pub put_takes : (gs : List ℕ) (k : ℕ) (c : Cell) → put_at (takes gs) k c ≡ c
put_takes [] k c = refl
put_takes (g ∷ gs) k c = put_takes gs k (cond (k == g) c c) ∙ elim (k == g) as (λ t. cond t c c ≡ c) [ true ↦ refl | false ↦ refl ]

pub put_frees : (gs : List ℕ) (k : ℕ) (c : Cell) → put_at (frees gs) k c ≡ cond (is_in k gs) blank c
put_frees [] k c = refl
put_frees (g ∷ gs) k c = put_frees gs k (cond (k == g) blank c) ∙ cond_or (k == g) (is_in k gs) blank c
