-- Proofs that sameness of ownership is an equivalence relation on worlds, and that an update leaves ownership unchanged
-- if the new cell has the ownership of the old one.
use Rattle.std.proofs.Common.{◌≡◌, ℕ, zero, suc, true, false, cond, not, List, [], ◌∷◌, map, set, Option, Some, None, refl, sym, ap, ◌∙◌, subst, arith, length, pred}
use Rattle.std.specs.Prelude.{slice_get, ◌==◌}
use Rattle.realm_model.specs.Machine.{RealmRow, Cell, Machine, blank, cell_at}
use Rattle.realm_model.specs.Update.{Update, Put, PutByte, Lease, Free, granule_of, cell_after, lease_before}
use Rattle.realm_model.specs.World.{World, is_leased_to, updated, part_of, hidden, unleased, is_of, is_of_other, without}
use Rattle.realm_model.specs.Ownership.{SameRealm, SameDescriptor, SameCell, OwnsSame}
use Rattle.realm_model.proofs.Leases.{set_lease, leased, cell_at-each}
use Rattle.realm_model.proofs.HiddenUpdates.{hidden-blank}
use Rattle.realm_model.proofs.Lists.{head_or, tail}
use Rattle.realm_model.proofs.Written.{IsSquare}

pub descriptor_itself : (o : Option RealmRow) → SameDescriptor o o
descriptor_itself None = tt
descriptor_itself (Some r) = record { vmid = refl; root = refl; recs = λ n. refl; rows = λ k. refl }

descriptor_chain : (o p q : Option RealmRow) → SameDescriptor o p → SameDescriptor p q → SameDescriptor o q
descriptor_chain None None None h k = tt
descriptor_chain None None (Some t) h k = k
descriptor_chain None (Some s) q h k = absurd h
descriptor_chain (Some r) None q h k = absurd h
descriptor_chain (Some r) (Some s) None h k = k
descriptor_chain (Some r) (Some s) (Some t) h k = record { vmid = h.vmid ∙ k.vmid; root = h.root ∙ k.root; recs = λ n. h.recs n ∙ k.recs n; rows = λ p. h.rows p ∙ k.rows p }

pub cell_itself : (c : Cell) → SameCell c c
cell_itself c = record { state = refl; realm = refl; descriptor = descriptor_itself c.descriptor }

pub own_itself : (w : World) → OwnsSame w w
own_itself w = record { leases = refl; cells = λ g. cell_itself (cell_at w.machine g) }

pub own_chain : (u v w : World) → OwnsSame u v → OwnsSame v w → OwnsSame u w
own_chain u v w h k = record {
  leases = h.leases ∙ k.leases;
  cells = λ g. record {
    state = (h.cells g).state ∙ (k.cells g).state;
    realm = (h.cells g).realm
        ∙ (k.cells g).realm;
    descriptor = descriptor_chain _ _ _ (h.cells g).descriptor (k.cells g).descriptor;
  };
}

descriptor_turned : (o p : Option RealmRow) → SameDescriptor o p → SameDescriptor p o
descriptor_turned None None h = tt
descriptor_turned None (Some s) h = absurd h
descriptor_turned (Some r) None h = absurd h
descriptor_turned (Some r) (Some s) h = record { vmid = sym h.vmid; root = sym h.root; recs = λ n. sym (h.recs n); rows = λ k. sym (h.rows k) }

pub own_turned : (w v : World) → OwnsSame w v → OwnsSame v w
own_turned w v h = record {
  leases = sym h.leases;
  cells = λ g. record { state = sym (h.cells g).state; realm = sym (h.cells g).realm; descriptor = descriptor_turned _ _ (h.cells g).descriptor };
}

pub same_bare : (c d : Cell) → c.state ≡ d.state → c.realm ≡ None → d.realm ≡ None → c.descriptor ≡ None → d.descriptor ≡ None → SameCell c d
same_bare c d state rc rd dc dd = record { state = state; realm = rc ∙ sym rd; descriptor = subst (λ o. SameDescriptor o d.descriptor) (sym dc) (subst (λ o. SameDescriptor None o) (sym dd) tt) }

pub descriptor_none : (o : Option RealmRow) → SameDescriptor None o → o ≡ None
descriptor_none None h = refl
descriptor_none (Some r) h = absurd h

pub descriptor_some : (d : RealmRow) (o : Option RealmRow) → SameDescriptor (Some d) o → (e : RealmRow) × (o ≡ Some e) × SameRealm d e
descriptor_some d None h = absurd h
descriptor_some d (Some e) h = (e, refl, h)

-- ---- an update after which a world owns the same

abbrev pub IsMild : World → Update → Type 0
IsMild w (Put g x) = SameCell (cell_at w.machine g) x
IsMild w (PutByte g o v) = Unit {0}
IsMild w (Lease g) = ⊥
IsMild w (Free g) = ⊥

same_after_set : (m : Machine) (g : ℕ) (x : Cell) → SameCell (cell_at m g) x → (k : ℕ) → SameCell (cell_at m k) (cell_at (set m g x) k)
same_after_set [] g x h k = cell_itself blank
same_after_set (c ∷ m) zero x h zero = h
same_after_set (c ∷ m) zero x h (suc k) = cell_itself (cell_at m k)
same_after_set (c ∷ m) (suc g) x h zero = cell_itself c
same_after_set (c ∷ m) (suc g) x h (suc k) = same_after_set m g x h k

pub own_updated : (b : ℕ) (u : Update) (w : World) → is_leased_to (lease_before b u) w.leases (granule_of u) ≡ true → IsMild w u → OwnsSame w (updated b u w)
own_updated b (Put g x) w h mild = record { leases = sym (set_lease w.leases g (Some b) (leased (Some b) w.leases g h)); cells = same_after_set w.machine g x mild }
own_updated b (PutByte g o v) w h mild = record {
  leases = sym (set_lease w.leases g (Some b) (leased (Some b) w.leases g h));
  cells = same_after_set w.machine g (cell_after (PutByte g o v) (cell_at w.machine g)) (record { state = refl; realm = refl; descriptor = descriptor_itself (cell_at w.machine g).descriptor });
}
own_updated b (Lease g) w h mild = absurd mild
own_updated b (Free g) w h mild = absurd mild

-- ---- worlds of which a part and the rest own the same

merged : Option ℕ → Option ℕ → Option ℕ
merged None y = y
merged (Some x) y = Some x

lease_merged : (b : ℕ) (l : Option ℕ) → merged (unleased (is_of_other b) l) (unleased (is_of b) l) ≡ l
unfolding merged
lease_merged b None = refl
lease_merged b (Some c) = elim (c == b) as (λ t. merged (cond (not t) None (Some c)) (cond t None (Some c)) ≡ Some c) [ true ↦ refl | false ↦ refl ]

same_leases : (b : ℕ) (xs ys : List (Option ℕ)) → map (unleased (is_of_other b)) xs ≡ map (unleased (is_of_other b)) ys → map (unleased (is_of b)) xs ≡ map (unleased (is_of b)) ys → xs ≡ ys
same_leases b [] [] h k = refl
same_leases b [] (y ∷ ys) h k = cc
same_leases b (x ∷ xs) [] h k = cc
same_leases b (x ∷ xs) (y ∷ ys) h k =
    let one : x ≡ y = sym (lease_merged b x) ∙ (λ i. merged (ap (head_or None) h i) (ap (head_or None) k i)) ∙ lease_merged b y in
    λ i. one i ∷ same_leases b xs ys (ap tail h) (ap tail k) i

pub past : (ls : List (Option ℕ)) (m : Machine) (g : ℕ) → length ls ≡ length m → slice_get ls g ≡ None → cell_at m g ≡ blank
past [] [] g h e = refl
past [] (c ∷ m) g h e = absurd (omega arith)
past (l ∷ ls) [] g h e = refl
past (l ∷ ls) (c ∷ m) zero h e = cc
past (l ∷ ls) (c ∷ m) (suc g) h e = past ls m g (ap pred h) e

module _ (b : ℕ) (u x : World) (su : IsSquare u) (sx : IsSquare x) (part : OwnsSame (part_of u b) (part_of x b)) (rest : without u b ≡ without x b) where
  leases_same : u.leases ≡ x.leases
  leases_same = same_leases b u.leases x.leases part.leases (ap (λ (w : World). w.leases) rest)

  at_lease : (g : ℕ) (o : Option (Option ℕ)) → slice_get u.leases g ≡ o → SameCell (cell_at u.machine g) (cell_at x.machine g)
  at_lease g None e =
      subst (λ c. SameCell c (cell_at x.machine g)) (sym (past u.leases u.machine g su e))
      (subst (SameCell blank) (sym (past x.leases x.machine g sx (ap (λ ls. slice_get ls g) (sym leases_same) ∙ e))) (cell_itself blank))
  at_lease g (Some l) e =
      let e' : slice_get x.leases g ≡ Some l = ap (λ ls. slice_get ls g) (sym leases_same) ∙ e in
      elim (is_of b l) as (λ t. is_of b l ≡ t → SameCell (cell_at u.machine g) (cell_at x.machine g)) [
        | true ↦ λ own.
            let in_part : is_of_other b l ≡ false = own_part l own in
            let shown : (w : World) → slice_get w.leases g ≡ Some l → cell_at (part_of w b).machine g ≡ cell_at w.machine g = λ w h.
            cell_at-each (hidden (is_of_other b)) w.leases w.machine g l (hidden-blank (is_of_other b) l) h ∙ ap (λ t. cond t blank (cell_at w.machine g)) in_part in
            subst (λ c. SameCell c (cell_at x.machine g)) (shown u e) (subst (SameCell (cell_at (part_of u b).machine g)) (shown x e') (part.cells g))
        | false ↦ λ other.
            let shown : (w : World) → slice_get w.leases g ≡ Some l → cell_at (without w b).machine g ≡ cell_at w.machine g = λ w h.
            cell_at-each (hidden (is_of b)) w.leases w.machine g l (hidden-blank (is_of b) l) h ∙ ap (λ t. cond t blank (cell_at w.machine g)) other in
            subst (SameCell (cell_at u.machine g)) (sym (shown u e) ∙ ap (λ (w : World). cell_at w.machine g) rest ∙ shown x e') (cell_itself (cell_at u.machine g))
      ] refl
    where
      own_part : (l : Option ℕ) → is_of b l ≡ true → is_of_other b l ≡ false
      own_part None h = refl
      own_part (Some c) h = ap not h

  pub same_whole : OwnsSame u x
  same_whole = record { leases = leases_same; cells = λ g. at_lease g (slice_get u.leases g) refl }
