-- Proofs that two worlds that agree in ownership still agree after updates that have the same effect on ownership in
-- both.
use Rattle.std.proofs.Common.{◌≡◌, ℕ, Bool, true, false, cond, List, [], ◌∷◌, ◌++◌, map, set, Some, Ok, Err, refl, sym, ap, ◌∙◌, subst}
use Rattle.std.specs.Prelude.{◌==◌}
use Rattle.std.specs.FinMap.{get}
use Rattle.std.proofs.lemmas.Option.{same_Some}
use Rattle.realm_model.specs.declared.rmi.Rmi.{Rmi}
use Rattle.realm_model.specs.Rows.{Row, Rows, Walk, walk}
use Rattle.realm_model.specs.Machine.{RecRow, RealmRow, Cell, Machine, Seen, left, cell_at, seen}
use Rattle.realm_model.specs.Update.{Update, Outcome, Put, Lease, Free, granule_of, cell_after, lease_after}
use Rattle.realm_model.specs.Command.Check.{check, with_realm, with_rec, with_end, with_granule}
use Rattle.realm_model.specs.World.{World, updated, updated_all}
use Rattle.realm_model.specs.Ownership.{SameCell, OwnsSame}
use Rattle.realm_model.proofs.Booleans.{guarded}
use Rattle.realm_model.proofs.Written.{IsSquare, put_at, cell_put, lefts}
use Rattle.realm_model.proofs.Outcomes.{Yields, Yields-Ok, Yields-Err, Yields-check, Yields-with_realm, Yields-with_rec, Yields-with_end, Yields-with_granule}
use Rattle.realm_model.proofs.OwnsSame.{cell_itself}

-- Updates `u` and `x` change the same granule, give it the same lease, and lead from cells with the same ownership to
-- cells with the same ownership.
pub record IsAlike (u x : Update) : Type 0 where
  pub granule : granule_of u ≡ granule_of x
  pub lease : (b : ℕ) → lease_after b u ≡ lease_after b x
  pub cell : (c d : Cell) → SameCell c d → SameCell (cell_after u c) (cell_after x d)

abbrev pub AreAlike : List Update → List Update → Type 0
AreAlike [] [] = Unit {0}
AreAlike [] (x ∷ xs) = ⊥
AreAlike (u ∷ us) [] = ⊥
AreAlike (u ∷ us) (x ∷ xs) = IsAlike u x × AreAlike us xs

-- ---- updates

pub alike_put : (g h : ℕ) (x y : Cell) → g ≡ h → SameCell x y → IsAlike (Put g x) (Put h y)
alike_put g h x y at same = record { granule = at; lease = λ b. refl; cell = λ c d _. same }

pub alike_lease : (g : ℕ) → IsAlike (Lease g) (Lease g)
alike_lease g = record { granule = refl; lease = λ b. refl; cell = λ c d same. same }

pub alike_free : (g : ℕ) → IsAlike (Free g) (Free g)
alike_free g = record { granule = refl; lease = λ b. refl; cell = λ c d same. cell_itself _ }

pub alike_more : (us xs vs ys : List Update) → AreAlike us xs → AreAlike vs ys → AreAlike (us ++ vs) (xs ++ ys)
alike_more [] [] vs ys h k = k
alike_more [] (x ∷ xs) vs ys h k = absurd h
alike_more (u ∷ us) [] vs ys h k = absurd h
alike_more (u ∷ us) (x ∷ xs) vs ys h k = (h.0, alike_more us xs vs ys h.1 k)

-- if `f` and `g` give alike updates for each granule of two machines, they give alike updates for each list of granules
pub alike_seen : (f g : Seen → Update) (m n : Machine) → ((k : ℕ) → IsAlike (f (seen m k)) (g (seen n k))) → (ks : List ℕ) → AreAlike (map f (map (seen m) ks)) (map g (map (seen n) ks))
alike_seen f g m n each [] = tt
alike_seen f g m n each (k ∷ ks) = (each k, alike_seen f g m n each ks)

pub alike_lefts : (gs hs : List ℕ) → gs ≡ hs → AreAlike (lefts gs) (lefts hs)
alike_lefts gs hs e = subst (λ ks. AreAlike (lefts gs) (lefts ks)) e (itself gs)
  where
    itself : (gs : List ℕ) → AreAlike (lefts gs) (lefts gs)
    itself [] = tt
    itself (g ∷ gs) = (alike_put g g left left refl (cell_itself left), itself gs)

-- ---- worlds that own the same still do after updates that are alike

put_alike : (us xs : List Update) → AreAlike us xs → (k : ℕ) (c d : Cell) → SameCell c d → SameCell (put_at us k c) (put_at xs k d)
put_alike [] [] h k c d same = same
put_alike [] (x ∷ xs) h k c d same = absurd h
put_alike (u ∷ us) [] h k c d same = absurd h
put_alike (u ∷ us) (x ∷ xs) h k c d same =
    put_alike us xs h.1 k (cond (k == granule_of u) (cell_after u c) c) (cond (k == granule_of x) (cell_after x d) d)
    (subst (λ g. SameCell (cond (k == granule_of u) (cell_after u c) c) (cond (k == g) (cell_after x d) d)) h.0.granule
    (elim (k == granule_of u) as (λ t. SameCell (cond t (cell_after u c) c) (cond t (cell_after x d) d)) [ true ↦ h.0.cell c d same | false ↦ same ]))

leases_alike : (b : ℕ) (us xs : List Update) → AreAlike us xs → (w v next other : World) → w.leases ≡ v.leases → updated_all b us w ≡ Some next
    → updated_all b xs v ≡ Some other → next.leases ≡ other.leases
unfolding updated_all
leases_alike b [] [] h w v next other same e f = ap (λ (a : World). a.leases) (sym (same_Some _ _ e)) ∙ same ∙ ap (λ (a : World). a.leases) (same_Some _ _ f)
leases_alike b [] (x ∷ xs) h w v next other same e f = absurd h
leases_alike b (u ∷ us) [] h w v next other same e f = absurd h
leases_alike b (u ∷ us) (x ∷ xs) h w v next other same e f =
    leases_alike b us xs h.1 (updated b u w) (updated b x v) next other (λ i. set (same i) (h.0.granule i) (h.0.lease b i)) (guarded _ _ _ e).1 (guarded _ _ _ f).1

pub own_alike : (b : ℕ) (us xs : List Update) (w v next other : World) → AreAlike us xs → IsSquare w → IsSquare v → OwnsSame w v → updated_all b us w ≡ Some next
    → updated_all b xs v ≡ Some other → OwnsSame next other
own_alike b us xs w v next other alike sw sv same e f = record {
  leases = leases_alike b us xs alike w v next other same.leases e f;
  cells = λ k. subst (λ c. SameCell c (cell_at other.machine k)) (sym (cell_put b us w next sw e k))
      (subst (SameCell (put_at us k (cell_at w.machine k))) (sym (cell_put b xs v other sv f k))
      (put_alike us xs alike k (cell_at w.machine k) (cell_at v.machine k) (same.cells k)));
}

-- ---- two commands

-- if neither outcome is a refusal, the updates of `o` and those of `p` are alike
pub record Agree (o p : Outcome) : Type 0 where
  pub both : (us : List Update) → o ≡ Ok us → Yields (AreAlike us) p

abbrev With : Outcome → List Update → Type 0
With p us = Yields (AreAlike us) p

pub Agree-Ok : (us xs : List Update) → AreAlike us xs → Agree (Ok us) (Ok xs)
Agree-Ok us xs h = record { both = (Yields-Ok (With (Ok xs)) us (Yields-Ok (AreAlike us) xs h)).where_ok }

pub Agree-Err : (rmi : Rmi) (p : Outcome) → Agree (Err rmi) p
Agree-Err rmi p = record { both = (Yields-Err (With p) rmi).where_ok }

pub Agree-check : (s t : Bool) (a b : Rmi) (o p : Outcome) → (s ≡ true → t ≡ true → Agree o p) → Agree (check s a o) (check t b p)
Agree-check s t a b o p h = record {
  both = (Yields-check (With (check t b p)) s a o (λ e. record { where_ok = λ us x. Yields-check (AreAlike us) t b p (λ f. (h e f).both us x) })).where_ok;
}

pub Agree-with_realm : (rd sd : Seen) (f g : RealmRow → Outcome) → ((d e : RealmRow) → rd.cell.descriptor ≡ Some d → sd.cell.descriptor ≡ Some e → Agree (f d) (g e))
    → Agree (with_realm rd f) (with_realm sd g)
Agree-with_realm rd sd f g h = record {
  both = (Yields-with_realm (With (with_realm sd g)) rd f (λ d is. record { where_ok = λ us x. Yields-with_realm (AreAlike us) sd g (λ e ise. (h d e is ise).both us x) })).where_ok;
}

pub Agree-with_rec : (d e : RealmRow) (n : ℕ) (f g : RecRow → Outcome) → ((r s : RecRow) → get d.recs n ≡ Some r → get e.recs n ≡ Some s → Agree (f r) (g s)) → Agree (with_rec d n f) (with_rec e n g)
Agree-with_rec d e n f g h = record {
  both = (Yields-with_rec (With (with_rec e n g)) d n f (λ r is. record { where_ok = λ us x. Yields-with_rec (AreAlike us) e n g (λ s ise. (h r s is ise).both us x) })).where_ok;
}

pub Agree-with_granule : (r s : Row) (f g : ℕ → Outcome) → ((k l : ℕ) → r.granule ≡ Some k → s.granule ≡ Some l → Agree (f k) (g l)) → Agree (with_granule r f) (with_granule s g)
Agree-with_granule r s f g h = record {
  both = (Yields-with_granule (With (with_granule s g)) r f (λ k is. record { where_ok = λ us x. Yields-with_granule (AreAlike us) s g (λ l ise. (h k l is ise).both us x) })).where_ok;
}

pub Agree-with_end : (r s : Rows) (ipa level : ℕ) (f g : Walk → Outcome) → ((a b : Walk) → walk r ipa level ≡ Some a → walk s ipa level ≡ Some b → Agree (f a) (g b))
    → Agree (with_end r ipa level f) (with_end s ipa level g)
Agree-with_end r s ipa level f g h = record {
  both = (Yields-with_end (With (with_end s ipa level g)) r ipa level f (λ a is.
      record { where_ok = λ us x. Yields-with_end (AreAlike us) s ipa level g (λ b ise. (h a b is ise).both us x) })).where_ok;
}
