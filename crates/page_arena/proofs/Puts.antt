-- Lemmas about a write to a list at an index, which replaces the item there or adds an item at the end.
use Rattle.std.proofs.Common.{◌≡◌, ℕ, suc, ◌+◌, ◌<◌, List, [], ◌∷◌, ◌++◌, length, take, drop, set, sym, ap, ◌∙◌, arith}
use Rattle.std.proofs.lemmas.List.{take_all, drop_all, set_split}
use Rattle.page_arena.specs.Owned.{put_at}

pub put_last : {X : Type 0} (xs : List X) (i : ℕ) (x : X) → i ≡ length xs → xs ++ x ∷ [] ≡ put_at xs i x
put_last xs i x e = (λ j. sym (take_all i xs (omega arith)) j ++ x ∷ sym (drop_all (i + 1) xs (omega arith)) j)

pub put_inside : {X : Type 0} (xs : List X) (i : ℕ) (x : X) → i < length xs → set xs i x ≡ put_at xs i x
put_inside xs i x lt = let e : suc i ≡ i + 1 = omega arith in set_split xs i x lt ∙ ap (λ (k : ℕ). take i xs ++ x ∷ drop k xs) e
