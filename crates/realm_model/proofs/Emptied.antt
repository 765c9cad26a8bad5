-- The proof that a build with nothing open has no effect on the world that a history leads to.
use Rattle.std.proofs.Common.{◌≡◌, ℕ, zero, suc, Bool, true, false, cond, not, List, [], ◌∷◌, map, Option, Some, None, refl, sym, ap, ◌∙◌}
use Rattle.std.specs.Prelude.{◌==◌, option_map, replicate}
use Rattle.realm_model.specs.declared.act.Event.{Event}
use Rattle.realm_model.specs.Machine.{Machine, Limits, blank}
use Rattle.realm_model.specs.World.{World, each, hidden, unleased, is_of, is_of_other, without, opening}
use Rattle.realm_model.specs.History.{erase, open_entries, replay, IsLegal}
use Rattle.realm_model.proofs.SoundParts.{IsSound}
use Rattle.realm_model.proofs.Clean.{IsClean, scrubbed}
use Rattle.realm_model.proofs.OwnLaws.{laws, SameFor}
use Rattle.realm_model.proofs.Chain.{nothing_open, kept}
use Rattle.realm_model.proofs.LeftOut.{noninterference}
use Rattle.realm_model.proofs.Lists.{head_or, tail}

-- a lease that becomes None when the leases of other builds are hidden is not a lease to the build
not_of : (b : ℕ) (lease : Option ℕ) → unleased (is_of_other b) lease ≡ None → is_of b lease ≡ false
not_of b None e = refl
not_of b (Some c) e = by_test (c == b) e
  where
    by_test : (t : Bool) → cond (not t) None (Some c) ≡ None → t ≡ false
    by_test true e = cc
    by_test false e = refl

-- none of the listed leases is to the build
abbrev NoneLeased : ℕ → List (Option ℕ) → Type 0
NoneLeased b [] = Unit {0}
NoneLeased b (l ∷ ls) = (is_of b l ≡ false) × NoneLeased b ls

none_leased : (b n : ℕ) (leases : List (Option ℕ)) → map (unleased (is_of_other b)) leases ≡ replicate n None → NoneLeased b leases
none_leased b n [] e = tt
none_leased b zero (l ∷ leases) e = cc
none_leased b (suc n) (l ∷ leases) e = (not_of b l (ap (head_or None) e), none_leased b n leases (ap tail e))

leases_kept : (b : ℕ) (leases : List (Option ℕ)) → NoneLeased b leases → map (unleased (is_of b)) leases ≡ leases
leases_kept b [] h = refl
leases_kept b (l ∷ leases) h = λ i. ap (λ t. cond t None l) h.0 i ∷ leases_kept b leases h.1 i

cells_kept : (b : ℕ) (leases : List (Option ℕ)) (machine : Machine) → NoneLeased b leases → each scrubbed leases machine ≡ machine → each (hidden (is_of b)) leases machine ≡ machine
cells_kept b [] machine h clean = clean
cells_kept b (l ∷ leases) [] h clean = refl
cells_kept b (l ∷ leases) (c ∷ machine) h clean = λ i. ap (λ t. cond t blank c) h.0 i ∷ cells_kept b leases machine h.1 (ap tail clean) i

none_at_first : (b n : ℕ) → map (unleased (is_of_other b)) (replicate n None) ≡ replicate n None
none_at_first b zero = refl
none_at_first b (suc n) = ap (λ ls. None ∷ ls) (none_at_first b n)

pub emptied : (limits : Limits) (b : ℕ) (history : List Event) (w : World) → IsLegal limits history → replay limits history ≡ Some w
    → open_entries b history ≡ [] → replay limits (erase b history) ≡ Some w
emptied limits b history w legal at_w none =
    let same : SameFor b (opening limits) w = nothing_open limits b (SameFor b) (IsSound b) (laws limits b) history w legal at_w none in
    let clean : IsClean w = (kept limits b (SameFor b) (IsSound b) (laws limits b) history w legal at_w).1.sound.clean in
    let free = none_leased b limits.pages w.leases (sym same.leases ∙ none_at_first b limits.pages) in
    let whole : without w b ≡ w = λ i. record { machine = cells_kept b w.leases w.machine free clean i; leases = leases_kept b w.leases free i } in
    (noninterference limits history b legal).1 ∙ ap (option_map (λ v. without v b)) at_w ∙ ap Some whole
