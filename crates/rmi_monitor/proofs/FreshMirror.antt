-- The proof that an RMM that has just been built agrees with the world of the empty history.
use Rattle.std.proofs.Common.{◌≡◌, ℕ, zero, suc, true, ◌∷◌, map, replicate, refl, ap, Option, None}
use Rattle.std.specs.Prelude.{is_none}
use Rattle.realm_model.specs.Machine.{Limits}
use Rattle.realm_model.specs.History.{after}
use Rattle.rmi_monitor.specs.Mirror.{FreshIsMirror}

abbrev nobody : Option ℕ
nobody = None

all_free : (n : ℕ) → replicate n true ≡ map is_none (replicate n nobody)
all_free zero = refl
all_free (suc n) = ap (λ flags. true ∷ flags) (all_free n)

pub fresh_is_mirror : (limits : Limits) → FreshIsMirror limits
unfolding after
fresh_is_mirror limits = record {
  legal = record { steps = refl; in_turn = tt };
  world_is = refl;
  vmids = refl;
  aux = refl;
  machine = refl;
  free = all_free limits.pages;
}
