-- Proofs of the theorems about single steps that `Chain` requires, for the part of a world that one build owns.
use Rattle.std.proofs.Common.{ℕ, refl, sym, subst}
use Rattle.realm_model.specs.Machine.{Limits}
use Rattle.realm_model.specs.World.{World, part_of}
use Rattle.realm_model.specs.Undoing.{by}
use Rattle.realm_model.specs.Ownership.{OwnsSame}
use Rattle.realm_model.proofs.HiddenSteps.{step-part_of, part_of-other_step}
use Rattle.realm_model.proofs.Chain.{Laws}
use Rattle.realm_model.proofs.SoundParts.{IsSound-step, IsSound, IsSound-opening}
use Rattle.realm_model.proofs.OwnsSame.{own_itself, own_chain}
use Rattle.realm_model.proofs.PairBack.{pair_back}
use Rattle.realm_model.proofs.Unpaired.{own_step}

-- the build owns the same in both worlds
abbrev pub SameFor : ℕ → World → World → Type 0
SameFor b w v = OwnsSame (part_of w b) (part_of v b)

pub laws : (limits : Limits) (b : ℕ) → Laws limits b (SameFor b) (IsSound b)
laws limits b = record {
  itself = λ w. own_itself (part_of w b);
  chain = λ u v w h k. own_chain (part_of u b) (part_of v b) (part_of w b) h k;
  sound_opening = IsSound-opening limits b;
  sound_step = λ w v e sound s. IsSound-step limits b w v e sound s;
  frame = λ w v e apart sound s. subst (λ x. OwnsSame (part_of w b) x) (sym (part_of-other_step limits b w v e apart sound.clean s)) (own_itself (part_of w b));
  unpaired = λ w v act p r sound s. own_step limits b (part_of w b) (part_of v b) act p r (step-part_of limits b w v (by b act) refl s);
  pair = λ u v w x act r e su sw stepped same back. pair_back limits b u v w x act r e su sw stepped same back;
}
