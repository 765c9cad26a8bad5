-- Proper machines, in which each granule has the role and the owner that its state requires. RMM 1.0, Granule
-- attributes.
use Rattle.std.specs.Prelude.{◌≡◌, ℕ}
use Rattle.rmm_model.specs.declared.granule.RmmGranuleState.TheVariants.{Rec}
use Rattle.rmm_model.specs.declared.rec.RmmRec.{RmmRec}
use Rattle.rmm_model.specs.Machine.{Machine, granule_at}
use Rattle.rmm_laws.specs.Owner.{IsOrdered}
use Rattle.rmm_laws.specs.Role.{IsLinked}

-- Each granule is used as its state requires, and has the owner that its state requires.
pub record IsProper (m : Machine) : Type 0 where
  pub linked : IsLinked m
  pub ordered : IsOrdered m

-- The invariant of a REC's run: the machine is proper, and the granule is a REC.
abbrev pub IsProperRun : Machine → ℕ → Type 0
IsProperRun m g = IsProper m × (rec : RmmRec) × ((granule_at m g).state ≡ Rec rec)
