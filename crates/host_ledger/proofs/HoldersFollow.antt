-- Proofs that the ledger's record of who leases each granule still agrees with the world after one more operation.
use Rattle.std.proofs.Common.{◌≡◌, ℕ, ◌+◌, ◌-◌, ◌^◌, ◌<◌, ◌≤◌, List, length, Option, Some, None, sym, ap, ◌∙◌, subst, arith}
use Rattle.std.specs.Prelude.{slice_get}
use Rattle.std.specs.List.{All}
use Rattle.std.proofs.lemmas.Nat.{pow_pos}
use Rattle.std.proofs.lemmas.Option.{slice_get_within}
use Rattle.realm_model.specs.declared.act.Act.{Act}
use Rattle.realm_model.specs.declared.act.Act.TheVariants.{Take, UnTake}
use Rattle.realm_model.specs.Act.{block, named, holder}
use Rattle.realm_model.specs.Machine.{Limits}
use Rattle.realm_model.specs.Step.{step}
use Rattle.realm_model.specs.StepLaw.{leases_after}
use Rattle.realm_model.specs.Undoing.{by}
use Rattle.realm_model.specs.World.{World}
use Rattle.realm_model.proofs.StepSays.{step_is}
use Rattle.realm_model.proofs.EachOfRange.{of_all_range}
use Rattle.host_ledger.specs.Kept.{CanFollowHolders}

-- ---- in a step

-- if the list of leases has the same entry for each granule of a block, the block is inside the machine
block_inside : (lease : Option ℕ) (leases : List (Option ℕ)) (order first : ℕ) → All (λ granule. slice_get leases granule ≡ Some lease) (block order first)
    → first + 2 ^ order ≤ length leases
block_inside lease leases order first all =
    let some : 0 < 2 ^ order = pow_pos order in
    let last = of_all_range (λ granule. slice_get leases granule ≡ Some lease) first (2 ^ order) all (first + 2 ^ order - 1) (omega arith) (omega arith) in
    let within = slice_get_within leases (first + 2 ^ order - 1) lease last in
    omega arith

granules_inside : (build : ℕ) (act : Act) (leases : List (Option ℕ)) → All (λ granule. slice_get leases granule ≡ Some (holder build act)) (named act)
    → CanFollowHolders leases act
unfolding named
granules_inside build (Take order first) leases all = block_inside None leases order first all
granules_inside build (UnTake order first) leases all = block_inside (Some build) leases order first all
granules_inside build act leases all = tt

module _ (limits : Limits) (world next : World) (build : ℕ) (act : Act) (stepped : step limits world (by build act) ≡ Some next) where
  -- the block, if any, that an accepted operation takes or gives back is inside the machine
  pub can_follow_holders : (holders : List (Option ℕ)) → holders ≡ world.leases → CanFollowHolders holders act
  can_follow_holders holders same =
      subst (λ (leases : List (Option ℕ)). CanFollowHolders leases act) (sym same)
      (granules_inside build act world.leases (step_is limits world next (by build act) stepped).granules)

  -- if the ledger's list of each granule's holder agrees with the leases before an accepted operation, the updated list
  -- agrees with the leases after the operation
  pub leases_follow : (holders : List (Option ℕ)) → holders ≡ world.leases → leases_after build act holders ≡ next.leases
  leases_follow holders same =
      ap (leases_after build act) same
      ∙ sym (step_is limits world next (by build act) stepped).leases
