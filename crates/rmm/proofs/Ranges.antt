-- Proofs that the first group of checks in which one fails decides the refusal of RMI_RTT_INIT_RIPAS.
use Rattle.std.proofs.Common.{◌≡◌, ℕ, List, [], ◌∷◌, Some, None, ap, ◌∙◌}
use Rattle.rmi_abi.specs.declared.settings.RmmSettings.{RmmSettings}
use Rattle.rmm_model.specs.declared.answer.FailedCondition.{FailedCondition}
use Rattle.rmm_model.specs.declared.condition.Condition.TheVariants.{Size, RdState, BaseBound, TopBound, RealmState}
use Rattle.rmm_model.specs.declared.entry.Changeable.{Changeable}
use Rattle.rmm_model.specs.declared.realm.RmmRealm.{RmmRealm}
use Rattle.rmm_model.specs.declared.realm.RttWalk.{RttWalk as Walked}
use Rattle.rmm_model.specs.Check.{Check, first_failing}
use Rattle.rmm_model.specs.Machine.{Machine}
use Rattle.rmm_model.specs.Walk.{walk}
use Rattle.rmm_model.specs.Command.Operand.{rd_checks, realm_at}
use Rattle.rmm_model.specs.Command.RipasRange.{size_checks, progress_checks}
use Rattle.rmm_model.specs.Command.RttInitRipas.{init_changeable, range_checks, rtt_init_ripas}
use Rattle.rmm.proofs.Checks.{first_fails, second_fails, third_fails, fourth_decides}

module _ (m : Machine) (rd base top : ℕ) where
  abbrev there : List Check
  there = range_checks (realm_at m rd) base top

  abbrev goes : List Check
  goes = progress_checks (Size ∷ RdState ∷ BaseBound ∷ TopBound ∷ RealmState ∷ []) m (init_changeable m.settings) (walk m (realm_at m rd) base 3) base top

  -- the first check, that the range is not empty, decides the refusal if it fails
  pub size_fails : (r : FailedCondition) → Some r ≡ first_failing (size_checks base top) → Some r ≡ first_failing (rtt_init_ripas rd base top m).checks
  unfolding rtt_init_ripas
  size_fails r fails = first_fails (size_checks base top) (rd_checks m rd) there goes r fails

  module _ (size : None ≡ first_failing (size_checks base top)) where
    -- if the range is not empty, the first failed check of the RD decides the refusal
    pub rd_fails : (r : FailedCondition) → Some r ≡ first_failing (rd_checks m rd) → Some r ≡ first_failing (rtt_init_ripas rd base top m).checks
    unfolding rtt_init_ripas
    rd_fails r fails = second_fails (size_checks base top) (rd_checks m rd) there goes r size fails

    module _ (passes : None ≡ first_failing (rd_checks m rd)) (realm : RmmRealm) (same : realm ≡ realm_at m rd) where
      -- if the earlier checks pass, the first failed check of the range decides the refusal
      pub range_fails : (r : FailedCondition) → Some r ≡ first_failing (range_checks realm base top) → Some r ≡ first_failing (rtt_init_ripas rd base top m).checks
      unfolding rtt_init_ripas
      range_fails r fails =
          third_fails (size_checks base top) (rd_checks m rd) there goes r size passes (fails ∙ ap (λ (x : RmmRealm). first_failing (range_checks x base top)) same)

      -- if the earlier checks pass, the checks of the RTT entry at the range's base decide whether the command is
      -- refused
      pub by_progress : None ≡ first_failing (range_checks realm base top) → (found : Walked) → found ≡ walk m realm base 3 → (s : RmmSettings) → s ≡ m.settings → (which : Changeable) → which ≡ init_changeable s
          → first_failing (progress_checks [] m which found base top) ≡ first_failing (rtt_init_ripas rd base top m).checks
      unfolding rtt_init_ripas
      by_progress right found place s settings which is =
          ap (λ (x : Changeable). first_failing (progress_checks [] m x found base top)) (is ∙ ap init_changeable settings)
          ∙ ap (λ (x : Walked). first_failing (progress_checks [] m (init_changeable m.settings) x base top)) (place ∙ ap (λ (x : RmmRealm). walk m x base 3) same)
          ∙ fourth_decides (size_checks base top) (rd_checks m rd) there goes size passes (right ∙ ap (λ (x : RmmRealm). first_failing (range_checks x base top)) same)
