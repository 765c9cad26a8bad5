-- Proofs that the first group of checks in which one fails decides the refusal of RMI_REALM_CREATE.
use Rattle.std.proofs.Common.{◌≡◌, ℕ, List, Some, None, ap, ◌∙◌}
use Rattle.rmi_abi.specs.declared.realm_params.RealmParams.{RealmParams}
use Rattle.rmm_model.specs.declared.answer.FailedCondition.{FailedCondition}
use Rattle.rmm_model.specs.declared.condition.Condition.TheVariants.{ParamsAlign, ParamsBound, ParamsPas, RdAlign, RdBound, RdState}
use Rattle.rmm_model.specs.Check.{Check, first_failing}
use Rattle.rmm_model.specs.Machine.{Machine}
use Rattle.rmm_model.specs.Command.Operand.{host_checks, delegated_checks}
use Rattle.rmm_model.specs.Command.RealmCreate.{realm_create, params_at, params_checks, free_checks}
use Rattle.rmm.proofs.Checks.{first_fails, second_fails, third_fails, fourth_decides}

module _ (m : Machine) (rd params : ℕ) where
  abbrev source_checks : List Check
  source_checks = host_checks ParamsAlign ParamsBound ParamsPas m params

  abbrev rd_checks : List Check
  rd_checks = delegated_checks RdAlign RdBound RdState m rd

  -- the first failed check of the parameter page decides the refusal
  pub source_fails : (r : FailedCondition) → Some r ≡ first_failing source_checks → Some r ≡ first_failing (realm_create rd params m).checks
  unfolding realm_create
  source_fails r fails = first_fails source_checks (params_checks m.settings (params_at m params) rd) rd_checks (free_checks m (params_at m params)) r fails

  module _ (p : RealmParams) (same : p ≡ params_at m params) (source : None ≡ first_failing source_checks) where
    -- if the checks of the parameter page pass, the first failed check of the parameters decides the refusal
    pub params_fail : (r : FailedCondition) → Some r ≡ first_failing (params_checks m.settings p rd) → Some r ≡ first_failing (realm_create rd params m).checks
    unfolding realm_create
    params_fail r fails =
        second_fails source_checks (params_checks m.settings (params_at m params) rd) rd_checks (free_checks m (params_at m params)) r source
        (fails ∙ ap (λ (q : RealmParams). first_failing (params_checks m.settings q rd)) same)

    module _ (right : None ≡ first_failing (params_checks m.settings p rd)) where
      abbrev right_there : None ≡ first_failing (params_checks m.settings (params_at m params) rd)
      right_there = right ∙ ap (λ (q : RealmParams). first_failing (params_checks m.settings q rd)) same

      -- if the earlier checks pass, the first failed check of the RD decides the refusal
      pub rd_fails : (r : FailedCondition) → Some r ≡ first_failing rd_checks → Some r ≡ first_failing (realm_create rd params m).checks
      unfolding realm_create
      rd_fails r fails =
          third_fails source_checks (params_checks m.settings (params_at m params) rd) rd_checks (free_checks m (params_at m params)) r source right_there fails

      -- if the earlier checks pass, those of the starting tables and the VMID decide whether the command is refused
      pub by_free : None ≡ first_failing rd_checks → first_failing (free_checks m p) ≡ first_failing (realm_create rd params m).checks
      unfolding realm_create
      by_free passes =
          ap (λ (q : RealmParams). first_failing (free_checks m q)) same
          ∙ fourth_decides source_checks (params_checks m.settings (params_at m params) rd) rd_checks (free_checks m (params_at m params)) source right_there passes
