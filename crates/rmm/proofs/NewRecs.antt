-- Proofs that the first group of checks in which one fails decides the refusal of RMI_REC_CREATE.
use Rattle.std.proofs.Common.{◌≡◌, ℕ, ◌++◌, List, Some, None, ap, ◌∙◌}
use Rattle.rmi_abi.specs.declared.settings.RmmSettings.{RmmSettings}
use Rattle.rmm_model.specs.declared.answer.FailedCondition.{FailedCondition}
use Rattle.rmm_model.specs.declared.condition.Condition.TheVariants.{ParamsAlign, ParamsBound, ParamsPas, RecAlign, RecBound, RecState}
use Rattle.rmm_model.specs.declared.realm.RmmRealm.{RmmRealm}
use Rattle.rmm_model.specs.Check.{Check, first_failing}
use Rattle.rmm_model.specs.Machine.{Machine, page_in, number_of}
use Rattle.rmm_model.specs.Command.Operand.{host_checks, delegated_checks, rd_checks, realm_at}
use Rattle.rmm_model.specs.Command.RecCreate.{rec_create, aux_checks, number_checks}
use Rattle.rmm.proofs.Checks.{passed, failed, first_fails, second_fails, third_fails, fourth_decides}

module _ (m : Machine) (rd rec params : ℕ) where
  abbrev source : List Check
  source = host_checks ParamsAlign ParamsBound ParamsPas m params

  abbrev granule : List Check
  granule = delegated_checks RecAlign RecBound RecState m rec

  abbrev owner : List Check
  owner = rd_checks m rd

  abbrev aux : List Check
  aux = aux_checks m (page_in m (number_of m params)) rec

  abbrev number : List Check
  number = number_checks m.settings (page_in m (number_of m params)) (realm_at m rd)

  -- the first failed check of the parameter page decides the refusal
  pub source_fails : (r : FailedCondition) → Some r ≡ first_failing source → Some r ≡ first_failing (rec_create rd rec params m).checks
  unfolding rec_create
  source_fails r fails = failed (source ++ granule ++ owner ++ aux) number r (first_fails source granule owner aux r fails)

  module _ (one : None ≡ first_failing source) where
    -- if the checks of the parameter page pass, the first failed check of the REC's granule decides the refusal
    pub rec_fails : (r : FailedCondition) → Some r ≡ first_failing granule → Some r ≡ first_failing (rec_create rd rec params m).checks
    unfolding rec_create
    rec_fails r fails = failed (source ++ granule ++ owner ++ aux) number r (second_fails source granule owner aux r one fails)

    module _ (two : None ≡ first_failing granule) where
      -- if the earlier checks pass, the first failed check of the RD decides the refusal
      pub rd_fails : (r : FailedCondition) → Some r ≡ first_failing owner → Some r ≡ first_failing (rec_create rd rec params m).checks
      unfolding rec_create
      rd_fails r fails = failed (source ++ granule ++ owner ++ aux) number r (third_fails source granule owner aux r one two fails)

      module _ (three : None ≡ first_failing owner) where
        -- if the earlier checks pass, the first failed check of the auxiliary granules decides the refusal
        pub aux_fail : (r : FailedCondition) → Some r ≡ first_failing aux → Some r ≡ first_failing (rec_create rd rec params m).checks
        unfolding rec_create
        aux_fail r fails = failed (source ++ granule ++ owner ++ aux) number r (fails ∙ fourth_decides source granule owner aux one two three)

        -- if the earlier checks pass, those of the realm and the MPIDR decide whether the command is refused
        pub by_number : None ≡ first_failing aux → first_failing number ≡ first_failing (rec_create rd rec params m).checks
        unfolding rec_create
        by_number four = passed (source ++ granule ++ owner ++ aux) number (four ∙ fourth_decides source granule owner aux one two three)

        -- the claim of `by_number` holds also for settings, a page and a realm that equal those of the command
        pub by_number_of : (s : RmmSettings) (page : List ℕ) (realm : RmmRealm) → s ≡ m.settings → page ≡ page_in m (number_of m params) → realm ≡ realm_at m rd → None ≡ first_failing aux
            → first_failing (number_checks s page realm) ≡ first_failing (rec_create rd rec params m).checks
        by_number_of s page realm settings there same four =
            ap (λ (x : RmmSettings). first_failing (number_checks x page realm)) settings
            ∙ ap (λ (x : List ℕ). first_failing (number_checks m.settings x realm)) there
            ∙ ap (λ (x : RmmRealm). first_failing (number_checks m.settings (page_in m (number_of m params)) x)) same
            ∙ by_number four
