-- Proofs that the first group of checks in which one fails decides the refusal of RMI_RTT_SET_RIPAS.
use Rattle.std.proofs.Common.{◌≡◌, ℕ, ◌++◌, Bool, List, [], ◌∷◌, Some, None, ap, ◌∙◌}
use Rattle.rmm_model.specs.declared.answer.FailedCondition.{FailedCondition}
use Rattle.rmm_model.specs.declared.condition.Condition.TheVariants.{Size, BaseBound, TopBound, RdState, RecAlign, RecBound, RecGranState, RecState, RecOwner}
use Rattle.rmm_model.specs.declared.entry.Changeable.{Changeable}
use Rattle.rmm_model.specs.declared.realm.RmmRealm.{RmmRealm}
use Rattle.rmm_model.specs.declared.realm.RttWalk.{RttWalk as Walked}
use Rattle.rmm_model.specs.declared.rec.RmmRec.{RmmRec}
use Rattle.rmm_model.specs.Check.{Check, first_failing}
use Rattle.rmm_model.specs.Machine.{Machine}
use Rattle.rmm_model.specs.Walk.{walk}
use Rattle.rmm_model.specs.Command.Operand.{rd_checks, realm_at, rec_checks, rec_at}
use Rattle.rmm_model.specs.Command.RipasRange.{size_checks, progress_checks}
use Rattle.rmm_model.specs.Command.RttSetRipas.{set_changeable, ripas_request_checks, is_rec_of, rtt_set_ripas}
use Rattle.rmm.proofs.Checks.{passed, failed, first_fails, second_fails, third_fails, fourth_decides}

module _ (m : Machine) (rd rec base top : ℕ) where
  abbrev size : List Check
  size = size_checks base top

  abbrev owner : List Check
  owner = rd_checks m rd

  abbrev asking : List Check
  asking = rec_checks RecAlign RecBound RecGranState m rec

  abbrev request : List Check
  request = ripas_request_checks (realm_at m rd) (rec_at m rec) (is_rec_of m rd rec) base top

  abbrev goes : List Check
  goes = progress_checks (Size ∷ RecGranState ∷ RdState ∷ RecState ∷ RecOwner ∷ BaseBound ∷ TopBound ∷ []) m (set_changeable (rec_at m rec).ripas) (walk m (realm_at m rd) base 3) base top

  -- the first check, that the range is not empty, decides the refusal if it fails
  pub size_fails : (r : FailedCondition) → Some r ≡ first_failing size → Some r ≡ first_failing (rtt_set_ripas rd rec base top m).checks
  unfolding rtt_set_ripas
  size_fails r fails = failed (size ++ owner ++ asking ++ request) goes r (first_fails size owner asking request r fails)

  module _ (one : None ≡ first_failing size) where
    -- if the range is not empty, the first failed check of the RD decides the refusal
    pub rd_fails : (r : FailedCondition) → Some r ≡ first_failing owner → Some r ≡ first_failing (rtt_set_ripas rd rec base top m).checks
    unfolding rtt_set_ripas
    rd_fails r fails = failed (size ++ owner ++ asking ++ request) goes r (second_fails size owner asking request r one fails)

    module _ (two : None ≡ first_failing owner) where
      -- if the earlier checks pass, the first failed check of the REC decides the refusal
      pub rec_fails : (r : FailedCondition) → Some r ≡ first_failing asking → Some r ≡ first_failing (rtt_set_ripas rd rec base top m).checks
      unfolding rtt_set_ripas
      rec_fails r fails = failed (size ++ owner ++ asking ++ request) goes r (third_fails size owner asking request r one two fails)

      module _ (three : None ≡ first_failing asking) (realm : RmmRealm) (same : realm ≡ realm_at m rd) (who : RmmRec) (named : who ≡ rec_at m rec) (is : Bool) (told : is ≡ is_rec_of m rd rec) where
        -- the checks of the request have the same first failure for the found realm and REC as for those that the
        -- operands name
        there : first_failing (ripas_request_checks realm who is base top) ≡ first_failing request
        there =
            ap (λ (x : RmmRealm). first_failing (ripas_request_checks x who is base top)) same
            ∙ ap (λ (x : RmmRec). first_failing (ripas_request_checks (realm_at m rd) x is base top)) named
            ∙ ap (λ (x : Bool). first_failing (ripas_request_checks (realm_at m rd) (rec_at m rec) x base top)) told

        -- if the earlier checks pass, the first failed check of the request decides the refusal
        pub request_fails : (r : FailedCondition) → Some r ≡ first_failing (ripas_request_checks realm who is base top) → Some r ≡ first_failing (rtt_set_ripas rd rec base top m).checks
        unfolding rtt_set_ripas
        request_fails r fails = failed (size ++ owner ++ asking ++ request) goes r (fails ∙ there ∙ fourth_decides size owner asking request one two three)

        -- if the earlier checks pass, the checks of the RTT entry at the range's base decide whether the command is
        -- refused
        pub by_progress : None ≡ first_failing (ripas_request_checks realm who is base top) → (found : Walked) → found ≡ walk m realm base 3 → (which : Changeable) → which ≡ set_changeable who.ripas
            → first_failing (progress_checks [] m which found base top) ≡ first_failing (rtt_set_ripas rd rec base top m).checks
        unfolding rtt_set_ripas
        by_progress right found place which changes =
            ap (λ (x : Changeable). first_failing (progress_checks [] m x found base top)) (changes ∙ ap (λ (x : RmmRec). set_changeable x.ripas) named)
            ∙ ap (λ (x : Walked). first_failing (progress_checks [] m (set_changeable (rec_at m rec).ripas) x base top)) (place ∙ ap (λ (x : RmmRealm). walk m x base 3) same)
            ∙ passed (size ++ owner ++ asking ++ request) goes (right ∙ there ∙ fourth_decides size owner asking request one two three)
