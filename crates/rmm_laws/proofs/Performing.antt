-- A proof that the first queued step of a REC's guest is performed for the realm that owns the REC.
use Rattle.std.proofs.Common.{◌≡◌, ◌≢◌, ℕ, Option, Some, ap, ◌∙◌}
use Rattle.std.proofs.lemmas.Bool.{cond-false, ne_eqb}
use Rattle.rmm_model.specs.declared.granule.RmmGranuleState.{RmmGranuleState}
use Rattle.rmm_model.specs.declared.granule.RmmGranuleState.TheVariants.{Rd}
use Rattle.rmm_model.specs.declared.realm.RmmRealm.{RmmRealm}
use Rattle.rmm_model.specs.Granule.{realm_of}
use Rattle.rmm_model.specs.Guest.{rec_in}
use Rattle.rmm_model.specs.Machine.{Machine, granule_at}
use Rattle.rmm_model.specs.Command.RecEnter.{owner_realm, realm_by, step_outcome_in, after_step_in, first_step_outcome, after_first_step}
use Rattle.rmm_laws.specs.Guest.{IsStepFor}

-- if steps are queued for a REC's guest, the first of them is performed for the realm that owns the REC
pub performed_for : (m : Machine) (rd g flags : ℕ) (realm : RmmRealm) → (granule_at m g).owner ≡ Some rd → (granule_at m rd).state ≡ Rd realm → (rec_in m g).step_count ≢ 0 → IsStepFor m realm g flags
unfolding first_step_outcome after_first_step
performed_for m rd g flags realm owned is some =
    let its : owner_realm m g ≡ Some realm = ap (realm_by m) owned ∙ ap (λ (s : RmmGranuleState). realm_of s) is in
    let has = ne_eqb (rec_in m g).step_count 0 some in
    (cond-false _ _ _ has ∙ ap (λ (o : Option RmmRealm). step_outcome_in m o g flags) its, cond-false _ _ _ has ∙ ap (λ (o : Option RmmRealm). after_step_in m o g flags) its)
