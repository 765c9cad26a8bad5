-- Proofs that a successful call reads its input page from the host, and that a new REC has the attributes and the
-- contents that its parameters ask for.
use Rattle.std.proofs.Common.{◌≡◌, ℕ, true, false, not, refl, sym, subst, ◌∙◌}
use Rattle.std.proofs.lemmas.Bool.{and_parts, eqb-true, not-true}
use Rattle.rmi_abi.specs.declared.call.Call.{Call}
use Rattle.rmi_abi.specs.declared.call.Call.TheVariants.{DataCreate, RealmCreate, RecCreate}
use Rattle.rmi_abi.specs.declared.registers.SmcResult.{SmcResult}
use Rattle.rmi_abi.specs.declared.word.Word.TheVariants.{Success}
use Rattle.rmm_model.specs.Call.{performed}
use Rattle.rmm_model.specs.Granule.{is_undelegated}
use Rattle.rmm_model.specs.Machine.{Machine, is_aligned, is_inside, is_secure, state_at}
use Rattle.rmm_model.specs.Command.DataCreate.{data_create, source_checks, target_checks}
use Rattle.rmm_model.specs.Command.Operand.{is_host_s}
use Rattle.rmm_model.specs.Command.RealmCreate.{realm_create, params_checks}
use Rattle.rmm_model.specs.Command.RecCreate.{rec_create, aux_checks, number_checks}
use Rattle.rmm_laws.specs.Apart.{IsHostPage, IsFromHost}
use Rattle.rmm_laws.specs.Guest.{IsRecMadeOf}
use Rattle.rmm_laws.specs.Proper.{IsProper}
use Rattle.rmm_laws.specs.Role.{IsSound}
use Rattle.rmm_laws.proofs.Accesses.{secure_page}
use Rattle.rmm_laws.proofs.Entries.{begins}
use Rattle.rmm_laws.proofs.Freed.{succeeded}
use Rattle.rmm_laws.proofs.Passed.{yes_from, is_undelegated-true}
use Rattle.rmm_laws.proofs.RecLives.{rec_created_made}

host_page : (m : Machine) (address : ℕ) → IsSound m → not (is_aligned address) ≡ false → not (is_inside m address) ≡ false → not (is_host_s m address) ≡ false → IsHostPage m address
host_page m address sound aligned within host =
    let inside : is_inside m address ≡ true = yes_from (is_inside m address) within in
    let parts = and_parts (is_undelegated (state_at m address)) (not (is_secure m address)) (yes_from (is_host_s m address) host) in (
      begins m address sound inside (eqb-true _ _ (yes_from (is_aligned address) aligned)),
      is_undelegated-true (state_at m address) parts.0,
      secure_page m address sound inside ∙ not-true (is_secure m address) parts.1,
    )

-- if a call with an input page succeeds, that page is a page of the host outside the secure world
pub read_from_host : (m : Machine) (call : Call) → IsProper m → (performed call m).0.word ≡ Success → IsFromHost m call
unfolding data_create source_checks target_checks realm_create params_checks rec_create aux_checks number_checks
read_from_host m (DataCreate rd page ipa source flags) proper success =
    succeeded (IsHostPage m source) (DataCreate rd page ipa source flags) m refl success (λ ok now. host_page m source proper.linked.sound ok.1.0 ok.1.1.0 ok.1.1.1.0)
read_from_host m (RealmCreate rd params) proper success = succeeded (IsHostPage m params) (RealmCreate rd params) m refl success (λ ok now. host_page m params proper.linked.sound ok.0 ok.1.0 ok.1.1.0)
read_from_host m (RecCreate rd rec params) proper success = succeeded (IsHostPage m params) (RecCreate rd rec params) m refl success (λ ok now. host_page m params proper.linked.sound ok.0 ok.1.0 ok.1.1.0)
read_from_host m _ proper success = tt

-- a REC that is created has what its parameters ask for
pub rec_made : (m : Machine) (rd rec params : ℕ) → IsProper m → (performed (RecCreate rd rec params) m).0.word ≡ Success → IsRecMadeOf m (performed (RecCreate rd rec params) m).1 rd rec params
unfolding rec_create aux_checks number_checks
rec_made m rd rec params proper success =
    succeeded (IsRecMadeOf m (performed (RecCreate rd rec params) m).1 rd rec params) (RecCreate rd rec params) m refl success
    (λ ok now. subst (λ (p : SmcResult × Machine). IsRecMadeOf m p.1 rd rec params) (sym now) (rec_created_made rd rec params m proper ok))
