use Rattle.std.proofs.Common.{◌≡◌, true, List, [], ◌∷◌, refl, subst}
use Rattle.std.proofs.lemmas.Bool.{and_parts}
use Rattle.rmi_abi.specs.declared.realm_params.RealmParams.{RealmParams}
use Rattle.rmi_abi.specs.declared.settings.RmmSettings.{RmmSettings}
use Rattle.rmm_model.specs.declared.condition.Condition.TheVariants.{ParamsAlign, ParamsBound, ParamsPas, ParamsSupp, RttNumLevel, RttAlign}
use Rattle.rmm_model.specs.Check.{Check}
use Rattle.rmm_model.specs.Machine.{Machine, is_inside}
use Rattle.rmm_model.specs.Command.Operand.{host_checks, is_host_s}
use Rattle.rmm_model.specs.Command.RealmCreate.{realm_create, params_at, params_checks}
use Rattle.rmm_checks.specs.Evaluated.{Adds, is_made}
use Rattle.rmm_checks.proofs.Rows.{on, from_none}
use Rattle.rmm_checks.proofs.Sure.{sure}
use Rattle.rmm_checks.proofs.Walked.{absent_in, made_in, made_before_all}
use Rattle.rmm_checks.proofs.MayWalk.{page_inside}
use Rattle.rmm_checks.proofs.realm_create.realm_create.Goals as goal

pub returns : goal.returns
unfolding realm_create params_checks
returns g c =
    let m : Machine = c.args.granules.now in
    let p : RealmParams = params_at m c.args.params in
    let first : List Check = host_checks ParamsAlign ParamsBound ParamsPas m c.args.params in
    let before = from_none c.new-checks.ensures c.add_host.ensures.rows in
    let read : is_made c.add_host.new.checks (ParamsPas ∷ []) ≡ true → c.params_at-p.result ≡ p =
    λ made. c.params_at-p.ensures (page_inside first ParamsPas ParamsBound (is_host_s m c.args.params) (is_inside m c.args.params) (and_parts (sure 2 first ParamsPas) true (made_in first (ParamsPas ∷ []) 2 before made)).0 refl refl) in
    let params = subst (λ (s : RmmSettings). Adds c.add_host.new.checks (params_checks s p c.args.rd) c.add_params.new.checks) c.settings-settings.ensures.value
    (c.add_params.ensures.rows p read (absent_in first ParamsSupp before refl) (absent_in first RttNumLevel before refl)) in
    let aligned : is_made c.add_delegated.new.checks (RttAlign ∷ []) ≡ true → c.params_at-p.result ≡ p =
    λ made. read (c.add_params.ensures.passed (absent_in first ParamsSupp before refl) (absent_in first RttNumLevel before refl) (absent_in first RttAlign before refl) (made_before_all RttAlign c.add_delegated.ensures.rows refl made)) in
    let read_too : is_made c.add_delegated.new.checks (ParamsPas ∷ []) ≡ true → c.params_at-p.result ≡ p =
    λ made. read (made_before_all ParamsPas params refl (made_before_all ParamsPas c.add_delegated.ensures.rows refl made)) in
    from_none c.new-checks.ensures (on (on (on c.add_host.ensures.rows params) c.add_delegated.ensures.rows) (c.add_free.ensures.rows p aligned read_too))
