use Rattle.std.proofs.Common.{◌≡◌, ℕ, ◌++◌, true, List, [], ◌∷◌, refl}
use Rattle.std.proofs.lemmas.Bool.{and_parts}
use Rattle.rmm_model.specs.declared.condition.Condition.TheVariants.{ParamsAlign, ParamsBound, ParamsPas, ParamsValid, RecAlign, RecBound, RecState, NumAux, AuxAlign, AuxBound}
use Rattle.rmm_model.specs.Check.{Check}
use Rattle.rmm_model.specs.Machine.{Machine, is_inside, number_of, page_in}
use Rattle.rmm_model.specs.Command.Operand.{host_checks, delegated_checks, rd_checks, is_host_s}
use Rattle.rmm_model.specs.Command.RecCreate.{rec_create, aux_checks, number_checks}
use Rattle.rmm_checks.specs.declared.rec_create.RecFacts.{RecFacts}
use Rattle.rmm_checks.specs.Evaluated.{Adds, is_made}
use Rattle.rmm_checks.specs.NewRec.{facts_in, aux_rows}
use Rattle.rmm_checks.proofs.Rows.{on, from_none}
use Rattle.rmm_checks.proofs.Sure.{sure}
use Rattle.rmm_checks.proofs.Walked.{absent_in, made_in, made_before_all}
use Rattle.rmm_checks.proofs.MayWalk.{page_inside}
use Rattle.rmm_checks.proofs.rec_create.rec_create.Goals as goal

pub returns : goal.returns
unfolding rec_create aux_checks number_checks
returns g c =
    let m : Machine = c.args.granules.now in
    let page : List ℕ = page_in m (number_of m c.args.params) in
    let facts : RecFacts = facts_in m page c.args.rec in
    let first : List Check = (host_checks ParamsAlign ParamsBound ParamsPas m c.args.params ++ delegated_checks RecAlign RecBound RecState m c.args.rec) ++ rd_checks m c.args.rd in
    let groups : Adds c.new-checks.result first c.add_rd.new.checks = on (on c.add_host.ensures.rows c.add_delegated.ensures.rows) c.add_rd.ensures.rows in
    let before = from_none c.new-checks.ensures groups in
    let read : is_made c.add_rd.new.checks (ParamsPas ∷ []) ≡ true → c.facts_at-facts.result ≡ facts =
    λ made. c.facts_at-facts.ensures (page_inside first ParamsPas ParamsBound (is_host_s m c.args.params) (is_inside m c.args.params) (and_parts (sure 2 first ParamsPas) true (made_in first (ParamsPas ∷ []) 2 before made)).0 refl refl) in
    let aux : Adds c.add_rd.new.checks (aux_rows facts) c.add_aux.new.checks =
    c.add_aux.ensures.rows facts read (absent_in first NumAux before refl) (absent_in first AuxAlign before refl) (absent_in first AuxBound before refl) in
    let read_too : is_made c.add_aux.new.checks (ParamsPas ∷ []) ≡ true → c.facts_at-facts.result ≡ facts =
    λ made. read (made_before_all ParamsPas aux refl made) in
    from_none c.new-checks.ensures (on (on groups aux) (c.add_number.ensures.rows facts read_too (absent_in (first ++ aux_rows facts) ParamsValid (from_none c.new-checks.ensures (on groups aux)) refl)))
