use Rattle.std.proofs.Common.{◌≡◌, ℕ, ◌++◌, true, List, [], ◌∷◌, refl, ap, subst, ◌&&◌, ◌∙◌}
use Rattle.std.proofs.lemmas.Bool.{and_parts}
use Rattle.rmi_abi.specs.RecRun.{flags_in}
use Rattle.rmm_model.specs.declared.condition.Condition.{Condition}
use Rattle.rmm_model.specs.declared.condition.Condition.TheVariants.{RunAlign, RunBound, RunPas, RecAlign, RecBound, RecGranState, RecState, RecMmio}
use Rattle.rmm_model.specs.declared.realm.RmmRealmState.{RmmRealmState}
use Rattle.rmm_model.specs.declared.rec.RmmRec.{RmmRec}
use Rattle.rmm_model.specs.Check.{Check, check, error_rec}
use Rattle.rmm_model.specs.Machine.{Machine, is_inside, number_of, page_in}
use Rattle.rmm_model.specs.Command.Operand.{host_checks, rec_checks, rec_at, is_host_s}
use Rattle.rmm_model.specs.Command.PsciComplete.{is_pending}
use Rattle.rmm_model.specs.Command.RecEnter.{rec_enter, enter_checks, state_of, owner_realm, is_no_mmio}
use Rattle.rmm_checks.specs.Evaluated.{Adds, is_made}
use Rattle.rmm_checks.specs.Ready.{ready_checks}
use Rattle.rmm_checks.proofs.Rows.{on, told, from_none}
use Rattle.rmm_checks.proofs.Sure.{sure}
use Rattle.rmm_checks.proofs.Walked.{told_where, made_in}
use Rattle.rmm_checks.proofs.MayWalk.{page_inside}
use Rattle.rmm_checks.proofs.rec_enter.rec_enter.Goals as goal

pub returns : goal.returns
unfolding rec_enter enter_checks
returns g c =
    let m : Machine = c.args.granules.now in
    let page : List ℕ = page_in m (number_of m c.args.address) in
    let rec : RmmRec = rec_at m c.args.rec in
    let state : RmmRealmState = state_of (owner_realm m (number_of m c.args.rec)) in
    let after : List Condition = RecState ∷ RunPas ∷ [] in
    let first : List Check = (host_checks RunAlign RunBound RunPas m c.args.address ++ rec_checks RecAlign RecBound RecGranState m c.args.rec) ++ ready_checks state rec in
    let state_is = c.state_of-state.ensures ∙ ap state_of c.owner_realm-owner.ensures in
    let ready = subst (λ (r : RmmRec). Adds c.add_rec.new.checks (ready_checks state r) c.add_ready.new.checks) c.rec_at-found.ensures
    (subst (λ (s : RmmRealmState). Adds c.add_rec.new.checks (ready_checks s c.rec_at-found.result) c.add_ready.new.checks) state_is c.add_ready.ensures.rows) in
    let groups : Adds c.new-checks.result first c.add_ready.new.checks = on (on c.add_host.ensures.rows c.add_rec.ensures.rows) ready in
    let inside : is_made c.add_ready.new.checks after ≡ true → is_inside m c.args.address ≡ true =
    λ made.
    let both = and_parts (sure 2 first RecState) (sure 2 first RunPas && true) (made_in first after 2 (from_none c.new-checks.ensures groups) made) in
    page_inside first RunPas RunBound (is_host_s m c.args.address) (is_inside m c.args.address) (and_parts (sure 2 first RunPas) true both.1).0 refl refl in
    let mmio : Adds c.add_ready.new.checks (check RecMmio after (is_no_mmio rec (flags_in page)) error_rec ∷ []) c.rec.new.self =
    told_where (λ made. (c.is_no_mmio-no_mmio.ensures ∙ ap (λ (r : RmmRec). is_no_mmio r c.flags_at-flags.result) c.rec_at-found.ensures ∙ ap (is_no_mmio rec) (c.flags_at-flags.ensures (inside made)), refl)) c.rec.ensures.rows in
    let second : List Check = first ++ check RecMmio after (is_no_mmio rec (flags_in page)) error_rec ∷ [] in
    let inside_too : is_made c.rec.new.self after ≡ true → is_inside m c.args.address ≡ true =
    λ made.
    let both = and_parts (sure 2 second RecState) (sure 2 second RunPas && true) (made_in second after 2 (from_none c.new-checks.ensures (on groups mmio)) made) in
    page_inside second RunPas RunBound (is_host_s m c.args.address) (is_inside m c.args.address) (and_parts (sure 2 second RunPas) true both.1).0 refl refl in
    from_none c.new-checks.ensures
    (on
    (on (on groups mmio) (told_where (λ made. (c.is_gic_wrong-is_wrong.ensures (inside_too made), refl)) c.rec-2.ensures.rows))
    (told (c.is_pending-pending.ensures ∙ ap (λ (r : RmmRec). is_pending r.psci) c.rec_at-found.ensures) c.rec-3.ensures.rows))
