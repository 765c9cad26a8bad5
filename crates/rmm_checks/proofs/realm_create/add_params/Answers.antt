use Rattle.std.proofs.Common.{◌≡◌, ◌<◌, ◌≤◌, ◌*◌, ◌%◌, ◌==◌, ◌||◌, not, nat_le, true, false, [], ◌∷◌, refl, sym, ap, ◌∙◌, arith}
use Rattle.std.proofs.lemmas.Bool.{not-false, leb-true}
use Rattle.rmi_abi.specs.declared.realm_params.RealmParams.{RealmParams}
use Rattle.rmi_abi.specs.declared.settings.RmmSettings.{RmmSettings}
use Rattle.rmm_model.specs.declared.condition.Condition.TheVariants.{ParamsPas, ParamsSupp, RttNumLevel, RttAlign}
use Rattle.rmm_model.specs.Realm.{is_start}
use Rattle.rmm_model.specs.Command.RealmCreate.{params_checks, is_supported, fits_features, is_start_table}
use Rattle.rmm_checks.specs.Evaluated.{is_made}
use Rattle.rmm_checks.proofs.Rows.{on}
use Rattle.rmm_granules.proofs.StartCounts.{all_four, starts}
use Rattle.rmm_checks.proofs.Walked.{told_where, passed_here, absent_on, made_before}
use Rattle.rmm_checks.proofs.realm_create.add_params.Goals as goal

narrow : (s : RmmSettings) (p : RealmParams) → s.s2sz ≤ 48 → is_supported s p ≡ true → p.s2sz ≤ 48
narrow s p most h =
    let parts = all_four (p.flags == 0) (nat_le 32 p.s2sz) (nat_le p.s2sz s.s2sz) (not s.checks_params || fits_features s p) h in
    let below = leb-true p.s2sz s.s2sz parts.third in
    omega arith

pub returns-clause-rows : goal.returns-clause-rows
unfolding params_checks
returns-clause-rows c q same none_supp none_level =
    let settings = c.args.settings.now in
    let pas : is_made c.input.new.self (ParamsPas ∷ []) ≡ true → is_made c.args.checks.now (ParamsPas ∷ []) ≡ true =
    λ made. made_before ParamsPas refl c.input.ensures.rows made in
    let supp : is_made c.input-2.new.self (ParamsSupp ∷ []) ≡ true → (is_made c.input.new.self (ParamsPas ∷ []) ≡ true) × (not c.is_supported-supported.result ≡ false) =
    λ made. passed_here (absent_on ParamsSupp none_supp refl c.input.ensures.rows) c.input-2.ensures.rows made in
    let level : is_made c.input-3.new.self (RttNumLevel ∷ []) ≡ true → (is_made c.input-2.new.self (ParamsSupp ∷ []) ≡ true) × (not c.is_served-served.result ≡ false) =
    λ made. passed_here (absent_on RttNumLevel (absent_on RttNumLevel none_level refl c.input.ensures.rows) refl c.input-2.ensures.rows) c.input-3.ensures.rows made in
    let width : not c.is_supported-supported.result ≡ false → c.args.p.now.s2sz ≤ 48 =
    λ passes. narrow settings c.args.p.now c.requires.narrow (sym c.is_supported-supported.ensures ∙ not-false c.is_supported-supported.result passes) in
    let some : not c.is_served-served.result ≡ false → c.args.p.now.s2sz ≤ 48 → 0 < c.args.p.now.rtt_num_start =
    λ passes fits. (starts c.args.p.now.s2sz c.args.p.now.rtt_level_start c.args.p.now.rtt_num_start (sym (c.is_served-served.ensures fits) ∙ not-false c.is_served-served.result passes)).some in
    on
    (on
    (on
    (on
    (told_where (λ made. (ap not (c.is_hash-valid.ensures ∙ ap (λ (p : RealmParams). nat_le p.hash_algo 1) (same made)), refl)) c.input.ensures.rows)
    (told_where (λ made. (ap not (c.is_supported-supported.ensures ∙ ap (is_supported settings) (same (pas made))), refl)) c.input-2.ensures.rows))
    (told_where (λ made. let s = supp made in
    (ap not (c.is_served-served.ensures (width s.1) ∙ ap (λ (p : RealmParams). is_start p.s2sz p.rtt_level_start p.rtt_num_start) (same (pas s.0))), refl)) c.input-3.ensures.rows))
    (told_where (λ made. let l = level made in let s = supp l.0 in
    (ap not (c.is_base_aligned-aligned.ensures (some l.1 (width s.1)) ∙ ap (λ (p : RealmParams). p.rtt_base % (p.rtt_num_start * 4096) == 0) (same (pas s.0))), refl)) c.input-4.ensures.rows))
    (told_where (λ made. let s = supp (level (made_before RttNumLevel refl c.input-4.ensures.rows made)).0 in
    (c.is_start_table-alias.ensures ∙ ap (λ (p : RealmParams). is_start_table p c.args.rd) (same (pas s.0)), refl)) c.input-5.ensures.rows)

pub returns-clause-passed : goal.returns-clause-passed
returns-clause-passed c none_supp none_level none_align made =
    let align = passed_here (absent_on RttAlign (absent_on RttAlign (absent_on RttAlign none_align refl c.input.ensures.rows) refl c.input-2.ensures.rows) refl c.input-3.ensures.rows) c.input-4.ensures.rows
    (made_before RttAlign refl c.input-5.ensures.rows made) in
    let level = passed_here (absent_on RttNumLevel (absent_on RttNumLevel none_level refl c.input.ensures.rows) refl c.input-2.ensures.rows) c.input-3.ensures.rows align.0 in
    let supp = passed_here (absent_on ParamsSupp none_supp refl c.input.ensures.rows) c.input-2.ensures.rows level.0 in
    made_before ParamsPas refl c.input.ensures.rows supp.0
