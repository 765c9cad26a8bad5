use Rattle.std.proofs.Common.{◌≡◌, [], ◌∷◌, Some, None, IsUtf8, sym, ap, ◌∙◌, subst}
use Rattle.std.proofs.lemmas.Bool.Decides.{Decides-eqb}
use Rattle.std.proofs.lemmas.Slice.Eq.{strip_prefix_is}
use Rattle.history_text.specs.Acts.{act_of_text}
use Rattle.history_text.specs.Events.{IsEventText}
use Rattle.history_text.specs.Written.{act_text}
use Rattle.history_text.proofs.ActTexts.{act_from_text, IsUtf8-act_text}
use Rattle.history_text.proofs.EventTexts.{space_next, parts_of, is_event}
use Rattle.history_text.proofs.event.parse_event.Goals as goal

pub returns-in_default-strip_prefix-clause-none : goal.returns-in_default-strip_prefix-clause-none
returns-in_default-strip_prefix-clause-none c = λ event is.
    let other = rw c.in_default-strip_prefix.is at (strip_prefix_is Decides-eqb c.in-Some.rest.now (32 ∷ []) _ c.strip_prefix.ensures.cases) in
    other (act_text event.act) (space_next c.in-Some.digit.now c.in-Some.rest.now event (subst (λ text. IsEventText text event) c.in-Some.ensures.cases.0 is))

pub returns-in_err-build-clause-none : goal.returns-in_err-build-clause-none
returns-in_err-build-clause-none c =
    let split = rw c.in-Some-strip_prefix.is at (strip_prefix_is Decides-eqb c.in-Some.rest.now (32 ∷ []) _ c.strip_prefix.ensures.cases) in
    let line = c.in-Some.ensures.cases.0 ∙ ap (λ t. c.in-Some.digit.now ∷ t) split in
    rw c.from_residual.ensures (λ event is.
    let parts = parts_of c.args.line.now c.in-Some.digit.now c.in-Some-strip_prefix.act.now event line is in
    c.in_err-build.ensures.none event.build is.build parts.begins)

pub returns-in_default-from_utf8-clause-none : goal.returns-in_default-from_utf8-clause-none
returns-in_default-from_utf8-clause-none c = λ event is.
    let split = rw c.in-Some-strip_prefix.is at (strip_prefix_is Decides-eqb c.in-Some.rest.now (32 ∷ []) _ c.strip_prefix.ensures.cases) in
    let line = c.in-Some.ensures.cases.0 ∙ ap (λ t. c.in-Some.digit.now ∷ t) split in
    let parts = parts_of c.args.line.now c.in-Some.digit.now c.in-Some-strip_prefix.act.now event line is in
    c.in_default-from_utf8.ensures.cases.0 (subst IsUtf8 (sym parts.act_is) (IsUtf8-act_text event.act is.act))

pub returns-in_err-act-clause-none : goal.returns-in_err-act-clause-none
returns-in_err-act-clause-none c =
    let split = rw c.in-Some-strip_prefix.is at (strip_prefix_is Decides-eqb c.in-Some.rest.now (32 ∷ []) _ c.strip_prefix.ensures.cases) in
    let line = c.in-Some.ensures.cases.0 ∙ ap (λ t. c.in-Some.digit.now ∷ t) split in
    rw c.from_residual-in_err-act.ensures (λ event is.
    let parts = parts_of c.args.line.now c.in-Some.digit.now c.in-Some-strip_prefix.act.now event line is in
    let means = act_from_text c.in-Ok.text.now event.act (c.in-Ok.ensures.cases.0 ∙ parts.act_is) is.act in
    let bad : None ≡ Some event.act = sym c.in_err-act.was ∙ c.act_from_text.ensures ∙ means in
    cc)

pub returns-clause-found : goal.returns-clause-found
returns-clause-found c =
    let split = rw c.in-Some-strip_prefix.is at (strip_prefix_is Decides-eqb c.in-Some.rest.now (32 ∷ []) _ c.strip_prefix.ensures.cases) in
    let line = c.in-Some.ensures.cases.0 ∙ ap (λ t. c.in-Some.digit.now ∷ t) split in
    let build = c.in_ok-build.ensures.found in
    let means : act_of_text c.in-Some-strip_prefix.act.now ≡ Some c.in_ok-act.act =
    ap act_of_text (sym c.in-Ok.ensures.cases.0) ∙ sym c.act_from_text.ensures ∙ c.in_ok-act.was in
    is_event c.args.line.now c.in-Some.digit.now c.in-Some-strip_prefix.act.now (record { build = c.in_ok-build.build; act = c.in_ok-act.act }) line build.0 build.1 means
