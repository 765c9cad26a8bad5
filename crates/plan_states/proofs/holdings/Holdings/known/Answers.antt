use Rattle.std.proofs.Common.{◌≡◌, ℕ, List, Some, ap, refl, sym, subst, ◌∙◌}
use Rattle.std.specs.Prelude.{slice_get}
use Rattle.std.proofs.lemmas.Bool.{ltb-true}
use Rattle.std.proofs.lemmas.Bool.Decides.{Decides-eqb}
use Rattle.std.proofs.lemmas.Option.{slice_get_read}
use Rattle.std.proofs.lemmas.Slice.Eq.{slice_eq-Decides}
use Rattle.plan_states.proofs.holdings.Holdings.known.Goals as goal

pub returns-in-Some : goal.returns-in-Some
returns-in-Some c =
    let known = c.in-Some.known.now in
    let same : known ≡ c.args.held.now = (slice_eq-Decides Decides-eqb known c.args.held.now c.eq.result c.eq.ensures).0 c.if-eq.true in
    let all = c.deref.result.now in
    let number = c.in_ok-number.number in
    subst (λ (xs : List (List ℕ)). slice_get xs number ≡ Some c.args.held.now) c.deref.ensures.value
    (slice_get_read all _ number known refl (ltb-true _ _ (sym c.in-Some.ensures.lookup.0)) c.in-Some.ensures.lookup.1 ∙ ap Some same)
