use Rattle.std.proofs.Common.{◌≡◌, ◌+◌, ◌<◌, ◌≤◌, List, ℕ, [], ◌∷◌, length, length-append, All, subst, sym, arith}
use Rattle.std.proofs.lemmas.List.Elements.{All-push}
use Rattle.schedule_graph.specs.Number.{number_of}
use Rattle.schedule_graph.proofs.Numbers.{number_of-push}
use Rattle.schedule_graph.proofs.number.pad.Goals as goal

pub loop-place-preserved : goal.loop-place-preserved
loop-place-preserved c =
    let digits = c.loop-place.digits.items in
    let (number, small, long) = c.loop-place.invariant in
    subst (λ (xs : List ℕ). (number_of xs ≡ number_of c.args.digits.now.items) × All (λ digit. digit < 10) xs × (c.loop-place._place + 1 ≤ length xs))
    (sym c.in_ok-push.ensures.items)
    (omega (arith, number, number_of-push digits 0), All-push (λ digit. digit < 10) digits 0 small (omega arith), omega (arith, long, length-append digits (0 ∷ [])))
