use Rattle.std.proofs.Common.{◌≡◌, ◌+◌, ◌*◌, ◌^◌, ◌/◌, ◌%◌, ◌<◌, ◌≤◌, List, ℕ, [], ◌∷◌, length, length-append, All, subst, sym, ◌∙◌, arith}
use Rattle.std.proofs.lemmas.List.Elements.{All-push}
use Rattle.schedule_graph.specs.Number.{number_of}
use Rattle.schedule_graph.proofs.Numbers.{push_step}
use Rattle.schedule_graph.proofs.number.push_carry.Goals as goal

pub loop-carry-preserved : goal.loop-carry-preserved
loop-carry-preserved c =
    let digits = c.loop-carry.digits.items in
    let carry = c.loop-carry.carry in
    let old = c.args.digits.now.items in
    let (number, small, longer) = c.loop-carry.invariant in
    subst (λ (xs : List ℕ). (number_of xs + carry / 10 * 10 ^ length xs ≡ number_of old + c.args.carry * 10 ^ length old) × All (λ digit. digit < 10) xs × (length old ≤ length xs))
    (sym c.in_ok-push.ensures.items)
    (push_step digits carry ∙ number, All-push (λ digit. digit < 10) digits (carry % 10) small (omega arith), omega (arith, longer, length-append digits (carry % 10 ∷ [])))
