use Rattle.std.proofs.Common.{◌∷◌, [], ◌++◌, take, string_bytes, ap, sym, ◌∙◌, subst}
use Rattle.std.proofs.lemmas.List.{take_more}
use Rattle.view_program.specs.Why.{AppendsTurns}
use Rattle.view_program.proofs.TurnTexts.{AppendsTurns-more}
use Rattle.view_program.proofs.plan_reasons.push_turns.Goals as goal

pub loop-turn-preserved : goal.loop-turn-preserved
loop-turn-preserved c =
    let turns = c.args.turns.now in
    let i = c.loop-turn.turn-index in
    let turn = c.turn-item.result in
    subst (λ them. AppendsTurns c.args.all them (string_bytes c.args.text.now) (string_bytes c.push_turn.new.text))
    (ap (λ t. take i turns ++ t ∷ []) c.turn-item.is ∙ sym (take_more turns i turn c.loop-turn-test.true))
    (AppendsTurns-more c.args.all (take i turns) turn _ _ _ c.loop-turn.invariant c.in_ok-push_turn.ensures)
