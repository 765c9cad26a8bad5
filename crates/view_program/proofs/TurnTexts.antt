-- Proofs that the text of a run's turns, followed by the text of one more turn, is the text of the longer run.
use Rattle.std.proofs.Common.{◌≡◌, ℕ, Bool, List, [], ◌∷◌, ◌++◌, refl, sym, ap, ◌∙◌, append_assoc}
use Rattle.std.proofs.lemmas.List.{append-nil}
use Rattle.explain.specs.declared.explained.ExplainedTurn.{ExplainedTurn}
use Rattle.view_program.specs.Why.{IsTurnText, AreTurnTexts, AppendsTurn, AppendsTurns}

more : (all : Bool) (turns : List ExplainedTurn) (turn : ExplainedTurn) (lines text : List ℕ) → AreTurnTexts all turns lines
    → IsTurnText all turn text → AreTurnTexts all (turns ++ turn ∷ []) (lines ++ text)
more all [] turn lines text none is = (text, [], is, refl, ap (λ (l : List ℕ). l ++ text) none ∙ sym (append-nil text))
more all (t ∷ turns) turn lines text them is =
    (them.0, them.1 ++ text, them.2, more all turns turn them.1 text them.3 is, ap (λ (l : List ℕ). l ++ text) them.4 ∙ append_assoc them.0 them.1 text)

pub AppendsTurns-more : (all : Bool) (turns : List ExplainedTurn) (turn : ExplainedTurn) (old mid new : List ℕ) → AppendsTurns all turns old mid
    → AppendsTurn all turn mid new → AppendsTurns all (turns ++ turn ∷ []) old new
AppendsTurns-more all turns turn old mid new before this = record {
  lines = before.lines ++ this.text;
  of_turns = more all turns turn before.lines this.text before.of_turns this.is_text;
  appended = this.appended ∙ ap (λ (l : List ℕ). l ++ this.text) before.appended ∙ append_assoc old before.lines this.text;
}
