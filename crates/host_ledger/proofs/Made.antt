-- Proofs about the list of what a build's open operations created, such as RECs: an operation appends its own items,
-- and its reverse removes them.
use Rattle.std.proofs.Common.{◌≡◌, ℕ, true, false, List, [], ◌∷◌, ◌++◌, Some, sym, ap, ◌∙◌}
use Rattle.std.specs.List.{flat_map}
use Rattle.std.proofs.lemmas.List.{append-nil}
use Rattle.std.proofs.lemmas.List.Concat.{flat_map-append}
use Rattle.realm_model.specs.declared.act.Act.{Act}
use Rattle.realm_model.specs.declared.act.Event.{Event}
use Rattle.realm_model.specs.Act.{is_paired, is_reverse, reverse_of}
use Rattle.realm_model.specs.History.{open_entries, IsInTurn}
use Rattle.realm_model.specs.Undoing.{by}
use Rattle.realm_model.proofs.Growth.{open_entries-own, takes_away}
use Rattle.realm_model.proofs.Stack.{pushed_paired, pushed_other, kind, paired, back, other}

-- a build's list of made items grows and shrinks at its end, if each reverse removes what its operation made
module _ {X : Type 0} (made removed : Act → List X) (same_made : (newest act : Act) → reverse_of newest ≡ Some act → made newest ≡ removed act) where
  abbrev pub made_open : ℕ → List Event → List X
  made_open build history = flat_map made (open_entries build history)

  made_push : (acts : List Act) (act : Act) → flat_map made (acts ++ act ∷ []) ≡ flat_map made acts ++ made act
  made_push acts act = flat_map-append made acts (act ∷ []) ∙ ap (λ xs. flat_map made acts ++ xs) (append-nil (made act))

  module _ (history : List Event) (build : ℕ) (act : Act) (turn : IsInTurn history (by build act)) where
    abbrev grown : List Event
    grown = history ++ by build act ∷ []

    pub opens : is_paired act ≡ true → made_open build grown ≡ made_open build history ++ made act
    opens p = ap (flat_map made) (open_entries-own history (by build act) ∙ pushed_paired (open_entries build history) act p) ∙ made_push (open_entries build history) act

    pub closes : is_paired act ≡ false → is_reverse act ≡ true → made_open build history ≡ made_open build grown ++ removed act
    closes p r =
        let away = takes_away build history act p r turn in
        ap (flat_map made) away.open_is ∙ made_push (open_entries build grown) away.newest ∙ ap (λ xs. made_open build grown ++ xs) (same_made away.newest act away.pairs)

    pub stays : made act ≡ [] → removed act ≡ [] → made_open build grown ≡ made_open build history
    stays none_made none_removed = elim (kind act) [
      | paired p r ↦ opens p ∙ ap (λ xs. made_open build history ++ xs) none_made ∙ append-nil (made_open build history)
      | back p r ↦ sym (closes p r ∙ ap (λ xs. made_open build grown ++ xs) none_removed ∙ append-nil (made_open build grown))
      | other p r ↦ ap (flat_map made) (open_entries-own history (by build act) ∙ pushed_other (open_entries build history) act p r)
    ]
