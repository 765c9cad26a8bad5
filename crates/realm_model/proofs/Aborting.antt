-- The proof that no other build can prevent the abort of a build that runs no RECs.
use Rattle.std.proofs.Common.{◌≡◌, ℕ, true, false, ⊎_elim, List, [], ◌∷◌, ◌++◌, reverse, Some, None, sym, ap, ◌∙◌, subst}
use Rattle.std.specs.Prelude.{not, ◌==◌}
use Rattle.std.specs.List.{All}
use Rattle.std.proofs.lemmas.Bool.{cases_eq}
use Rattle.std.proofs.lemmas.Option.{same_Some, option_and_then_some}
use Rattle.std.proofs.lemmas.List.{append_assoc, append-nil, reverse-append}
use Rattle.std.proofs.lemmas.List.Elements.{filter-append, All-head, All-tail}
use Rattle.realm_model.specs.declared.act.Act.{Act}
use Rattle.realm_model.specs.declared.act.Event.{Event}
use Rattle.realm_model.specs.Machine.{Limits}
use Rattle.realm_model.specs.Act.{is_reverse, is_paired, reverse_of}
use Rattle.realm_model.specs.World.{World, realm_of}
use Rattle.realm_model.specs.Step.{step}
use Rattle.realm_model.specs.Running.{IsAtRest}
use Rattle.realm_model.specs.History.{erase, acts_of, open_entries, after, replay, IsInTurn, AllInTurn, IsLegal}
use Rattle.realm_model.specs.Undoing.{by, reverses}
use Rattle.realm_model.specs.Aborting.{IsOthersOrReverse, StaysAtRest, AbortGoesOn}
use Rattle.realm_model.proofs.AtRest.{rests_still, not_running}
use Rattle.realm_model.proofs.Booleans.{true_false}
use Rattle.realm_model.proofs.Emptied.{emptied}
use Rattle.realm_model.proofs.Growth.{acts_of-own, acts_of-other, open_entries-other, takes_away, grows}
use Rattle.realm_model.proofs.HistoryParts.{split, acts_of-append}
use Rattle.realm_model.proofs.RealmOf.{realm_of-other_step}
use Rattle.realm_model.proofs.Rests.{rest_from, rest_is_of_all}
use Rattle.realm_model.proofs.Stack.{kind, paired, back, other}
use Rattle.realm_model.proofs.UndoAll.{undone_next}
use Rattle.realm_model.proofs.ZeroPages.{kept_reached, kept_step}

-- ---- one event

pub stays_at_rest : (limits : Limits) (history : List Event) (w : World) (b : ℕ) (e : Event) (v : World) → replay limits history ≡ Some w → StaysAtRest limits w b e v
stays_at_rest limits history w b e v at_w rest undoing s = ⊎_elim
    (λ same.
    let kept = kept_reached limits b history w at_w in
    let stepped : step limits w (by b e.act) ≡ Some v = ap (λ n. step limits w (by n e.act)) (sym same) ∙ s in
    rest_from (realm_of b v) (λ n. rests_still limits b w v kept (kept_step limits b w v e kept s) e.act (undoing same) stepped n ((rest_is_of_all limits history b w at_w).0 rest n)))
    (λ apart. subst IsAtRest (sym (realm_of-other_step limits b w v e apart (kept_reached limits b history w at_w).sound.clean s)) rest)
    (cases_eq e.build b)

-- ---- what is undone

-- if operations are undone, the reverse of the newest comes first, and the reverses of the earlier operations follow
reverses_push : (acts : List Act) (newest act : Act) → reverse_of newest ≡ Some act → reverses (reverse (acts ++ newest ∷ [])) ≡ act ∷ reverses (reverse acts)
reverses_push acts newest act e =
    ap reverses (reverse-append acts (newest ∷ []))
    ∙ ap (λ o. elim o [ Some r ↦ r ∷ reverses (reverse acts) | None ↦ reverses (reverse acts) ]) e

reverse_unpaired : (act : Act) → is_reverse act ≡ true → is_paired act ≡ false
reverse_unpaired act h = elim (kind act) [ paired p r ↦ absurd (true_false _ h r) | back p r ↦ p | other p r ↦ p ]

-- the reverses that are still to be performed: those of the build's open operations, the newest first
abbrev ToUndo : ℕ → List Event → List Act
ToUndo b history = reverses (reverse (open_entries b history))

undone_one : (b : ℕ) (before : List Event) (e : Event) → IsInTurn before e → IsOthersOrReverse b e → acts_of b (e ∷ []) ++ ToUndo b (before ++ e ∷ []) ≡ ToUndo b before
undone_one b before e turn undoing = ⊎_elim
    (λ same.
    let event : by b e.act ≡ e = λ i. record { build = sym same i; act = e.act } in
    subst (λ x. acts_of b (x ∷ []) ++ ToUndo b (before ++ x ∷ []) ≡ ToUndo b before) event
    (own e.act (undoing same) (subst (IsInTurn before) (sym event) turn)))
    (λ apart. ap (λ acts. acts ++ ToUndo b (before ++ e ∷ [])) (acts_of-other b [] e apart) ∙ ap (λ acts. reverses (reverse acts)) (open_entries-other b before e apart))
    (cases_eq e.build b)
  where
    own : (act : Act) → is_reverse act ≡ true → IsInTurn before (by b act) → acts_of b (by b act ∷ []) ++ ToUndo b (before ++ by b act ∷ []) ≡ ToUndo b before
    own act r turn =
        let away = takes_away b before act (reverse_unpaired act r) r turn in
        ap (λ acts. acts ++ ToUndo b (before ++ by b act ∷ [])) (acts_of-own [] (by b act))
        ∙ sym (ap (λ acts. reverses (reverse acts)) away.open_is ∙ reverses_push (open_entries b (before ++ by b act ∷ [])) away.newest act away.pairs)

module _ (limits : Limits) (b : ℕ) where
  pub record Went (before later : List Event) (v : World) : Type 0 where
    pub rest : IsAtRest (realm_of b v)
    pub undone : acts_of b later ++ ToUndo b (before ++ later) ≡ ToUndo b before

  went : (before later : List Event) (w v : World) → IsLegal limits before → replay limits before ≡ Some w → AllInTurn before later → after limits later w ≡ Some v
      → All (IsOthersOrReverse b) later → IsAtRest (realm_of b w) → Went before later v
  unfolding after
  went before [] w v legal at_w turns done undoing rest = record {
    rest = subst (λ x. IsAtRest (realm_of b x)) (same_Some _ _ done) rest;
    undone = ap (ToUndo b) (append-nil before);
  }
  went before (e ∷ later) w v legal at_w turns done undoing rest =
      option_and_then_some (after limits later) (step limits w e) v done (λ x stepped more.
      let grown = grows limits before e w x legal at_w stepped turns.0 in
      let first = All-head (IsOthersOrReverse b) e later undoing in
      let next = went (before ++ e ∷ []) later x v grown.legal grown.world_is turns.1 more (All-tail (IsOthersOrReverse b) e later undoing)
      (stays_at_rest limits before w b e x at_w rest first stepped) in
      record {
        rest = next.rest;
        undone = ap (λ acts. acts ++ ToUndo b (before ++ e ∷ later)) (acts_of-append b (e ∷ []) later)
            ∙ ap (λ es. (acts_of b (e ∷ []) ++ acts_of b later) ++ ToUndo b es) (sym (append_assoc before (e ∷ []) later))
            ∙ append_assoc (acts_of b (e ∷ [])) (acts_of b later) (ToUndo b ((before ++ e ∷ []) ++ later))
            ∙ ap (λ acts. acts_of b (e ∷ []) ++ acts) next.undone
            ∙ undone_one b before e turns.0 first;
      })

pub abort_goes_on : (limits : Limits) (history later : List Event) (b : ℕ) (begun w : World) → IsLegal limits (history ++ later) → replay limits history ≡ Some begun
    → replay limits (history ++ later) ≡ Some w
    → AbortGoesOn limits history later b begun w
abort_goes_on limits history later b begun w legal at_begun at_w rest undoing =
    let parts = split limits history later w legal at_w in
    let base : parts.base ≡ begun = same_Some _ _ (sym parts.base_is ∙ at_begun) in
    let end = went limits b history later parts.base w parts.legal parts.base_is parts.turns parts.goes_on undoing (subst (λ x. IsAtRest (realm_of b x)) (sym base) rest) in
    let others : erase b (history ++ later) ≡ erase b history ++ erase b later = filter-append (λ (x : Event). not (x.build == b)) history later in
    record {
      rest = end.rest;
      next = λ act top. undone_next limits (history ++ later) b w act legal at_w top (not_running (realm_of b w) ((rest_is_of_all limits (history ++ later) b w at_w).0 end.rest) act);
      undone = end.undone;
      others = others;
      no_trace = λ none. ap (replay limits) (sym others) ∙ emptied limits b (history ++ later) w legal at_w none;
    }
