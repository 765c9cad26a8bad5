-- Proofs about one more event after a legal history: the history stays legal, and the open operations of other builds
-- do not change. The event is accepted, and if it is a reverse, it undoes its build's newest open operation.
use Rattle.std.proofs.Common.{◌≡◌, ◌≢◌, ℕ, true, false, cond, List, [], ◌∷◌, ◌++◌, map, Option, Some, None, refl, sym, ap, ◌∙◌, subst}
use Rattle.std.specs.Prelude.{◌==◌, option_and_then, is_some, filter}
use Rattle.std.specs.List.{last_or}
use Rattle.std.proofs.lemmas.Bool.{eq-eqb, ne_eqb}
use Rattle.std.proofs.lemmas.List.{append-nil, append_assoc, map-append}
use Rattle.std.proofs.lemmas.List.Elements.{filter-append}
use Rattle.realm_model.specs.declared.act.Act.{Act}
use Rattle.realm_model.specs.declared.act.Event.{Event}
use Rattle.realm_model.specs.Stack.{pushed}
use Rattle.realm_model.specs.Machine.{Limits}
use Rattle.realm_model.specs.World.{World, opening}
use Rattle.realm_model.specs.Step.{step}
use Rattle.realm_model.specs.History.{acts_of, open_entries, unmatched, IsInTurn, AllInTurn, after, replay, IsLegal}
use Rattle.realm_model.specs.Act.{reverse_of, is_paired, is_reverse}
use Rattle.realm_model.specs.Undoing.{by}
use Rattle.realm_model.proofs.Stack.{unmatched_push, pushed_back}
use Rattle.realm_model.proofs.Lists.{front_last}

after_push : (limits : Limits) (es : List Event) (e : Event) (w : World) → after limits (es ++ e ∷ []) w ≡ option_and_then (λ v. step limits v e) (after limits es w)
unfolding after
after_push limits [] e w = elim (step limits w e) as (λ o. option_and_then (λ v. Some v) o ≡ o) [ None ↦ refl | Some v ↦ refl ]
after_push limits (x ∷ es) e w =
    elim (step limits w x) as (λ o. option_and_then (after limits (es ++ e ∷ [])) o ≡ option_and_then (λ v. step limits v e) (option_and_then (after limits es) o)) [
      | None ↦ refl
      | Some v ↦ after_push limits es e v
    ]

AllInTurn_push : (before es : List Event) (e : Event) → AllInTurn before es → IsInTurn (before ++ es) e → AllInTurn before (es ++ e ∷ [])
AllInTurn_push before [] e h turn = (subst (λ b. IsInTurn b e) (append-nil before) turn, tt)
AllInTurn_push before (x ∷ es) e h turn =
    (h.0, AllInTurn_push (before ++ x ∷ []) es e h.1 (subst (λ b. IsInTurn b e) (sym (append_assoc before (x ∷ []) es)) turn))

-- the history with the event is legal, and leads to the world
pub record Grows (limits : Limits) (history : List Event) (event : Event) (world : World) : Type 0 where
  pub legal : IsLegal limits (history ++ event ∷ [])
  pub world_is : replay limits (history ++ event ∷ []) ≡ Some world

pub grows : (limits : Limits) (history : List Event) (event : Event) (w v : World) → IsLegal limits history → replay limits history ≡ Some w
    → step limits w event ≡ Some v → IsInTurn history event → Grows limits history event v
grows limits history event w v legal at_w stepped turn =
    let at_v : replay limits (history ++ event ∷ []) ≡ Some v =
    after_push limits history event (opening limits) ∙ ap (option_and_then (λ x. step limits x event)) at_w ∙ stepped in
    record { legal = record { steps = ap is_some at_v; in_turn = AllInTurn_push [] history event legal.in_turn turn }; world_is = at_v }

-- ---- a build's operations after the event, and those that are open

pub acts_of-own : (history : List Event) (event : Event) → acts_of event.build (history ++ event ∷ []) ≡ acts_of event.build history ++ event.act ∷ []
acts_of-own history event =
    ap (map (λ (x : Event). x.act)) (filter-append (λ x. x.build == event.build) history (event ∷ [])
    ∙ ap (λ t. filter (λ x. x.build == event.build) history ++ cond t (event ∷ []) []) (eq-eqb event.build event.build refl))
    ∙ map-append (λ (x : Event). x.act) (filter (λ x. x.build == event.build) history) (event ∷ [])

pub acts_of-other : (build : ℕ) (history : List Event) (event : Event) → event.build ≢ build → acts_of build (history ++ event ∷ []) ≡ acts_of build history
acts_of-other build history event apart =
    ap (map (λ (x : Event). x.act)) (filter-append (λ x. x.build == build) history (event ∷ [])
    ∙ ap (λ t. filter (λ x. x.build == build) history ++ cond t (event ∷ []) []) (ne_eqb event.build build apart)
    ∙ append-nil (filter (λ x. x.build == build) history))

-- an event changes the open operations of its build as `pushed` says
pub open_entries-own : (history : List Event) (event : Event) → open_entries event.build (history ++ event ∷ []) ≡ pushed (open_entries event.build history) event.act
unfolding open_entries
open_entries-own history event =
    ap unmatched (acts_of-own history event) ∙ unmatched_push (acts_of event.build history) event.act

pub open_entries-other : (build : ℕ) (history : List Event) (event : Event) → event.build ≢ build → open_entries build (history ++ event ∷ []) ≡ open_entries build history
unfolding open_entries
open_entries-other build history event apart = ap unmatched (acts_of-other build history event apart)

-- `act` reverses the newest open operation, and all others stay open
pub record TakesAway (b : ℕ) (history : List Event) (act : Act) : Type 0 where
  pub newest : Act
  pub pairs : reverse_of newest ≡ Some act
  pub open_is : open_entries b history ≡ open_entries b (history ++ by b act ∷ []) ++ newest ∷ []

-- if `option_and_then reverse_of o` is `Some act`, `o` is an operation whose reverse is `act`
reversed_some : (o : Option Act) (act : Act) → option_and_then reverse_of o ≡ Some act → (newest : Act) × (o ≡ Some newest) × (reverse_of newest ≡ Some act)
reversed_some None act e = cc
reversed_some (Some a) act e = (a, refl, e)

pub takes_away : (b : ℕ) (history : List Event) (act : Act) → is_paired act ≡ false → is_reverse act ≡ true → IsInTurn history (by b act) → TakesAway b history act
takes_away b history act p r turn =
    let top = reversed_some (last_or None (open_entries b history)) act (turn r) in
    record {
      newest = top.0;
      pairs = top.2;
      open_is = sym (front_last (open_entries b history) top.0 top.1)
          ∙ ap (λ xs. xs ++ top.0 ∷ []) (sym (open_entries-own history (by b act) ∙ pushed_back (open_entries b history) act p r));
    }
