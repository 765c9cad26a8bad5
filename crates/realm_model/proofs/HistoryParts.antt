-- The proof that a legal history splits into a legal first part and events that can follow that part.
use Rattle.std.proofs.Common.{◌≡◌, ◌≢◌, ℕ, List, [], ◌∷◌, ◌++◌, map, Option, Some, None, refl, sym, ap, ◌∙◌, subst}
use Rattle.std.specs.Prelude.{◌==◌, option_and_then, filter, is_some}
use Rattle.std.proofs.lemmas.List.{append_assoc, append-nil, map-append}
use Rattle.std.proofs.lemmas.List.Elements.{filter-append}
use Rattle.realm_model.specs.declared.act.Event.{Event}
use Rattle.realm_model.specs.Machine.{Limits}
use Rattle.realm_model.specs.World.{World, opening}
use Rattle.realm_model.specs.Step.{step}
use Rattle.realm_model.specs.History.{erase, acts_of, open_entries, unmatched, AllInTurn, after, replay, IsLegal}
use Rattle.realm_model.proofs.LeftOut.{acts_of-erase}

-- the world after two parts of a history is the one that the second part leads to from the world after the first
pub after_append : (limits : Limits) (xs ys : List Event) (w : World) → after limits (xs ++ ys) w ≡ option_and_then (after limits ys) (after limits xs w)
unfolding after
after_append limits [] ys w = refl
after_append limits (x ∷ xs) ys w =
    elim (step limits w x) as (λ o. option_and_then (after limits (xs ++ ys)) o ≡ option_and_then (after limits ys) (option_and_then (after limits xs) o)) [
      | None ↦ refl
      | Some v ↦ after_append limits xs ys v
    ]

-- if `AllInTurn` holds of two joined lists of events, it holds of the first list, and of the second list after the
-- first
AllInTurn_split : (before xs ys : List Event) → AllInTurn before (xs ++ ys) → AllInTurn before xs × AllInTurn (before ++ xs) ys
AllInTurn_split before [] ys h = (tt, subst (λ start. AllInTurn start ys) (sym (append-nil before)) h)
AllInTurn_split before (x ∷ xs) ys h =
    let rest = AllInTurn_split (before ++ x ∷ []) xs ys h.1 in
    ((h.0, rest.0), subst (λ start. AllInTurn start ys) (append_assoc before (x ∷ []) xs) rest.1)

-- the first part `p` of a history is legal, and after it the second part `s` leads to `w` and satisfies `AllInTurn`
pub record Split (limits : Limits) (p s : List Event) (w : World) : Type 0 where
  pub base : World
  pub legal : IsLegal limits p
  pub base_is : replay limits p ≡ Some base
  pub turns : AllInTurn p s
  pub goes_on : after limits s base ≡ Some w

pub split : (limits : Limits) (p s : List Event) (w : World) → IsLegal limits (p ++ s) → replay limits (p ++ s) ≡ Some w → Split limits p s w
split limits p s w legal at_w =
    let turns = AllInTurn_split [] p s legal.in_turn in
    at_base (replay limits p) refl (sym (after_append limits p s (opening limits)) ∙ at_w) turns.0 turns.1
  where
    at_base : (o : Option World) → replay limits p ≡ o → option_and_then (after limits s) o ≡ Some w → AllInTurn [] p → AllInTurn p s → Split limits p s w
    at_base None at e early late = cc
    at_base (Some base) at e early late = record { base = base; legal = record { steps = ap is_some at; in_turn = early }; base_is = at; turns = late; goes_on = e }

-- ---- what is open, after one part and the events of others in the other

-- a build's operations in two parts are those in the first part, and then those in the second
pub acts_of-append : (b : ℕ) (xs ys : List Event) → acts_of b (xs ++ ys) ≡ acts_of b xs ++ acts_of b ys
acts_of-append b xs ys =
    ap (map (λ (x : Event). x.act)) (filter-append (λ (x : Event). x.build == b) xs ys)
    ∙ map-append (λ (x : Event). x.act) (filter (λ (x : Event). x.build == b) xs) (filter (λ (x : Event). x.build == b) ys)

-- a build's open operations stay the same if another build is left out of the second part
pub open_others : (b c : ℕ) → c ≢ b → (xs ys : List Event) → open_entries c (xs ++ erase b ys) ≡ open_entries c (xs ++ ys)
unfolding open_entries
open_others b c apart xs ys = ap unmatched (acts_of-append c xs (erase b ys) ∙ ap (λ acts. acts_of c xs ++ acts) (acts_of-erase b c apart ys) ∙ sym (acts_of-append c xs ys))
