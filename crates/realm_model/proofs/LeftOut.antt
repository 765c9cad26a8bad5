-- The theorem that a build can be left out of a history.
use Rattle.std.proofs.Common.{◌≡◌, ◌≢◌, ℕ, zero, suc, Bool, true, false, cond, not, List, [], ◌∷◌, ◌++◌, map, Option, Some, None, refl, sym, ap, ◌∙◌, subst}
use Rattle.std.specs.Prelude.{◌==◌, option_map, option_and_then, is_some, filter, replicate}
use Rattle.std.specs.List.{last_or}
use Rattle.std.proofs.lemmas.Bool.{eqb-true, eqb-false, ne_eqb}
use Rattle.std.proofs.lemmas.Option.{option_and_then_some}
use Rattle.std.proofs.lemmas.List.Elements.{filter-append}
use Rattle.std.proofs.lemmas.List.{append-nil}
use Rattle.realm_model.specs.declared.act.Act.{Act}
use Rattle.realm_model.specs.declared.act.Event.{Event}
use Rattle.realm_model.specs.Machine.{Cell, Limits, blank}
use Rattle.realm_model.specs.Act.{reverse_of}
use Rattle.realm_model.specs.World.{World, each, hidden, unleased, is_of, opening, without}
use Rattle.realm_model.specs.Step.{step}
use Rattle.realm_model.specs.History.{erase, acts_of, open_entries, unmatched, IsInTurn, AllInTurn, after, replay, IsLegal, Noninterference}
use Rattle.realm_model.proofs.HiddenSteps.{step-without, without-own_step, IsClean-step}
use Rattle.realm_model.proofs.Clean.{IsClean, scrubbed}

-- ---- the opening world

pub each-replicate : (f : Option ℕ → Cell → Cell) → f None blank ≡ blank → (n : ℕ) → each f (replicate n None) (replicate n blank) ≡ replicate n blank
each-replicate f e zero = refl
each-replicate f e (suc n) = λ i. e i ∷ each-replicate f e n i

pub map-replicate : (f : Option ℕ → Option ℕ) → f None ≡ None → (n : ℕ) → map f (replicate n None) ≡ replicate n None
map-replicate f e zero = refl
map-replicate f e (suc n) = λ i. e i ∷ map-replicate f e n i

pub IsClean-opening : (limits : Limits) → IsClean (opening limits)
IsClean-opening limits = each-replicate scrubbed refl limits.pages

without-opening : (limits : Limits) (b : ℕ) → without (opening limits) b ≡ opening limits
without-opening limits b = λ i. record {
  machine = each-replicate (hidden (is_of b)) refl limits.pages i;
  leases = map-replicate (unleased (is_of b)) refl limits.pages i;
}

-- ---- worlds

after-erase : (limits : Limits) (b : ℕ) (es : List Event) (w v : World) → IsClean w → after limits es w ≡ Some v → after limits (erase b es) (without w b) ≡ Some (without v b)
unfolding after
after-erase limits b [] w v clean h = let same : w ≡ v = cc in ap (λ x. Some (without x b)) same
after-erase limits b (e ∷ es) w v clean h =
    option_and_then_some (after limits es) (step limits w e) v h (λ x stepped rest.
    let next = after-erase limits b es x v (IsClean-step limits w x e clean stepped) rest in
    elim (e.build == b) as (λ t. (e.build == b) ≡ t → after limits (cond (not t) (e ∷ erase b es) (erase b es)) (without w b) ≡ Some (without v b)) [
      | true ↦ λ own. ap (after limits (erase b es)) (sym (without-own_step limits b w x e (eqb-true e.build b own) clean stepped)) ∙ next
      | false ↦ λ other. ap (option_and_then (after limits (erase b es))) (step-without limits b w x e (eqb-false e.build b other) stepped) ∙ next
    ] refl)

-- ---- what is open

abbrev acts_or : Bool → Event → List Act → List Act
acts_or t e acts = cond t (e.act ∷ acts) acts

map-act : (c : ℕ) (e : Event) (es : List Event) → acts_of c (e ∷ es) ≡ acts_or (e.build == c) e (acts_of c es)
map-act c e es = elim (e.build == c) as (λ t. map (λ (x : Event). x.act) (cond t (e ∷ filter (λ x. x.build == c) es) (filter (λ x. x.build == c) es)) ≡ acts_or t e (acts_of c es))
    [ true ↦ refl | false ↦ refl ]

pub acts_of-erase : (b c : ℕ) → c ≢ b → (es : List Event) → acts_of c (erase b es) ≡ acts_of c es
acts_of-erase b c apart [] = refl
acts_of-erase b c apart (e ∷ es) =
    let rest = acts_of-erase b c apart es in
    elim (e.build == b) as (λ t. (e.build == b) ≡ t → acts_of c (cond (not t) (e ∷ erase b es) (erase b es)) ≡ acts_of c (e ∷ es)) [
      | true ↦ λ own. rest ∙ sym (ap (λ t. acts_or t e (acts_of c es)) (ap (λ x. x == c) (eqb-true e.build b own) ∙ ne_eqb b c (λ q. apart (sym q)))) ∙ sym (map-act c e es)
      | false ↦ λ other. map-act c e (erase b es) ∙ ap (acts_or (e.build == c) e) rest ∙ sym (map-act c e es)
    ] refl

-- a build has no operations in a history from which its events are left out
pub acts_of-erased : (b : ℕ) (es : List Event) → acts_of b (erase b es) ≡ []
acts_of-erased b [] = refl
acts_of-erased b (e ∷ es) = elim (e.build == b) as (λ t. (e.build == b) ≡ t → acts_of b (cond (not t) (e ∷ erase b es) (erase b es)) ≡ []) [
  | true ↦ λ own. acts_of-erased b es
  | false ↦ λ other. map-act b e (erase b es) ∙ ap (λ t. acts_or t e (acts_of b (erase b es))) other ∙ acts_of-erased b es
] refl

IsInTurn-erase : (b : ℕ) (before : List Event) (e : Event) → e.build ≢ b → IsInTurn before e → IsInTurn (erase b before) e
unfolding open_entries
IsInTurn-erase b before e apart turn = λ r. ap (λ acts. option_and_then reverse_of (last_or None (unmatched acts))) (acts_of-erase b e.build apart before) ∙ turn r

-- appending an event to a history appends the event to the history without a build, unless the event is of that build
pub erase_push : (b : ℕ) (before : List Event) (e : Event) (t : Bool) → (e.build == b) ≡ t → erase b (before ++ e ∷ []) ≡ erase b before ++ cond (not t) (e ∷ []) []
erase_push b before e t h = filter-append (λ x. not (x.build == b)) before (e ∷ []) ∙ ap (λ t. erase b before ++ cond (not t) (e ∷ []) []) h

AllInTurn-erase : (b : ℕ) (before es : List Event) → AllInTurn before es → AllInTurn (erase b before) (erase b es)
AllInTurn-erase b before [] h = tt
AllInTurn-erase b before (e ∷ es) h =
    let next = AllInTurn-erase b (before ++ e ∷ []) es h.1 in
    elim (e.build == b) as (λ t. (e.build == b) ≡ t → AllInTurn (erase b before) (cond (not t) (e ∷ erase b es) (erase b es))) [
      | true ↦ λ own. subst (λ start. AllInTurn start (erase b es)) (erase_push b before e true own ∙ append-nil (erase b before)) next
      | false ↦ λ other. (IsInTurn-erase b before e (eqb-false e.build b other) h.0, subst (λ start. AllInTurn start (erase b es)) (erase_push b before e false other) next)
    ] refl

-- ---- legal histories

module _ (limits : Limits) (history : List Event) (build : ℕ) (turns : AllInTurn [] history) where
  at_world : (o : Option World) → replay limits history ≡ o → is_some o ≡ true → Noninterference limits history build
  at_world None e some = cc
  at_world (Some v) e some =
      let left : replay limits (erase build history) ≡ Some (without v build) =
      ap (after limits (erase build history)) (sym (without-opening limits build))
      ∙ after-erase limits build history (opening limits) v (IsClean-opening limits) e in
      (record { steps = ap is_some left; in_turn = AllInTurn-erase build [] history turns }, left ∙ sym (ap (option_map (λ w. without w build)) e))

pub noninterference : (limits : Limits) (history : List Event) (build : ℕ) → IsLegal limits history → Noninterference limits history build
noninterference limits history build legal = at_world limits history build legal.in_turn (replay limits history) refl legal.steps
