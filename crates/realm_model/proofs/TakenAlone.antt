-- The proof that a build's events alone lead to its part of the world, and that the parts determine the world.
use Rattle.std.proofs.Common.{◌≡◌, ℕ, Bool, true, false, cond, not, List, [], ◌∷◌, ◌++◌, map, Option, Some, None, refl, sym, ap, ◌∙◌, subst, ◌<◌, ◌≤◌, arith}
use Rattle.std.specs.Prelude.{◌==◌, option_map, option_and_then, is_some}
use Rattle.std.specs.List.{last_or}
use Rattle.std.proofs.lemmas.Bool.{eqb-true, eqb-false, eq-eqb, ne_eqb}
use Rattle.std.proofs.lemmas.Option.{same_Some, option_and_then_some}
use Rattle.std.proofs.lemmas.List.{append-nil}
use Rattle.std.proofs.lemmas.List.Elements.{filter-append}
use Rattle.realm_model.specs.declared.act.Event.{Event}
use Rattle.realm_model.specs.Machine.{Cell, Machine, Limits, blank}
use Rattle.realm_model.specs.Act.{reverse_of}
use Rattle.realm_model.specs.World.{World, each, hidden, unleased, is_of_other, opening, part_of}
use Rattle.realm_model.specs.Step.{step}
use Rattle.realm_model.specs.History.{events_of, acts_of, open_entries, unmatched, IsInTurn, AllInTurn, after, replay, IsLegal}
use Rattle.realm_model.specs.Interleaving.{IsLegalAlone, HasSameEvents}
use Rattle.realm_model.proofs.Clean.{IsClean, scrubbed}
use Rattle.realm_model.proofs.HiddenSteps.{step-part_of, part_of-other_step, IsClean-step}
use Rattle.realm_model.proofs.LeftOut.{each-replicate, map-replicate, IsClean-opening}
use Rattle.realm_model.proofs.Lists.{head_or, tail}
use Rattle.realm_model.proofs.Reached.{clean_reached}
use Rattle.realm_model.proofs.StepSays.{step_is}

-- ---- the events of a build

pub events_push : (b : ℕ) (before : List Event) (e : Event) (t : Bool) → (e.build == b) ≡ t → events_of b (before ++ e ∷ []) ≡ events_of b before ++ cond t (e ∷ []) []
events_push b before e t h = filter-append (λ x. x.build == b) before (e ∷ []) ∙ ap (λ t. events_of b before ++ cond t (e ∷ []) []) h

alone_again : (b : ℕ) (es : List Event) → events_of b (events_of b es) ≡ events_of b es
alone_again b [] = refl
alone_again b (e ∷ es) =
    elim (e.build == b) as (λ t. (e.build == b) ≡ t → events_of b (cond t (e ∷ events_of b es) (events_of b es)) ≡ cond t (e ∷ events_of b es) (events_of b es)) [
      | true ↦ λ own. ap (λ t. cond t (e ∷ events_of b (events_of b es)) (events_of b (events_of b es))) own ∙ ap (λ rest. e ∷ rest) (alone_again b es)
      | false ↦ λ other. alone_again b es
    ] refl

-- a build has the same operations in its events alone as in the whole history
acts_of-alone : (b c : ℕ) (es : List Event) → c ≡ b → acts_of c (events_of b es) ≡ acts_of c es
acts_of-alone b c es same = subst (λ n. acts_of n (events_of b es) ≡ acts_of n es) (sym same) (ap (map (λ (x : Event). x.act)) (alone_again b es))

IsInTurn-alone : (b : ℕ) (before : List Event) (e : Event) → e.build ≡ b → IsInTurn before e → IsInTurn (events_of b before) e
unfolding open_entries
IsInTurn-alone b before e own turn = λ r. ap (λ acts. option_and_then reverse_of (last_or None (unmatched acts))) (acts_of-alone b e.build before own) ∙ turn r

AllInTurn-alone : (b : ℕ) (before es : List Event) → AllInTurn before es → AllInTurn (events_of b before) (events_of b es)
AllInTurn-alone b before [] h = tt
AllInTurn-alone b before (e ∷ es) h =
    let next = AllInTurn-alone b (before ++ e ∷ []) es h.1 in
    elim (e.build == b) as (λ t. (e.build == b) ≡ t → AllInTurn (events_of b before) (cond t (e ∷ events_of b es) (events_of b es))) [
      | true ↦ λ own. (IsInTurn-alone b before e (eqb-true e.build b own) h.0, subst (λ start. AllInTurn start (events_of b es)) (events_push b before e true own) next)
      | false ↦ λ other. subst (λ start. AllInTurn start (events_of b es)) (events_push b before e false other ∙ append-nil (events_of b before)) next
    ] refl

-- ---- the world of a build's events

part_of-opening : (limits : Limits) (b : ℕ) → part_of (opening limits) b ≡ opening limits
part_of-opening limits b = λ i. record {
  machine = each-replicate (hidden (is_of_other b)) refl limits.pages i;
  leases = map-replicate (unleased (is_of_other b)) refl limits.pages i;
}

after-alone : (limits : Limits) (b : ℕ) (es : List Event) (w v : World) → IsClean w → after limits es w ≡ Some v → after limits (events_of b es) (part_of w b) ≡ Some (part_of v b)
unfolding after
after-alone limits b [] w v clean h = ap (λ x. Some (part_of x b)) (same_Some _ _ h)
after-alone limits b (e ∷ es) w v clean h =
    option_and_then_some (after limits es) (step limits w e) v h (λ x stepped rest.
    let next = after-alone limits b es x v (IsClean-step limits w x e clean stepped) rest in
    elim (e.build == b) as (λ t. (e.build == b) ≡ t → after limits (cond t (e ∷ events_of b es) (events_of b es)) (part_of w b) ≡ Some (part_of v b)) [
      | true ↦ λ own. ap (option_and_then (after limits (events_of b es))) (step-part_of limits b w x e (eqb-true e.build b own) stepped) ∙ next
      | false ↦ λ other. ap (after limits (events_of b es)) (sym (part_of-other_step limits b w x e (eqb-false e.build b other) clean stepped)) ∙ next
    ] refl)

alone_is : (limits : Limits) (history : List Event) (b : ℕ) (w : World) → replay limits history ≡ Some w → replay limits (events_of b history) ≡ Some (part_of w b)
alone_is limits history b w at_w =
    ap (after limits (events_of b history)) (sym (part_of-opening limits b)) ∙ after-alone limits b history (opening limits) w (IsClean-opening limits) at_w

pub legal_alone : (limits : Limits) (history : List Event) (b : ℕ) → IsLegal limits history → IsLegalAlone limits history b
legal_alone limits history b legal = at_world (replay limits history) refl legal.steps
  where
    at_world : (o : Option World) → replay limits history ≡ o → is_some o ≡ true → IsLegalAlone limits history b
    at_world None e some = cc
    at_world (Some w) e some =
        let alone = alone_is limits history b w e in
        (record { steps = ap is_some alone; in_turn = AllInTurn-alone b [] history legal.in_turn }, alone ∙ sym (ap (option_map (λ x. part_of x b)) e))

-- ---- worlds with the same parts are the same

own_lease : (x : ℕ) → unleased (is_of_other x) (Some x) ≡ Some x
own_lease x = ap (λ t. cond (not t) None (Some x)) (eq-eqb x x refl)

lease_seen : (x : ℕ) (l : Option ℕ) → Some x ≡ unleased (is_of_other x) l → Some x ≡ l
lease_seen x None e = e
lease_seen x (Some y) e = elim (y == x) as (λ t. Some x ≡ cond (not t) None (Some y) → Some x ≡ Some y) [ true ↦ λ e. e | false ↦ λ e. cc ] e

one_lease : (l m : Option ℕ) → ((b : ℕ) → unleased (is_of_other b) l ≡ unleased (is_of_other b) m) → l ≡ m
one_lease None None h = refl
one_lease None (Some y) h = sym (lease_seen y None (sym (own_lease y) ∙ sym (h y)))
one_lease (Some x) m h = lease_seen x m (sym (own_lease x) ∙ h x)

leases_from_parts : (ls ms : List (Option ℕ)) → ((b : ℕ) → map (unleased (is_of_other b)) ls ≡ map (unleased (is_of_other b)) ms) → ls ≡ ms
leases_from_parts [] [] h = refl
leases_from_parts [] (m ∷ ms) h = let e = h 0 in cc
leases_from_parts (l ∷ ls) [] h = let e = h 0 in cc
leases_from_parts (l ∷ ls) (m ∷ ms) h = λ i. one_lease l m (λ b. ap (head_or None) (h b)) i ∷ leases_from_parts ls ms (λ b. ap tail (h b)) i

one_cell : (l : Option ℕ) (c d : Cell) → scrubbed l c ≡ c → scrubbed l d ≡ d → ((b : ℕ) → hidden (is_of_other b) l c ≡ hidden (is_of_other b) l d) → c ≡ d
one_cell None c d clean_c clean_d h = sym clean_c ∙ clean_d
one_cell (Some x) c d clean_c clean_d h = sym (own c) ∙ h x ∙ own d
  where
    own : (c : Cell) → hidden (is_of_other x) (Some x) c ≡ c
    own c = ap (λ t. cond (not t) blank c) (eq-eqb x x refl)

cells_from_parts : (ls : List (Option ℕ)) (cs ds : Machine) → each scrubbed ls cs ≡ cs → each scrubbed ls ds ≡ ds
    → ((b : ℕ) → each (hidden (is_of_other b)) ls cs ≡ each (hidden (is_of_other b)) ls ds) → cs ≡ ds
cells_from_parts [] cs ds clean_c clean_d h = sym clean_c ∙ clean_d
cells_from_parts (l ∷ ls) [] [] clean_c clean_d h = refl
cells_from_parts (l ∷ ls) [] (d ∷ ds) clean_c clean_d h = let e = h 0 in cc
cells_from_parts (l ∷ ls) (c ∷ cs) [] clean_c clean_d h = let e = h 0 in cc
cells_from_parts (l ∷ ls) (c ∷ cs) (d ∷ ds) clean_c clean_d h =
    λ i. one_cell l c d (ap (head_or blank) clean_c) (ap (head_or blank) clean_d) (λ b. ap (head_or blank) (h b)) i
    ∷ cells_from_parts ls cs ds (ap tail clean_c) (ap tail clean_d) (λ b. ap tail (h b)) i

same_parts : (w v : World) → IsClean w → IsClean v → ((b : ℕ) → part_of w b ≡ part_of v b) → w ≡ v
same_parts w v clean_w clean_v h =
    let leases : w.leases ≡ v.leases = leases_from_parts w.leases v.leases (λ b. ap (λ (x : World). x.leases) (h b)) in
    let machine : w.machine ≡ v.machine =
    cells_from_parts w.leases w.machine v.machine clean_w (subst (λ ls. each scrubbed ls v.machine ≡ v.machine) (sym leases) clean_v)
    (λ b. ap (λ (x : World). x.machine) (h b) ∙ ap (λ ls. each (hidden (is_of_other b)) ls v.machine) (sym leases)) in
    λ i. record { machine = machine i; leases = leases i }

-- ---- the same events of each build

-- a build that does not exist has no events
none_after : (limits : Limits) (b : ℕ) → limits.builds ≤ b → (es : List Event) (w v : World) → after limits es w ≡ Some v → events_of b es ≡ []
unfolding after
none_after limits b past [] w v h = refl
none_after limits b past (e ∷ es) w v h = option_and_then_some (after limits es) (step limits w e) v h (λ x stepped rest.
    let below : e.build < limits.builds = (step_is limits w x e stepped).build in
    ap (λ t. cond t (e ∷ events_of b es) (events_of b es)) (ne_eqb e.build b (λ same. omega (arith, below, past, same))) ∙ none_after limits b past es x v rest)

pub none_there : (limits : Limits) (b : ℕ) → limits.builds ≤ b → (history : List Event) (w : World) → replay limits history ≡ Some w → events_of b history ≡ []
none_there limits b past history w at_w = none_after limits b past history (opening limits) w at_w

pub same_reached : (limits : Limits) (history other : List Event) (w v : World) → replay limits history ≡ Some w → replay limits other ≡ Some v → HasSameEvents history other → w ≡ v
same_reached limits history other w v at_w at_v same =
    same_parts w v (clean_reached limits history w at_w) (clean_reached limits other v at_v)
    (λ b. same_Some _ _ (sym (alone_is limits history b w at_w) ∙ ap (replay limits) (same b) ∙ alone_is limits other b v at_v))

pub schedule_does_not_matter : (limits : Limits) (history other : List Event) → IsLegal limits history → IsLegal limits other → HasSameEvents history other → replay limits history ≡ replay limits other
schedule_does_not_matter limits history other legal too same = at_worlds (replay limits history) (replay limits other) refl refl legal.steps too.steps
  where
    at_worlds : (o p : Option World) → replay limits history ≡ o → replay limits other ≡ p → is_some o ≡ true → is_some p ≡ true → o ≡ p
    at_worlds None p at_o at_p some also = cc
    at_worlds (Some w) None at_o at_p some also = cc
    at_worlds (Some w) (Some v) at_o at_p some also = ap Some (same_reached limits history other w v at_o at_p same)
