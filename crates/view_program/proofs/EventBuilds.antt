-- Proofs that each event in a legal history belongs to a build of the machine, and lemmas about the event at an index
-- of a history.
use Rattle.std.proofs.Common.{◌≡◌, ℕ, zero, suc, ◌<◌, ◌≤◌, true, false, ltb, List, [], ◌∷◌, length, get_or, Option, Some, None, refl, sym, ap, subst, arith}
use Rattle.std.specs.Prelude.{is_some, slice_get, IfSome}
use Rattle.std.proofs.lemmas.Bool.Decides.{nat_tests}
use Rattle.std.proofs.lemmas.Option.{same_Some, option_and_then_some, slice_get_read, slice_get_past}
use Rattle.realm_model.specs.declared.act.Event.{Event}
use Rattle.realm_model.specs.Machine.{Limits}
use Rattle.realm_model.specs.World.{World, opening}
use Rattle.realm_model.specs.Step.{step}
use Rattle.realm_model.specs.History.{after, replay, IsLegal}
use Rattle.realm_model.proofs.StepSays.{step_is}

-- each event that is replayed belongs to a build of the machine
event_after : (limits : Limits) (events : List Event) (place : ℕ) (event : Event) (w v : World) → slice_get events place ≡ Some event
    → after limits events w ≡ Some v → event.build < limits.builds
unfolding after
event_after limits [] place event w v found h = cc
event_after limits (e ∷ es) zero event w v found h = option_and_then_some (after limits es) (step limits w e) v h (λ x stepped rest.
    subst (λ (it : Event). it.build < limits.builds) (same_Some _ _ found) (step_is limits w x e stepped).build)
event_after limits (e ∷ es) (suc place) event w v found h = option_and_then_some (after limits es) (step limits w e) v h (λ x stepped rest.
    event_after limits es place event x v found rest)

pub event_of_build : (limits : Limits) (history seen : List Event) (place : ℕ) (event : Event) → IsLegal limits history → seen ≡ history
    → place < length seen → event ≡ get_or seen place event → event.build < limits.builds
event_of_build limits history seen place event legal same inside is = of_world (replay limits history) refl legal.steps
  where
    found : slice_get history place ≡ Some event
    found = subst (λ (them : List Event). slice_get them place ≡ Some event) same (slice_get_read seen (length seen) place event refl inside is)

    of_world : (o : Option World) → replay limits history ≡ o → is_some o ≡ true → event.build < limits.builds
    of_world None ends some = cc
    of_world (Some v) ends some = event_after limits history place event (opening limits) v found ends

-- ---- a place of a history, which is read as `seen`

-- if a list of events equals the history, what holds of the list's event at an index holds of the history's event there
pub at_event : (P : Event → Type 0) (history seen : List Event) (place : ℕ) (event : Event) → seen ≡ history → place < length seen
    → event ≡ get_or seen place event → P event → IfSome (slice_get history place) P
at_event P history seen place event same inside is holds =
    subst (λ (them : List Event). IfSome (slice_get them place) P) same
    (subst (λ (it : Option Event). IfSome it P) (sym (slice_get_read seen (length seen) place event refl inside is)) holds)

-- if a list of events equals the history, an index of one of its events is not past the end of the history
pub has_event : {P : Type 0} (history seen : List Event) (place : ℕ) → seen ≡ history → place < length seen → length history ≤ place → P
has_event history seen place same inside few = let long : length seen ≡ length history = ap length same in absurd (omega arith)

few_events : (history seen : List Event) (place : ℕ) → seen ≡ history → false ≡ ltb place (length seen) → length history ≤ place
few_events history seen place same past = let long : length seen ≡ length history = ap length same in grind (arith, nat_tests)

-- if an index is past the end of the history, there is no event at the index, so that `IfSome` holds with any property
pub at_no_event : (P : Event → Type 0) (history seen : List Event) (place : ℕ) → seen ≡ history → false ≡ ltb place (length seen)
    → IfSome (slice_get history place) P
at_no_event P history seen place same past =
    subst (λ (it : Option Event). IfSome it P) (sym (slice_get_past history place (few_events history seen place same past))) tt
