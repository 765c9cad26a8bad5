-- The proof by induction that a property holds in the world after any history, if it holds in the opening world and
-- each event preserves it.
use Rattle.std.proofs.Common.{◌≡◌, ℕ, List, [], ◌∷◌, length, Option, Some, None, Ok, Err, refl, sym, ◌∙◌, subst, ◌++◌}
use Rattle.std.proofs.lemmas.Option.{same_Some, option_and_then_some}
use Rattle.std.proofs.lemmas.List.{length-set, length-replicate, append_assoc, append-nil}
use Rattle.realm_model.specs.declared.act.Event.{Event}
use Rattle.realm_model.specs.Machine.{Limits, blank, cell_at}
use Rattle.realm_model.specs.Update.{Update, Outcome, granule_of, cell_after, lease_after}
use Rattle.realm_model.specs.World.{World, updated, updated_all, opening}
use Rattle.realm_model.specs.Step.{step, is_allowed, after_outcome}
use Rattle.realm_model.specs.History.{after, replay, IsInTurn, AllInTurn, IsLegal}
use Rattle.realm_model.proofs.Booleans.{guarded}
use Rattle.realm_model.proofs.LeftOut.{IsClean-opening}
use Rattle.realm_model.proofs.Clean.{IsClean}
use Rattle.realm_model.proofs.Growth.{grows, Grows}
use Rattle.realm_model.proofs.HiddenSteps.{IsClean-step}

module _ (limits : Limits) (P : World → Type 0) (kept : (w v : World) (e : Event) → P w → step limits w e ≡ Some v → P v) where
  kept_after : (es : List Event) (w v : World) → P w → after limits es w ≡ Some v → P v
  unfolding after
  kept_after [] w v h done = subst P (same_Some _ _ done) h
  kept_after (e ∷ es) w v h done = option_and_then_some (after limits es) (step limits w e) v done (λ x stepped rest. kept_after es x v (kept w x e h stepped) rest)

  -- a property of the opening world that each step preserves holds of each reached world
  pub of_reached : P (opening limits) → (history : List Event) (w : World) → replay limits history ≡ Some w → P w
  of_reached first history w at_w = kept_after history (opening limits) w first at_w

pub clean_reached : (limits : Limits) (history : List Event) (w : World) → replay limits history ≡ Some w → IsClean w
clean_reached limits = of_reached limits IsClean (λ w v e h s. IsClean-step limits w v e h s) (IsClean-opening limits)

pub record IsSized (limits : Limits) (w : World) : Type 0 where
  pub machine : length w.machine ≡ limits.pages
  pub leases : length w.leases ≡ limits.pages

sized_all : (limits : Limits) (b : ℕ) (us : List Update) (w v : World) → IsSized limits w → updated_all b us w ≡ Some v → IsSized limits v
unfolding updated_all
sized_all limits b [] w v h e = subst (IsSized limits) (same_Some _ _ e) h
sized_all limits b (u ∷ us) w v h e =
    sized_all limits b us (updated b u w) v (record {
      machine = length-set w.machine (granule_of u) (cell_after u (cell_at w.machine (granule_of u))) ∙ h.machine;
      leases = length-set w.leases (granule_of u) (lease_after b u) ∙ h.leases;
    }) (guarded _ _ _ e).1

pub sized_step : (limits : Limits) (w v : World) (e : Event) → IsSized limits w → step limits w e ≡ Some v → IsSized limits v
unfolding step
sized_step limits w v e h s = of_outcome _ (guarded (is_allowed limits w e) _ v s).1
  where
    of_outcome : (o : Outcome) → after_outcome e.build o w ≡ Some v → IsSized limits v
    of_outcome (Ok us) done = sized_all limits e.build us w v h done
    of_outcome (Err rmi) done = cc

abbrev nobody : Option ℕ
nobody = None

pub sized_opening : (limits : Limits) → IsSized limits (opening limits)
sized_opening limits = record { machine = length-replicate limits.pages blank; leases = length-replicate limits.pages nobody }

pub sized_reached : (limits : Limits) (history : List Event) (w : World) → replay limits history ≡ Some w → IsSized limits w
sized_reached limits = of_reached limits (IsSized limits) (λ w v e h s. sized_step limits w v e h s) (sized_opening limits)

module _ (limits : Limits) (P : List Event → World → Type 0)
    (kept : (before : List Event) (w v : World) (e : Event) → IsLegal limits before → replay limits before ≡ Some w → P before w → IsInTurn before e
    → step limits w e ≡ Some v → P (before ++ e ∷ []) v) where
  kept_legal : (before es : List Event) (w v : World) → IsLegal limits before → replay limits before ≡ Some w → P before w → AllInTurn before es → after limits es w ≡ Some v → P (before ++ es) v
  unfolding after
  kept_legal before [] w v legal at_w h turns done = subst (λ es. P es v) (sym (append-nil before)) (subst (P before) (same_Some _ _ done) h)
  kept_legal before (e ∷ es) w v legal at_w h turns done =
      option_and_then_some (after limits es) (step limits w e) v done (λ x stepped rest.
      let grown : Grows limits before e x = grows limits before e w x legal at_w stepped turns.0 in
      subst (λ es. P es v) (append_assoc before (e ∷ []) es)
      (kept_legal (before ++ e ∷ []) es x v grown.legal grown.world_is (kept before w x e legal at_w h turns.0 stepped) turns.1 rest))

  -- a property of histories and their worlds holds of each legal history if it holds at the opening world and each step
  -- that `IsInTurn` allows preserves it
  pub of_legal : P [] (opening limits) → (history : List Event) (w : World) → IsLegal limits history → replay limits history ≡ Some w → P history w
  unfolding after
  of_legal first history w legal at_w =
      kept_legal [] history (opening limits) w (record { steps = refl; in_turn = tt }) refl first legal.in_turn at_w
