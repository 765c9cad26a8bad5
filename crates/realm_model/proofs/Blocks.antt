-- Proofs that taking a free block leases the block's granules, and that giving a block back makes its granules blank
-- and free.
use Rattle.std.proofs.Common.{◌≡◌, ℕ, ◌<◌, true, false, List, [], ◌∷◌, map, set, Some, None, Ok, refl, sym, ap, ◌∙◌}
use Rattle.std.specs.Prelude.{slice_get}
use Rattle.std.specs.List.{All, list_all}
use Rattle.std.proofs.lemmas.Bool.{and_from}
use Rattle.std.proofs.lemmas.List.{set-get_or}
use Rattle.std.proofs.lemmas.List.Elements.{All-head, All-tail}
use Rattle.realm_model.specs.declared.states.GranuleState.TheVariants.{Undelegated}
use Rattle.realm_model.specs.declared.act.Act.TheVariants.{Take, UnTake}
use Rattle.realm_model.specs.Machine.{Limits, Machine, blank, cell_at, seen}
use Rattle.realm_model.specs.Update.{machine_after_all}
use Rattle.realm_model.specs.Command.Check.{is_undelegated}
use Rattle.realm_model.specs.Act.{block, named}
use Rattle.realm_model.specs.Outcome.{outcome_of, fits, is_block_start}
use Rattle.realm_model.specs.World.{World}
use Rattle.realm_model.specs.Step.{step}
use Rattle.realm_model.specs.StepLaw.{set_each}
use Rattle.realm_model.specs.Undoing.{by}
use Rattle.realm_model.proofs.Written.{takes, seen_takes, seen_frees, frees}
use Rattle.realm_model.proofs.StepSays.{step_says}

pub machine_after_all-takes : (gs : List ℕ) (machine : Machine) → machine_after_all (takes gs) machine ≡ machine
unfolding machine_after_all
machine_after_all-takes [] machine = refl
machine_after_all-takes (g ∷ gs) machine = ap (machine_after_all (takes gs)) (set-get_or machine g blank) ∙ machine_after_all-takes gs machine

pub machine_after_all-frees : (gs : List ℕ) (machine : Machine) → machine_after_all (frees gs) machine ≡ set_each blank gs machine
unfolding machine_after_all set_each
machine_after_all-frees [] machine = refl
machine_after_all-frees (g ∷ gs) machine = machine_after_all-frees gs (set machine g blank)

module _ (limits : Limits) (w : World) (b order first : ℕ) (below : b < limits.builds) (start : is_block_start order first ≡ true) where
  -- if a block is free, a Take leases its granules and changes no cell
  pub step-take : All (λ g. slice_get w.leases g ≡ Some None) (block order first)
      → step limits w (by b (Take order first)) ≡ Some (record { machine = w.machine; leases = set_each (Some b) (block order first) w.leases })
  unfolding named fits outcome_of
  step-take free = (step_says limits w (by b (Take order first)) tt _).1 (record {
    build = below;
    granules = free;
    in_range = start;
    fitting = refl;
    updates = takes (block order first);
    outcome = ap Ok (seen_takes w.machine (block order first));
    machine = sym (machine_after_all-takes (block order first) w.machine);
    leases = refl;
  })

  -- if a build leases a block of UNDELEGATED granules, an UnTake makes them blank and free
  pub step-untake : All (λ g. slice_get w.leases g ≡ Some (Some b)) (block order first) → All (λ g. (cell_at w.machine g).state ≡ Undelegated) (block order first)
      → step limits w (by b (UnTake order first)) ≡ Some (record { machine = set_each blank (block order first) w.machine; leases = set_each None (block order first) w.leases })
  unfolding named fits outcome_of
  step-untake held host = (step_says limits w (by b (UnTake order first)) tt _).1 (record {
    build = below;
    granules = held;
    in_range = start;
    fitting = all_undelegated (block order first) host;
    updates = frees (block order first);
    outcome = ap Ok (seen_frees w.machine (block order first));
    machine = sym (machine_after_all-frees (block order first) w.machine);
    leases = refl;
  })
    where
      all_undelegated : (gs : List ℕ) → All (λ g. (cell_at w.machine g).state ≡ Undelegated) gs → list_all is_undelegated (map (seen w.machine) gs) ≡ true
      all_undelegated [] h = refl
      all_undelegated (g ∷ gs) h =
          and_from _ _ (ap (λ s. elim s [ Undelegated ↦ true | _ ↦ false ]) (All-head (λ g. (cell_at w.machine g).state ≡ Undelegated) g gs h))
          (all_undelegated gs (All-tail (λ g. (cell_at w.machine g).state ≡ Undelegated) g gs h))
