-- The proof that the model accepts a Take of a free block, and an UnTake of a block whose Take is its build's newest
-- open operation.
use Rattle.std.proofs.Common.{◌≡◌, ℕ, ◌+◌, ◌-◌, ◌%◌, ◌^◌, ◌<◌, ◌≤◌, Bool, true, false, List, [], ◌∷◌, length, map, Option, Some, None, refl, sym, ap, ◌∙◌, subst, arith}
use Rattle.std.specs.Prelude.{is_none, slice_get}
use Rattle.std.specs.List.{All, list_all, last_or}
use Rattle.std.proofs.lemmas.Bool.{and_parts, and_from, eqb-true, eq-eqb, le-leb}
use Rattle.std.proofs.lemmas.Nat.{pow_pos}
use Rattle.std.proofs.lemmas.Option.{slice_get_within}
use Rattle.std.proofs.lemmas.List.{length-map}
use Rattle.std.proofs.lemmas.List.Elements.{All-nil, All-cons}
use Rattle.page_arena.specs.Block.{IsFreeBlock, IsTakenBlock, with_run}
use Rattle.realm_model.specs.declared.act.Act.{Act}
use Rattle.realm_model.specs.declared.act.Act.TheVariants.{Take, UnTake}
use Rattle.realm_model.specs.declared.act.Event.{Event}
use Rattle.realm_model.specs.declared.states.GranuleState.{GranuleState}
use Rattle.realm_model.specs.declared.states.GranuleState.TheVariants.{Undelegated}
use Rattle.realm_model.specs.Machine.{Limits, Machine, seen, cell_at, blank}
use Rattle.realm_model.specs.Command.Check.{is_undelegated}
use Rattle.realm_model.specs.Act.{block, named, reverse_of, is_reverse}
use Rattle.realm_model.specs.Outcome.{fits, is_block_start}
use Rattle.realm_model.specs.World.{World}
use Rattle.realm_model.specs.Step.{step}
use Rattle.realm_model.specs.StepLaw.{set_each, leases_after, IsStep}
use Rattle.realm_model.specs.History.{open_entries, IsInTurn}
use Rattle.realm_model.specs.Undoing.{by}
use Rattle.realm_model.proofs.Blocks.{step-take, step-untake}
use Rattle.realm_model.proofs.Growth.{grows}
use Rattle.realm_model.proofs.Progress.{CanUndo, undoable}
use Rattle.realm_model.proofs.Reachable.{reachable_worlds}
use Rattle.realm_model.proofs.StepSays.{step_is}
use Rattle.rmi_monitor.specs.View.{MonitorView, IsGivable, with_block, without_block}
use Rattle.rmi_monitor.specs.Mirror.{IsMirror, IsPerformed}
use Rattle.rmi_monitor.specs.Blocks.{TakenIsStep, IsGivenBack, GivenBackIsStep}
use Rattle.rmi_monitor.proofs.Flags.{flag_free, taken_flag}
use Rattle.realm_model.proofs.EachOfRange.{all_of_range, of_all_range}
use Rattle.rmi_monitor.proofs.Ranges.{set_each-block, map-set_each}

pub take_is_forward : (history : List Event) (build order first : ℕ) → IsInTurn history (by build (Take order first))
unfolding is_reverse
take_is_forward history build order first = λ h. cc

undelegated_state : (state : GranuleState) → elim state [ Undelegated ↦ true | _ ↦ false ] ≡ true → state ≡ Undelegated
undelegated_state Undelegated h = refl
undelegated_state _ h = cc

module _ (limits : Limits) (history : List Event) (world : World) (monitor : MonitorView) (mirror : IsMirror limits history world monitor) (build order first : ℕ) where
  flags_long : length (map is_none world.leases) ≡ length world.leases
  flags_long = length-map world.leases is_none

  -- An operation meets `IsPerformed` if the model accepts it in the world, and the RMM then agrees with the world after
  -- the operation. A reverse has to undo the newest operation that its build has open. The operation has to change the
  -- leases as `leases_after` says.
  performed_as : (act : Act) (new : MonitorView) (next : World) → IsInTurn history (by build act) → step limits world (by build act) ≡ Some next
      → new.vmids ≡ monitor.vmids → new.aux ≡ monitor.aux → new.machine ≡ next.machine → new.free ≡ map is_none next.leases
      → next.leases ≡ leases_after build act world.leases → IsPerformed limits history world build act new
  performed_as act new next turn stepped vmids aux machine free leases =
      let grown = grows limits history (by build act) world next mirror.legal mirror.world_is stepped turn in
      record {
        next = next;
        stepped = stepped;
        leases = leases;
        mirror = record {
          legal = grown.legal;
          world_is = grown.world_is;
          vmids = vmids ∙ mirror.vmids;
          aux = aux ∙ mirror.aux;
          machine = machine;
          free = free;
        };
      }

  -- ---- a block is taken

  module _ (there : build < limits.builds) (low : order ≤ 9) (free : IsFreeBlock monitor.free order first) where
    free_here : IsFreeBlock (map is_none world.leases) order first
    free_here = subst (λ flags. IsFreeBlock flags order first) mirror.free free

    start : is_block_start order first ≡ true
    start = and_from _ _ (le-leb order 9 low) (eq-eqb (first % 2 ^ order) 0 free.aligned)

    all_unleased : All (λ g. slice_get world.leases g ≡ Some None) (block order first)
    all_unleased = all_of_range (λ g. slice_get world.leases g ≡ Some None) first (2 ^ order) (λ g above below. flag_free world.leases g (free_here.run.each g above below))

    abbrev taken_leases : List (Option ℕ)
    taken_leases = set_each (Some build) (block order first) world.leases

    pub taken : IsPerformed limits history world build (Take order first) (with_block monitor order first)
    taken =
        performed_as (Take order first) (with_block monitor order first) (record { machine = world.machine; leases = taken_leases })
        (take_is_forward history build order first)
        (step-take limits world build order first there start all_unleased)
        refl refl mirror.machine
        (ap (λ (flags : List Bool). with_run flags first (2 ^ order) false) mirror.free
        ∙ sym (set_each-block false order first (map is_none world.leases) free_here.inside)
        ∙ sym (map-set_each is_none (Some build) (block order first) world.leases))
        refl

  -- ---- a block is given back

  module _ (newest : last_or None (open_entries build history) ≡ Some (Take order first)) where
    can : CanUndo limits history world build (UnTake order first)
    unfolding reverse_of
    can = undoable limits build history world (Take order first) (UnTake order first) mirror.legal mirror.world_is newest refl refl

    is : IsStep limits world (by build (UnTake order first)) can.world
    is = step_is limits world can.world (by build (UnTake order first)) can.stepped

    abbrev is_held : ℕ → Type 0
    is_held g = slice_get world.leases g ≡ Some (Some build)

    abbrev is_of_host : ℕ → Type 0
    is_of_host g = (cell_at world.machine g).state ≡ Undelegated

    begins : is_block_start order first ≡ true
    begins = is.in_range

    fit : list_all is_undelegated (map (seen world.machine) (block order first)) ≡ true
    unfolding named fits
    fit = is.fitting

    all_held : All is_held (block order first)
    unfolding named
    all_held = is.granules

    all_states : (gs : List ℕ) → list_all is_undelegated (map (seen world.machine) gs) ≡ true → All is_of_host gs
    all_states [] h = All-nil is_of_host
    all_states (g ∷ gs) h =
        let parts = and_parts _ _ h in
        All-cons is_of_host g gs (undelegated_state (cell_at world.machine g).state parts.0) (all_states gs parts.1)

    states : All is_of_host (block order first)
    states = all_states (block order first) fit

    each_held : (g : ℕ) → first ≤ g → g < first + 2 ^ order → is_held g
    each_held = of_all_range is_held first (2 ^ order) all_held

    leases_inside : first + 2 ^ order ≤ length world.leases
    leases_inside =
        let some : 0 < 2 ^ order = pow_pos order in
        let last = slice_get_within world.leases (first + 2 ^ order - 1) (Some build) (each_held (first + 2 ^ order - 1) (omega arith) (omega arith)) in
        omega arith

    machine_inside : first + 2 ^ order ≤ length monitor.machine
    machine_inside =
        let sound = reachable_worlds limits history world mirror.world_is in
        let long : length monitor.machine ≡ length world.machine = ap length mirror.machine in
        let within = leases_inside in
        omega (arith, sound.cells, sound.leases, long)

    taken_block : IsTakenBlock monitor.free order first
    taken_block =
        subst (λ flags. IsTakenBlock flags order first) (sym mirror.free) (record {
          aligned = eqb-true (first % 2 ^ order) 0 (and_parts _ _ begins).1;
          inside = subst (λ n. first + 2 ^ order ≤ n) (sym flags_long) leases_inside;
          run = record { each = λ g low high. taken_flag world.leases g build (each_held g low high) };
        })

    givable : IsGivable monitor order first
    givable = record {
      taken = taken_block;
      undelegated = λ g low high.
          ap (λ (m : Machine). is_undelegated (seen m g)) mirror.machine
          ∙ ap (λ s. elim s [ Undelegated ↦ true | _ ↦ false ]) (of_all_range is_of_host first (2 ^ order) states g low high);
    }

    abbrev given_leases : List (Option ℕ)
    given_leases = set_each None (block order first) world.leases

    cleared : with_run monitor.machine first (2 ^ order) blank ≡ set_each blank (block order first) world.machine
    cleared = sym (set_each-block blank order first monitor.machine machine_inside) ∙ ap (set_each blank (block order first)) mirror.machine

    pub given_back : IsGivenBack limits history world monitor build order first
    given_back = record {
      givable = givable;
      turn = can.in_turn;
      performed =
          performed_as (UnTake order first) (without_block monitor order first) (record { machine = set_each blank (block order first) world.machine; leases = given_leases })
          can.in_turn
          (step-untake limits world build order first is.build begins all_held states)
          refl refl cleared
          (ap (λ (flags : List Bool). with_run flags first (2 ^ order) true) mirror.free
          ∙ sym (set_each-block true order first (map is_none world.leases) (subst (λ n. first + 2 ^ order ≤ n) (sym flags_long) leases_inside))
          ∙ sym (map-set_each is_none None (block order first) world.leases))
          refl;
    }

pub taken_is_step : (limits : Limits) (history : List Event) (world : World) (monitor : MonitorView) (build order first : ℕ)
    → TakenIsStep limits history world monitor build order first
taken_is_step limits history world monitor build order first = λ mirror there low free. taken limits history world monitor mirror build order first there low free

pub given_back_is_step : (limits : Limits) (history : List Event) (world : World) (monitor : MonitorView) (build order first : ℕ)
    → GivenBackIsStep limits history world monitor build order first
given_back_is_step limits history world monitor build order first = λ mirror newest. given_back limits history world monitor mirror build order first newest
