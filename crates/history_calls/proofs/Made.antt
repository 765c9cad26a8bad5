-- A proof that the operations of a legal history lead a fresh RMM to the machine of the history's world.
use Rattle.std.proofs.Common.{◌≡◌, List, [], ◌∷◌, map, Option, Some, None, refl, sym, ap, ◌∙◌}
use Rattle.std.specs.Prelude.{option_map, option_and_then}
use Rattle.std.proofs.lemmas.Option.{same_Some, option_and_then_some}
use Rattle.realm_model.specs.declared.act.Event.{Event}
use Rattle.realm_model.specs.Act.{named}
use Rattle.realm_model.specs.History.{after}
use Rattle.realm_model.specs.Machine.{Limits, Machine, Seen, seen}
use Rattle.realm_model.specs.Outcome.{outcome_of}
use Rattle.realm_model.specs.Places.{rd_of}
use Rattle.realm_model.specs.Step.{step, used_vmids}
use Rattle.realm_model.specs.World.{World, opening, realm_of}
use Rattle.realm_model.proofs.RealmOf.{IsAt, IsAt-realm_of}
use Rattle.realm_model.proofs.StepSays.{step_is}
use Rattle.history_calls.specs.Made.{machine_if_done, machine_after_calls, machine_after_events, LeadsToItsMachine}

-- if a realm's RD is in the machine, looking up the RD's granule number there finds this RD
seen_at_rd : (machine : Machine) (realm : Option Seen) → IsAt machine realm → option_map (seen machine) (option_map (λ (rd : Seen). rd.number) realm) ≡ realm
seen_at_rd machine None there = refl
seen_at_rd machine (Some rd) there = λ i. Some (record { number = rd.number; cell = there i })

-- if an event leads from `world` to `next`, its operation leads the machine of `world` to the machine of `next`
made : (limits : Limits) (world next : World) (event : Event) → step limits world event ≡ Some next
    → machine_after_calls limits (rd_of event.build world) event.act world.machine ≡ Some next.machine
made limits world next event stepped =
    let is = step_is limits world next event stepped in
    ap (λ (o : Option Seen). machine_if_done (outcome_of limits.vmids limits.aux (used_vmids world.machine) event.act o (map (seen world.machine) (named event.act))) world.machine)
    (seen_at_rd world.machine (realm_of event.build world) (IsAt-realm_of event.build world))
    ∙ ap (λ outcome. machine_if_done outcome world.machine) is.outcome ∙ ap Some (sym is.machine)

made_all : (limits : Limits) (events : List Event) (world last : World) → after limits events world ≡ Some last
    → machine_after_events limits world events world.machine ≡ Some last.machine
unfolding after
made_all limits [] world last done = ap (λ (w : World). Some w.machine) (same_Some _ _ done)
made_all limits (event ∷ events) world last done =
    option_and_then_some (after limits events) (step limits world event) last done (λ next stepped rest.
    ap (λ (o : Option World). option_and_then (λ (n : World). option_and_then (machine_after_events limits n events)
    (machine_after_calls limits (rd_of event.build world) event.act world.machine)) o) stepped
    ∙ ap (option_and_then (machine_after_events limits next events)) (made limits world next event stepped)
    ∙ made_all limits events next last rest)

pub leads_to_its_machine : (limits : Limits) (history : List Event) → LeadsToItsMachine limits history
leads_to_its_machine limits history world reached = made_all limits history (opening limits) world reached
