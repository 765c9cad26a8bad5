-- The proof that a guest's write reaches a granule that the guest's own build leases.
use Rattle.std.proofs.Common.{◌≡◌, ℕ, zero, suc, true, false, cond, not, List, [], ◌∷◌, map, Option, Some, None, refl, sym, ap, ◌∙◌, subst}
use Rattle.std.specs.Prelude.{◌==◌, slice_get, option_map}
use Rattle.std.proofs.lemmas.Bool.{eqb-true}
use Rattle.granule_addr.specs.Ipa.{first_covered}
use Rattle.realm_model.specs.declared.act.Act.{Act}
use Rattle.realm_model.specs.declared.act.Act.TheVariants.{Poke}
use Rattle.realm_model.specs.declared.act.Event.{Event}
use Rattle.realm_model.specs.StepLaw.{StepIsExact}
use Rattle.realm_model.specs.History.{replay}
use Rattle.realm_model.specs.Machine.{Limits, Cell, Machine, Seen, blank, cell_at}
use Rattle.realm_model.specs.World.{World, part_of, each, hidden, unleased, is_of_other, realm_of}
use Rattle.realm_model.specs.Ownership.{mapping_of_row}
use Rattle.realm_model.specs.Sound.{is_host_state}
use Rattle.realm_model.specs.Roles.{AtRow, row_target}
use Rattle.realm_model.proofs.SoundParts.{sound_after, IsSound}
use Rattle.realm_model.proofs.Leases.{leased_from}
use Rattle.realm_model.proofs.RealmOf.{IsAt, realm_of-part_of, IsAt-realm_of}
use Rattle.realm_model.proofs.Progress.{part_leased}
use Rattle.realm_model.proofs.StepSays.{step_says}
use Rattle.realm_model.proofs.Linked.{linked_reached}
use Rattle.realm_model.proofs.Lists.{head_or, tail}
use Rattle.realm_model.proofs.Clean.{scrubbed}
use Rattle.realm_model.proofs.Changes.{ReachesOwn}
use Rattle.realm_model.proofs.Booleans.{true_false}
use Rattle.realm_model.proofs.Walks.{walk_end}
use Rattle.realm_model.proofs.RowKinds.{assigned_target}
use Rattle.realm_model.proofs.Parts.{IsLinkedFor}

-- if free granules are blank, each granule of a build's part that is neither UNDELEGATED nor DELEGATED is leased by the
-- build
pub state_leased : (b : ℕ) (leases : List (Option ℕ)) (machine : Machine) → each scrubbed leases machine ≡ machine → (g : ℕ)
    → is_host_state (cell_at (each (hidden (is_of_other b)) leases machine) g).state ≡ false
    → slice_get (map (unleased (is_of_other b)) leases) g ≡ Some (Some b)
state_leased b [] machine clean g held = cc
state_leased b (l ∷ leases) [] clean g held = cc
state_leased b (None ∷ leases) (c ∷ machine) clean zero held = absurd (true_false _ (ap (λ (x : Cell). is_host_state x.state) (sym (ap (head_or blank) clean))) held)
state_leased b (Some o ∷ leases) (c ∷ machine) clean zero held =
    elim (o == b) as (λ t. (o == b) ≡ t → is_host_state (cond (not t) blank c).state ≡ false → Some (cond (not t) None (Some o)) ≡ Some (Some b)) [
      | true ↦ λ same h. ap (λ x. Some (Some x)) (eqb-true o b same)
      | false ↦ λ other h. cc
    ] refl held
state_leased b (l ∷ leases) (c ∷ machine) clean (suc g) held = state_leased b leases machine (ap tail clean) g held

pub reaches_own : (limits : Limits) (b : ℕ) (w : World) (act : Act) → IsSound b w → IsLinkedFor b w → ReachesOwn limits b w act (realm_of b w)
reaches_own limits b w act sound linked = subst (ReachesOwn limits b w act) (realm_of-part_of b w) (by_act act (realm_of b (part_of w b)) (IsAt-realm_of b (part_of w b)))
  where
    by_act : (act : Act) (realm : Option Seen) → IsAt (part_of w b).machine realm → ReachesOwn limits b w act realm
    by_act (Poke n ipa o v) (Some rd) at = λ d end pa is e assigned to.
        let there = walk_end d.rows ipa 3 end e in
        let row : (cell_at (part_of w b).machine rd.number).descriptor ≡ Some d = ap (λ (c : Cell). c.descriptor) at ∙ is in
        let found = linked.names rd.number d row (AtRow (end.level, first_covered end.level ipa)) (pa, _)
        (ap (λ o. row_target (option_map mapping_of_row o)) there ∙ assigned_target end.row.state end.row.granule pa assigned to) in
        part_leased b w pa (leased_from (Some b) (part_of w b).leases pa (state_leased b w.leases w.machine sound.clean pa (ap is_host_state found.0)))
    by_act (Poke n ipa o v) None at = tt
    by_act _ realm at = tt

pub step_says_reached : (limits : Limits) (history : List Event) (w : World) (event : Event) → replay limits history ≡ Some w → StepIsExact limits w event
step_says_reached limits history w event at_w =
    step_says limits w event (reaches_own limits event.build w event.act (sound_after limits event.build history w at_w) (linked_reached limits event.build history w at_w))
