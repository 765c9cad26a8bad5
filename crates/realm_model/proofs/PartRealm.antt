-- Proofs that, after any history, a realm in a build's part of the world is the build's realm, and that `running_count`
-- counts the running RECs of that realm.
use Rattle.std.proofs.Common.{◌≡◌, ℕ, suc, true, false, cond, ◌&&◌, ◌⊎◌, inl, inr, List, [], ◌∷◌, length, Option, Some, None, refl, sym, ap, ◌∙◌}
use Rattle.std.specs.Prelude.{is_some, filter}
use Rattle.std.specs.FinMap.{get}
use Rattle.std.specs.List.{range_with_len}
use Rattle.std.proofs.lemmas.Bool.{and_parts}
use Rattle.std.proofs.lemmas.Option.{same_Some}
use Rattle.realm_model.specs.declared.states.GranuleState.{GranuleState}
use Rattle.realm_model.specs.declared.states.GranuleState.TheVariants.{Rd}
use Rattle.realm_model.specs.Machine.{Limits, RealmRow, Cell, Machine, Seen, cell_at, seen}
use Rattle.realm_model.specs.World.{World, opening, same_lease, realm_from, realm_of, hidden, is_of_other, part_of}
use Rattle.realm_model.specs.Running.{is_rec_running, running_count}
use Rattle.realm_model.specs.Sound.{is_host_state, is_rd_state}
use Rattle.realm_model.proofs.Booleans.{some_is}
use Rattle.realm_model.proofs.Leases.{leased_from, cell_at-replicate}
use Rattle.realm_model.proofs.LeftOut.{each-replicate}
use Rattle.realm_model.proofs.RealmOf.{IsAt, IsAt-realm_of, no_row, realm_of-part_of, realm_of_there}
use Rattle.realm_model.proofs.Reaching.{state_leased}
use Rattle.realm_model.proofs.ZeroPages.{IsKept}
use Rattle.realm_model.proofs.RunningRecs.{running}

pub realm_from_some : (b n : ℕ) (leases : List (Option ℕ)) (machine : Machine) (rd : Seen) → realm_from b n leases machine ≡ Some rd → is_some rd.cell.descriptor ≡ true
unfolding realm_from
realm_from_some b n [] machine rd e = cc
realm_from_some b n (l ∷ leases) [] rd e = cc
realm_from_some b n (l ∷ leases) (c ∷ machine) rd e =
    elim (same_lease l (Some b) && is_some c.descriptor) as (λ t. (same_lease l (Some b) && is_some c.descriptor) ≡ t
    → cond t (Some (record { number = n; cell = c })) (realm_from b (suc n) leases machine) ≡ Some rd → is_some rd.cell.descriptor ≡ true) [
      | true ↦ λ test e. ap (λ (s : Seen). is_some s.cell.descriptor) (sym (same_Some _ _ e)) ∙ (and_parts _ _ test).1
      | false ↦ λ test e. realm_from_some b (suc n) leases machine rd e
    ] refl e

-- the number of a realm's running RECs, given the realm's row; 0 if there is no realm
abbrev pub counted : Option RealmRow → ℕ
counted o =
    length (filter (λ n. elim o [ Some realm ↦ is_rec_running (get realm.recs n) | None ↦ false ]) (range_with_len 0 (elim o [ Some realm ↦ realm.next | None ↦ 0 ])))

module _ (b : ℕ) (w : World) (kept : IsKept b w) where
  abbrev W : World
  W = part_of w b

  -- the build has no realm, or its part has an RD with a realm's row
  pub part_realm : (realm_of b w ≡ None) ⊎ ((k : ℕ) × (d : RealmRow) × ((cell_at W.machine k).descriptor ≡ Some d))
  part_realm = by_realm (realm_of b W) refl (IsAt-realm_of b W)
    where
      by_realm : (o : Option Seen) → realm_of b W ≡ o → IsAt W.machine o → (realm_of b w ≡ None) ⊎ ((k : ℕ) × (d : RealmRow) × ((cell_at W.machine k).descriptor ≡ Some d))
      by_realm None e at = inl (sym (realm_of-part_of b w) ∙ e)
      by_realm (Some rd) e at =
          let row = some_is rd.cell.descriptor (realm_from_some b 0 W.leases W.machine rd e) in
          inr (rd.number, row.0, ap (λ (c : Cell). c.descriptor) at ∙ row.1)

  pub none_there : realm_of b w ≡ None → (k : ℕ) → (cell_at W.machine k).descriptor ≡ None
  none_there none = no_row b 0 w.leases w.machine kept.sound.clean none

  -- a granule in state RD is neither UNDELEGATED nor DELEGATED; so (`found`) a realm in the part is the build's realm
  rd_no_host : (s : GranuleState) → is_rd_state s ≡ true → is_host_state s ≡ false
  rd_no_host Rd h = refl
  rd_no_host _ h = cc

  pub found : (k : ℕ) (d : RealmRow) → (cell_at W.machine k).descriptor ≡ Some d → realm_of b w ≡ Some (seen W.machine k)
  found k d is =
      let held = state_leased b w.leases w.machine kept.sound.clean k (rd_no_host (cell_at W.machine k).state (sym (kept.sound.part.cells k).descriptor ∙ ap is_some is)) in
      sym (realm_of-part_of b w) ∙ realm_of_there b W kept.sound.part k d (leased_from (Some b) W.leases k held) is

  pub count_some : (k : ℕ) (d : RealmRow) → (cell_at W.machine k).descriptor ≡ Some d → running_count (realm_of b w) ≡ running d.recs d.next
  unfolding running_count
  count_some k d is = ap running_count (found k d is) ∙ ap counted is

  pub count_none : ((k : ℕ) → (cell_at W.machine k).descriptor ≡ None) → running_count (realm_of b w) ≡ 0
  unfolding running_count
  count_none none = ap running_count (sym (realm_of-part_of b w)) ∙ by_realm (realm_of b W) (IsAt-realm_of b W)
    where
      by_realm : (o : Option Seen) → IsAt W.machine o → running_count o ≡ 0
      by_realm None at = refl
      by_realm (Some rd) at = ap counted (ap (λ (c : Cell). c.descriptor) (sym at) ∙ none rd.number)

-- the opening world has no realm
pub none_at_first : (limits : Limits) (b k : ℕ) → (cell_at (part_of (opening limits) b).machine k).descriptor ≡ None
none_at_first limits b k =
    ap (λ (m : Machine). (cell_at m k).descriptor) (each-replicate (hidden (is_of_other b)) refl limits.pages)
    ∙ ap (λ (c : Cell). c.descriptor) (cell_at-replicate limits.pages k)
