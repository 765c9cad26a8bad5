-- The proof, from the invariants of each build's part, that every world that a history leads to satisfies
-- `IsReachable`.
use Rattle.std.proofs.Common.{◌≡◌, ℕ, true, false, cond, not, List, Option, Some, None, refl, sym, ap, ◌∙◌, subst}
use Rattle.std.specs.Prelude.{is_some, slice_get}
use Rattle.std.proofs.lemmas.Bool.{eq-eqb}
use Rattle.realm_model.specs.declared.states.GranuleState.{GranuleState}
use Rattle.realm_model.specs.declared.states.GranuleState.TheVariants.{Rd}
use Rattle.realm_model.specs.declared.act.Event.{Event}
use Rattle.granule_addr.specs.Page.{zero_page}
use Rattle.realm_model.specs.Machine.{Limits, RealmRow, Cell, blank, cell_at}
use Rattle.realm_model.specs.World.{World, part_of, hidden, is_of_other}
use Rattle.realm_model.specs.History.{replay}
use Rattle.realm_model.specs.Sound.{is_host_state, is_rd_state, is_zero_state}
use Rattle.realm_model.specs.Roles.{is_role_state}
use Rattle.realm_model.specs.Reachable.{IsRealmAt, IsReachable}
use Rattle.realm_model.proofs.Booleans.{true_false}
use Rattle.realm_model.proofs.Leases.{cell_at-each, leased, leased_from}
use Rattle.realm_model.proofs.Clean.{IsClean, clean_at}
use Rattle.realm_model.proofs.HiddenUpdates.{hidden-blank}
use Rattle.realm_model.proofs.HiddenSteps.{leased_in_part}
use Rattle.realm_model.proofs.Reached.{IsSized, clean_reached, sized_reached}
use Rattle.realm_model.proofs.Written.{IsSquare}
use Rattle.realm_model.proofs.OwnsSame.{past}
use Rattle.realm_model.proofs.Roles.{target_state, role_no_host}
use Rattle.realm_model.proofs.Reaching.{state_leased}
use Rattle.realm_model.proofs.ZeroPages.{IsKept, kept_reached}
use Rattle.realm_model.proofs.FullRows.{walk_ends}
use Rattle.realm_model.proofs.Parts.{IsSoundRealm}
use Rattle.realm_model.proofs.Vmids.{HasVmids, vmids_reached}

module _ (limits : Limits) (w : World) (clean : IsClean w) (sized : IsSized limits w) (kept : (b : ℕ) → IsKept b w) (vmids : HasVmids limits w) where
  abbrev now : ℕ → Cell
  now g = cell_at w.machine g

  abbrev in_part : ℕ → ℕ → Cell
  in_part b g = cell_at (part_of w b).machine g

  -- a granule that a build leases has the same cell in the build's part as in the world
  part_cell : (b g : ℕ) → slice_get w.leases g ≡ Some (Some b) → in_part b g ≡ now g
  part_cell b g e =
      cell_at-each (hidden (is_of_other b)) w.leases w.machine g (Some b) (hidden-blank (is_of_other b) (Some b)) e
      ∙ ap (λ t. cond (not t) blank (now g)) (eq-eqb b b refl)

  square : IsSquare w
  square = sized.leases ∙ sym sized.machine

  -- a granule is blank, or in the part of its build
  data Whose (g : ℕ) : Type 0 where
    nobodys : now g ≡ blank → Whose g
    of_build : (b : ℕ) → slice_get w.leases g ≡ Some (Some b) → in_part b g ≡ now g → Whose g

  whose : (g : ℕ) → Whose g
  whose g = by_lease (slice_get w.leases g) refl
    where
      by_lease : (o : Option (Option ℕ)) → slice_get w.leases g ≡ o → Whose g
      by_lease None e = nobodys (past w.leases w.machine g square e)
      by_lease (Some None) e = nobodys (clean_at w g clean e)
      by_lease (Some (Some b)) e = of_build b e (part_cell b g e)

  -- a granule that is neither UNDELEGATED nor DELEGATED in a build's part is leased by the build
  part_held : (b g : ℕ) → is_host_state (in_part b g).state ≡ false → slice_get w.leases g ≡ Some (Some b)
  part_held b g held =
      leased (Some b) w.leases g (sym (leased_in_part b w g)
      ∙ leased_from (Some b) (part_of w b).leases g (state_leased b w.leases w.machine (kept b).sound.clean g held))

  held_cell : (b g : ℕ) → is_host_state (in_part b g).state ≡ false → in_part b g ≡ now g
  held_cell b g held = part_cell b g (part_held b g held)

  of_cells : (P : Cell → Type 0) → P blank → (g : ℕ) → ((b : ℕ) → P (in_part b g)) → P (now g)
  of_cells P none g own = elim (whose g) [
    | nobodys e ↦ subst P (sym e) none
    | of_build b lease same ↦ subst P same (own b)
  ]

  -- the RD of each realm is leased by a build, and has the same row in the build's part
  pub realm_in_part : (g : ℕ) (d : RealmRow) → IsRealmAt w g d → (b : ℕ) × (slice_get w.leases g ≡ Some (Some b)) × ((in_part b g).descriptor ≡ Some d)
  realm_in_part g d is = elim (whose g) [
    | nobodys e ↦ absurd (true_false _ (ap is_some is) (ap (λ (c : Cell). is_some c.descriptor) e))
    | of_build b lease same ↦ (b, lease, ap (λ (c : Cell). c.descriptor) same ∙ is)
  ]

  rd_state : (b g : ℕ) (d : RealmRow) → (in_part b g).descriptor ≡ Some d → is_rd_state (in_part b g).state ≡ true
  rd_state b g d is = sym ((kept b).sound.part.cells g).descriptor ∙ ap is_some is

  rd_held : (b g : ℕ) (d : RealmRow) → (in_part b g).descriptor ≡ Some d → is_host_state (in_part b g).state ≡ false
  rd_held b g d is = not_host (in_part b g).state (rd_state b g d is)
    where
      not_host : (s : GranuleState) → is_rd_state s ≡ true → is_host_state s ≡ false
      not_host Rd h = refl
      not_host _ h = cc

  row_sound : (g : ℕ) (d : RealmRow) → IsRealmAt w g d → IsSoundRealm d
  row_sound g d is = let p = realm_in_part g d is in ((kept p.0).sound.part.cells g).row d p.2

  reachable : IsReachable limits w
  reachable = record {
    cells = sized.machine;
    leases = sized.leases;
    free = λ g e. clean_at w g clean e;
    host = λ g. of_cells (λ c. is_host_state c.state ≡ true → c.realm ≡ None) (λ h. refl) g (λ b. ((kept b).sound.part.cells g).realm);
    zero = λ g. of_cells (λ c. is_zero_state c.state ≡ true → c.bytes ≡ zero_page) (λ h. refl) g (λ b. (kept b).zero g);
    rds = λ g. of_cells (λ c. is_some c.descriptor ≡ is_rd_state c.state) refl g (λ b. ((kept b).sound.part.cells g).descriptor);
    itself = λ g d is. let p = realm_in_part g d is in
        ap (λ (c : Cell). c.realm) (sym (part_cell p.0 g p.1)) ∙ ((kept p.0).sound.part.cells g).itself (rd_state p.0 g d p.2);
    one = λ g h d e is it same.
        let p = realm_in_part g d is in
        let lease : slice_get w.leases h ≡ Some (Some p.0) = sym same ∙ p.1 in
        let there : (in_part p.0 h).descriptor ≡ Some e = ap (λ (c : Cell). c.descriptor) (part_cell p.0 h lease) ∙ it in
        ((kept p.0).sound.part.cells g).alone (rd_state p.0 g d p.2) ∙ sym (((kept p.0).sound.part.cells h).alone (rd_state p.0 h e there));
    vmid = vmids.range;
    vmids = vmids.apart;
    width = λ g d is. (row_sound g d is).width;
    aligned = λ g d is. (row_sound g d is).aligned;
    rows = λ g d is. (row_sound g d is).rows;
    full = λ g d is. (row_sound g d is).full;
    walks = λ g d is. walk_ends d.rows (row_sound g d is).full;
    empty = λ g d is. (row_sound g d is).empty;
    recs = λ g d is. (row_sound g d is).recs;
    names = λ g d is role to state there.
        let p = realm_in_part g d is in
        let found = (kept p.0).linked.names g d p.2 role (to, state) there in
        let held : is_host_state (in_part p.0 to).state ≡ false = ap is_host_state found.0 ∙ role_no_host state (target_state d role (to, state) there) in
        let same = held_cell p.0 to held in
        (ap (λ (c : Cell). c.state) (sym same) ∙ found.0, ap (λ (c : Cell). c.realm) (sym same) ∙ found.1, part_held p.0 to held ∙ sym p.1);
    once = λ g d is r s to x y here there.
        let p = realm_in_part g d is in
        sym ((kept p.0).linked.names g d p.2 r (to, x) here).2 ∙ ((kept p.0).linked.names g d p.2 s (to, y) there).2;
    named = λ g role. elim (whose g) [
      | nobodys e ↦ absurd (true_false _ role (ap (λ (c : Cell). is_role_state c.state) e))
      | of_build b lease same ↦
          let r = (kept b).linked.named g (ap (λ (c : Cell). is_role_state c.state) same ∙ role) in
          record {
            rd = r.rd;
            realm = r.realm;
            there = ap (λ (c : Cell). c.descriptor) (sym (held_cell b r.rd (rd_held b r.rd r.realm r.there))) ∙ r.there;
            role = r.role;
            named = r.named ∙ (λ i. Some (g, ap (λ (c : Cell). c.state) same i));
          }
    ];
  }

-- each realm of a world that a history leads to is at a granule that a build leases, and is in that build's part
pub realm_of_build : (limits : Limits) (history : List Event) (w : World) → replay limits history ≡ Some w → (g : ℕ) (d : RealmRow) → IsRealmAt w g d
    → (b : ℕ) × (slice_get w.leases g ≡ Some (Some b)) × ((cell_at (part_of w b).machine g).descriptor ≡ Some d)
realm_of_build limits history w at_w =
    realm_in_part limits w (clean_reached limits history w at_w) (sized_reached limits history w at_w) (λ b. kept_reached limits b history w at_w) (vmids_reached limits history w at_w)

pub reachable_worlds : (limits : Limits) (history : List Event) (w : World) → replay limits history ≡ Some w → IsReachable limits w
reachable_worlds limits history w at_w =
    reachable limits w (clean_reached limits history w at_w) (sized_reached limits history w at_w) (λ b. kept_reached limits b history w at_w) (vmids_reached limits history w at_w)
