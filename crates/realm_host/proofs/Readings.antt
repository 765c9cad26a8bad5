-- Proofs that the host's read functions for granules, RECs and RTT entries agree with the host's world.
use Rattle.std.proofs.Common.{◌≡◌, ℕ, ◌+◌, ◌-◌, ◌^◌, ◌<◌, ◌≤◌, Bool, true, false, cond, length, Option, Some, None, refl, sym, ap, ◌∙◌, subst, arith}
use Rattle.std.specs.Prelude.{◌==◌, nat_le, nat_lt, option_map, option_and_then, slice_index_or}
use Rattle.std.proofs.lemmas.Bool.{ltb-true, lt-ltb, le-ltb, leb-true, and_parts}
use Rattle.std.proofs.Math.Nat.{lt-div-mul-add}
use Rattle.std.proofs.Math.Pow.{pow_mono}
use Rattle.granule_addr.specs.Ipa.{covered_count, first_covered, is_width, is_in_space, widest_space}
use Rattle.realm_model.specs.declared.states.GranuleState.{GranuleState}
use Rattle.realm_model.specs.Machine.{Machine, RealmRow, cell_at}
use Rattle.realm_model.specs.Rows.{Row, Walk, walk}
use Rattle.realm_model.specs.World.{World, realm_of}
use Rattle.realm_model.proofs.Reachable.{reachable_worlds}
use Rattle.rmi_monitor.specs.Attributes.{RecAttributes}
use Rattle.rmi_monitor.specs.View.{MonitorView}
use Rattle.rmi_monitor.specs.Named.{rec_attributes_at}
use Rattle.rmi_monitor.specs.Walked.{walk_of, walk_in}
use Rattle.realm_model.specs.Places.{rd_of, rec_granule}
use Rattle.host_ledger.specs.View.{HostView, world_of}
use Rattle.realm_host.specs.Host.{IsWhole}
use Rattle.realm_host.specs.Readings.{granule_at, rec_at, row_view, row_at}
use Rattle.realm_host.specs.declared.reading.GranuleView.{GranuleView}
use Rattle.realm_host.proofs.RecRuns.{rec_is}
use Rattle.realm_host.proofs.Realms.{row_at_rd, long}

-- an IPA granule lies below the end of the range that its entry covers
pub past : (level ipa first : ℕ) → first ≡ first_covered level ipa → ipa < first + covered_count level
past level ipa first is = subst (λ n. ipa < n + covered_count level) (sym is) (lt-div-mul-add (some (level == 1) (level == 2)))
  where
    some : (s t : Bool) → 0 < cond s (2 ^ 18) (cond t (2 ^ 9) 1)
    some true t = omega arith
    some false true = omega arith
    some false false = omega arith

-- `row_at` of a build gives the row at which a walk from the RD of the build's realm ends
row_by_rd : (world : World) (build rd ipa level : ℕ) → rd_of build world ≡ Some rd → row_at world build ipa level ≡ option_map (row_view ipa) (walk_in world.machine rd ipa level)
row_by_rd world build rd ipa level is = ap (λ o. option_map (row_view ipa) (option_and_then (λ (realm : RealmRow). walk_of realm ipa level) o)) (row_at_rd world build rd is)

module _ (ledger : HostView) (monitor : MonitorView) (whole : IsWhole ledger monitor) (now : HostView) (view_is : ledger ≡ now) where
  -- a function of the world has the same value for the world of `ledger` as for that of `now`, since `ledger` equals
  -- `now`
  told : {A : Type 0} (read : World → A) → read (world_of ledger) ≡ read (world_of now)
  told read = ap (λ (h : HostView). read (world_of h)) view_is

  pub pages_are : length monitor.machine ≡ now.limits.pages
  pages_are = long ledger monitor whole now view_is ∙ ap (λ (h : HostView). h.limits.pages) view_is

  -- ---- granules

  module _ (granule : ℕ) where
    abbrev granule_of : Bool → World → Option GranuleView
    granule_of inside world = cond inside (Some (record {
      state = (cell_at world.machine granule).state;
      build = slice_index_or world.leases granule None;
      realm = (cell_at world.machine granule).realm;
    })) None

    inside_is : (b : Bool) → nat_lt granule (length monitor.machine) ≡ b → granule_of b (world_of ledger) ≡ granule_at (world_of now) granule
    inside_is b is =
        ap (λ t. granule_of t (world_of ledger)) (sym is ∙ ap (λ (m : Machine). nat_lt granule (length m)) whole.mirror.machine)
        ∙ told (λ world. granule_at world granule)

    -- the machine has the granule if its number is below the page count, and otherwise `granule_at` gives None
    module _ (number pages : ℕ) (number_is : number ≡ granule) (counted : pages ≡ length monitor.machine) where
      pub no_granule : pages ≤ number → None ≡ granule_at (world_of now) granule
      no_granule outside = inside_is false (le-ltb granule (length monitor.machine) (omega (arith, outside, number_is, counted)))

      pub granule_inside : number < pages → granule < length monitor.machine
      granule_inside inside = omega (arith, inside, number_is, counted)

    pub granule_is : (state : GranuleState) (build realm : Option ℕ) → granule < length monitor.machine
        → state ≡ (cell_at monitor.machine granule).state → build ≡ slice_index_or (world_of ledger).leases granule None → realm ≡ (cell_at monitor.machine granule).realm
        → Some (record { state = state; build = build; realm = realm }) ≡ granule_at (world_of now) granule
    granule_is state build realm inside state_is build_is realm_is =
        (λ i. Some (record {
          state = (state_is ∙ ap (λ (m : Machine). (cell_at m granule).state) whole.mirror.machine) i;
          build = build_is i;
          realm = (realm_is ∙ ap (λ (m : Machine). (cell_at m granule).realm) whole.mirror.machine) i;
        }))
        ∙ inside_is true (lt-ltb granule (length monitor.machine) inside)

  -- ---- RECs

  module _ (build number : ℕ) where
    pub rec_told : (granule : ℕ) → Some granule ≡ rec_granule (realm_of build (world_of ledger)) number
        → (rec : RecAttributes) → Some rec ≡ rec_attributes_at monitor.machine granule → Some (granule, rec) ≡ rec_at (world_of now) build number
    rec_told granule granule_is rec told_is =
        ap (option_map (λ (r : RecAttributes). (granule, r))) (told_is ∙ ap (λ (m : Machine). rec_attributes_at m granule) whole.mirror.machine)
        ∙ sym (rec_is ledger.limits ledger.history (world_of ledger) whole.mirror.world_is build granule number (sym granule_is))
        ∙ told (λ world. rec_at world build number)

  -- ---- rows

  module _ (build ipa level rd : ℕ) (rd_is : Some rd ≡ rd_of build (world_of now)) where
    rd_there : rd_of build (world_of ledger) ≡ Some rd
    rd_there = told (rd_of build) ∙ sym rd_is

    walk_told : (end : Option Walk) → end ≡ walk_in monitor.machine rd ipa level → option_map (row_view ipa) end ≡ row_at (world_of now) build ipa level
    walk_told end end_is =
        ap (option_map (row_view ipa)) (end_is ∙ ap (λ (m : Machine). walk_in m rd ipa level) whole.mirror.machine)
        ∙ sym (row_by_rd (world_of ledger) build rd ipa level rd_there)
        ∙ told (λ world. row_at world build ipa level)

    pub no_end : None ≡ walk_in monitor.machine rd ipa level → None ≡ row_at (world_of now) build ipa level
    no_end none = walk_told None none

    -- the row at the end of a walk from the realm's RD, with its level and its first IPA granule, is what `row_at`
    -- gives
    pub row_seen : (end : Walk) → Some end ≡ walk_in monitor.machine rd ipa level → (at : ℕ) (row : Row) (first : ℕ) → record { level = at; row = row } ≡ end
        → first ≡ first_covered at ipa → Some (record { level = at; first = first; entry = row }) ≡ row_at (world_of now) build ipa level
    row_seen end end_is at row first view_is first_is =
        ap (λ n. Some (record { level = at; first = n; entry = row })) first_is
        ∙ ap (λ (e : Walk). Some (row_view ipa e)) view_is
        ∙ walk_told (Some end) end_is

    -- if a walk for an IPA granule ends at a row, that IPA granule is in the widest address space
    pub ipa_small : (end : Walk) → Some end ≡ walk_in monitor.machine rd ipa level → ipa < widest_space
    ipa_small end end_is = by (cell_at monitor.machine rd).descriptor refl end_is
      where
        small : (realm : RealmRow) → is_width realm.root.width ≡ true → (inside : Bool) → is_in_space ipa realm.root.width ≡ inside
            → Some end ≡ cond inside (walk realm.rows ipa level) None → ipa < widest_space
        small realm wide false is e = cc
        small realm wide true is e =
            let below : ipa < 2 ^ (realm.root.width - 12) = ltb-true ipa _ is in
            let narrow : realm.root.width ≤ 43 = leb-true realm.root.width 43 (and_parts (nat_le 39 realm.root.width) (nat_le realm.root.width 43) wide).1 in
            let few : realm.root.width - 12 ≤ 31 = omega arith in
            let least : 2 ^ (realm.root.width - 12) ≤ 2 ^ 31 = pow_mono few in
            omega arith

        by : (o : Option RealmRow) → (cell_at monitor.machine rd).descriptor ≡ o → Some end ≡ option_and_then (λ (realm : RealmRow). walk_of realm ipa level) o → ipa < widest_space
        by None there e = cc
        by (Some realm) there e =
            let sound = reachable_worlds ledger.limits ledger.history (world_of ledger) whole.mirror.world_is in
            small realm (sound.width rd realm (ap (λ (m : Machine). (cell_at m rd).descriptor) (sym whole.mirror.machine) ∙ there)) (is_in_space ipa realm.root.width) refl e
