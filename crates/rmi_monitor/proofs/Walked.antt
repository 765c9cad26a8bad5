-- Proofs that the RTT walk of an IPA granule has the same end in the fields of an RMM as in its machine.
use Rattle.std.proofs.Common.{◌≡◌, ℕ, ◌<◌, ◌≤◌, ◌&&◌, true, cond, length, Some, None, option_map, refl, sym, ap, ◌∙◌, subst}
use Rattle.std.specs.Prelude.{option_and_then}
use Rattle.std.proofs.lemmas.Bool.{and_from, and_parts, le-leb, ltb-true}
use Rattle.granule_addr.specs.Ipa.{is_width, is_in_space}
use Rattle.granule_addr.specs.Root.{served_space}
use Rattle.granule_addr.specs.declared.width.Root.{Root}
use Rattle.granule_addr.proofs.Spaces.{served_is}
use Rattle.realm_model.specs.Machine.{Cell, RealmRow}
use Rattle.realm_model.specs.Rows.{Walk, walk}
use Rattle.rmi_monitor.specs.Attributes.{RealmAttributes}
use Rattle.rtt.specs.declared.tables.Tables.{Tables}
use Rattle.rtt.specs.Realm.{HasTables}
use Rattle.rtt.specs.Tables.{rows}
use Rattle.rmi_monitor.specs.View.{MonitorView}
use Rattle.rmi_monitor.specs.Inside.{Fields, realm_at}
use Rattle.rmi_monitor.specs.Walked.{walk_of, walk_in}
use Rattle.rmi_monitor.proofs.Comparisons.{test_held, test_failed}
use Rattle.rmi_monitor.proofs.Granules.{HasFields, cell_is}
use Rattle.rmi_monitor.proofs.RealmFound.{row_of, descriptor_there}

-- the starting tables serve each IPA granule of an address space whose width a realm may have
space_served : (width ipa : ℕ) → is_width width ≡ true → is_in_space ipa width ≡ true → ipa < served_space width
space_served width ipa wide inside = subst (λ n. ipa < n) (sym (served_is width wide)) (ltb-true ipa _ inside)

module _ {monitor : MonitorView} {fields : Fields} (kept : HasFields monitor fields) (rd ipa level : ℕ) where
  -- there is no walk at a granule that is no RD
  pub no_walk : rd < length monitor.machine → realm_at fields rd ≡ None → walk_in monitor.machine rd ipa level ≡ None
  no_walk inside none =
      ap (option_and_then (λ (r : RealmRow). walk_of r ipa level))
      (ap (λ (c : Cell). c.descriptor) (cell_is monitor fields kept.view_is kept.whole rd inside) ∙ ap (option_map (row_of fields rd)) none)

  -- the code has read the starting tables of the realm, and the realm's IPA width as `number`
  module _ (realm : RealmAttributes) (there : realm_at fields rd ≡ Some realm) (root : Root) (read : root ≡ realm.root)
      (number : ℕ) (number_is : number ≡ root.width) (least : 39 ≤ number) (most : number ≤ 43) where
    width_is : number ≡ realm.root.width
    width_is = number_is ∙ ap (λ (r : Root). r.width) read

    wide : is_width number ≡ true
    wide = and_from _ _ (le-leb 39 number least) (le-leb number 43 most)

    walk_is : walk_in monitor.machine rd ipa level ≡ cond (is_in_space ipa number) (walk (rows fields.pages realm.root) ipa level) None
    walk_is =
        ap (option_and_then (λ (r : RealmRow). walk_of r ipa level)) (descriptor_there monitor fields kept.view_is kept.whole rd realm there)
        ∙ ap (λ n. cond (is_in_space ipa n) (walk (rows fields.pages realm.root) ipa level) None) (sym width_is)

    pub walk_outside : None ≡ cond (is_width number && is_in_space ipa number) (Some ipa) None → walk_in monitor.machine rd ipa level ≡ None
    walk_outside none =
        let failed = ap (λ b. b && is_in_space ipa number) (sym wide) ∙ test_failed (is_width number && is_in_space ipa number) ipa None none refl in
        walk_is ∙ ap (λ b. cond b (walk (rows fields.pages realm.root) ipa level) None) failed

    module _ (given : ℕ) (made : Some given ≡ cond (is_width number && is_in_space ipa number) (Some ipa) None) (at : Tables)
        (at_is : at ≡ record { rd = rd; root = realm.root }) where
      held : ((is_width number && is_in_space ipa number) ≡ true) × (given ≡ ipa)
      held = test_held (is_width number && is_in_space ipa number) ipa given (Some given) made refl

      inside : is_in_space ipa number ≡ true
      inside = (and_parts _ _ held.0).1

      tables : HasTables fields.pages fields.granules at.rd at.root
      tables = subst (λ (t : Tables). HasTables fields.pages fields.granules t.rd t.root) (sym at_is) (kept.whole.tables rd realm there)

      space : given < served_space at.root.width
      space =
          subst (λ (t : Tables). given < served_space t.root.width) (sym at_is)
          (subst (λ n. given < served_space n) width_is (subst (λ n. n < served_space number) (sym held.1) (space_served number ipa wide inside)))

      -- the code's walk meets its preconditions
      pub walk_asks : HasTables fields.pages fields.granules at.rd at.root × (given < served_space at.root.width)
      walk_asks = (tables, space)

      -- the code's walk ends as the walk in the machine
      pub walk_ends : (end : Walk) → walk (rows fields.pages at.root) given level ≡ Some end → Some end ≡ walk_in monitor.machine rd ipa level
      walk_ends end is =
          sym
          (walk_is
          ∙ ap (λ b. cond b (walk (rows fields.pages realm.root) ipa level) None) inside
          ∙ (λ k. walk (rows fields.pages (sym at_is k).root) (sym held.1 k) level)
          ∙ is)
