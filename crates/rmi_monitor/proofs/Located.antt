-- Proofs that the lookup for a command finds the realm's tables if and only if the realm exists and the IPA granule is
-- protected.
use Rattle.std.proofs.Common.{◌≡◌, ℕ, ◌<◌, true, false, cond, Option, Some, None, refl, sym, ap, ◌∙◌, subst}
use Rattle.std.specs.Prelude.{IfSome, IfNone}
use Rattle.std.proofs.lemmas.Option.{none-some, same_Some}
use Rattle.granule_addr.specs.Ipa.{is_protected_at}
use Rattle.granule_addr.specs.Root.{served_space}
use Rattle.granule_addr.specs.declared.width.Root.{Root}
use Rattle.realm_model.specs.Rows.{is_table_place}
use Rattle.realm_model.specs.Machine.{RealmRow, cell_at}
use Rattle.realm_model.specs.Command.Check.{is_new}
use Rattle.rmi_monitor.specs.Attributes.{RealmAttributes}
use Rattle.rtt.specs.declared.tables.Tables.{Tables}
use Rattle.rtt.specs.Realm.{HasTables}
use Rattle.rmi_monitor.specs.View.{MonitorView}
use Rattle.rmi_monitor.specs.Inside.{Fields, realm_at, IsWhole}
use Rattle.rmi_monitor.specs.Located.{IsLocated, Locates, LocatesNew, IsNowhere}
use Rattle.rmi_monitor.proofs.Comparisons.{test_held, test_failed}
use Rattle.rmi_monitor.proofs.Granules.{HasFields}
use Rattle.rmi_monitor.proofs.Protected.{protected_inside}
use Rattle.rmi_monitor.proofs.RealmFound.{row_of, realm_found, descriptor_there}

-- the code has read the starting tables and the IPA width of the realm, and checks that the IPA granule is protected
module _ (realm : RealmAttributes) (ipa : ℕ) (root : Root) (read : root ≡ realm.root) where
  pub unprotected : None ≡ cond (is_protected_at ipa root.width) (Some ipa) None → is_protected_at ipa realm.root.width ≡ false
  unprotected tested = ap (λ (r : Root). is_protected_at ipa r.width) (sym read) ∙ test_failed (is_protected_at ipa root.width) ipa None tested refl

  pub located : (rd : ℕ) (at : Tables) → at ≡ record { rd = rd; root = realm.root } → (given : ℕ)
      → Some given ≡ cond (is_protected_at ipa root.width) (Some ipa) None → IsLocated realm rd ipa (at, given)
  located rd at tables given tested =
      let held = test_held (is_protected_at ipa root.width) ipa given (Some given) tested refl in
      record { tables = tables; same = held.1; protected = ap (λ (r : Root). is_protected_at ipa r.width) (sym read) ∙ held.0 }

-- a lookup that answers `None` meets its postcondition, if the postcondition's clause for `None` holds
pub none_located : (Found : Tables × ℕ → Type 0) {None_there : Type 0} (answer : Option (Tables × ℕ)) → answer ≡ None → None_there
    → record { some : IfSome answer Found; none : IfNone answer None_there }
none_located Found {None_there} answer is there =
    subst (λ (o : Option (Tables × ℕ)). record { some : IfSome o Found; none : IfNone o None_there }) (sym is) (record { some = tt; none = there })

-- the realm has the located tables, and these serve the located IPA granule
module _ {realm : RealmAttributes} {rd ipa : ℕ} {at : Tables × ℕ} (there : IsLocated realm rd ipa at) where
  pub located_tables : {fields : Fields} → IsWhole fields → realm_at fields rd ≡ Some realm → HasTables fields.pages fields.granules at.0.rd at.0.root
  located_tables {fields} whole stands =
      subst (λ (t : Tables). HasTables fields.pages fields.granules t.rd t.root) (sym there.tables) (whole.tables rd realm stands)

  pub located_inside : at.1 < served_space at.0.root.width
  located_inside =
      subst (λ (t : Tables). at.1 < served_space t.root.width) (sym there.tables)
      (subst (λ n. n < served_space realm.root.width) (sym there.same) (protected_inside realm.root.width ipa there.protected))

-- ---- in the fields of an RMM

-- the fields have a realm with RD `rd`, and `at` has its tables and the protected IPA granule
pub record Stands (fields : Fields) (rd ipa : ℕ) (at : Tables × ℕ) : Type 0 where
  pub realm : RealmAttributes
  pub there : realm_at fields rd ≡ Some realm
  pub located : IsLocated realm rd ipa at

module _ {monitor : MonitorView} {fields : Fields} (kept : HasFields monitor fields) where
  module _ {rd ipa : ℕ} {at : Tables × ℕ} (here : Locates monitor.machine rd ipa at) where
    pub stands : Stands fields rd ipa at
    stands =
        let found = realm_found monitor fields kept.view_is kept.whole rd here.row here.there in
        let root : here.row.root ≡ found.0.root = ap (λ (r : RealmRow). r.root) (sym found.2) in
        record {
          realm = found.0;
          there = found.1;
          located = record {
            tables = here.tables ∙ ap (λ (r : Root). record { rd = rd; root = r }) root;
            same = here.same;
            protected = ap (λ (r : Root). is_protected_at ipa r.width) (sym root) ∙ here.protected;
          };
        }

    -- the fields have the located tables
    pub its_tables : HasTables fields.pages fields.granules at.0.rd at.0.root
    its_tables = located_tables stands.located kept.whole stands.there

    -- the located tables serve the located IPA granule
    pub its_space : at.1 < served_space at.0.root.width
    its_space = located_inside stands.located

    pub stands_new : is_new here.row.state ≡ true → is_new stands.realm.state ≡ true
    unfolding stands
    stands_new is = ap (λ (r : RealmRow). is_new r.state) (realm_found monitor fields kept.view_is kept.whole rd here.row here.there).2 ∙ is

    pub its_place : {given level : ℕ} → (given ≡ level) × (is_table_place ipa level ≡ true) → is_table_place at.1 given ≡ true
    its_place held = (λ k. is_table_place (here.same k) (held.0 k)) ∙ held.1

  -- ---- what code finds

  pub nowhere_empty : (rd ipa : ℕ) → realm_at fields rd ≡ None → IsNowhere monitor.machine rd ipa
  nowhere_empty rd ipa none row at =
      let found = realm_found monitor fields kept.view_is kept.whole rd row at in
      absurd (none-some found.0 (sym none ∙ found.1))

  module _ (rd ipa : ℕ) (realm : RealmAttributes) (there : realm_at fields rd ≡ Some realm) where
    row_is : (row : RealmRow) → (cell_at monitor.machine rd).descriptor ≡ Some row → row_of fields rd realm ≡ row
    row_is row at = same_Some _ row (sym (descriptor_there monitor fields kept.view_is kept.whole rd realm there) ∙ at)

    pub nowhere_outside : is_protected_at ipa realm.root.width ≡ false → IsNowhere monitor.machine rd ipa
    nowhere_outside outside row at = ap (λ (r : RealmRow). is_protected_at ipa r.root.width) (sym (row_is row at)) ∙ outside

    pub locates : {at : Tables × ℕ} → IsLocated realm rd ipa at → Locates monitor.machine rd ipa at
    locates located = record {
      row = row_of fields rd realm;
      there = descriptor_there monitor fields kept.view_is kept.whole rd realm there;
      tables = located.tables;
      same = located.same;
      protected = located.protected;
    }

    pub locates_new : {at : Tables × ℕ} → IsLocated realm rd ipa at → is_new realm.state ≡ true → LocatesNew monitor.machine rd ipa at
    unfolding locates
    locates_new located is = record { place = locates located; is_fresh = is }
