-- Lemmas about the entry of one granule in the map of a realm's RECs, and the proof that a realm's RECs have distinct
-- numbers.
use Rattle.std.proofs.Common.{◌≡◌, ◌≢◌, ℕ, true, false, List, get_or, Option, Some, None, option_map, refl, sym, ap, ◌∙◌, Bool, cond}
use Rattle.std.specs.Prelude.{nat_eq}
use Rattle.std.specs.Option.{option_eq}
use Rattle.std.proofs.lemmas.Bool.{eqb-true, eq-eqb, ne_eqb}
use Rattle.std.proofs.lemmas.Option.{same_Some}
use Rattle.rtt.specs.Granules.{granule_at}
use Rattle.rtt.specs.declared.granule.Granule.{Granule}
use Rattle.realm_model.specs.Machine.{RecRow}
use Rattle.realm_model.proofs.Booleans.{guarded}
use Rattle.rmi_monitor.specs.Attributes.{RecAttributes, rec_row}
use Rattle.rmi_monitor.specs.Inside.{Fields, is_of_realm, rec_of, IsNumbered, HasRecs}
use Rattle.rmi_monitor.proofs.Comparisons.{some_map}

module _ (granules : List Granule) (rd granule : ℕ) where
  pub of_realm : (granule_at granules granule).realm ≡ Some rd → is_of_realm granules rd granule ≡ true
  of_realm e = ap (λ o. option_eq nat_eq o (Some rd)) e ∙ eq-eqb rd rd refl

  pub of_other : (other : ℕ) → (granule_at granules granule).realm ≡ Some other → other ≢ rd → is_of_realm granules rd granule ≡ false
  of_other other e differs = ap (λ o. option_eq nat_eq o (Some rd)) e ∙ ne_eqb other rd differs

  pub realm_of : is_of_realm granules rd granule ≡ true → (granule_at granules granule).realm ≡ Some rd
  realm_of = same (granule_at granules granule).realm
    where
      same : (o : Option ℕ) → option_eq nat_eq o (Some rd) ≡ true → o ≡ Some rd
      same (Some n) e = ap Some (eqb-true n rd e)
      same None e = cc

-- the code's test of a granule's realm agrees with `is_of_realm`
pub is_of_realm-test : (granules : List Granule) (rd number granule : ℕ) (realm : Option ℕ) (test answer : Bool) → granule ≡ number → realm ≡ (granule_at granules granule).realm
    → test ≡ option_eq nat_eq realm (Some rd) → test ≡ answer → is_of_realm granules rd number ≡ answer
is_of_realm-test granules rd number granule realm test answer same realm_is test_is is =
    ap (is_of_realm granules rd) (sym same) ∙ ap (λ r. option_eq nat_eq r (Some rd)) (sym realm_is) ∙ sym test_is ∙ is

-- the granule holds a REC of the realm, with the given number and record
pub record IsEntry (granules : List Granule) (recs : List (Option RecAttributes)) (rd granule number : ℕ) (row : RecRow) : Type 0 where
  pub of : (granule_at granules granule).realm ≡ Some rd
  pub rec : RecAttributes
  pub at : get_or recs granule None ≡ Some rec
  pub numbered : rec.number ≡ number
  pub is : rec_row granule rec ≡ row

abbrev entry : ℕ → RecAttributes → ℕ × RecRow
entry granule rec = (rec.number, rec_row granule rec)

module _ (granules : List Granule) (rd granule : ℕ) where
  pub entry_at : (recs : List (Option RecAttributes)) (number : ℕ) (row : RecRow) → rec_of granules recs rd granule ≡ Some (number, row)
      → IsEntry granules recs rd granule number row
  entry_at recs number row is =
      let parts = guarded (is_of_realm granules rd granule) (option_map (entry granule) (get_or recs granule None)) (number, row) is in
      let found = some_map (entry granule) (get_or recs granule None) (number, row) parts.1 in
      record { of = realm_of granules rd granule parts.0; rec = found.0; at = found.1; numbered = ap (λ x. x.0) found.2; is = ap (λ x. x.1) found.2 }

module _ (granules : List Granule) (recs : List (Option RecAttributes)) (rd granule : ℕ) where
  -- a granule that holds no REC has no entry among the realm's RECs
  pub rec_of-none : get_or recs granule None ≡ None → rec_of granules recs rd granule ≡ None
  rec_of-none none = rw none (neither (is_of_realm granules rd granule))
    where
      neither : (t : Bool) → ◌≡◌ {A = Option (ℕ × RecRow)} (cond t None None) None
      neither true = refl
      neither false = refl

  -- a granule that does not belong to the realm has no entry among its RECs
  pub rec_of-other : is_of_realm granules rd granule ≡ false → rec_of granules recs rd granule ≡ None
  rec_of-other other = rw other

  -- a granule that holds a REC of the realm has the REC's number and record as its entry
  pub rec_of-some : (rec : RecAttributes) → is_of_realm granules rd granule ≡ true → get_or recs granule None ≡ Some rec
      → rec_of granules recs rd granule ≡ Some (rec.number, rec_row granule rec)
  rec_of-some rec of there = rw (of, there)

  -- the number in a granule's entry is that of the REC that the granule holds
  pub rec_of-number : (rec : RecAttributes) (number : ℕ) (row : RecRow) → get_or recs granule None ≡ Some rec
      → rec_of granules recs rd granule ≡ Some (number, row) → rec.number ≡ number
  rec_of-number rec number row there is =
      let e : IsEntry granules recs rd granule number row = entry_at granules rd granule recs number row is in
      ap (λ (r : RecAttributes). r.number) (same_Some rec e.rec (sym there ∙ e.at)) ∙ e.numbered

-- no two granules hold RECs of the realm with the same number
pub numbered_recs : (fields : Fields) → HasRecs fields → (rd : ℕ) → IsNumbered fields.granules fields.recs rd
numbered_recs fields has rd i j key a b below below' here there =
    let one : IsEntry fields.granules fields.recs rd i key a = entry_at fields.granules rd i fields.recs key a here in
    let other : IsEntry fields.granules fields.recs rd j key b = entry_at fields.granules rd j fields.recs key b there in
    has.once i j one.rec other.rec one.at other.at (one.of ∙ sym other.of) (one.numbered ∙ sym other.numbered)
