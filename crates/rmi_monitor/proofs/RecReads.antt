-- Proofs that the element at a granule's index, in an RMM's lists of RECs, of realms and of REC counts, exists and is
-- that of the granule.
use Rattle.std.proofs.Common.{◌≡◌, ℕ, ◌+◌, ◌<◌, ◌≤◌, true, length, get_or, Option, Some, None, refl, sym, ap, ◌∙◌, subst, arith}
use Rattle.std.specs.Prelude.{is_some}
use Rattle.std.proofs.lemmas.Option.{same_Some}
use Rattle.rtt.specs.Granules.{granule_at}
use Rattle.rmi_monitor.specs.Attributes.{RealmAttributes, RecAttributes, rec_row}
use Rattle.rmi_monitor.specs.View.{MonitorView}
use Rattle.rmi_monitor.specs.Inside.{Fields, realm_at, rec_count_at, rec_at, rec_of, recs_of, IsWhole}
use Rattle.rmi_monitor.proofs.Gathered.{len-some, len-gathered}
use Rattle.rmi_monitor.proofs.Granules.{HasFields, as_many_granules}
use Rattle.rmi_monitor.proofs.RecFound.{IsKept, row_found}
use Rattle.rmi_monitor.proofs.Listed.{some_inside, read_at}

module _ {monitor : MonitorView} {fields : Fields} (has : HasFields monitor fields) {granule : ℕ} (inside : granule < length monitor.machine) {i : ℕ} (same : i ≡ granule) where
  granule_place : granule < length fields.recs
  granule_place = subst (λ k. granule < k) (as_many_granules monitor fields has.view_is has.whole ∙ sym has.whole.rec_places) inside

  pub rec_place : {count : ℕ} → count ≡ length fields.recs → i < count
  rec_place counted = subst (λ n. i < n) (sym counted) (subst (λ k. k < length fields.recs) (sym same) granule_place)

  pub rec_read : {x y : Option RecAttributes} → x ≡ get_or fields.recs i x → x ≡ y → rec_at fields granule ≡ y
  rec_read {x} {y} = read_at fields.recs i granule None x y same granule_place

module _ (fields : Fields) (whole : IsWhole fields) (granule : ℕ) (rec : RecAttributes) (at : rec_at fields granule ≡ Some rec) where
  -- a REC has a realm
  pub some_rd : {of : Option ℕ} → of ≡ (granule_at fields.granules granule).realm → is_some of ≡ true
  some_rd is = ap is_some (is ∙ (whole.recs.of granule rec at).of)

  module _ (rd : ℕ) (of : (granule_at fields.granules granule).realm ≡ Some rd) where
    -- the REC's realm exists
    pub its_realm : realm_at fields rd ≡ Some (whole.recs.of granule rec at).realm
    its_realm = let is = whole.recs.of granule rec at in ap (realm_at fields) (same_Some rd is.rd (sym of ∙ is.of)) ∙ is.there

    pub kept_by : IsKept fields granule rec rd (whole.recs.of granule rec at).realm
    kept_by = record { at = at; of = of; there = its_realm }

    module _ (i : ℕ) (same : i ≡ rd) where
      pub realm_place : {count : ℕ} → count ≡ length fields.realms → i < count
      realm_place counted = subst (λ n. i < n) (sym counted) (subst (λ k. k < length fields.realms) (sym same) (some_inside fields.realms rd _ its_realm))

      realm_read : {x y : Option RealmAttributes} → x ≡ get_or fields.realms i x → x ≡ y → realm_at fields rd ≡ y
      realm_read {x} {y} = read_at fields.realms i rd None x y same (some_inside fields.realms rd _ its_realm)

      pub some_realm : {x : Option RealmAttributes} → x ≡ get_or fields.realms i x → is_some x ≡ true
      some_realm read = ap is_some (sym (realm_read read refl) ∙ its_realm)

      pub kept_there : {x : Option RealmAttributes} {realm : RealmAttributes} → x ≡ get_or fields.realms i x → x ≡ Some realm → IsKept fields granule rec rd realm
      kept_there read is = record { at = at; of = of; there = realm_read read is }

-- ---- the count of a realm's RECs

module _ (fields : Fields) (whole : IsWhole fields) (rd : ℕ) (inside : rd < length fields.granules) (i : ℕ) (same : i ≡ rd) where
  pub count_place : {count : ℕ} → count ≡ length fields.rec_counts → i < count
  count_place counted = subst (λ n. i < n) (sym (counted ∙ whole.count_places)) (subst (λ k. k < length fields.granules) (sym same) inside)

  pub count_read : (x : ℕ) → x ≡ get_or fields.rec_counts i x → x ≡ rec_count_at fields rd
  count_read x read = sym (read_at fields.rec_counts i rd 0 x x same (subst (λ n. rd < n) (sym whole.count_places) inside) read refl)

-- a realm has no more RECs than there are granules
pub few_recs : (fields : Fields) → IsWhole fields → (rd : ℕ) → rec_count_at fields rd ≤ length fields.granules
unfolding recs_of
few_recs fields whole rd =
    let counted = whole.counted rd in
    let few = len-gathered (rec_of fields.granules fields.recs rd) (length fields.granules) in
    omega (arith, counted, few)

-- the count of a realm's RECs, raised by one, still fits in 16 bits
pub one_more_fits : {fields : Fields} (rd : ℕ) {count pages : ℕ} → IsWhole fields → count ≡ rec_count_at fields rd → length fields.pages ≡ pages → pages ≤ 4096 → count + 1 ≤ 65535
one_more_fits {fields} rd whole counted sized most =
    let few = few_recs fields whole rd in
    let as_many = whole.backed.as_many in
    omega (arith, few, as_many)

-- a realm that has a REC has a count of RECs above 0
pub some_recs : (fields : Fields) (whole : IsWhole fields) (granule : ℕ) (rec : RecAttributes) (rd : ℕ) (realm : RealmAttributes) → IsKept fields granule rec rd realm → 0 < rec_count_at fields rd
some_recs fields whole granule rec rd realm kept =
    let counted = whole.counted rd in
    let more = len-some (recs_of fields.granules fields.recs rd) rec.number (rec_row granule rec) (row_found fields whole granule rec rd realm kept) in
    omega (arith, counted, more)
