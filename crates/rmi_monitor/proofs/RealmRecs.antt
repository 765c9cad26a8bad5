-- Proofs that the map of a realm's RECs, collected from the granules, has an entry for a number if and only if a REC of
-- the realm has that number.
use Rattle.std.proofs.Common.{◌≡◌, ℕ, ◌<◌, true, List, length, get_or, Option, Some, None, refl, sym, ap, ◌∙◌}
use Rattle.std.specs.FinMap.{get, empty}
use Rattle.std.proofs.lemmas.Option.{none-some}
use Rattle.rtt.specs.declared.granule.Granule.{Granule}
use Rattle.realm_model.specs.Machine.{RecRow}
use Rattle.rmi_monitor.specs.Attributes.{RecAttributes, rec_row}
use Rattle.rmi_monitor.specs.Inside.{is_of_realm, rec_of, recs_of, IsNumbered, IsRecAt, Fields, realm_at, rec_at, IsWhole}
use Rattle.rmi_monitor.proofs.Gathered.{gathered-none, get-gathered, gathered-get-none}
use Rattle.rmi_monitor.proofs.RecEntries.{rec_of-none, rec_of-other, rec_of-some, of_other}

module _ (granules : List Granule) (recs : List (Option RecAttributes)) (rd number granule : ℕ) where
  -- a granule with a REC of the realm meets `IsRecAt` for that REC's number, if no two RECs of the realm have the same
  -- number
  pub IsRecAt-there : (rec : RecAttributes) → IsNumbered granules recs rd → granule < length granules → is_of_realm granules rd granule ≡ true
      → get_or recs granule None ≡ Some rec → rec.number ≡ number → IsRecAt granules recs rd number granule
  unfolding recs_of
  IsRecAt-there rec numbered inside of there same =
      let at : rec_of granules recs rd granule ≡ Some (number, rec_row granule rec) =
      rec_of-some granules recs rd granule rec of there ∙ ap (λ k. Some (k, rec_row granule rec)) same in
      record {
        inside = inside;
        row = rec_row granule rec;
        at = at;
        found = get-gathered (rec_of granules recs rd) (length granules) granule number (rec_row granule rec) numbered inside at;
      }

-- the map of a realm's RECs has no entry for a number that no REC of the realm has
pub recs_of-without : (granules : List Granule) (recs : List (Option RecAttributes)) (rd number : ℕ)
    → ((granule : ℕ) → granule < length granules → (row : RecRow) → rec_of granules recs rd granule ≡ Some (number, row) → ⊥)
    → get (recs_of granules recs rd) number ≡ None
unfolding recs_of
recs_of-without granules recs rd number out = gathered-get-none (rec_of granules recs rd) (length granules) number (λ granule row lt at. out granule lt row at)

module _ (fields : Fields) (whole : IsWhole fields) (rd : ℕ) where
  -- if no realm has RD `rd`, the map of its RECs is empty
  pub recs_of-none : realm_at fields rd ≡ None → recs_of fields.granules fields.recs rd ≡ empty
  unfolding recs_of
  recs_of-none none = gathered-none (rec_of fields.granules fields.recs rd) (length fields.granules) (λ g inside. at g)
    where
      at : (g : ℕ) → rec_of fields.granules fields.recs rd g ≡ None
      at g = elim (rec_at fields g) as (λ o. rec_at fields g ≡ o → rec_of fields.granules fields.recs rd g ≡ None) [
        | Some rec ↦ λ e.
            let is = whole.recs.of g rec e in
            rec_of-other fields.granules fields.recs rd g (of_other fields.granules rd g is.rd is.of (λ same. none-some is.realm (sym none ∙ ap (realm_at fields) (sym same) ∙ is.there)))
        | None ↦ λ e. rec_of-none fields.granules fields.recs rd g e
      ] refl
