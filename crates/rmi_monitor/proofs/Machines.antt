-- Lemmas about the machine that the fields of an RMM represent: each granule's cell, and the machine after some
-- granules change.
use Rattle.std.proofs.Common.{◌≡◌, ℕ, ◌<◌, true, false, List, length, set, Option, Some, None, option_map, refl, sym, ap, ◌∙◌, subst, arith}
use Rattle.std.specs.Prelude.{◌==◌}
use Rattle.std.proofs.lemmas.Bool.{eqb-true, eqb-false}
use Rattle.std.proofs.lemmas.List.{ext_get_or, length-set, get_or-set_same, get_or-set_other}
use Rattle.std.proofs.lemmas.List.FromFn.{get_or-map-range_with_len, length-map-range_with_len}
use Rattle.page_arena.specs.Page.{page_at}
use Rattle.rtt.specs.Granules.{granule_at}
use Rattle.rtt.specs.declared.granule.Granule.{Granule}
use Rattle.realm_model.specs.declared.states.GranuleState.{GranuleState}
use Rattle.realm_model.specs.declared.states.GranuleState.TheVariants.{Rtt as InRtt}
use Rattle.realm_model.specs.Machine.{Cell, Machine, RealmRow, blank, cell_at}
use Rattle.rmi_monitor.specs.Attributes.{RealmAttributes, realm_row}
use Rattle.rtt.specs.Tables.{rows}
use Rattle.rmi_monitor.specs.Inside.{Fields, realm_at, recs_of, descriptor_of, cell_of, bytes_of, machine_of}
use Rattle.rmi_monitor.specs.View.{IsPageOf}

pub length-machine_of : (fields : Fields) → length (machine_of fields) ≡ length fields.granules
unfolding machine_of
length-machine_of fields = length-map-range_with_len (cell_of fields) 0 (length fields.granules)

pub cell_at-machine_of : (fields : Fields) (g : ℕ) → g < length fields.granules → cell_at (machine_of fields) g ≡ cell_of fields g
unfolding machine_of
cell_at-machine_of fields g h = get_or-map-range_with_len (cell_of fields) 0 (length fields.granules) g g blank h (omega arith)

pub same_machine : (m n : Machine) → length m ≡ length n → ((g : ℕ) → g < length m → cell_at m g ≡ cell_at n g) → m ≡ n
same_machine m n as_many same = ext_get_or blank m n as_many same

-- ---- fields before and after a command

module _ (old new : Fields) (as_many : length new.granules ≡ length old.granules) where
  -- the new fields represent `machine`, if both have the same cells, and `machine` has as many granules as the old
  -- fields
  is_machine : (machine : Machine) → length machine ≡ length old.granules → ((g : ℕ) → g < length old.granules → cell_of new g ≡ cell_at machine g)
      → machine_of new ≡ machine
  is_machine machine long same =
      same_machine (machine_of new) machine (length-machine_of new ∙ as_many ∙ sym long) (λ g h.
      let inside : g < length new.granules = subst (λ n. g < n) (length-machine_of new) h in
      cell_at-machine_of new g inside ∙ same g (subst (λ n. g < n) as_many inside))

  -- if the new fields differ in one granule's cell alone, their machine is the old one with that cell set
  pub one_put : (a : ℕ) (cell : Cell) → a < length old.granules → cell_of new a ≡ cell
      → ((g : ℕ) → g < length old.granules → (g ≡ a → ⊥) → cell_of new g ≡ cell_of old g)
      → machine_of new ≡ set (machine_of old) a cell
  one_put a cell inside here other =
      let long = length-machine_of old in
      is_machine (set (machine_of old) a cell) (length-set (machine_of old) a cell ∙ long) (λ g h.
      elim (g == a) as (λ t. (g == a) ≡ t → cell_of new g ≡ cell_at (set (machine_of old) a cell) g) [
        | true ↦ λ e.
            let same = eqb-true g a e in
            ap (cell_of new) same ∙ here ∙ sym (get_or-set_same (machine_of old) a cell blank (subst (λ n. a < n) (sym long) inside))
            ∙ ap (cell_at (set (machine_of old) a cell)) (sym same)
        | false ↦ λ e.
            let differs = eqb-false g a e in
            other g h differs ∙ sym (cell_at-machine_of old g h) ∙ sym (get_or-set_other (machine_of old) a g cell blank differs)
      ] refl)

  -- if the new fields differ in the cells of two granules alone, their machine is the old one with both cells set
  pub two_put : (a b : ℕ) (x y : Cell) → a < length old.granules → b < length old.granules → (a ≡ b → ⊥) → cell_of new a ≡ x → cell_of new b ≡ y
      → ((g : ℕ) → g < length old.granules → (g ≡ a → ⊥) → (g ≡ b → ⊥) → cell_of new g ≡ cell_of old g)
      → machine_of new ≡ set (set (machine_of old) a x) b y
  two_put a b x y inside inside' different here there other =
      let long : length (set (machine_of old) a x) ≡ length old.granules = length-set (machine_of old) a x ∙ length-machine_of old in
      is_machine (set (set (machine_of old) a x) b y) (length-set (set (machine_of old) a x) b y ∙ long) (λ g h.
      elim (g == b) as (λ t. (g == b) ≡ t → cell_of new g ≡ cell_at (set (set (machine_of old) a x) b y) g) [
        | true ↦ λ e.
            let same = eqb-true g b e in
            ap (cell_of new) same ∙ there ∙ sym (get_or-set_same (set (machine_of old) a x) b y blank (subst (λ n. b < n) (sym long) inside'))
            ∙ ap (cell_at (set (set (machine_of old) a x) b y)) (sym same)
        | false ↦ λ e.
            let differs = eqb-false g b e in
            elim (g == a) as (λ t. (g == a) ≡ t → cell_of new g ≡ cell_at (set (machine_of old) a x) g) [
              | true ↦ λ e'.
                  let same = eqb-true g a e' in
                  ap (cell_of new) same ∙ here ∙ sym (get_or-set_same (machine_of old) a x blank (subst (λ n. a < n) (sym (length-machine_of old)) inside))
                  ∙ ap (cell_at (set (machine_of old) a x)) (sym same)
              | false ↦ λ e'.
                  other g h (eqb-false g a e') differs ∙ sym (cell_at-machine_of old g h) ∙ sym (get_or-set_other (machine_of old) a g x blank (eqb-false g a e'))
            ] refl
            ∙ sym (get_or-set_other (set (machine_of old) a x) b g y blank differs)
      ] refl)

-- the cell of granule `g` stays the same if its state, realm, contents and descriptor do; the contents of a table may
-- change
module _ (old new : Fields) (g : ℕ) where
  pub cell_stays : granule_at new.granules g ≡ granule_at old.granules g
      → (((granule_at old.granules g).state ≡ InRtt → ⊥) → page_at new.pages g ≡ page_at old.pages g)
      → descriptor_of new g ≡ descriptor_of old g → cell_of new g ≡ cell_of old g
  cell_stays granule page descriptor =
      let bytes : bytes_of (granule_at old.granules g).state (page_at new.pages g) ≡ bytes_of (granule_at old.granules g).state (page_at old.pages g) =
      counts (granule_at old.granules g).state page in
      ap (λ (x : Granule). record { state = x.state; realm = x.realm; bytes = bytes_of x.state (page_at new.pages g); descriptor = descriptor_of new g }) granule
      ∙ (λ i. record { state = (granule_at old.granules g).state; realm = (granule_at old.granules g).realm; bytes = bytes i; descriptor = descriptor i })
    where
      counts : (state : GranuleState) → ((state ≡ InRtt → ⊥) → page_at new.pages g ≡ page_at old.pages g) → bytes_of state (page_at new.pages g) ≡ bytes_of state (page_at old.pages g)
      counts InRtt same = refl
      counts _ same = same (λ e. cc)

  pub descriptor_stays : realm_at new g ≡ realm_at old g → recs_of new.granules new.recs g ≡ recs_of old.granules old.recs g
      → ((realm : RealmAttributes) → realm_at old g ≡ Some realm → rows new.pages realm.root ≡ rows old.pages realm.root)
      → descriptor_of new g ≡ descriptor_of old g
  descriptor_stays realm recs translation =
      let row : Option RealmAttributes → Option RealmRow =
      λ o. elim o [ Some r ↦ Some (realm_row r (recs_of old.granules old.recs g) (rows old.pages r.root)) | None ↦ None ] in
      elim (realm_at old g) as (λ o. realm_at old g ≡ o → descriptor_of new g ≡ row o) [
        | Some r ↦ λ e.
            ap descriptor_with (realm ∙ e)
            ∙ (λ i. Some (realm_row r (recs i) (translation r e i)))
        | None ↦ λ e. ap descriptor_with (realm ∙ e)
      ] refl ∙ same (realm_at old g)
    where
      descriptor_with : Option RealmAttributes → Option RealmRow
      descriptor_with o = elim o [ Some r ↦ Some (realm_row r (recs_of new.granules new.recs g) (rows new.pages r.root)) | None ↦ None ]

      same : (o : Option RealmAttributes) → elim o [ Some r ↦ Some (realm_row r (recs_of old.granules old.recs g) (rows old.pages r.root)) | None ↦ None ]
          ≡ option_map (λ r. realm_row r (recs_of old.granules old.recs g) (rows old.pages r.root)) o
      same (Some r) = refl
      same None = refl

-- the cell of a granule that is no RD has the granule's state, realm and bytes, and no descriptor
pub cell_plain : (fields : Fields) (g : ℕ) (granule : Granule) (page : List ℕ) → granule_at fields.granules g ≡ granule → page_at fields.pages g ≡ page → realm_at fields g ≡ None
    → cell_of fields g ≡ record { state = granule.state; realm = granule.realm; bytes = bytes_of granule.state page; descriptor = None }
cell_plain fields g granule page at page_is none i = record {
  state = (at i).state;
  realm = (at i).realm;
  bytes = bytes_of (at i).state (page_is i);
  descriptor = option_map (λ (r : RealmAttributes). realm_row r (recs_of fields.granules fields.recs g) (rows fields.pages r.root)) (none i);
}

-- a granule's contents are the bytes of its cell, unless the granule is a table
pub IsPageOf-cell_of : (fields : Fields) (g : ℕ) (bytes : List ℕ) → bytes ≡ page_at fields.pages g → IsPageOf (cell_of fields g) bytes
IsPageOf-cell_of fields g bytes e not_table = e ∙ same (granule_at fields.granules g).state not_table
  where
    same : (state : GranuleState) → (state ≡ InRtt → ⊥) → page_at fields.pages g ≡ bytes_of state (page_at fields.pages g)
    same InRtt h = absurd (h refl)
    same _ h = refl
