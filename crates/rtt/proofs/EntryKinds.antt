-- Proofs that the state of an entry decides whether the entry leads to a table, to a page of data, or to nothing.
use Rattle.std.proofs.Common.{◌≡◌, ℕ, Bool, true, false, cond, Option, Some, None, refl, ap}
use Rattle.realm_model.specs.declared.states.EntryState.{EntryState}
use Rattle.realm_model.specs.declared.states.EntryState.TheVariants.{Unassigned, Assigned, Table}
use Rattle.realm_model.specs.declared.states.Ripas.{Ripas}
use Rattle.realm_model.specs.declared.states.Ripas.TheVariants.{Ram}
use Rattle.realm_model.specs.Rows.{Row, is_unassigned, is_assigned, is_table, unassigned, assigned, as_ram, table_of, data_of}
use Rattle.rtt.specs.Word.{IsEncodable, IsEntry}

-- an entry that passes the test `is_unassigned` has the state UNASSIGNED
pub unassigned_kind : (row : Row) → is_unassigned row ≡ true → row.state ≡ Unassigned
unassigned_kind row e = by_kind row.state e
  where
    by_kind : (h : EntryState) → elim h [ Unassigned ↦ true | Assigned ↦ false | Table ↦ false ] ≡ true → h ≡ Unassigned
    by_kind Unassigned e = refl
    by_kind Assigned e = cc
    by_kind Table e = cc

pub unassigned_plain : (row : Row) → is_unassigned row ≡ true → is_table row ≡ false
unassigned_plain row e = ap (λ (h : EntryState). elim h [ Unassigned ↦ false | Assigned ↦ false | Table ↦ true ]) (unassigned_kind row e)

-- an UNASSIGNED entry leads to no table
pub table_of-unassigned : (row : Row) → row.state ≡ Unassigned → table_of row ≡ None
table_of-unassigned row e = ap (λ (h : EntryState). cond (elim h [ Unassigned ↦ false | Assigned ↦ false | Table ↦ true ]) row.granule None) e

pub data_of-unassigned : (row : Row) → row.state ≡ Unassigned → data_of row ≡ None
data_of-unassigned row e = ap (λ (h : EntryState). cond (elim h [ Unassigned ↦ false | Assigned ↦ true | Table ↦ false ]) row.granule None) e

-- setting the RIPAS of an UNASSIGNED entry without a granule to RAM gives the entry `unassigned Ram`
pub as_ram-unassigned : (row : Row) → row.state ≡ Unassigned → row.granule ≡ None → as_ram (Some row) ≡ unassigned Ram
as_ram-unassigned row kind none = λ i. record { state = kind i; ripas = Ram; granule = none i }

-- ---- the table that an entry leads to

pub table_of-plain : (row : Row) → is_table row ≡ false → table_of row ≡ None
table_of-plain row plain = ap (λ b. cond b row.granule None) plain

pub table_of-table : (row : Row) → is_table row ≡ true → table_of row ≡ row.granule
table_of-table row is = ap (λ b. cond b row.granule None) is

-- if `cond test o None` is a granule, the test is true and `o` is that granule
leads : (test : Bool) (o : Option ℕ) (granule : ℕ) → cond test o None ≡ Some granule → (test ≡ true) × (o ≡ Some granule)
leads true o granule e = (refl, e)
leads false o granule e = cc

pub table_of-leads : (row : Row) (granule : ℕ) → table_of row ≡ Some granule → (is_table row ≡ true) × (row.granule ≡ Some granule)
table_of-leads row granule e = leads (is_table row) row.granule granule e

-- an entry that leads to no table is not TABLE
pub table_of-none : (row : Row) → IsEntry row → table_of row ≡ None → is_table row ≡ false
table_of-none row is e = by_kind row.state row.ripas row.granule is e
  where
    by_kind : (h : EntryState) (r : Ripas) (o : Option ℕ) → IsEncodable h r o → cond (elim h [ Unassigned ↦ false | Assigned ↦ false | Table ↦ true ]) o None ≡ None
        → elim h [ Unassigned ↦ false | Assigned ↦ false | Table ↦ true ] ≡ false
    by_kind Unassigned r o is e = refl
    by_kind Assigned r o is e = refl
    by_kind Table r None is e = absurd is
    by_kind Table r (Some granule) is e = cc

-- ---- the page that an entry leads to

pub data_of-none : (row : Row) → IsEntry row → data_of row ≡ None → is_assigned row ≡ false
data_of-none row is e = by_kind row.state row.ripas row.granule is e
  where
    by_kind : (h : EntryState) (r : Ripas) (o : Option ℕ) → IsEncodable h r o → cond (elim h [ Unassigned ↦ false | Assigned ↦ true | Table ↦ false ]) o None ≡ None
        → elim h [ Unassigned ↦ false | Assigned ↦ true | Table ↦ false ] ≡ false
    by_kind Unassigned r o is e = refl
    by_kind Assigned r None is e = absurd is
    by_kind Assigned r (Some granule) is e = cc
    by_kind Table r o is e = refl

pub data_of-leads : (row : Row) (page : ℕ) → data_of row ≡ Some page → row ≡ assigned row.ripas page
data_of-leads row page e = let is = leads (is_assigned row) row.granule page e in by_kind row.state row.granule is.0 is.1
  where
    by_kind : (h : EntryState) (o : Option ℕ) → elim h [ Unassigned ↦ false | Assigned ↦ true | Table ↦ false ] ≡ true → o ≡ Some page
        → ◌≡◌ {A = Row} (record { state = h; ripas = row.ripas; granule = o }) (assigned row.ripas page)
    by_kind Unassigned o h e = cc
    by_kind Assigned o h e = λ i. record { state = Assigned; ripas = row.ripas; granule = e i }
    by_kind Table o h e = cc
