-- Proofs that an RMM's fields agree with its machine on realm attributes, on the bytes of granules other than tables,
-- and on the entries of tables.
use Rattle.std.proofs.Common.{◌≡◌, ℕ, ◌<◌, length, Option, Some, None, option_map, refl, sym, ap, ◌∙◌, subst}
use Rattle.page_arena.specs.Page.{page_at}
use Rattle.realm_model.specs.Machine.{Cell, RealmRow, cell_at}
use Rattle.rmi_monitor.specs.Attributes.{RealmAttributes, realm_row}
use Rattle.rtt.specs.Tables.{rows}
use Rattle.rtt.specs.RowWords.{AreWordsOf}
use Rattle.rtt.proofs.RowWords.{row_words}
use Rattle.rmi_monitor.specs.View.{MonitorView, IsPageOf, attributes_of}
use Rattle.rmi_monitor.specs.Inside.{Fields, realm_at, recs_of, seen_as, IsWhole}
use Rattle.rmi_monitor.proofs.Machines.{IsPageOf-cell_of}
use Rattle.rmi_monitor.proofs.Granules.{cell_is}
use Rattle.rmi_monitor.proofs.RealmFound.{realm_found}

module _ (monitor : MonitorView) (fields : Fields) (view_is : seen_as fields ≡ monitor) (whole : IsWhole fields) (rd : ℕ) (inside : rd < length monitor.machine) where
  -- the fields and the machine have the same attributes of the realm with RD `rd`, or both have no such realm
  pub attributes_there : realm_at fields rd ≡ option_map attributes_of (cell_at monitor.machine rd).descriptor
  attributes_there =
      same (realm_at fields rd)
      ∙ ap (λ (c : Cell). option_map attributes_of c.descriptor) (sym (cell_is monitor fields view_is whole rd inside))
    where
      same : (o : Option RealmAttributes)
          → o ≡ option_map attributes_of (option_map (λ r. realm_row r (recs_of fields.granules fields.recs rd) (rows fields.pages r.root)) o)
      same (Some r) = refl
      same None = refl

-- ---- words

module _ (monitor : MonitorView) (fields : Fields) (view_is : seen_as fields ≡ monitor) (whole : IsWhole fields) where
  pub pages_there : (g : ℕ) → g < length monitor.machine → IsPageOf (cell_at monitor.machine g) (page_at fields.pages g)
  pages_there g inside = subst (λ (c : Cell). IsPageOf c (page_at fields.pages g)) (sym (cell_is monitor fields view_is whole g inside)) (IsPageOf-cell_of fields g (page_at fields.pages g) refl)

  pub words_there : (rd : ℕ) (realm : RealmRow) → rd < length monitor.machine → (cell_at monitor.machine rd).descriptor ≡ Some realm → AreWordsOf fields.pages realm.rows realm.root
  words_there rd realm inside at =
      let found = realm_found monitor fields view_is whole rd realm at in
      subst (λ (r : RealmRow). AreWordsOf fields.pages r.rows r.root) found.2 (row_words fields.pages found.0.root fields.granules rd (whole.tables rd found.0 found.1))
