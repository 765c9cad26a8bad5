-- Proofs that taking a block, or giving one back, preserves the invariant of an RMM's fields and has the specified
-- effect.
use Rattle.std.proofs.Common.{◌≡◌, ◌≢◌, ℕ, ◌+◌, ◌^◌, ◌<◌, ◌≤◌, ⊎_elim, Bool, true, false, List, [], length, Option, Some, None, refl, sym, ap, ◌∙◌, subst, arith}
use Rattle.std.specs.Prelude.{IsTrue, ◌↔◌, IfSome, IfNone}
use Rattle.std.specs.Bool.{OnTrue, OnFalse}
use Rattle.page_arena.specs.Page.{page_at, is_free, IsSized}
use Rattle.granule_addr.specs.Page.{zero_page}
use Rattle.page_arena.specs.Block.{IsFreeBlock, with_run, with_taken, with_given}
use Rattle.page_arena.specs.Runs.{inside_or_outside, length-with_run, get_or-with_run_inside, get_or-with_run_outside}
use Rattle.rtt.specs.Granules.{granule_at}
use Rattle.rtt.specs.declared.granule.Granule.{Granule}
use Rattle.realm_model.specs.declared.states.GranuleState.TheVariants.{Undelegated}
use Rattle.realm_model.specs.Machine.{Cell, Machine, blank, cell_at}
use Rattle.rtt.specs.Realm.{LeavesAlone}
use Rattle.rmi_monitor.specs.View.{MonitorView, IsGivable, with_block, without_block}
use Rattle.rmi_monitor.specs.Inside.{Fields, descriptor_of, cell_of, machine_of, seen_as, IsSoundAt, IsWhole}
use Rattle.rmi_monitor.proofs.Machines.{length-machine_of, cell_at-machine_of, same_machine, cell_stays, descriptor_stays}
use Rattle.rmi_monitor.proofs.Checks.{undelegated_state}
use Rattle.rmi_monitor.proofs.Frames.{recs_beside, tables_stay, rows_stay}
use Rattle.rmi_monitor.proofs.HostMoves.{cell_of-host}
use Rattle.rmi_monitor.proofs.Granules.{as_many_pages, cell_is}

-- the fields after a block is given back: its granules are free, and their contents are zero
abbrev pub given : Fields → ℕ → ℕ → Fields
given fields order first = record fields {
  pages = with_run fields.pages first (2 ^ order) zero_page;
  free = with_given fields.free order first;
}

module _ (monitor : MonitorView) (fields : Fields) (view_is : seen_as fields ≡ monitor) (whole : IsWhole fields) (sized : IsSized fields.pages fields.free)
    (order first : ℕ) (givable : IsGivable monitor order first) where
  abbrev count : ℕ
  count = 2 ^ order

  abbrev new : Fields
  new = given fields order first

  flags_fit : first + count ≤ length fields.free
  flags_fit = subst (λ n. first + count ≤ n) (ap (λ (m : MonitorView). length m.free) (sym view_is)) givable.taken.inside

  fits : first + count ≤ length fields.pages
  fits = subst (λ n. first + count ≤ n) sized.flagged flags_fit

  page_count : length new.pages ≡ length fields.pages
  page_count = length-with_run fields.pages first count zero_page fits

  state_inside : (g : ℕ) → first ≤ g → g < first + count → (granule_at fields.granules g).state ≡ Undelegated
  state_inside g low high =
      let inside : g < length monitor.machine = subst (λ n. g < n) (sym (as_many_pages monitor fields view_is whole)) (omega (high, fits, arith)) in
      sym (ap (λ (c : Cell). c.state) (cell_is monitor fields view_is whole g inside))
      ∙ undelegated_state (cell_at monitor.machine g).state (givable.undelegated g low high)

  page_inside : (g : ℕ) → first ≤ g → g < first + count → page_at new.pages g ≡ zero_page
  page_inside g low high = get_or-with_run_inside fields.pages first count zero_page fits g [] low high

  -- giving the block back leaves the contents of a granule that is not UNDELEGATED unchanged
  page_stays : (g : ℕ) → (granule_at fields.granules g).state ≢ Undelegated → page_at new.pages g ≡ page_at fields.pages g
  page_stays g used = ⊎_elim
      (λ h. absurd (used (state_inside g h.0 h.1)))
      (λ h. get_or-with_run_outside fields.pages first count zero_page fits g [] h)
      (inside_or_outside first count g)

  flag_stays : (g : ℕ) → (granule_at fields.granules g).state ≢ Undelegated → is_free new.free g ≡ is_free fields.free g
  flag_stays g used = ⊎_elim
      (λ h. absurd (used (state_inside g h.0 h.1)))
      (λ h. get_or-with_run_outside fields.free first count _ flags_fit g _ h)
      (inside_or_outside first count g)

  sound : (g : ℕ) → IsSoundAt new g
  sound g = record {
    host = (whole.each g).host;
    zero = λ h. page_stays g (λ is. cc) ∙ (whole.each g).zero h;
    rd = (whole.each g).rd;
    rec = (whole.each g).rec;
  }

  alone : (rd : ℕ) → LeavesAlone rd fields.pages fields.granules new.pages new.granules
  alone rd = record { page = λ g is. page_stays g (λ e. let at = ap (λ (x : Granule). x.state) is.is in cc); table = λ g is. is; «data» = λ g is. is }

  pub whole_given : IsWhole (given fields order first)
  whole_given = record {
    backed = record {
      as_many = whole.backed.as_many ∙ sym page_count;
      taken = λ g inside used. flag_stays g used ∙ whole.backed.taken g inside used;
    };
    realm_places = whole.realm_places;
    count_places = whole.count_places;
    rec_places = whole.rec_places;
    each = sound;
    tables = λ rd. tables_stay fields new whole rd (alone rd);
    recs = recs_beside fields whole new.pages new.free;
    counted = whole.counted;
    vmids_used = whole.vmids_used;
  }

  descriptor_is : (g : ℕ) → descriptor_of new g ≡ descriptor_of fields g
  descriptor_is g = descriptor_stays fields new g refl refl (rows_stay fields new whole g (alone g))

  -- after the block is given back, each of its granules is UNDELEGATED and zero, and belongs to no realm
  cell_inside : (g : ℕ) → first ≤ g → g < first + count → cell_of new g ≡ blank
  cell_inside g low high = cell_of-host new g (sound g) (state_inside g low high) refl (page_inside g low high)

  long : length (machine_of fields) ≡ length fields.pages
  long = length-machine_of fields ∙ whole.backed.as_many

  machine_fits : first + count ≤ length (machine_of fields)
  machine_fits = subst (λ n. first + count ≤ n) (sym long) fits

  machine_given : machine_of new ≡ with_run (machine_of fields) first count blank
  machine_given =
      same_machine (machine_of new) (with_run (machine_of fields) first count blank)
      (length-machine_of new ∙ sym (length-machine_of fields) ∙ sym (length-with_run (machine_of fields) first count blank machine_fits)) (λ g h.
      let inside : g < length fields.granules = subst (λ n. g < n) (length-machine_of new) h in
      cell_at-machine_of new g inside
      ∙ ⊎_elim
      (λ b. cell_inside g b.0 b.1 ∙ sym (get_or-with_run_inside (machine_of fields) first count blank machine_fits g blank b.0 b.1))
      (λ b. cell_stays fields new g refl (λ not_table. get_or-with_run_outside fields.pages first count zero_page fits g [] b) (descriptor_is g)
      ∙ sym (cell_at-machine_of fields g inside) ∙ sym (get_or-with_run_outside (machine_of fields) first count blank machine_fits g blank b))
      (inside_or_outside first count g))

  pub given_back : seen_as (given fields order first) ≡ without_block monitor order first
  given_back =
      ap (λ (m : Machine). record { vmids = fields.vmids; aux = fields.aux; machine = m; free = with_given fields.free order first }) machine_given
      ∙ ap (λ (m : MonitorView). without_block m order first) view_is

-- ---- blocks that are taken

module _ (fields : Fields) (whole : IsWhole fields) where
  abbrev with_store : List (List ℕ) → List Bool → Fields
  with_store pages free = record fields { pages = pages; free = free }

  flags_taken : (order first : ℕ) → IsFreeBlock fields.free order first → (g : ℕ) → is_free fields.free g ≡ false → is_free (with_taken fields.free order first) g ≡ false
  flags_taken order first block g taken = ⊎_elim
      (λ h. get_or-with_run_inside fields.free first (2 ^ order) false block.inside g false h.0 h.1)
      (λ h. get_or-with_run_outside fields.free first (2 ^ order) false block.inside g false h ∙ taken)
      (inside_or_outside first (2 ^ order) g)

  whole_flags : (free : List Bool) → ((g : ℕ) → is_free fields.free g ≡ false → is_free free g ≡ false) → IsWhole (with_store fields.pages free)
  whole_flags free keeps = record {
    backed = record { as_many = whole.backed.as_many; taken = λ g inside used. keeps g (whole.backed.taken g inside used) };
    realm_places = whole.realm_places;
    count_places = whole.count_places;
    rec_places = whole.rec_places;
    each = λ g. record { host = (whole.each g).host; zero = (whole.each g).zero; rd = (whole.each g).rd; rec = (whole.each g).rec };
    tables = whole.tables;
    recs = recs_beside fields whole fields.pages free;
    counted = whole.counted;
    vmids_used = whole.vmids_used;
  }

  whole_pages : (pages : List (List ℕ)) (free : List Bool) → pages ≡ fields.pages → IsWhole (with_store fields.pages free) → IsWhole (with_store pages free)
  whole_pages pages free same after = subst (λ ps. IsWhole (with_store ps free)) (sym same) after

  -- the invariant holds after a call that takes a free block or finds none, if the pages are unchanged
  pub whole_taken : (result : Option ℕ) (order : ℕ) (pages : List (List ℕ)) (free : List Bool) → IfSome result (IsFreeBlock fields.free order)
      → IfSome result (λ first. free ≡ with_taken fields.free order first) → IfNone result (free ≡ fields.free) → pages ≡ fields.pages → IsWhole (with_store pages free)
  whole_taken (Some first) order pages free block taken unchanged same =
      whole_pages pages free same (whole_flags free (λ g h. ap (λ flags. is_free flags g) taken ∙ flags_taken order first block g h))
  whole_taken None order pages free block taken unchanged same =
      whole_pages pages free same (whole_flags free (λ g h. ap (λ flags. is_free flags g) unchanged ∙ h))

  pub whole_taken_at : (result : Bool) (order first : ℕ) (pages : List (List ℕ)) (free : List Bool) → (IsTrue result ↔ IsFreeBlock fields.free order first)
      → OnTrue result (free ≡ with_taken fields.free order first) → OnFalse result (free ≡ fields.free) → pages ≡ fields.pages → IsWhole (with_store pages free)
  whole_taken_at true order first pages free answer taken unchanged same =
      whole_pages pages free same (whole_flags free (λ g h. ap (λ flags. is_free flags g) taken ∙ flags_taken order first (answer.0 refl) g h))
  whole_taken_at false order first pages free answer taken unchanged same =
      whole_pages pages free same (whole_flags free (λ g h. ap (λ flags. is_free flags g) unchanged ∙ h))

  module _ (monitor : MonitorView) (view_is : seen_as fields ≡ monitor) (pages : List (List ℕ)) (free : List Bool) (same : pages ≡ fields.pages) where
    seen_with : (now : List Bool) → free ≡ now → seen_as (with_store pages free) ≡ record monitor { free = now }
    unfolding machine_of
    seen_with now e = (λ i. seen_as (with_store (same i) (e i))) ∙ ap (λ (m : MonitorView). record m { free = now }) view_is

    pub seen_taken : (result : Option ℕ) (order : ℕ) → IfSome result (λ first. free ≡ with_taken fields.free order first)
        → IfSome result (λ first. seen_as (with_store pages free) ≡ with_block monitor order first)
    seen_taken (Some first) order taken = seen_with (with_taken monitor.free order first) (taken ∙ ap (λ (m : MonitorView). with_taken m.free order first) view_is)
    seen_taken None order taken = tt

    pub seen_taken_at : (result : Bool) (order first : ℕ) → OnTrue result (free ≡ with_taken fields.free order first)
        → OnTrue result (seen_as (with_store pages free) ≡ with_block monitor order first)
    seen_taken_at true order first taken = seen_with (with_taken monitor.free order first) (taken ∙ ap (λ (m : MonitorView). with_taken m.free order first) view_is)
    seen_taken_at false order first taken = tt
