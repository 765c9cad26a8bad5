-- The proof that writing a byte to a realm's page of data changes that byte of the machine, and nothing else.
use Rattle.std.proofs.Common.{◌≡◌, ◌≢◌, ℕ, ◌<◌, Bool, false, List, [], ◌∷◌, length, set, Ok, Some, refl, sym, ap, ◌∙◌, subst}
use Rattle.std.proofs.lemmas.List.{length-set, get_or-set_same, get_or-set_other}
use Rattle.page_arena.specs.Page.{page_at, is_free, with_byte}
use Rattle.rtt.specs.Granules.{granule_at, IsIn}
use Rattle.rtt.specs.declared.granule.Granule.{Granule}
use Rattle.realm_model.specs.declared.states.GranuleState.{GranuleState}
use Rattle.realm_model.specs.declared.states.GranuleState.TheVariants.{Data as InData}
use Rattle.realm_model.specs.Machine.{Cell, cell_at}
use Rattle.realm_model.specs.Update.{PutByte, machine_after_all}
use Rattle.rtt.specs.Realm.{LeavesAlone}
use Rattle.rmi_monitor.specs.View.{MonitorView, after_command}
use Rattle.rmi_monitor.specs.Inside.{Fields, descriptor_of, bytes_of, cell_of, machine_of, seen_as, IsWhole}
use Rattle.rmi_monitor.proofs.Machines.{one_put, cell_stays, descriptor_stays}
use Rattle.rmi_monitor.proofs.Frames.{recs_beside, tables_stay, rows_stay}
use Rattle.rmi_monitor.proofs.Granules.{machine_is, cell_is, after_by, in_machine}

abbrev pub with_pages : Fields → List (List ℕ) → Fields
with_pages fields pages = record fields { pages = pages }

-- `bytes_of` returns the contents of a granule in state DATA as they are
data_bytes : (state : GranuleState) (page : List ℕ) → state ≡ InData → bytes_of state page ≡ page
data_bytes InData page e = refl
data_bytes _ page e = cc

module _ (old : Fields) (whole : IsWhole old) (rd page offset value : ℕ) (is : IsIn old.granules page InData (Some rd)) where
  abbrev new : Fields
  new = with_pages old (with_byte old.pages page offset value)

  state_is : (granule_at old.granules page).state ≡ InData
  state_is = ap (λ (x : Granule). x.state) is.is

  pub page_inside : page < length old.pages
  page_inside = subst (λ n. page < n) whole.backed.as_many is.inside

  pub page_taken : is_free old.free page ≡ false
  page_taken = whole.backed.taken page is.inside (λ e. let differ = sym state_is ∙ e in cc)

  here : page_at new.pages page ≡ set (page_at old.pages page) offset value
  here = get_or-set_same old.pages page (set (page_at old.pages page) offset value) [] page_inside

  elsewhere : (g : ℕ) → g ≢ page → page_at new.pages g ≡ page_at old.pages g
  elsewhere g differs = get_or-set_other old.pages page g (set (page_at old.pages page) offset value) [] differs

  -- a write to a granule in state DATA leaves the contents of every granule in another state unchanged
  page_stays : (g : ℕ) → (granule_at old.granules g).state ≢ InData → page_at new.pages g ≡ page_at old.pages g
  page_stays g other = elsewhere g (λ s. other (ap (λ h. (granule_at old.granules h).state) s ∙ state_is))

  alone : (realm : ℕ) → LeavesAlone realm old.pages old.granules new.pages new.granules
  alone realm = record {
    page = λ g at. page_stays g (λ e. let in_table = ap (λ (x : Granule). x.state) at.is in cc);
    table = λ g at. at;
    «data» = λ g at. at;
  }

  pub whole_with_byte : IsWhole (with_pages old (with_byte old.pages page offset value))
  whole_with_byte = record {
    backed = record {
      as_many = whole.backed.as_many ∙ sym (length-set old.pages page (set (page_at old.pages page) offset value));
      taken = whole.backed.taken;
    };
    realm_places = whole.realm_places;
    count_places = whole.count_places;
    rec_places = whole.rec_places;
    each = λ g. record {
      host = (whole.each g).host;
      zero = λ e. page_stays g (λ d. cc) ∙ (whole.each g).zero e;
      rd = (whole.each g).rd;
      rec = (whole.each g).rec;
    };
    tables = λ g. tables_stay old new whole g (alone g);
    recs = recs_beside old whole new.pages old.free;
    counted = whole.counted;
    vmids_used = whole.vmids_used;
  }

  -- ---- the machine

  descriptor_is : (g : ℕ) → descriptor_of new g ≡ descriptor_of old g
  descriptor_is g = descriptor_stays old new g refl refl (rows_stay old new whole g (alone g))

  bytes_here : bytes_of (granule_at old.granules page).state (page_at new.pages page) ≡ set (bytes_of (granule_at old.granules page).state (page_at old.pages page)) offset value
  bytes_here =
      data_bytes (granule_at old.granules page).state (page_at new.pages page) state_is
      ∙ here
      ∙ ap (λ bytes. set bytes offset value) (sym (data_bytes (granule_at old.granules page).state (page_at old.pages page) state_is))

  machine_with_byte : machine_of new ≡ set (machine_of old) page (record (cell_of old page) { bytes = set (cell_of old page).bytes offset value })
  machine_with_byte =
      one_put old new refl page _ is.inside
      (λ i. record (cell_of old page) { bytes = bytes_here i; descriptor = descriptor_is page i })
      (λ g lt differs. cell_stays old new g refl (λ not_table. elsewhere g differs) (descriptor_is g))

  -- ---- the RMM

  module _ (pages : List (List ℕ)) (free : List Bool) (written : pages ≡ with_byte old.pages page offset value) (kept : free ≡ old.free) where
    same_fields : record old { pages = pages; free = free } ≡ new
    same_fields i = record old { pages = written i; free = kept i }

    pub whole_written : IsWhole (record old { pages = pages; free = free })
    whole_written = subst IsWhole (sym same_fields) whole_with_byte

    module _ (monitor : MonitorView) (view_is : seen_as old ≡ monitor) where
      pub byte_put : seen_as (record old { pages = pages; free = free }) ≡ after_command (Ok (PutByte page offset value ∷ [])) monitor
      unfolding machine_after_all
      byte_put =
          ap seen_as same_fields
          ∙ after_by monitor old view_is whole (Ok (PutByte page offset value ∷ [])) new refl refl refl
          (machine_with_byte
          ∙ ap (λ (c : Cell). set (machine_of old) page (record c { bytes = set c.bytes offset value }))
          (sym (cell_is monitor old view_is whole page (in_machine monitor old view_is whole page is.inside)))
          ∙ ap (λ m. set m page (record (cell_at monitor.machine page) { bytes = set (cell_at monitor.machine page).bytes offset value })) (machine_is monitor old view_is whole))
