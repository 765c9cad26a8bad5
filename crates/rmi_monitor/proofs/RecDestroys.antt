-- Proofs that RMI_REC_DESTROY, on the fields of an RMM, has the outcome and the effect of the model's command.
use Rattle.std.proofs.Common.{◌≡◌, ℕ, ◌-◌, ◌<◌, Bool, true, false, List, [], ◌∷◌, ◌++◌, map, set, get_or, All, IsTrue, Option, Some, None, Ok, Err, refl, sym, ap, ◌∙◌, subst}
use Rattle.std.specs.FinMap.{remove}
use Rattle.std.proofs.lemmas.List.{length-set, get_or-set_other}
use Rattle.std.proofs.lemmas.Option.{slice_get-get_or}
use Rattle.granule_addr.specs.Page.{zero_page}
use Rattle.rtt.specs.Granules.{undelegated}
use Rattle.rtt.specs.declared.granule.Granule.{Granule}
use Rattle.realm_model.specs.declared.states.GranuleState.TheVariants.{Rec as InRec, RecAux as InRecAux}
use Rattle.realm_model.specs.Machine.{Cell, cell_at, left}
use Rattle.realm_model.specs.StepLaw.{set_each}
use Rattle.realm_model.specs.Update.{Update, Put, machine_after_all}
use Rattle.realm_model.specs.Command.Check.{check, error_rec, is_ready, put_realm, are_distinct, is_in}
use Rattle.realm_model.specs.Command.Rec.{rec_destroy}
use Rattle.realm_model.proofs.Lists.{is_in_head, is_in_at, is_in_more}
use Rattle.realm_model.proofs.Outcomes.{check_true, check_false}
use Rattle.rmi_monitor.specs.Attributes.{RealmAttributes, RecAttributes}
use Rattle.rmi_monitor.specs.View.{MonitorView, IsOnRec, seen_in, after_command}
use Rattle.rmi_monitor.specs.Inside.{Fields, rec_count_at, rec_at, recs_of, seen_as, IsWhole}
use Rattle.rmi_monitor.specs.Places.{IsInState, HasPage}
use Rattle.rmi_monitor.proofs.Granules.{machine_is, cell_is, after_done, in_machine}
use Rattle.rmi_monitor.proofs.Listed.{distinct_from_once}
use Rattle.rmi_monitor.proofs.RecGone.{gone, left_granule, not_own, aux_is, aux_state, taken_moved}
use Rattle.rmi_monitor.proofs.RecGoneAfter.{machine_gone}
use Rattle.rmi_monitor.proofs.RecFound.{IsKept, rec_inside, kept_at, outcome_there, on_rec}
use Rattle.rmi_monitor.proofs.RealmPlaces.{realm_inside}
use Rattle.rmi_monitor.proofs.RealmFound.{row_of}
use Rattle.rmi_monitor.proofs.Frames.{in_rec}

-- ---- the REC that a granule is

module _ (fields : Fields) (whole : IsWhole fields) (g : ℕ) (rec : RecAttributes) (at : rec_at fields g ≡ Some rec) where
  abbrev pub rd : ℕ
  rd = (whole.recs.of g rec at).rd

  abbrev pub realm : RealmAttributes
  realm = (whole.recs.of g rec at).realm

  rec_kept : IsKept fields g rec rd realm
  rec_kept = kept_at fields whole g rec at

  -- a granule that holds a REC is inside the machine, in state REC, as the calls that clear and move it require
  pub rec_stands : IsInState fields.granules InRec g
  rec_stands = record { inside = rec_inside fields whole g rec at; is = in_rec fields g (whole.each g) rec at }

  pub rec_page : HasPage fields.pages fields.free g
  rec_page = record {
    inside = subst (λ n. g < n) whole.backed.as_many (rec_inside fields whole g rec at);
    taken = taken_moved fields whole rd g rec realm rec_kept g (is_in_head g rec.auxiliaries);
  }

  module _ (list : List ℕ) (same : list ≡ rec.auxiliaries) where
    each_listed : (P : ℕ → Type 0) → ((h : ℕ) → is_in h rec.auxiliaries ≡ true → P h) → All P list
    each_listed P holds = subst (λ l. All P l) (sym same) (λ k d lt.
        holds (get_or rec.auxiliaries k d) (is_in_at rec.auxiliaries k (get_or rec.auxiliaries k d) (slice_get-get_or rec.auxiliaries k d lt)))

    pub aux_distinct : IsTrue (are_distinct list)
    aux_distinct = subst (λ l. IsTrue (are_distinct l)) (sym same) (distinct_from_once rec.auxiliaries (λ i j a h k. (whole.recs.auxiliaries_once g g rec rec i j a at at h k).1))

    pub aux_stand : (then : List Granule) → then ≡ set fields.granules g left_granule → All (IsInState then InRecAux) list
    aux_stand then made = subst (λ gs. All (IsInState gs InRecAux) list) (sym made) (each_listed (IsInState (set fields.granules g left_granule) InRecAux) (λ h e. record {
      inside = subst (λ n. h < n) (sym (length-set fields.granules g left_granule)) (aux_is fields whole rd g rec realm rec_kept h e).inside;
      is =
          ap (λ (x : Granule). x.state) (get_or-set_other fields.granules g h left_granule undelegated (not_own fields whole rd g rec realm rec_kept h e)) ∙ aux_state fields whole rd g rec realm
          rec_kept h e;
    }))

    pub aux_pages : (then : List (List ℕ)) (flags : List Bool) → then ≡ set fields.pages g zero_page → flags ≡ fields.free → All (HasPage then flags) list
    aux_pages then flags made kept =
        subst (λ ps. All (HasPage ps flags) list) (sym made) (subst (λ fs. All (HasPage (set fields.pages g zero_page) fs) list) (sym kept)
        (each_listed (HasPage (set fields.pages g zero_page) fields.free) (λ h e. record {
          inside = subst (λ n. h < n) (sym (length-set fields.pages g zero_page)) (subst (λ n. h < n) whole.backed.as_many (aux_is fields whole rd g rec realm rec_kept h e).inside);
          taken = taken_moved fields whole rd g rec realm rec_kept h (is_in_more h g rec.auxiliaries e);
        })))

  -- the fields with the granules, pages, free flags, REC counts and RECs that the command's calls have left
  abbrev left_with : List Granule → List (List ℕ) → List Bool → List ℕ → List (Option RecAttributes) → Fields
  left_with granules pages free rec_counts recs = record fields { granules = granules; pages = pages; free = free; rec_counts = rec_counts; recs = recs }

  pub gone_by : (of : ℕ) (granules then : List Granule) (pages cleared : List (List ℕ)) (free flags : List Bool) (list : List ℕ) (g' of' count : ℕ) → list ≡ rec.auxiliaries → g' ≡ g
      → then ≡ set fields.granules g left_granule → granules ≡ set_each left_granule list then
      → cleared ≡ set fields.pages g zero_page → pages ≡ set_each zero_page list cleared → flags ≡ fields.free → free ≡ flags
      → of' ≡ of → count ≡ rec_count_at fields of
      → left_with granules pages free (set fields.rec_counts of' (count - 1)) (set fields.recs g' None) ≡ gone fields of g rec.auxiliaries
  gone_by of granules then pages cleared free flags list g' of' count same place first moved one all was kept of_is count_is =
      (λ i. left_with (moved i) (all i) (kept i) (set fields.rec_counts (of_is i) (count_is i - 1)) (set fields.recs (place i) None))
      ∙ (λ i. left_with (set_each left_granule (same i) (first i)) (set_each zero_page (same i) (one i)) (was i) (set fields.rec_counts of (rec_count_at fields of - 1)) (set fields.recs g None))

-- ---- the command

module _ (monitor : MonitorView) (fields : Fields) (view_is : seen_as fields ≡ monitor) (whole : IsWhole fields) (g : ℕ)
    (rec : RecAttributes) (rd : ℕ) (realm : RealmAttributes) (kept : IsKept fields g rec rd realm) where
  -- the updates of RMI_REC_DESTROY, given the cell of the RD
  abbrev updates_by : Cell → List Update
  updates_by cell =
      Put g left ∷ map (λ a. Put a left) rec.auxiliaries
      ++ Put rd (record cell { descriptor = Some (record (row_of fields rd realm) { recs = remove (recs_of fields.granules fields.recs rd) rec.number }) }) ∷ []

  abbrev updates : List Update
  updates = updates_by (cell_at monitor.machine rd)

  checked : rec_destroy (seen_in monitor rd) rec.number ≡ check (is_ready rec.state) error_rec (Ok updates)
  checked =
      outcome_there monitor fields view_is whole g rec rd realm kept
      (λ r c. check (is_ready c.state) error_rec (Ok (Put c.granule left ∷ map (λ a. Put a left) c.auxiliaries ++ put_realm (seen_in monitor rd) (record r { recs = remove r.recs rec.number }) ∷ [])))

  seen_gone : seen_as (gone fields rd g rec.auxiliaries) ≡ after_command (Ok updates) monitor
  seen_gone =
      let rd_inside = in_machine monitor fields view_is whole rd (realm_inside fields whole rd realm kept.there) in
      after_done monitor fields view_is whole (gone fields rd g rec.auxiliaries) updates (Ok updates) refl refl refl refl
      (machine_gone fields whole rd g rec realm kept
      ∙ (λ i. machine_after_all (updates_by (sym (cell_is monitor fields view_is whole rd rd_inside) i)) (machine_is monitor fields view_is whole i)))

  pub not_ready : (answer : Bool) (new : MonitorView) → answer ≡ is_ready rec.state → answer ≡ false → new ≡ monitor
      → IsOnRec {A = Unit {0}} rec_destroy monitor g (Err error_rec) new
  not_ready answer new says is same =
      on_rec monitor fields view_is whole rec_destroy g rec rd realm kept (Err error_rec) (Err error_rec) new
      (checked ∙ check_false (is_ready rec.state) error_rec (Ok updates) (sym says ∙ is)) refl same

  pub ready : (answer : Bool) (new : MonitorView) → answer ≡ is_ready rec.state → answer ≡ true → new ≡ seen_as (gone fields rd g rec.auxiliaries)
      → IsOnRec {A = Unit {0}} rec_destroy monitor g (Ok tt) new
  ready answer new says is same =
      on_rec monitor fields view_is whole rec_destroy g rec rd realm kept (Ok tt) (Ok updates) new
      (checked ∙ check_true (is_ready rec.state) error_rec (Ok updates) (sym says ∙ is)) tt (same ∙ seen_gone)
