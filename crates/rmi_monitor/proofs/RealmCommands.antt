-- Proofs that a command on a realm changes the RMM as the model says, if the command's call on the realm's tables meets
-- its postcondition.
use Rattle.std.proofs.Common.{◌≡◌, ℕ, ◌<◌, Bool, true, List, [], ◌∷◌, length, set, Option, Some, None, Result, Ok, Err, refl, sym, ap, ◌∙◌, subst, get_or}
use Rattle.std.specs.Result.{IsErrAnd}
use Rattle.rtt.specs.Granules.{granule_at, IsIn}
use Rattle.rtt.specs.declared.granule.Granule.{Granule}
use Rattle.granule_addr.specs.Page.{zero_page}
use Rattle.page_arena.specs.Page.{page_at}
use Rattle.realm_model.specs.declared.states.GranuleState.{GranuleState}
use Rattle.realm_model.specs.declared.states.GranuleState.TheVariants.{Delegated}
use Rattle.realm_model.specs.declared.rmi.Rmi.{Rmi}
use Rattle.realm_model.specs.Rows.{Rows}
use Rattle.realm_model.specs.Machine.{Cell, RealmRow}
use Rattle.realm_model.specs.Update.{Outcome, Put, machine_after_all}
use Rattle.realm_model.specs.Command.Check.{put_realm}
use Rattle.rmi_monitor.specs.Attributes.{RealmAttributes, realm_row}
use Rattle.granule_addr.specs.declared.width.Root.{Root}
use Rattle.rtt.specs.Calls.{Keeps as KeepsTables}
use Rattle.rtt.specs.Tables.{rows}
use Rattle.rtt.specs.Realm.{IsBacked, HasTables, IsTableOf, LeavesOthers}
use Rattle.rmi_monitor.specs.View.{MonitorView, IsTaken, seen_in, after_command}
use Rattle.rmi_monitor.specs.Inside.{Fields, realm_at, recs_of, bytes_of, machine_of, seen_as, IsWhole, cell_of}
use Rattle.rmi_monitor.proofs.Outcomes.{Says, answers_ok, answers_err, answers_refused, after_err}
use Rattle.rmi_monitor.proofs.Granules.{HasFields, machine_is, cell_is, after_done}
use Rattle.rmi_monitor.proofs.RealmAfter.{Keeps, keeps_all, with_row_of}
use Rattle.rmi_monitor.proofs.RealmFound.{row_of}
use Rattle.rmi_monitor.proofs.TableMoves.{is_moved_state, whole_moved_to, machine_moved_to}
use Rattle.rmi_monitor.proofs.Listed.{put_back}

-- the fields as a call on a realm's tables leaves them
abbrev pub with_call : Fields → List Granule → List (List ℕ) → List Bool → List (Option RealmAttributes) → Fields
with_call fields granules pages free realms = record fields { granules = granules; pages = pages; free = free; realms = realms }

-- the fields as a call leaves them are `fields`, if the call leaves the granules, the pages, the free flags and the
-- realms as they were
pub nothing_moved : (fields : Fields) (granules : List Granule) (pages : List (List ℕ)) (free : List Bool) (realms : List (Option RealmAttributes))
    → granules ≡ fields.granules → pages ≡ fields.pages → free ≡ fields.free → realms ≡ fields.realms → with_call fields granules pages free realms ≡ fields
nothing_moved fields granules pages free realms a b c d i = with_call fields (a i) (b i) (c i) (d i)

-- the invariant holds after a command that succeeds, and the RMM is as the command's outcome says
pub record Done (monitor : MonitorView) (outcome : Outcome) (new : Fields) : Type 0 where
  pub whole : IsWhole new
  pub says : Says monitor outcome (Ok (tt {0})) (seen_as new)

-- a command whose call on the realm's tables is refused keeps the invariant, and leaves the RMM unchanged
module _ {fields : Fields} {granules : List Granule} {pages : List (List ℕ)} {free : List Bool} where
  pub whole_refused : IsWhole fields → (pages ≡ fields.pages) × (granules ≡ fields.granules) → free ≡ fields.free → IsWhole (with_call fields granules pages free fields.realms)
  whole_refused whole same flags = subst IsWhole (sym (nothing_moved fields granules pages free fields.realms same.1 same.0 flags refl)) whole

  pub refused_call : {monitor : MonitorView} → HasFields monitor fields → (pages ≡ fields.pages) × (granules ≡ fields.granules) → free ≡ fields.free
      → {rmi : Rmi} {outcome : Outcome} (answer : Result (Unit {0}) Rmi) → IsErrAnd answer (λ e. e ≡ rmi) → outcome ≡ Err rmi
      → Says monitor outcome answer (seen_as (with_call fields granules pages free fields.realms))
  refused_call {monitor} kept same flags {rmi} {outcome} answer said e = record {
    answer = answers_refused answer rmi outcome said e;
    machine = ap seen_as (nothing_moved fields granules pages free fields.realms same.1 same.0 flags refl) ∙ kept.view_is ∙ after_err monitor rmi outcome e;
  }

-- a refused command that writes the realm's attributes back as they were keeps the invariant, and leaves the RMM
-- unchanged
module _ {monitor : MonitorView} {fields : Fields} (kept : HasFields monitor fields) (number : ℕ) {x y : Option RealmAttributes}
    (read : x ≡ get_or fields.realms number x) (is : x ≡ y) where
  back : record fields { realms = set fields.realms number y } ≡ fields
  back = nothing_moved fields fields.granules fields.pages fields.free (set fields.realms number y) refl refl refl (put_back fields.realms number x y (sym read ∙ is))

  pub whole_back : IsWhole (record fields { realms = set fields.realms number y })
  whole_back = subst IsWhole (sym back) kept.whole

  pub refused_back : {rmi : Rmi} {outcome : Outcome} → outcome ≡ Err rmi → Says monitor outcome (Err rmi) (seen_as (record fields { realms = set fields.realms number y }))
  refused_back {rmi} {outcome} e = record { answer = answers_err (Unit {0}) rmi outcome e; machine = ap seen_as back ∙ kept.view_is ∙ after_err monitor rmi outcome e }

module _ (monitor : MonitorView) (fields : Fields) (view_is : seen_as fields ≡ monitor) (whole : IsWhole fields) (rd : ℕ) (taken : IsTaken monitor rd) where
  -- a command that sets the realm's record leads to the RMM with the fields `new`, if only this record in the RD's cell
  -- is new
  pub after_put : (outcome : Outcome) (new : Fields) → new.vmids ≡ fields.vmids → new.aux ≡ fields.aux → new.free ≡ fields.free → (made row : RealmRow) → made ≡ row
      → outcome ≡ Ok (put_realm (seen_in monitor rd) row ∷ []) → machine_of new ≡ set (machine_of fields) rd (with_row_of (cell_of fields rd) made)
      → seen_as new ≡ after_command outcome monitor
  unfolding machine_after_all
  after_put outcome new vmids aux free made row made_is comes machine =
      after_done monitor fields view_is whole new (put_realm (seen_in monitor rd) row ∷ []) outcome comes vmids aux free
      (machine ∙ (λ i. set (machine_is monitor fields view_is whole i) rd (with_row_of (sym (cell_is monitor fields view_is whole rd taken.inside) i) (made_is i))))

  module _ (realm : RealmAttributes) (there : realm_at fields rd ≡ Some realm) where
    -- a call moves granule `m` to the given state and realm, and may change the attributes and the tables of realm `rd`
    module _ (now : RealmAttributes) (keeps : Keeps realm now)
        (granules : List Granule) (pages : List (List ℕ)) (free : List Bool) (realms : List (Option RealmAttributes)) (put : realms ≡ set fields.realms rd (Some now))
        (flags : free ≡ fields.free) (backed : IsBacked pages free granules) (tables : HasTables pages granules rd realm.root)
        (alone : LeavesOthers rd fields.pages fields.granules pages granules)
        (m : ℕ) (inside : m < length fields.granules) (state : GranuleState) (owner : Option ℕ)
        (moved : granules ≡ set fields.granules m (record { state = state; realm = owner }))
        (was : is_moved_state (granule_at fields.granules m).state ≡ true) (is : is_moved_state state ≡ true)
        (host : state ≡ Delegated → owner ≡ None) (zero : state ≡ Delegated → page_at pages m ≡ zero_page)
        (page_stays : (g : ℕ) → (g ≡ m → ⊥) → (IsTableOf fields.pages realm.root g → ⊥) → page_at pages g ≡ page_at fields.pages g) where
      abbrev with_now : List (Option RealmAttributes) → Fields
      with_now realms = with_call fields granules pages free realms

      pub whole_after_move : IsWhole (with_call fields granules pages free realms)
      whole_after_move =
          subst (λ (rs : List (Option RealmAttributes)). IsWhole (with_now rs)) (sym put)
          (whole_moved_to fields whole rd realm now there keeps granules pages free flags backed tables alone m inside state owner moved was is host zero page_stays)

      -- after the move, a command that sets the granule's cell and the realm's record leads to the RMM with the new
      -- fields
      pub seen_after_move : (outcome : Outcome) (cell : Cell) (row : RealmRow)
          → record { state = state; realm = owner; bytes = bytes_of state (page_at pages m); descriptor = None } ≡ cell
          → realm_row now (recs_of fields.granules fields.recs rd) (rows pages realm.root) ≡ row
          → outcome ≡ Ok (Put m cell ∷ put_realm (seen_in monitor rd) row ∷ [])
          → seen_as (with_call fields granules pages free realms) ≡ after_command outcome monitor
      unfolding machine_after_all
      seen_after_move outcome cell row here there_is done =
          after_done monitor fields view_is whole (with_call fields granules pages free realms) (Put m cell ∷ put_realm (seen_in monitor rd) row ∷ []) outcome done refl refl flags
          (ap (λ (rs : List (Option RealmAttributes)). machine_of (with_now rs)) put
          ∙ machine_moved_to fields whole rd realm now there keeps granules pages free flags backed tables alone m inside state owner moved was is host zero page_stays
          ∙ (λ i. set (set (machine_is monitor fields view_is whole i) m (here i)) rd (with_row_of (sym (cell_is monitor fields view_is whole rd taken.inside) i) (there_is i))))

-- ---- a call that moves a granule to or from a realm

-- The call moves granule `g`, whose new state and realm are those of `to`. The call changes no pages but the granule's
-- own page and those of the realm's tables.
pub record Moves (fields : Fields) (rd : ℕ) (root : Root) (g : ℕ) (to : Granule) (granules : List Granule) (pages : List (List ℕ)) (free : List Bool) : Type 0 where
  pub inside : g < length fields.granules
  pub was : is_moved_state (granule_at fields.granules g).state ≡ true
  pub is : is_moved_state to.state ≡ true
  pub moved : granules ≡ set fields.granules g to
  pub host : to.state ≡ Delegated → to.realm ≡ None
  pub zero : to.state ≡ Delegated → page_at pages g ≡ zero_page
  pub others : (h : ℕ) → (h ≡ g → ⊥) → (IsTableOf fields.pages root h → ⊥) → page_at pages h ≡ page_at fields.pages h
  pub keeps : KeepsTables rd root fields.pages fields.free fields.granules pages free granules

-- a call that leaves a DATA or RTT granule of a realm DELEGATED and zero meets `Moves`, if otherwise only the contents
-- of the realm's tables change
pub left_by : {fields : Fields} {rd : ℕ} {root : Root} {g : ℕ} {state : GranuleState} {granules : List Granule} {pages : List (List ℕ)} {free : List Bool}
    → IsIn fields.granules g state (Some rd) → is_moved_state state ≡ true → granules ≡ set fields.granules g (record { state = Delegated; realm = None })
    → page_at pages g ≡ zero_page → ((h : ℕ) → (h ≡ g → ⊥) → (IsTableOf fields.pages root h → ⊥) → page_at pages h ≡ page_at fields.pages h)
    → KeepsTables rd root fields.pages fields.free fields.granules pages free granules → Moves fields rd root g (record { state = Delegated; realm = None }) granules pages free
left_by at was moved cleared others keeps = record {
  inside = at.inside;
  was = ap (λ (x : Granule). is_moved_state x.state) at.is ∙ was;
  is = refl;
  moved = moved;
  host = λ e. refl;
  zero = λ e. cleared;
  others = others;
  keeps = keeps;
}

module _ {monitor : MonitorView} {fields : Fields} (kept : HasFields monitor fields) {rd : ℕ} (taken : IsTaken monitor rd)
    {realm : RealmAttributes} (there : realm_at fields rd ≡ Some realm)
    {g : ℕ} {to : Granule} {granules : List Granule} {pages : List (List ℕ)} {free : List Bool} (moves : Moves fields rd realm.root g to granules pages free) where
  -- after the move, `Done` holds for a command that puts the granule's cell and the realm's record
  pub moves_done : {now : RealmAttributes} → Keeps realm now → {realms : List (Option RealmAttributes)} → realms ≡ set fields.realms rd (Some now)
      → (outcome : Outcome) {cell : Cell} {row : RealmRow}
      → record { state = to.state; realm = to.realm; bytes = bytes_of to.state (page_at pages g); descriptor = None } ≡ cell
      → realm_row now (recs_of fields.granules fields.recs rd) (rows pages realm.root) ≡ row
      → outcome ≡ Ok (Put g cell ∷ put_realm (seen_in monitor rd) row ∷ [])
      → Done monitor outcome (with_call fields granules pages free realms)
  moves_done {now} stay {realms} put outcome {cell} {row} here row_is done = record {
    whole =
        whole_after_move monitor fields kept.view_is kept.whole rd taken realm there now stay granules pages free realms put
        moves.keeps.rest.flags moves.keeps.rest.backed moves.keeps.tables moves.keeps.rest.other_realms
        g moves.inside to.state to.realm moves.moved moves.was moves.is moves.host moves.zero moves.others;
    says = record {
      answer = answers_ok {A = Unit {0}} tt _ outcome done;
      machine =
          seen_after_move monitor fields kept.view_is kept.whole rd taken realm there now stay granules pages free realms put
          moves.keeps.rest.flags moves.keeps.rest.backed moves.keeps.tables moves.keeps.rest.other_realms
          g moves.inside to.state to.realm moves.moved moves.was moves.is moves.host moves.zero moves.others outcome cell row here row_is done;
    };
  }

  -- after the move, `Done` holds for a command that puts the granule's cell and changes only the realm's translation
  pub rows_done : (outcome : Outcome) {cell : Cell} {translation : Rows}
      → record { state = to.state; realm = to.realm; bytes = bytes_of to.state (page_at pages g); descriptor = None } ≡ cell → rows pages realm.root ≡ translation
      → outcome ≡ Ok (Put g cell ∷ put_realm (seen_in monitor rd) (record (row_of fields rd realm) { rows = translation }) ∷ [])
      → Done monitor outcome (with_call fields granules pages free fields.realms)
  rows_done outcome here rows_are done =
      moves_done (keeps_all realm) (sym (put_back fields.realms rd None (Some realm) there)) outcome here (λ i. record (row_of fields rd realm) { rows = rows_are i }) done
