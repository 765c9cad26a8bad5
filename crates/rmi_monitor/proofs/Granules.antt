-- Proofs that a command on a single granule changes the fields of an RMM as the model's command changes the machine.
use Rattle.std.proofs.Common.{◌≡◌, ◌≢◌, ℕ, ◌<◌, Bool, true, false, List, [], ◌∷◌, length, set, Ok, None, refl, sym, ap, ◌∙◌, subst}
use Rattle.std.proofs.lemmas.List.{set-get_or}
use Rattle.page_arena.specs.Page.{page_at, is_free}
use Rattle.rtt.specs.Granules.{granule_at, undelegated, IsIn}
use Rattle.rtt.specs.declared.granule.Granule.{Granule}
use Rattle.granule_addr.specs.Page.{page_of, zero_page}
use Rattle.realm_model.specs.declared.states.GranuleState.{GranuleState}
use Rattle.realm_model.specs.declared.states.GranuleState.TheVariants.{Undelegated, Delegated}
use Rattle.realm_model.specs.Machine.{Cell, left, cell_at}
use Rattle.realm_model.specs.Update.{Update, Outcome, Put, machine_after_all, machine_after_command}
use Rattle.realm_model.specs.Command.Check.{check, error_input, is_undelegated, is_delegated}
use Rattle.realm_model.specs.Command.Granule.{granule_delegate, granule_undelegate, host_fill}
use Rattle.realm_model.specs.Sound.{is_host_state}
use Rattle.realm_model.proofs.Outcomes.{check_true}
use Rattle.rmi_monitor.specs.View.{MonitorView, IsTaken, seen_in, after_command}
use Rattle.rmi_monitor.specs.Inside.{Fields, cell_of, machine_of, seen_as, IsWhole}
use Rattle.rmi_monitor.specs.Places.{is_delegated_at, is_undelegated_at}
use Rattle.rmi_monitor.proofs.Machines.{length-machine_of, cell_at-machine_of}
use Rattle.rmi_monitor.proofs.HostMoves.{moved, whole_moved, machine_of-moved, host_cell, cell_of-host}
use Rattle.rmi_monitor.proofs.Checks.{undelegated_test, delegated_test, not_undelegated, not_delegated, undelegated_state, delegated_state}

-- a DELEGATED granule and an UNDELEGATED one are different
pub states_apart : (granules : List Granule) (g h : ℕ) → is_delegated_at granules g ≡ true → is_undelegated_at granules h ≡ true → g ≢ h
states_apart granules g h delegated undelegated same =
    let differ : Undelegated ≡ Delegated =
    sym (undelegated_state (granule_at granules h).state undelegated) ∙ ap (λ k. (granule_at granules k).state) (sym same)
    ∙ delegated_state (granule_at granules g).state delegated in
    cc

-- `monitor` is the view of the fields, and their invariant holds
pub record HasFields (monitor : MonitorView) (fields : Fields) : Type 0 where
  pub view_is : seen_as fields ≡ monitor
  pub whole : IsWhole fields

pub has_fields : {monitor : MonitorView} {fields : Fields} → seen_as fields ≡ monitor → IsWhole fields → HasFields monitor fields
has_fields view_is whole = record { view_is = view_is; whole = whole }

module _ (monitor : MonitorView) (fields : Fields) (view_is : seen_as fields ≡ monitor) (whole : IsWhole fields) where
  pub machine_is : machine_of fields ≡ monitor.machine
  machine_is = ap (λ (m : MonitorView). m.machine) view_is

  pub as_many_granules : length monitor.machine ≡ length fields.granules
  as_many_granules = ap length (sym machine_is) ∙ length-machine_of fields

  pub in_machine : (g : ℕ) → g < length fields.granules → g < length monitor.machine
  in_machine g h = subst (λ n. g < n) (sym as_many_granules) h

  pub as_many_pages : length monitor.machine ≡ length fields.pages
  as_many_pages = as_many_granules ∙ whole.backed.as_many

  pub cell_is : (g : ℕ) → g < length monitor.machine → cell_at monitor.machine g ≡ cell_of fields g
  cell_is g h = ap (λ m. cell_at m g) (sym machine_is) ∙ cell_at-machine_of fields g (subst (λ n. g < n) as_many_granules h)

  -- a command leads to the RMM with the fields `new`, if the command leads to the machine of `new`, and the settings
  -- and the free flags are unchanged
  pub after_by : (outcome : Outcome) (new : Fields) → new.vmids ≡ fields.vmids → new.aux ≡ fields.aux → new.free ≡ fields.free
      → machine_of new ≡ machine_after_command outcome monitor.machine → seen_as new ≡ after_command outcome monitor
  after_by outcome new vmids aux free made =
      (λ i. record { vmids = vmids i; aux = aux i; machine = made i; free = free i })
      ∙ ap (λ (m : MonitorView). record m { machine = machine_after_command outcome monitor.machine }) view_is

  -- a successful command leads to the RMM with the fields `new`, if its updates lead to the machine of `new`, and the
  -- settings and the free flags are unchanged
  pub after_done : (new : Fields) (updates : List Update) (outcome : Outcome) → outcome ≡ Ok updates → new.vmids ≡ fields.vmids → new.aux ≡ fields.aux → new.free ≡ fields.free
      → machine_of new ≡ machine_after_all updates monitor.machine → seen_as new ≡ after_command outcome monitor
  after_done new updates outcome e vmids aux free made = after_by outcome new vmids aux free (made ∙ ap (λ o. machine_after_command o monitor.machine) (sym e))

  module _ (g : ℕ) (taken : IsTaken monitor g) where
    pub in_granules : g < length fields.granules
    in_granules = subst (λ n. g < n) as_many_granules taken.inside

    pub in_pages : g < length fields.pages
    in_pages = subst (λ n. g < n) as_many_pages taken.inside

    pub not_free : is_free fields.free g ≡ false
    not_free = ap (λ (m : MonitorView). is_free m.free g) view_is ∙ taken.taken

    pub state_is : (seen_in monitor g).cell.state ≡ (granule_at fields.granules g).state
    state_is = ap (λ (c : Cell). c.state) (cell_is g taken.inside)

    pub seen_delegated : is_delegated (seen_in monitor g) ≡ is_delegated_at fields.granules g
    seen_delegated = ap delegated_test state_is

    pub seen_undelegated : is_undelegated (seen_in monitor g) ≡ is_undelegated_at fields.granules g
    seen_undelegated = ap undelegated_test state_is

    -- a DELEGATED granule belongs to no realm
    pub in_delegated : is_delegated_at fields.granules g ≡ true → IsIn fields.granules g Delegated None
    in_delegated h =
        let was : (granule_at fields.granules g).state ≡ Delegated = delegated_state (granule_at fields.granules g).state h in
        record { inside = in_granules; is = λ i. record { state = was i; realm = (whole.each g).host (ap is_host_state was) i } }

    -- an UNDELEGATED granule passes a command's test for UNDELEGATED
    pub is_undelegated_there : (granule_at fields.granules g).state ≡ Undelegated → is_undelegated (seen_in monitor g) ≡ true
    is_undelegated_there was = ap undelegated_test (state_is ∙ was)

    -- a granule that is not UNDELEGATED fails a command's test for UNDELEGATED
    pub is_not_undelegated : ((granule_at fields.granules g).state ≡ Undelegated → ⊥) → is_undelegated (seen_in monitor g) ≡ false
    is_not_undelegated was = seen_undelegated ∙ not_undelegated (granule_at fields.granules g).state was

    -- a DELEGATED granule passes a command's test for DELEGATED
    pub is_delegated_there : (granule_at fields.granules g).state ≡ Delegated → is_delegated (seen_in monitor g) ≡ true
    is_delegated_there was = ap delegated_test (state_is ∙ was)

    -- a granule that is not DELEGATED fails a command's test for DELEGATED
    pub is_not_delegated : ((granule_at fields.granules g).state ≡ Delegated → ⊥) → is_delegated (seen_in monitor g) ≡ false
    is_not_delegated was = seen_delegated ∙ not_delegated (granule_at fields.granules g).state was

    -- the fields and the machine have the same bytes of an UNDELEGATED granule
    pub undelegated_bytes : (granule_at fields.granules g).state ≡ Undelegated → page_at fields.pages g ≡ (seen_in monitor g).cell.bytes
    undelegated_bytes was = sym (ap (λ (c : Cell). c.bytes) (cell_is g taken.inside ∙ cell_of-host fields g (whole.each g) was refl refl))

    -- ---- a granule that is UNDELEGATED or DELEGATED, before and after

    module _ (state : GranuleState) (page : List ℕ) (was : is_host_state (granule_at fields.granules g).state ≡ true) (is : is_host_state state ≡ true)
        (zero : state ≡ Delegated → page ≡ zero_page) where
      pub whole_after : (new : Fields) → new ≡ moved fields g state page → IsWhole new
      whole_after new e = subst IsWhole (sym e) (whole_moved fields whole g in_granules not_free state page was is zero)

      -- a command that sets the cell of granule `g` as `moved` does, and no other cell, leads to the RMM that `moved`
      -- gives, if the command's check passes
      pub moved_after : (new : Fields) → new ≡ moved fields g state page → (holds : Bool) (cell : Cell) → holds ≡ true → host_cell state page ≡ cell
          → seen_as new ≡ after_command (check holds error_input (Ok (Put g cell ∷ []))) monitor
      unfolding machine_after_all
      moved_after new e holds cell h same =
          ap seen_as e
          ∙ after_done (moved fields g state page) (Put g cell ∷ []) (check holds error_input (Ok (Put g cell ∷ []))) (check_true holds error_input _ h) refl refl refl
          (machine_of-moved fields whole g in_granules not_free state page was is zero
          ∙ ap (λ c. set (machine_of fields) g c) same
          ∙ ap (λ m. set m g cell) machine_is)

    -- ---- the commands, by what the calls below leave

    abbrev after_calls : List Granule → List (List ℕ) → List Bool → Fields
    after_calls granules pages free = record fields { granules = granules; pages = pages; free = free }

    module _ (was : (granule_at fields.granules g).state ≡ Undelegated) (granules : List Granule) (pages : List (List ℕ)) (free : List Bool) (kept : free ≡ fields.free) where
      module _ (shifted : granules ≡ set fields.granules g (record { state = Delegated; realm = None })) (filled : pages ≡ set fields.pages g (page_of 0)) where
        delegated : after_calls granules pages free ≡ moved fields g Delegated (page_of 0)
        delegated i = after_calls (shifted i) (filled i) (kept i)

        pub whole_delegated : IsWhole (after_calls granules pages free)
        whole_delegated = whole_after Delegated (page_of 0) (ap is_host_state was) refl (λ e. refl) (after_calls granules pages free) delegated

        pub delegated_done : seen_as (after_calls granules pages free) ≡ after_command (granule_delegate (seen_in monitor g)) monitor
        delegated_done =
            moved_after Delegated (page_of 0) (ap is_host_state was) refl (λ e. refl) (after_calls granules pages free) delegated
            (is_undelegated (seen_in monitor g)) left (is_undelegated_there was) refl

      module _ (value : ℕ) (same : granules ≡ fields.granules) (filled : pages ≡ set fields.pages g (page_of value)) where
        granule_is : granule_at fields.granules g ≡ record { state = Undelegated; realm = None }
        granule_is i = record { state = was i; realm = (whole.each g).host (ap is_host_state was) i }

        filled_fields : after_calls granules pages free ≡ moved fields g Undelegated (page_of value)
        filled_fields =
            (λ i. after_calls (same i) (filled i) (kept i))
            ∙ ap (λ gs. after_calls gs (set fields.pages g (page_of value)) fields.free)
            (sym (set-get_or fields.granules g undelegated) ∙ ap (set fields.granules g) granule_is)

        pub whole_filled : IsWhole (after_calls granules pages free)
        whole_filled = whole_after Undelegated (page_of value) (ap is_host_state was) refl (λ e. cc) (after_calls granules pages free) filled_fields

        filled_cell : host_cell Undelegated (page_of value) ≡ record (seen_in monitor g).cell { bytes = page_of value }
        filled_cell = ap (λ (c : Cell). record c { bytes = page_of value }) (sym (cell_is g taken.inside ∙ cell_of-host fields g (whole.each g) was refl refl))

        pub filled_done : seen_as (after_calls granules pages free) ≡ after_command (host_fill (seen_in monitor g) value) monitor
        filled_done =
            moved_after Undelegated (page_of value) (ap is_host_state was) refl (λ e. cc) (after_calls granules pages free) filled_fields
            (is_undelegated (seen_in monitor g)) (record (seen_in monitor g).cell { bytes = page_of value }) (is_undelegated_there was) filled_cell

    module _ (was : (granule_at fields.granules g).state ≡ Delegated) (granules : List Granule) (shifted : granules ≡ set fields.granules g (record { state = Undelegated; realm = None })) where
      undelegated_fields : after_calls granules fields.pages fields.free ≡ moved fields g Undelegated (page_at fields.pages g)
      undelegated_fields =
          ap (λ gs. after_calls gs fields.pages fields.free) shifted
          ∙ ap (λ pages. after_calls (set fields.granules g (record { state = Undelegated; realm = None })) pages fields.free) (sym (set-get_or fields.pages g []))

      pub whole_undelegated : IsWhole (after_calls granules fields.pages fields.free)
      whole_undelegated =
          whole_after Undelegated (page_at fields.pages g) (ap is_host_state was) refl (λ e. cc) (after_calls granules fields.pages fields.free) undelegated_fields

      undelegated_cell : host_cell Undelegated (page_at fields.pages g) ≡ record (seen_in monitor g).cell { state = Undelegated }
      undelegated_cell = ap (λ (c : Cell). record c { state = Undelegated }) (sym (cell_is g taken.inside ∙ cell_of-host fields g (whole.each g) was refl refl))

      pub undelegated_done : seen_as (after_calls granules fields.pages fields.free) ≡ after_command (granule_undelegate (seen_in monitor g)) monitor
      undelegated_done =
          moved_after Undelegated (page_at fields.pages g) (ap is_host_state was) refl (λ e. cc) (after_calls granules fields.pages fields.free) undelegated_fields
          (is_delegated (seen_in monitor g)) (record (seen_in monitor g).cell { state = Undelegated }) (is_delegated_there was) undelegated_cell

-- a DELEGATED granule that is inside the machine and not free belongs to no realm
pub delegated_there : {monitor : MonitorView} {fields : Fields} → HasFields monitor fields → {g : ℕ} → IsTaken monitor g → is_delegated_at fields.granules g ≡ true
    → IsIn fields.granules g Delegated None
delegated_there {monitor} {fields} has {g} taken is = in_delegated monitor fields has.view_is has.whole g taken is
