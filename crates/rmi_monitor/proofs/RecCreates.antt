-- Proofs that RMI_REC_CREATE, on the fields of an RMM, has the outcome and the effect of the model's command.
use Rattle.std.proofs.Common.{◌≡◌, ℕ, suc, ◌+◌, ◌<◌, Bool, true, false, ◌&&◌, List, [], ◌∷◌, ◌++◌, length, map, set, get_or, All, Option, Some, None, Ok, Err, refl, sym, ap, ◌∙◌, subst}
use Rattle.std.specs.Prelude.{◌==◌}
use Rattle.std.specs.Prelude.{IsTrue}
use Rattle.std.specs.Bool.{OnTrue}
use Rattle.std.specs.List.{list_all}
use Rattle.std.specs.FinMap.{insert}
use Rattle.std.proofs.lemmas.Bool.{OnTrue_at, and_parts, eqb-true}
use Rattle.std.proofs.lemmas.List.{length-set, get_or-set_other}
use Rattle.std.proofs.lemmas.Option.{same_Some, slice_get-get_or}
use Rattle.rtt.specs.Granules.{granule_at, undelegated}
use Rattle.rtt.specs.declared.granule.Granule.{Granule}
use Rattle.realm_model.proofs.Reversal.{seen_numbers}
use Rattle.realm_model.specs.declared.states.GranuleState.TheVariants.{Delegated, Rec as InRec, RecAux as InRecAux}
use Rattle.realm_model.specs.declared.rmi.Rmi.{Rmi}
use Rattle.realm_model.specs.Measurement.{measurement_after, rec_event}
use Rattle.realm_model.specs.Machine.{Cell, RealmRow, Seen, cell_at, held, numbers_of}
use Rattle.realm_model.specs.StepLaw.{set_each}
use Rattle.realm_model.specs.Update.{Outcome, Update, Put, machine_after_all}
use Rattle.realm_model.specs.Command.Check.{check, error_input, error_realm, is_delegated, is_new, are_distinct, is_in}
use Rattle.realm_model.specs.Command.Rec.{rec_create}
use Rattle.realm_model.proofs.Booleans.{not_true, true_false}
use Rattle.realm_model.proofs.Lists.{all_in, is_in_at, is_in_head, is_in_more}
use Rattle.realm_model.proofs.Outcomes.{check_true, check_false}
use Rattle.rmi_monitor.specs.Attributes.{RealmAttributes, RecAttributes, realm_row, rec_row}
use Rattle.rtt.specs.Tables.{rows}
use Rattle.rmi_monitor.specs.View.{MonitorView, IsTaken, Answers, seen_in, after_command}
use Rattle.rmi_monitor.specs.Inside.{Fields, realm_at, rec_count_at, recs_of, seen_as, IsWhole}
use Rattle.rmi_monitor.specs.Places.{is_delegated_at, are_fit_for_rec, IsInState, with_rec_more}
use Rattle.rmi_monitor.proofs.Checks.{delegated_state}
use Rattle.rmi_monitor.proofs.Granules.{HasFields, machine_is, cell_is, in_granules, seen_delegated, after_done}
use Rattle.rmi_monitor.proofs.Listed.{once_from_distinct, holds_in}
use Rattle.rmi_monitor.proofs.RecMade.{CanMake, made, new_rec}
use Rattle.rmi_monitor.proofs.RecMadeAfter.{whole_made, machine_made}
use Rattle.rmi_monitor.proofs.Outcomes.{answers_ok, answers_err}
use Rattle.rmi_monitor.proofs.RealmCommands.{refused_back}
use Rattle.rmi_monitor.proofs.RealmFound.{row_of, descriptor_there, nowhere, somewhere}
use Rattle.rmi_monitor.proofs.Comparisons.{either}

-- ---- the granules that a command names, as it sees them

module _ (monitor : MonitorView) where
  numbers_seen : (xs : List ℕ) → map (λ (a : Seen). a.number) (map (seen_in monitor) xs) ≡ xs
  numbers_seen [] = refl
  numbers_seen (x ∷ xs) = ap (λ l. x ∷ l) (numbers_seen xs)

  puts_seen : (cell : Cell) (xs : List ℕ) → map (λ (a : Seen). Put a.number cell) (map (seen_in monitor) xs) ≡ map (λ a. Put a cell) xs
  puts_seen cell [] = refl
  puts_seen cell (x ∷ xs) = ap (λ l. Put x cell ∷ l) (puts_seen cell xs)

  length_seen : (xs : List ℕ) → length (map (seen_in monitor) xs) ≡ length xs
  length_seen [] = refl
  length_seen (x ∷ xs) = ap suc (length_seen xs)

  distinct_seen : (xs : List ℕ) → are_distinct (numbers_of (map (seen_in monitor) xs)) ≡ are_distinct xs
  distinct_seen xs = ap are_distinct (seen_numbers monitor.machine xs)

  delegated_seen : (granules : List Granule) (xs : List ℕ) → ((x : ℕ) → is_in x xs ≡ true → is_delegated (seen_in monitor x) ≡ is_delegated_at granules x)
      → list_all is_delegated (map (seen_in monitor) xs) ≡ list_all (is_delegated_at granules) xs
  delegated_seen granules [] same = refl
  delegated_seen granules (x ∷ xs) same =
      λ i. same x (is_in_head x xs) i && delegated_seen granules xs (λ y e. same y (is_in_more y x xs e)) i

-- the RD and the granules for a new REC are not free, and the realm, if there is one, has a number for the REC
abbrev pub AreGiven : MonitorView → ℕ → ℕ → List ℕ → Type 0
AreGiven monitor rd g others = record {
  rd_taken : IsTaken monitor rd;
  rec_taken : IsTaken monitor g;
  auxiliaries_taken : All (IsTaken monitor) others;
  numbers : (realm : RealmRow) → (cell_at monitor.machine rd).descriptor ≡ Some realm → realm.next < 65535;
}

module _ {monitor : MonitorView} {fields : Fields} (has : HasFields monitor fields) (rd g : ℕ) (others : List ℕ) (given : AreGiven monitor rd g others) where
  abbrev outcome : Outcome
  outcome = rec_create monitor.aux (seen_in monitor rd) (seen_in monitor g) (map (seen_in monitor) others)

  abbrev fit : Bool
  fit = are_fit_for_rec fields.granules g others fields.aux

  taken : (h : ℕ) → is_in h (g ∷ others) ≡ true → IsTaken monitor h
  taken h e = either (h == g) (is_in h others) e (λ same. subst (IsTaken monitor) (sym (eqb-true h g same)) given.rec_taken) (holds_in (IsTaken monitor) others h given.auxiliaries_taken)

  others_inside : All (λ h. h < length fields.granules) others
  others_inside k d lt = in_granules monitor fields has.view_is has.whole (get_or others k d) (given.auxiliaries_taken k d lt)

  pub inside_by : {list : List ℕ} → list ≡ others → All (λ h. h < length fields.granules) list
  inside_by {list} same = subst (λ l. All (λ h. h < length fields.granules) l) (sym same) others_inside

  -- if the call that checks the granules for the new REC answers `wanted`, then `fit` equals `wanted`
  pub fit_by : {list : List ℕ} {answer wanted : Bool} → list ≡ others → answer ≡ are_fit_for_rec fields.granules g list fields.aux → answer ≡ wanted → fit ≡ wanted
  fit_by same e is = ap (λ l. are_fit_for_rec fields.granules g l fields.aux) (sym same) ∙ sym e ∙ is

  -- a refusal of RMI_REC_CREATE changes nothing, if the attributes that were read at `place` are written back as they
  -- were
  pub refused_create : (place : ℕ) {x y : Option RealmAttributes} → x ≡ get_or fields.realms place x → x ≡ y → {rmi : Rmi} → outcome ≡ Err rmi
      → record {
        answer : Answers {A = ℕ} (Err rmi) outcome;
        number : Unit {0};
        machine : seen_as (record fields { realms = set fields.realms place y }) ≡ after_command outcome monitor;
      }
  refused_create place read is {rmi} refused =
      record { answer = answers_err ℕ rmi outcome refused; number = tt; machine = (refused_back has place read is refused).machine }

  -- ---- its checks

  fit_is : (list_all is_delegated (map (seen_in monitor) (g ∷ others)) && are_distinct (numbers_of (map (seen_in monitor) (g ∷ others))) && length (map (seen_in monitor) others) == monitor.aux) ≡ fit
  fit_is i =
      delegated_seen monitor fields.granules (g ∷ others) (λ h e. seen_delegated monitor fields has.view_is has.whole h (taken h e)) i
      && distinct_seen monitor (g ∷ others) i
      && length_seen monitor others i == sym (ap (λ (m : MonitorView). m.aux) has.view_is) i

  pub refuses_no_realm : realm_at fields rd ≡ None → outcome ≡ Err error_input
  refuses_no_realm none = nowhere monitor fields has.view_is has.whole rd given.rd_taken.inside none _

  module _ {realm : RealmAttributes} (there : realm_at fields rd ≡ Some realm) where
    abbrev pub row : RealmRow
    row = row_of fields rd realm

    pub row_is : (cell_at monitor.machine rd).descriptor ≡ Some row
    row_is = descriptor_there monitor fields has.view_is has.whole rd realm there

    pub next_is : (other : RealmRow) → (cell_at monitor.machine rd).descriptor ≡ Some other → realm.next ≡ other.next
    next_is other e = ap (λ (r : RealmRow). r.next) (same_Some row other (sym row_is ∙ e))

    -- the updates of RMI_REC_CREATE, from the updates of the auxiliary granules, the numbers of these granules, and the
    -- cell of the RD
    abbrev updates_by : List Update → List ℕ → Cell → List Update
    updates_by puts auxiliaries cell =
        Put g (held InRec rd) ∷ puts ++ Put rd (record cell {
          descriptor = Some (realm_row (with_rec_more realm) (insert (recs_of fields.granules fields.recs rd) realm.next (rec_row g (new_rec realm.next auxiliaries))) (rows fields.pages realm.root));
        }) ∷ []

    abbrev updates : List Update
    updates = updates_by (map (λ (a : Seen). Put a.number (held InRecAux rd)) (map (seen_in monitor) others)) (numbers_of (map (seen_in monitor) others)) (cell_at monitor.machine rd)

    abbrev rest : Outcome
    rest = check (is_new row.state) error_realm (Ok updates)

    checked : outcome
        ≡ check (list_all is_delegated (map (seen_in monitor) (g ∷ others)) && are_distinct (numbers_of (map (seen_in monitor) (g ∷ others)))
        && length (map (seen_in monitor) others) == monitor.aux) error_input rest
    checked = somewhere monitor fields has.view_is has.whole rd realm there _

    pub refuses_unfit : fit ≡ false → outcome ≡ Err error_input
    refuses_unfit e = checked ∙ check_false _ error_input rest (fit_is ∙ e)

    pub refuses_active : fit ≡ true → is_new row.state ≡ false → outcome ≡ Err error_realm
    refuses_active e active = checked ∙ check_true _ error_input rest (fit_is ∙ e) ∙ check_false (is_new row.state) error_realm (Ok updates) active

    pub creates : fit ≡ true → is_new row.state ≡ true → outcome ≡ Ok updates
    creates e new = checked ∙ check_true _ error_input rest (fit_is ∙ e) ∙ check_true (is_new row.state) error_realm (Ok updates) new

    -- ---- what it changes

    module _ (e : fit ≡ true) where
      all_delegated : (h : ℕ) → is_in h (g ∷ others) ≡ true → (granule_at fields.granules h).state ≡ Delegated
      all_delegated h there = delegated_state (granule_at fields.granules h).state (all_in (is_delegated_at fields.granules) (g ∷ others) h (and_parts _ _ (and_parts _ _ e).0).0 there)

      all_distinct : are_distinct (g ∷ others) ≡ true
      all_distinct = (and_parts _ _ (and_parts _ _ e).0).1

      pub others_distinct : are_distinct others ≡ true
      others_distinct = (and_parts _ _ all_distinct).1

      pub own : is_in g others ≡ false
      own = not_true (is_in g others) (and_parts _ _ all_distinct).0

      pub g_delegated : (granule_at fields.granules g).state ≡ Delegated
      g_delegated = all_delegated g (is_in_head g others)

      -- after the REC's granule has changed, the auxiliaries are still DELEGATED
      pub others_stand : (granule : Granule) {then : List Granule} {list : List ℕ} → list ≡ others → then ≡ set fields.granules g granule → All (IsInState then Delegated) list
      others_stand granule {then} {list} same made =
          subst (λ l. All (IsInState then Delegated) l) (sym same) (subst (λ gs. All (IsInState gs Delegated) others) (sym made) (λ k d lt.
          let x = get_or others k d in
          let there : is_in x others ≡ true = is_in_at others k x (slice_get-get_or others k d lt) in
          record {
            inside = subst (λ n. x < n) (sym (length-set fields.granules g granule)) (others_inside k d lt);
            is = ap (λ (z : Granule). z.state) (get_or-set_other fields.granules g x granule undelegated (λ is. true_false (is_in g others) (subst (λ h. is_in h others ≡ true) is there) own))
                ∙ all_delegated x (is_in_more x g others there);
          }))

      -- if the checks pass, granule `g` is DELEGATED, so the call that changes it succeeds
      pub shifted_by : (answer : Bool) (granule : Granule) {then : List Granule} → ((granule_at fields.granules g).state ≡ Delegated → IsTrue answer)
          → OnTrue answer (then ≡ set fields.granules g granule) → then ≡ set fields.granules g granule
      shifted_by answer granule says made = OnTrue_at (says g_delegated) made

      can : CanMake fields rd g others realm
      can = record {
        inside = λ h k. in_granules monitor fields has.view_is has.whole h (taken h k);
        there = there;
        delegated = all_delegated;
        own = own;
        once = once_from_distinct others others_distinct;
      }

      pub whole_created : IsWhole (made fields rd g others realm)
      whole_created = whole_made fields has.whole rd g others realm can

      pub created : is_new row.state ≡ true → seen_as (made fields rd g others realm) ≡ after_command outcome monitor
      created new =
          after_done monitor fields has.view_is has.whole (made fields rd g others realm) updates outcome (creates e new) refl refl refl
          (machine_made fields has.whole rd g others realm can
          ∙ (λ i. machine_after_all
          (updates_by (sym (puts_seen monitor (held InRecAux rd) others) i) (sym (numbers_seen monitor others) i) (sym (cell_is monitor fields has.view_is has.whole rd given.rd_taken.inside) i))
          (machine_is monitor fields has.view_is has.whole i)))

-- ---- the fields as calls leave them

-- the realm's attributes after the code's changes are those of `with_rec_more`
pub more_by : {realm then now : RealmAttributes} {number : ℕ} {event : List ℕ} → number ≡ realm.next → then ≡ record realm { next = realm.next + 1 } → event ≡ rec_event number
    → now ≡ record then { measurement = measurement_after then.measurement event } → now ≡ with_rec_more realm
more_by numbered raised events measured = measured ∙ (λ i. record (raised i) { measurement = measurement_after (raised i).measurement ((events ∙ ap rec_event numbered) i) })

abbrev fields_with : Fields → List Granule → List (Option RealmAttributes) → List ℕ → List (Option RecAttributes) → Fields
fields_with fields granules realms rec_counts recs = record fields { granules = granules; realms = realms; rec_counts = rec_counts; recs = recs }

-- the invariant holds after a REC is created, the RMM is as the outcome says, and the returned number was that of the
-- realm's next REC
pub record Created (monitor : MonitorView) (rd g : ℕ) (others : List ℕ) (number : ℕ) (new : Fields) : Type 0 where
  pub whole : IsWhole new
  pub says : record {
    answer : Answers (Ok number) (rec_create monitor.aux (seen_in monitor rd) (seen_in monitor g) (map (seen_in monitor) others));
    number : (realm : RealmRow) → (cell_at monitor.machine rd).descriptor ≡ Some realm → number ≡ realm.next;
    machine : seen_as new ≡ after_command (rec_create monitor.aux (seen_in monitor rd) (seen_in monitor g) (map (seen_in monitor) others)) monitor;
  }

module _ {monitor : MonitorView} {fields : Fields} (has : HasFields monitor fields) (rd g : ℕ) (others : List ℕ) (given : AreGiven monitor rd g others)
    {realm : RealmAttributes} (there : realm_at fields rd ≡ Some realm) (fit : are_fit_for_rec fields.granules g others fields.aux ≡ true) (new : is_new realm.state ≡ true)
    {begun granules : List Granule} {list : List ℕ} {n m k count number : ℕ} {now : RealmAttributes} {rec : RecAttributes}
    (first : begun ≡ set fields.granules g (record { state = InRec; realm = Some rd }))
    (rest : granules ≡ set_each (record { state = InRecAux; realm = Some rd }) list begun) (listed : list ≡ others)
    (n_is : n ≡ rd) (m_is : m ≡ g) (k_is : k ≡ rd) (count_is : count ≡ rec_count_at fields rd)
    (now_is : now ≡ with_rec_more realm) (number_is : number ≡ realm.next) (rec_is : rec ≡ new_rec number others) where
  abbrev left : Fields
  left = fields_with fields granules (set fields.realms n (Some now)) (set fields.rec_counts k (count + 1)) (set fields.recs m (Some rec))

  left_is : left ≡ made fields rd g others realm
  left_is i = record fields {
    granules = (rest ∙ (λ j. set_each (record { state = InRecAux; realm = Some rd }) (listed j) (first j))) i;
    realms = set fields.realms (n_is i) (Some (now_is i));
    rec_counts = set fields.rec_counts (k_is i) (count_is i + 1);
    recs = set fields.recs (m_is i) (Some ((rec_is ∙ ap (λ j. new_rec j others) number_is) i));
  }

  pub create_done : Created monitor rd g others number (fields_with fields granules (set fields.realms n (Some now)) (set fields.rec_counts k (count + 1)) (set fields.recs m (Some rec)))
  create_done = record {
    whole = subst IsWhole (sym left_is) (whole_created has rd g others given there fit);
    says = record {
      answer = answers_ok number _ _ (creates has rd g others given there fit new);
      number = λ other e. number_is ∙ next_is has rd g others given there other e;
      machine = ap seen_as left_is ∙ created has rd g others given there fit new;
    };
  }
