-- The proof that, after any history, the bytes of each granule of a build are zero unless its state is UNDELEGATED or
-- DATA. `kept_reached` joins this with the other invariants of the build.
use Rattle.std.proofs.Common.{◌≡◌, ℕ, Bool, true, false, cond, List, [], ◌∷◌, map, Option, Some, None, refl, sym, ap, ◌∙◌, subst}
use Rattle.std.specs.Prelude.{◌==◌, option_map}
use Rattle.std.proofs.lemmas.Bool.{eqb-true, eqb-false}
use Rattle.granule_addr.specs.Ipa.{first_covered}
use Rattle.granule_addr.specs.Root.{starting_tables}
use Rattle.realm_model.specs.declared.states.GranuleState.TheVariants.{RecAux, Data as InData, Rtt as InRtt}
use Rattle.realm_model.specs.declared.act.Act.{Act}
use Rattle.realm_model.specs.declared.act.Act.TheVariants.{Take, UnTake, Fill, Peek, Delegate, Undelegate, Realm, UnRealm, Activate}
use Rattle.realm_model.specs.declared.act.Act.TheVariants.{Rtt, UnRtt, Ripas, Data, Unknown, UnData, Rec, UnRec, Enter, Exit, Poke}
use Rattle.realm_model.specs.declared.act.Event.{Event}
use Rattle.granule_addr.specs.Page.{zero_page}
use Rattle.realm_model.specs.Machine.{Limits, Cell, Seen, left, held, cell_at, seen}
use Rattle.realm_model.specs.Update.{Update, Put, PutByte, Lease, Free, granule_of, cell_after}
use Rattle.realm_model.specs.Act.{named}
use Rattle.realm_model.specs.Outcome.{outcome_of}
use Rattle.realm_model.specs.World.{World, part_of, realm_of, hidden, is_of_other}
use Rattle.realm_model.specs.Step.{step, used_vmids}
use Rattle.realm_model.specs.Undoing.{by}
use Rattle.realm_model.specs.History.{replay}
use Rattle.realm_model.specs.Ownership.{mapping_of_row}
use Rattle.realm_model.specs.Sound.{is_zero_state, IsZeroed}
use Rattle.realm_model.specs.Roles.{AtRow, row_target}
use Rattle.realm_model.proofs.Outcomes.{Yields, Yields-Ok, Yields-Err, Yields-check, Yields-with_realm, Yields-with_rec, Yields-with_end, Yields-with_granule}
use Rattle.realm_model.proofs.Walks.{walk_end}
use Rattle.realm_model.proofs.LeftOut.{each-replicate}
use Rattle.realm_model.proofs.HiddenSteps.{part_of-other_step, step-part_of}
use Rattle.realm_model.proofs.RealmOf.{IsAt, IsAt-realm_of}
use Rattle.realm_model.proofs.Written.{put_at, cell_put, put_seen, each_in_front, each_alone, IsSquare}
use Rattle.realm_model.proofs.StepBack.{done}
use Rattle.realm_model.proofs.RowKinds.{assigned_target}
use Rattle.realm_model.proofs.SoundCells.{undelegated_state}
use Rattle.realm_model.proofs.SoundParts.{IsSound, IsSound-step, IsSound-opening, IsSquare-part_of}
use Rattle.realm_model.proofs.Linked.{linked_step, linked_opening}
use Rattle.realm_model.proofs.Reached.{of_reached}
use Rattle.realm_model.proofs.Leases.{cell_at-replicate}
use Rattle.realm_model.proofs.Booleans.{true_false}
use Rattle.realm_model.proofs.Parts.{IsLinked, IsLinkedFor}

-- ---- updates

abbrev IsZeroCell : Cell → Type 0
IsZeroCell c = is_zero_state c.state ≡ true → c.bytes ≡ zero_page

abbrev KeepsZero : Update → Type 0
KeepsZero (Put g x) = IsZeroCell x
KeepsZero (PutByte g o v) = ⊥
KeepsZero (Lease g) = Unit {0}
KeepsZero (Free g) = Unit {0}

abbrev AllKeepZero : List Update → Type 0
AllKeepZero [] = Unit {0}
AllKeepZero (u ∷ us) = KeepsZero u × AllKeepZero us

zero_cell : (u : Update) (c : Cell) → KeepsZero u → IsZeroCell c → IsZeroCell (cell_after u c)
zero_cell (Put g x) c keeps h = keeps
zero_cell (PutByte g o v) c keeps h = absurd keeps
zero_cell (Lease g) c keeps h = h
zero_cell (Free g) c keeps h = λ s. refl

zero_put : (us : List Update) (k : ℕ) (c : Cell) → AllKeepZero us → IsZeroCell c → IsZeroCell (put_at us k c)
zero_put [] k c keeps h = h
zero_put (u ∷ us) k c keeps h = zero_put us k (cond (k == granule_of u) (cell_after u c) c) keeps.1
    (elim (k == granule_of u) as (λ t. IsZeroCell (cond t (cell_after u c) c)) [ true ↦ zero_cell u c keeps.0 h | false ↦ h ])

zero_takes : (gs : List Seen) → AllKeepZero (map (λ (g : Seen). Lease g.number) gs)
zero_takes [] = tt
zero_takes (g ∷ gs) = (tt, zero_takes gs)

zero_frees : (gs : List Seen) → AllKeepZero (map (λ (g : Seen). Free g.number) gs)
zero_frees [] = tt
zero_frees (g ∷ gs) = (tt, zero_frees gs)

-- ---- operations

abbrev is_guest_write : Act → Bool
is_guest_write (Poke n ipa o v) = true
is_guest_write _ = false

module _ (limits : Limits) (w : World) (linked : IsLinked (λ k. cell_at w.machine k)) (zero : IsZeroed (λ k. cell_at w.machine k)) where
  abbrev now : ℕ → Cell
  now k = cell_at w.machine k

  abbrev Z : List Update → Type 0
  Z us = IsZeroed (λ k. put_at us k (now k))

  all : (us : List Update) → AllKeepZero us → Z us
  all us keeps k = zero_put us k (now k) keeps (zero k)

  -- an RD that a command gets satisfies `IsZeroCell`, since each cell of the world does
  realm_zero : (rd : Seen) → now rd.number ≡ rd.cell → IsZeroCell rd.cell
  realm_zero rd at = λ s. ap (λ (c : Cell). c.bytes) (sym at) ∙ zero rd.number (ap (λ (c : Cell). is_zero_state c.state) at ∙ s)

  -- all cells still satisfy `IsZeroed` after a byte is written to a DATA granule
  poked : (g o v : ℕ) → (now g).state ≡ InData → Z (PutByte g o v ∷ [])
  poked g o v is k = elim (k == g) as (λ t. (k == g) ≡ t → IsZeroCell (cond t (cell_after (PutByte g o v) (now k)) (now k))) [
    | true ↦ λ here s. absurd (true_false _ s (ap is_zero_state (ap (λ j. (now j).state) (eqb-true k g here) ∙ is)))
    | false ↦ λ other. zero k
  ] refl

  abbrev K : List Update → Type 0
  K = AllKeepZero

  keeps : (act : Act) (realm : Option Seen) → is_guest_write act ≡ false → IsAt w.machine realm
      → Yields K (outcome_of limits.vmids limits.aux (used_vmids w.machine) act realm (map (seen w.machine) (named act)))
  unfolding outcome_of named
  keeps (Take order first) realm plain at = Yields-Ok K _ (zero_takes _)
  keeps (UnTake order first) realm plain at = Yields-Ok K _ (zero_frees _)
  keeps (Fill g v) realm plain at = Yields-check K _ _ _ (λ host. Yields-Ok K _ (λ s. absurd (true_false _ s (ap is_zero_state (undelegated_state (now g) g host))), tt))
  keeps (Peek g o v) realm plain at = Yields-check K _ _ _ (λ _. Yields-Ok K _ tt)
  keeps (Delegate g) realm plain at = Yields-check K _ _ _ (λ _. Yields-Ok K _ (λ s. refl, tt))
  keeps (Undelegate g) realm plain at = Yields-check K _ _ _ (λ _. Yields-Ok K _ (λ s. cc, tt))
  keeps (Realm rd root v) realm plain at =
      Yields-check K _ _ _ (λ _. Yields-Ok K _ (λ s. refl, each_alone K (put_seen (held InRtt rd)) (λ a us h. (λ s. refl, h)) (map (seen w.machine) (starting_tables root)) tt))
  keeps (UnRealm rd root v) realm plain at =
      Yields-with_realm K _ _ (λ d is. Yields-check K _ _ _ (λ _. Yields-Ok K _ (λ s. refl, each_alone K (λ g. Put g left) (λ g us h. (λ s. refl, h)) (starting_tables d.root) tt)))
  keeps Activate None plain at = Yields-Err K _
  keeps Activate (Some rd) plain at = Yields-with_realm K _ _ (λ d is. Yields-check K _ _ _ (λ _. Yields-Ok K _ (realm_zero rd at, tt)))
  keeps (Rtt g ipa level) None plain at = Yields-Err K _
  keeps (Rtt g ipa level) (Some rd) plain at = Yields-with_realm K _ _ (λ d is. Yields-check K _ _ _ (λ _. Yields-with_end K _ _ _ _ (λ end e. Yields-check K _ _ _ (λ _. Yields-check K _ _ _ (λ _.
      Yields-Ok K _ (λ s. refl, (realm_zero rd at, tt)))))))
  keeps (UnRtt g ipa level) None plain at = Yields-Err K _
  keeps (UnRtt g ipa level) (Some rd) plain at =
      Yields-with_realm K _ _ (λ d is. Yields-check K _ _ _ (λ _. Yields-with_end K _ _ _ _
      (λ end e. Yields-check K _ _ _ (λ _. Yields-check K _ _ _ (λ _. Yields-check K _ _ _ (λ _. Yields-with_granule K _ _ (λ pa to.
      Yields-Ok K _ (λ s. refl, (realm_zero rd at, tt)))))))))
  keeps (Ripas ipa n) None plain at = Yields-Err K _
  keeps (Ripas ipa n) (Some rd) plain at =
      Yields-with_realm K _ _ (λ d is. Yields-check K _ _ _ (λ _. Yields-check K _ _ _ (λ _. Yields-with_end K _ _ _ _ (λ end e. Yields-check K _ _ _ (λ _. Yields-check K _ _ _ (λ _.
      Yields-Ok K _ (realm_zero rd at, tt)))))))
  keeps (Data g ipa source) None plain at = Yields-Err K _
  keeps (Data g ipa source) (Some rd) plain at =
      Yields-with_realm K _ _ (λ d is. Yields-check K _ _ _ (λ _. Yields-check K _ _ _ (λ _. Yields-with_end K _ _ _ _ (λ end e. Yields-check K _ _ _ (λ _. Yields-check K _ _ _ (λ _.
      Yields-Ok K _ (λ s. cc, (realm_zero rd at, tt))))))))
  keeps (Unknown g ipa) None plain at = Yields-Err K _
  keeps (Unknown g ipa) (Some rd) plain at = Yields-with_realm K _ _ (λ d is. Yields-check K _ _ _ (λ _. Yields-with_end K _ _ _ _ (λ end e. Yields-check K _ _ _ (λ _. Yields-check K _ _ _ (λ _.
      Yields-Ok K _ (λ s. refl, (realm_zero rd at, tt)))))))
  keeps (UnData g ipa) None plain at = Yields-Err K _
  keeps (UnData g ipa) (Some rd) plain at =
      Yields-with_realm K _ _ (λ d is. Yields-check K _ _ _ (λ _. Yields-with_end K _ _ _ _ (λ end e. Yields-check K _ _ _ (λ _. Yields-check K _ _ _ (λ _. Yields-with_granule K _ _ (λ pa to.
      Yields-Ok K _ (λ s. refl, (realm_zero rd at, tt))))))))
  keeps (Rec g aux m) None plain at = Yields-Err K _
  keeps (Rec g aux m) (Some rd) plain at = Yields-with_realm K _ _ (λ d is. Yields-check K _ _ _ (λ _. Yields-check K _ _ _ (λ _.
      Yields-Ok K _ (λ s. refl, each_in_front K (put_seen (held RecAux rd.number)) (λ a us h. (λ s. refl, h)) (map (seen w.machine) aux.items) _ (realm_zero rd at, tt)))))
  keeps (UnRec g aux m) None plain at = Yields-Err K _
  keeps (UnRec g aux m) (Some rd) plain at = Yields-with_realm K _ _ (λ d is. Yields-with_rec K _ _ _ (λ rec there. Yields-check K _ _ _ (λ _.
      Yields-Ok K _ (λ s. refl, each_in_front K (λ g. Put g left) (λ g us h. (λ s. refl, h)) rec.auxiliaries _ (realm_zero rd at, tt)))))
  keeps (Enter m) None plain at = Yields-Err K _
  keeps (Enter m) (Some rd) plain at =
      Yields-with_realm K _ _ (λ d is. Yields-with_rec K _ _ _ (λ rec there. Yields-check K _ _ _ (λ _. Yields-check K _ _ _ (λ _. Yields-Ok K _ (realm_zero rd at, tt)))))
  keeps (Exit m) None plain at = Yields-Err K _
  keeps (Exit m) (Some rd) plain at = Yields-with_realm K _ _ (λ d is. Yields-with_rec K _ _ _ (λ rec there. Yields-check K _ _ _ (λ _. Yields-Ok K _ (realm_zero rd at, tt))))
  keeps (Poke m ipa o v) realm plain at = cc

  keeps_zero : (act : Act) (realm : Option Seen) → IsAt w.machine realm → Yields Z (outcome_of limits.vmids limits.aux (used_vmids w.machine) act realm (map (seen w.machine) (named act)))
  unfolding outcome_of named
  keeps_zero (Poke m ipa o v) None at = Yields-Err Z _
  keeps_zero (Poke m ipa o v) (Some rd) at = Yields-with_realm Z _ _ (λ d is. Yields-with_rec Z _ _ _ (λ rec there. Yields-check Z _ _ _ (λ _. Yields-check Z _ _ _ (λ _.
      Yields-with_end Z _ _ _ _ (λ end e. Yields-check Z _ _ _ (λ used. Yields-with_granule Z _ _ (λ pa to.
      let row : (now rd.number).descriptor ≡ Some d = ap (λ (c : Cell). c.descriptor) at ∙ is in
      let found = linked.names rd.number d row (AtRow (end.level, first_covered end.level ipa)) (pa, InData)
      (ap (λ o. row_target (option_map mapping_of_row o)) (walk_end d.rows ipa 3 end e) ∙ assigned_target end.row.state end.row.granule pa used to) in
      Yields-Ok Z _ (poked pa o v found.0))))))))
  keeps_zero act realm at = record { where_ok = λ us e. all us ((keeps act realm refl at).where_ok us e) }

-- ---- steps

abbrev pub IsZeroedFor : ℕ → World → Type 0
IsZeroedFor b w = IsZeroed (λ k. cell_at (part_of w b).machine k)

part_zero : (limits : Limits) (b : ℕ) (w v : World) (act : Act) → IsSquare w → IsLinked (λ k. cell_at w.machine k) → IsZeroed (λ k. cell_at w.machine k)
    → step limits w (by b act) ≡ Some v → IsZeroed (λ k. cell_at v.machine k)
part_zero limits b w v act square linked zero s =
    let did = done limits b w v act (λ us. IsZeroed (λ k. put_at us k (cell_at w.machine k))) (keeps_zero limits w linked zero act (realm_of b w) (IsAt-realm_of b w)) s in
    subst IsZeroed (λ i k. sym (cell_put b did.0 w v square did.2 k) i) did.1

zero_step : (limits : Limits) (b : ℕ) (w v : World) (e : Event) → IsSound b w → IsLinkedFor b w → IsZeroedFor b w → step limits w e ≡ Some v → IsZeroedFor b v
zero_step limits b w v e sound linked zero s = elim (e.build == b) as (λ t. (e.build == b) ≡ t → IsZeroedFor b v) [
  | true ↦ λ own. of_own (eqb-true e.build b own)
  | false ↦ λ other. subst (λ (x : World). IsZeroed (λ k. cell_at x.machine k)) (sym (part_of-other_step limits b w v e (eqb-false e.build b other) sound.clean s)) zero
] refl
  where
    of_own : e.build ≡ b → IsZeroedFor b v
    of_own own =
        let same : e ≡ by b e.act = λ i. record { build = own i; act = e.act } in
        part_zero limits b (part_of w b) (part_of v b) e.act (IsSquare-part_of w b sound.square) linked zero
        (subst (λ d. step limits (part_of w b) d ≡ Some (part_of v b)) same (step-part_of limits b w v e own s))

-- the build's part of the world satisfies the invariants that hold in every reached world
pub record IsKept (b : ℕ) (w : World) : Type 0 where
  pub sound : IsSound b w
  pub linked : IsLinkedFor b w
  pub zero : IsZeroedFor b w

pub kept_step : (limits : Limits) (b : ℕ) (w v : World) (e : Event) → IsKept b w → step limits w e ≡ Some v → IsKept b v
kept_step limits b w v e h s =
    record { sound = IsSound-step limits b w v e h.sound s; linked = linked_step limits b w v e h.sound h.linked s; zero = zero_step limits b w v e h.sound h.linked h.zero s }

pub kept_reached : (limits : Limits) (b : ℕ) (history : List Event) (w : World) → replay limits history ≡ Some w → IsKept b w
kept_reached limits b = of_reached limits (IsKept b) (λ w v e h s. kept_step limits b w v e h s)
    (record {
      sound = IsSound-opening limits b;
      linked = linked_opening limits b;
      zero = subst (λ m. IsZeroed (λ k. cell_at m k)) (sym (each-replicate (hidden (is_of_other b)) refl limits.pages)) (λ k s. ap (λ (c : Cell). c.bytes) (cell_at-replicate limits.pages k));
    })
