-- The proof that the ownership after an operation depends only on the operation and the ownership before.
use Rattle.std.proofs.Common.{◌≡◌, ℕ, suc, ◌-◌, Bool, true, false, cond, ◌&&◌, ◌||◌, List, [], ◌∷◌, map, length, pred, Option, Some, None, Ok, refl, sym, ap, ◌∙◌, subst, arith}
use Rattle.std.specs.Prelude.{is_some, ◌==◌, option_map}
use Rattle.std.specs.Cmp.{nat_cmp_total}
use Rattle.std.specs.FinMap.{get, insert, remove}
use Rattle.std.proofs.lemmas.Bool.{eqb-true}
use Rattle.std.proofs.lemmas.Option.{same_Some}
use Rattle.granule_addr.specs.Ipa.{first_covered}
use Rattle.granule_addr.specs.Root.{starting_tables}
use Rattle.granule_addr.specs.declared.width.Root.{Root}
use Rattle.realm_model.specs.declared.states.GranuleState.{GranuleState}
use Rattle.realm_model.specs.declared.states.GranuleState.TheVariants.{Rec as InRec, RecAux, Data as InData, Rtt as InRtt}
use Rattle.realm_model.specs.declared.states.RecState.TheVariants.{Ready}
use Rattle.realm_model.specs.declared.states.Ripas.TheVariants.{Ram}
use Rattle.arrayvec.specs.declared.array_vec.ArrayVec.{ArrayVec}
use Rattle.realm_model.specs.declared.act.Act.{Act}
use Rattle.realm_model.specs.declared.act.Act.TheVariants.{Take, UnTake, Fill, Peek, Delegate, Undelegate, Realm, UnRealm, Activate, Rtt}
use Rattle.realm_model.specs.declared.act.Act.TheVariants.{UnRtt, Ripas as ToRam, Data, Unknown, UnData, Rec, UnRec, Enter, Exit, Poke}
use Rattle.realm_model.specs.declared.act.Event.{Event}
use Rattle.realm_model.specs.Rows.{Rows, assigned, unassigned, unmapped_ripas, Walk, walk}
use Rattle.realm_model.specs.Machine.{Limits, RecRow, RealmRow, Machine, Seen, numbers_of, left, held, cell_at, seen}
use Rattle.realm_model.specs.Update.{Outcome}
use Rattle.realm_model.specs.Command.Check.{put_realm}
use Rattle.realm_model.specs.Act.{block, named, reverse_of, is_paired, is_reverse}
use Rattle.realm_model.specs.Outcome.{outcome_of, fits}
use Rattle.realm_model.specs.World.{World, same_lease, realm_from, realm_of}
use Rattle.realm_model.specs.Step.{used_vmids}
use Rattle.realm_model.specs.History.{replay}
use Rattle.realm_model.specs.Ownership.{SameRealm, SameDescriptor, SameCell, OwnsSame, granules_of_rec, mapping_of_row}
use Rattle.realm_model.specs.Undoing.{OwnershipFollows}
use Rattle.realm_model.proofs.Booleans.{or_parts}
use Rattle.realm_model.proofs.Written.{IsSquare, lefts}
use Rattle.realm_model.proofs.RealmOf.{realm_test}
use Rattle.realm_model.proofs.Walks.{walk_at}
use Rattle.realm_model.proofs.StepBack.{asked, done}
use Rattle.realm_model.proofs.Reached.{sized_reached}
use Rattle.realm_model.proofs.OwnsSame.{cell_itself, own_chain, own_turned}
use Rattle.realm_model.proofs.Unpaired.{own_step}
use Rattle.realm_model.proofs.Reversal.{seen_numbers}
use Rattle.realm_model.proofs.SameMappings.{SameMappings, both_insert, both_remove, both_put, both_with_table, both_without_table}
use Rattle.realm_model.proofs.Alike.{IsAlike, alike_put, alike_lease, alike_free, alike_more, alike_seen, alike_lefts, own_alike, Agree}
use Rattle.realm_model.proofs.Alike.{Agree-Ok, Agree-Err, Agree-check, Agree-with_realm, Agree-with_rec, Agree-with_granule, Agree-with_end}

-- ---- the realm of a build in both worlds

pub record IsTwin (r s : Seen) : Type 0 where
  pub number : r.number ≡ s.number
  pub cell : SameCell r.cell s.cell

abbrev pub AreTwins : Option Seen → Option Seen → Type 0
AreTwins None None = Unit {0}
AreTwins None (Some s) = ⊥
AreTwins (Some r) None = ⊥
AreTwins (Some r) (Some s) = IsTwin r s

rows_both : (o p : Option RealmRow) → SameDescriptor o p → is_some o ≡ is_some p
rows_both None None h = refl
rows_both None (Some e) h = absurd h
rows_both (Some d) None h = absurd h
rows_both (Some d) (Some e) h = refl

realm_from_twins : (b n : ℕ) (leases : List (Option ℕ)) (ms ns : Machine) → length ms ≡ length ns → ((g : ℕ) → SameCell (cell_at ms g) (cell_at ns g))
    → AreTwins (realm_from b n leases ms) (realm_from b n leases ns)
unfolding realm_from
realm_from_twins b n [] ms ns long same = tt
realm_from_twins b n (l ∷ leases) [] [] long same = tt
realm_from_twins b n (l ∷ leases) [] (d ∷ ns) long same = absurd (omega arith)
realm_from_twins b n (l ∷ leases) (c ∷ ms) [] long same = absurd (omega arith)
realm_from_twins b n (l ∷ leases) (c ∷ ms) (d ∷ ns) long same =
    let here : Bool = same_lease l (Some b) && is_some c.descriptor in
    let r : Option Seen = realm_from b (suc n) leases ms in
    let s : Option Seen = realm_from b (suc n) leases ns in
    subst (λ t. AreTwins (cond here (Some (record { number = n; cell = c })) r) (cond (same_lease l (Some b) && t) (Some (record { number = n; cell = d })) s))
    (rows_both c.descriptor d.descriptor (same 0).descriptor)
    (elim here as (λ t. AreTwins (cond t (Some (record { number = n; cell = c })) r) (cond t (Some (record { number = n; cell = d })) s)) [
      | true ↦ record { number = refl; cell = same 0 }
      | false ↦ realm_from_twins b (suc n) leases ms ns (ap pred long) (λ g. same (suc g))
    ])

realms_twins : (b : ℕ) (w v : World) → IsSquare w → IsSquare v → OwnsSame w v → AreTwins (realm_of b w) (realm_of b v)
realms_twins b w v sw sv same =
    subst (λ leases. AreTwins (realm_of b w) (realm_from b 0 leases v.machine)) same.leases
    (realm_from_twins b 0 w.leases w.machine v.machine (sym sw ∙ ap length same.leases ∙ sv) same.cells)

row_same : (o p : Option RealmRow) (d e : RealmRow) → SameDescriptor o p → o ≡ Some d → p ≡ Some e → SameRealm d e
row_same o p d e same is ise = subst (λ x. SameDescriptor x (Some e)) is (subst (SameDescriptor o) ise same)

-- ---- the updates of both, and the ends of their walks

held_same : (state : GranuleState) (m n : ℕ) → m ≡ n → SameCell (held state m) (held state n)
held_same state m n e = record { state = refl; realm = ap Some e; descriptor = tt }

alike_realm : (rd sd : Seen) (d e : RealmRow) → IsTwin rd sd → SameRealm d e → IsAlike (put_realm rd d) (put_realm sd e)
alike_realm rd sd d e twin same = alike_put rd.number sd.number _ _ twin.number (record { state = twin.cell.state; realm = twin.cell.realm; descriptor = same })

module _ (r s : Rows) (same : SameMappings r s) (ipa level : ℕ) (a b : Walk) (ra : walk r ipa level ≡ Some a) (sb : walk s ipa level ≡ Some b)
    (at_a : (a.level == level) ≡ true) (at_b : (b.level == level) ≡ true) where
  -- if rows `r` and `s` differ at most in RIPAS, walks in both that end at the given level end at rows that differ at
  -- most in RIPAS
  end_same : mapping_of_row a.row ≡ mapping_of_row b.row
  end_same = same_Some _ _ (ap (option_map mapping_of_row) (sym (walk_at r ipa level a ra (eqb-true a.level level at_a))) ∙ same (level, first_covered level ipa)
      ∙ ap (option_map mapping_of_row) (walk_at s ipa level b sb (eqb-true b.level level at_b)))

  granule_same : (g h : ℕ) → a.row.granule ≡ Some g → b.row.granule ≡ Some h → g ≡ h
  granule_same g h is ish = same_Some _ _ (sym is ∙ (λ i. (end_same i).granule) ∙ ish)

-- ---- operations

module _ (limits : Limits) (w v : World) (cells : (g : ℕ) → SameCell (cell_at w.machine g) (cell_at v.machine g)) where
  abbrev Follows : Act → Option Seen → Option Seen → Type 0
  Follows act r s = Agree (outcome_of limits.vmids limits.aux (used_vmids w.machine) act r (map (seen w.machine) (named act)))
      (outcome_of limits.vmids limits.aux (used_vmids v.machine) act s (map (seen v.machine) (named act)))

  module _ (rd sd : Seen) (twin : IsTwin rd sd) where
    at_realm : (d e : RealmRow) → rd.cell.descriptor ≡ Some d → sd.cell.descriptor ≡ Some e → SameRealm d e
    at_realm d e is ise = row_same _ _ d e twin.cell.descriptor is ise

    rtt_follows : (g ipa level : ℕ) → Follows (Rtt g ipa level) (Some rd) (Some sd)
    unfolding outcome_of named
    rtt_follows g ipa level = Agree-with_realm rd sd _ _ (λ d e is ise. Agree-check _ _ _ _ _ _ (λ _ _.
        Agree-with_end _ _ _ _ _ _ (λ a b _ _. Agree-check _ _ _ _ _ _ (λ _ _. Agree-check _ _ _ _ _ _ (λ _ _.
        let same = at_realm d e is ise in
        Agree-Ok _ _ (
          alike_put g g _ _ refl (held_same InRtt rd.number sd.number twin.number),
          (alike_realm rd sd _ _ twin (record { vmid = same.vmid; root = same.root; recs = same.recs; rows = both_with_table d.rows e.rows same.rows level ipa g a.row.ripas b.row.ripas }), tt),
        ))))))

    unrtt_follows : (g ipa level : ℕ) → Follows (UnRtt g ipa level) (Some rd) (Some sd)
    unfolding outcome_of named
    unrtt_follows g ipa level = Agree-with_realm rd sd _ _ (λ d e is ise. Agree-check _ _ _ _ _ _ (λ _ _.
        Agree-with_end _ _ _ _ _ _ (λ a b ra sb. Agree-check _ _ _ _ _ _ (λ at_a at_b. Agree-check _ _ _ _ _ _ (λ _ _. Agree-check _ _ _ _ _ _ (λ _ _.
        Agree-with_granule _ _ _ _ (λ k l isk isl.
        let same = at_realm d e is ise in
        Agree-Ok _ _ (
          alike_put k l _ _ (granule_same d.rows e.rows same.rows ipa (level - 1) a b ra sb at_a at_b k l isk isl) (cell_itself left),
          (alike_realm rd sd _ _ twin (record { vmid = same.vmid; root = same.root; recs = same.recs; rows = both_without_table d.rows e.rows same.rows level ipa }), tt),
        ))))))))

    data_follows : (g ipa source : ℕ) → Follows (Data g ipa source) (Some rd) (Some sd)
    unfolding outcome_of named
    data_follows g ipa source = Agree-with_realm rd sd _ _ (λ d e is ise. Agree-check _ _ _ _ _ _ (λ _ _. Agree-check _ _ _ _ _ _ (λ _ _.
        Agree-with_end _ _ _ _ _ _ (λ a b _ _. Agree-check _ _ _ _ _ _ (λ _ _. Agree-check _ _ _ _ _ _ (λ _ _.
        let same = at_realm d e is ise in
        Agree-Ok _ _ (
          alike_put g g _ _ refl (record { state = refl; realm = ap Some twin.number; descriptor = tt }),
          (
            alike_realm rd sd _ _ twin (record {
              vmid = same.vmid;
              root = same.root;
              recs = same.recs;
              rows = both_put d.rows e.rows same.rows
                  (3, first_covered 3 ipa) (assigned Ram g) (assigned Ram g) refl;
            }),
            tt,
          ),
        )))))))

    unknown_follows : (g ipa : ℕ) → Follows (Unknown g ipa) (Some rd) (Some sd)
    unfolding outcome_of named
    unknown_follows g ipa = Agree-with_realm rd sd _ _ (λ d e is ise. Agree-check _ _ _ _ _ _ (λ _ _.
        Agree-with_end _ _ _ _ _ _ (λ a b _ _. Agree-check _ _ _ _ _ _ (λ _ _. Agree-check _ _ _ _ _ _ (λ _ _.
        let same = at_realm d e is ise in
        Agree-Ok _ _ (
          alike_put g g _ _ refl (held_same InData rd.number sd.number twin.number),
          (
            alike_realm rd sd _ _ twin (record {
              vmid = same.vmid;
              root = same.root;
              recs = same.recs;
              rows = both_put d.rows e.rows same.rows
                  (3, first_covered 3 ipa) (assigned a.row.ripas g) (assigned b.row.ripas g) refl;
            }),
            tt,
          ),
        ))))))

    undata_follows : (g ipa : ℕ) → Follows (UnData g ipa) (Some rd) (Some sd)
    unfolding outcome_of named
    undata_follows g ipa = Agree-with_realm rd sd _ _ (λ d e is ise. Agree-check _ _ _ _ _ _ (λ _ _.
        Agree-with_end _ _ _ _ _ _ (λ a b ra sb. Agree-check _ _ _ _ _ _ (λ at_a at_b. Agree-check _ _ _ _ _ _ (λ _ _.
        Agree-with_granule _ _ _ _ (λ k l isk isl.
        let same = at_realm d e is ise in
        Agree-Ok _ _ (
          alike_put k l _ _ (granule_same d.rows e.rows same.rows ipa 3 a b ra sb at_a at_b k l isk isl) (cell_itself left),
          (
            alike_realm rd sd _ _ twin (record {
              vmid = same.vmid;
              root = same.root;
              recs = same.recs;
              rows = both_put d.rows e.rows same.rows (3, first_covered 3 ipa) (unassigned (unmapped_ripas a.row.ripas)) (unassigned (unmapped_ripas b.row.ripas)) refl;
            }),
            tt,
          ),
        )))))))

    -- if a Rec operation satisfies `fits` in both worlds, so that the new REC gets the same number, and is refused in
    -- neither, its updates are alike
    rec_follows : (g : ℕ) (aux : ArrayVec ℕ 16 (Unit {0})) (n : ℕ) → fits (Rec g aux n) (Some rd) (map (seen w.machine) (named (Rec g aux n))) ≡ true
        → fits (Rec g aux n) (Some sd) (map (seen v.machine) (named (Rec g aux n))) ≡ true
        → Follows (Rec g aux n) (Some rd) (Some sd)
    unfolding outcome_of named fits
    rec_follows g aux n fit_w fit_v = Agree-with_realm rd sd _ _ (λ d e is ise. Agree-check _ _ _ _ _ _ (λ _ _. Agree-check _ _ _ _ _ _ (λ _ _.
        let same = at_realm d e is ise in
        let next : d.next ≡ e.next = sym (eqb-true n d.next (realm_test rd d (λ x r. n == r.next) fit_w is)) ∙ eqb-true n e.next (realm_test sd e (λ x r. n == r.next) fit_v ise) in
        let recs : (q : ℕ) → option_map granules_of_rec (get (insert d.recs d.next (made w.machine g aux.items)) q) ≡ option_map granules_of_rec
        (get (insert e.recs e.next (made v.machine g aux.items)) q) = λ q.
        both_insert nat_cmp_total granules_of_rec d.recs e.recs same.recs d.next (made w.machine g aux.items) (made v.machine g aux.items) (λ i. (g, numbers aux.items i)) q
        ∙ ap (λ k. option_map granules_of_rec (get (insert e.recs k (made v.machine g aux.items)) q)) next in
        Agree-Ok _ _ (
          alike_put g g _ _ refl (held_same InRec rd.number sd.number twin.number),
          alike_more _ _ _ _ (alike_seen _ _ w.machine v.machine (λ k. alike_put k k _ _ refl (held_same RecAux rd.number sd.number twin.number)) aux.items)
              (alike_realm rd sd _ _ twin (record { vmid = same.vmid; root = same.root; recs = recs; rows = same.rows }), tt),
        ))))
      where
        made : Machine → ℕ → List ℕ → RecRow
        made m g items = record { granule = g; auxiliaries = numbers_of (map (seen m) items); state = Ready }

        numbers : (items : List ℕ) → numbers_of (map (seen w.machine) items) ≡ numbers_of (map (seen v.machine) items)
        numbers items = seen_numbers w.machine items ∙ sym (seen_numbers v.machine items)

    unrec_follows : (g : ℕ) (aux : ArrayVec ℕ 16 (Unit {0})) (n : ℕ) → Follows (UnRec g aux n) (Some rd) (Some sd)
    unfolding outcome_of named
    unrec_follows g aux n = Agree-with_realm rd sd _ _ (λ d e is ise. Agree-with_rec _ _ _ _ _ (λ r s there theres. Agree-check _ _ _ _ _ _ (λ _ _.
        let same = at_realm d e is ise in
        let alike : granules_of_rec r ≡ granules_of_rec s = same_Some _ _ (ap (option_map granules_of_rec) (sym there) ∙ same.recs n ∙ ap (option_map granules_of_rec) theres) in
        let d2 : RealmRow = record d { recs = remove d.recs n } in
        let e2 : RealmRow = record e { recs = remove e.recs n } in
        let last : IsAlike (put_realm rd d2) (put_realm sd e2) = alike_realm rd sd d2 e2 twin
        (record { vmid = same.vmid; root = same.root; recs = λ q. both_remove nat_cmp_total granules_of_rec d.recs e.recs same.recs n q; rows = same.rows }) in
        Agree-Ok _ _ (alike_more (lefts (r.granule ∷ r.auxiliaries)) (lefts (s.granule ∷ s.auxiliaries)) (put_realm rd d2 ∷ []) (put_realm sd e2 ∷ [])
        (alike_lefts (r.granule ∷ r.auxiliaries) (s.granule ∷ s.auxiliaries) (λ i. (alike i).0 ∷ (alike i).1)) (last, tt)))))

  undelegate_follows : (g : ℕ) (r s : Option Seen) → Follows (Undelegate g) r s
  unfolding outcome_of named
  undelegate_follows g r s = Agree-check _ _ _ _ _ _ (λ _ _. let same = cells g in
      Agree-Ok _ _ (alike_put g g _ _ refl (record { state = refl; realm = same.realm; descriptor = same.descriptor }), tt))

  unrealm_follows : (rd : ℕ) (root : Root) (vmid : ℕ) (r s : Option Seen) → Follows (UnRealm rd root vmid) r s
  unfolding outcome_of named
  unrealm_follows rd root vmid r s = Agree-with_realm (seen w.machine rd) (seen v.machine rd) _ _ (λ d e is ise. Agree-check _ _ _ _ _ _ (λ _ _.
      let same = row_same _ _ d e (cells rd).descriptor is ise in
      Agree-Ok _ _ (alike_put rd rd _ _ refl (cell_itself left), alike_lefts (starting_tables d.root) (starting_tables e.root) (ap starting_tables same.root))))

  -- an operation that has a reverse, or is a reverse, makes alike updates in both worlds, if it is refused in neither
  act_follows : (act : Act) (r s : Option Seen) → (is_paired act || is_reverse act) ≡ true → AreTwins r s
      → fits act r (map (seen w.machine) (named act)) ≡ true → fits act s (map (seen v.machine) (named act)) ≡ true → Follows act r s
  unfolding outcome_of named reverse_of is_reverse
  act_follows (Take order first) r s p twins fit_w fit_v = Agree-Ok _ _ (alike_seen _ _ w.machine v.machine (λ k. alike_lease k) (block order first))
  act_follows (UnTake order first) r s p twins fit_w fit_v = Agree-Ok _ _ (alike_seen _ _ w.machine v.machine (λ k. alike_free k) (block order first))
  act_follows (Delegate g) r s p twins fit_w fit_v = Agree-check _ _ _ _ _ _ (λ _ _. Agree-Ok _ _ (alike_put g g _ _ refl (cell_itself left), tt))
  act_follows (Undelegate g) r s p twins fit_w fit_v = undelegate_follows g r s
  act_follows (Realm rd root vmid) r s p twins fit_w fit_v =
      Agree-check _ _ _ _ _ _ (λ _ _. Agree-Ok _ _ (alike_put rd rd _ _ refl (cell_itself _), alike_seen _ _ w.machine v.machine (λ k. alike_put k k _ _ refl (cell_itself _)) (starting_tables root)))
  act_follows (UnRealm rd root vmid) r s p twins fit_w fit_v = unrealm_follows rd root vmid r s
  act_follows (Rtt g ipa level) None s p twins fit_w fit_v = Agree-Err _ _
  act_follows (Rtt g ipa level) (Some rd) None p twins fit_w fit_v = absurd twins
  act_follows (Rtt g ipa level) (Some rd) (Some sd) p twins fit_w fit_v = rtt_follows rd sd twins g ipa level
  act_follows (UnRtt g ipa level) None s p twins fit_w fit_v = Agree-Err _ _
  act_follows (UnRtt g ipa level) (Some rd) None p twins fit_w fit_v = absurd twins
  act_follows (UnRtt g ipa level) (Some rd) (Some sd) p twins fit_w fit_v = unrtt_follows rd sd twins g ipa level
  act_follows (Data g ipa source) None s p twins fit_w fit_v = Agree-Err _ _
  act_follows (Data g ipa source) (Some rd) None p twins fit_w fit_v = absurd twins
  act_follows (Data g ipa source) (Some rd) (Some sd) p twins fit_w fit_v = data_follows rd sd twins g ipa source
  act_follows (Unknown g ipa) None s p twins fit_w fit_v = Agree-Err _ _
  act_follows (Unknown g ipa) (Some rd) None p twins fit_w fit_v = absurd twins
  act_follows (Unknown g ipa) (Some rd) (Some sd) p twins fit_w fit_v = unknown_follows rd sd twins g ipa
  act_follows (UnData g ipa) None s p twins fit_w fit_v = Agree-Err _ _
  act_follows (UnData g ipa) (Some rd) None p twins fit_w fit_v = absurd twins
  act_follows (UnData g ipa) (Some rd) (Some sd) p twins fit_w fit_v = undata_follows rd sd twins g ipa
  act_follows (Rec g aux n) None s p twins fit_w fit_v = Agree-Err _ _
  act_follows (Rec g aux n) (Some rd) None p twins fit_w fit_v = absurd twins
  act_follows (Rec g aux n) (Some rd) (Some sd) p twins fit_w fit_v = rec_follows rd sd twins g aux n fit_w fit_v
  act_follows (UnRec g aux n) None s p twins fit_w fit_v = Agree-Err _ _
  act_follows (UnRec g aux n) (Some rd) None p twins fit_w fit_v = absurd twins
  act_follows (UnRec g aux n) (Some rd) (Some sd) p twins fit_w fit_v = unrec_follows rd sd twins g aux n
  act_follows (Fill g value) r s p twins fit_w fit_v = cc
  act_follows (Peek g offset value) r s p twins fit_w fit_v = cc
  act_follows Activate r s p twins fit_w fit_v = cc
  act_follows (ToRam ipa n) r s p twins fit_w fit_v = cc
  act_follows (Enter n) r s p twins fit_w fit_v = cc
  act_follows (Exit n) r s p twins fit_w fit_v = cc
  act_follows (Poke n ipa offset value) r s p twins fit_w fit_v = cc

-- ---- the theorem

both_step : (limits : Limits) (b : ℕ) (act : Act) (w v next other : World) → IsSquare w → IsSquare v → (is_paired act || is_reverse act) ≡ true → OwnershipFollows limits b act w v next other
both_step limits b act w v next other sw sv p same step_w step_v =
    let o : Outcome = outcome_of limits.vmids limits.aux (used_vmids w.machine) act (realm_of b w) (map (seen w.machine) (named act)) in
    let q : Outcome = outcome_of limits.vmids limits.aux (used_vmids v.machine) act (realm_of b v) (map (seen v.machine) (named act)) in
    let did_w = done limits b w next act (λ us. o ≡ Ok us) (record { where_ok = λ us e. e }) step_w in
    let did_v = done limits b v other act (λ us. q ≡ Ok us) (record { where_ok = λ us e. e }) step_v in
    let follows = act_follows limits w v same.cells act (realm_of b w) (realm_of b v) p (realms_twins b w v sw sv same) (asked limits b w next act step_w).fit
    (asked limits b v other act step_v).fit in
    own_alike b did_w.0 did_v.0 w v next other ((follows.both did_w.0 did_w.1).where_ok did_v.0 did_v.1) sw sv same did_w.2 did_v.2

any_step : (limits : Limits) (b : ℕ) (act : Act) (w v next other : World) → IsSquare w → IsSquare v → OwnershipFollows limits b act w v next other
any_step limits b act w v next other sw sv same step_w step_v =
    elim (is_paired act || is_reverse act) as (λ t. (is_paired act || is_reverse act) ≡ t → OwnsSame next other) [
      | true ↦ λ p. both_step limits b act w v next other sw sv p same step_w step_v
      | false ↦ λ p.
          let neither = or_parts (is_paired act) (is_reverse act) p in
          own_chain next w other (own_turned w next (own_step limits b w next act neither.0 neither.1 step_w)) (own_chain w v other same (own_step limits b v other act neither.0 neither.1 step_v))
    ] refl

square_reached : (limits : Limits) (history : List Event) (w : World) → replay limits history ≡ Some w → IsSquare w
square_reached limits history w at_w = let sized = sized_reached limits history w at_w in sized.leases ∙ sym sized.machine

pub own_follows : (limits : Limits) (history past : List Event) (w v : World) (b : ℕ) (act : Act) (next other : World) → replay limits history ≡ Some w → replay limits past ≡ Some v
    → OwnershipFollows limits b act w v next other
own_follows limits history past w v b act next other at_w at_v = any_step limits b act w v next other (square_reached limits history w at_w) (square_reached limits past v at_v)
