-- The theorem that a build's newest open operation can be undone, unless that operation created a REC that runs.
use Rattle.std.proofs.Common.{◌≡◌, ℕ, ◌^◌, Bool, true, false, cond, ◌||◌, not, List, [], ◌∷◌, map, Some, None, Ok, refl, sym, ap, ◌∙◌}
use Rattle.std.specs.Prelude.{is_some, ◌==◌, slice_get, option_and_then}
use Rattle.std.specs.List.{list_all, range_with_len, last_or}
use Rattle.std.proofs.lemmas.Bool.{and_parts, and_from, eq-eqb}
use Rattle.realm_model.specs.declared.states.GranuleState.TheVariants.{Undelegated}
use Rattle.realm_model.specs.declared.act.Act.{Act}
use Rattle.realm_model.specs.declared.act.Act.TheVariants.{Take, UnTake, Fill, Peek, Delegate, Undelegate, Realm, UnRealm, Activate}
use Rattle.realm_model.specs.declared.act.Act.TheVariants.{Rtt, UnRtt, Ripas, Data, Unknown, UnData, Rec, UnRec, Enter, Exit, Poke}
use Rattle.realm_model.specs.declared.act.Event.{Event}
use Rattle.realm_model.specs.Machine.{Limits, Cell, Seen, cell_at, seen}
use Rattle.realm_model.specs.Update.{Free}
use Rattle.realm_model.specs.Command.Check.{is_undelegated, is_in}
use Rattle.realm_model.specs.Act.{named, holder, reverse_of, is_reverse, is_paired}
use Rattle.realm_model.specs.Outcome.{outcome_of, is_in_range, fits}
use Rattle.realm_model.specs.World.{World, is_leased_to, realm_of, updated_all, part_of, is_of_other}
use Rattle.realm_model.specs.Step.{step, is_allowed, used_vmids}
use Rattle.realm_model.specs.History.{open_entries, IsInTurn, replay, IsLegal}
use Rattle.realm_model.specs.Ownership.{OwnsSame}
use Rattle.realm_model.specs.Running.{is_running}
use Rattle.realm_model.specs.Undoing.{by}
use Rattle.realm_model.proofs.Lists.{all_from_in}
use Rattle.realm_model.proofs.Clean.{clean_at}
use Rattle.realm_model.proofs.Written.{leases_taken, seen_frees}
use Rattle.realm_model.proofs.PairBack.{same_leases, were_free, reversed, back_of_block, take_did, taken_cells}
use Rattle.realm_model.proofs.HiddenSteps.{named_seen, step-part_of, leased_in_part}
use Rattle.realm_model.proofs.StepSays.{row_goes}
use Rattle.realm_model.proofs.Leases.{leased_from, in_leased}
use Rattle.realm_model.proofs.SoundParts.{IsSound, IsClean-part_of, IsSquare-part_of}
use Rattle.realm_model.proofs.Changes.{step_exact, holder_is, ReachesOwn}
use Rattle.realm_model.proofs.RealmOf.{realm_of-part_of}
use Rattle.realm_model.proofs.Outcomes.{check_true}
use Rattle.realm_model.proofs.Growth.{grows, Grows}
use Rattle.realm_model.proofs.OwnLaws.{laws, SameFor}
use Rattle.realm_model.proofs.Reversal.{rev, reverse_is}
use Rattle.realm_model.proofs.StepBack.{asked}
use Rattle.realm_model.proofs.Chain.{newest}
use Rattle.realm_model.proofs.Puts.{is_of_block}

-- ---- a part is part of its world

pub part_leased : (b : ℕ) (w : World) (g : ℕ) → is_leased_to (Some b) (part_of w b).leases g ≡ true → is_leased_to (Some b) w.leases g ≡ true
part_leased b w g h = sym (leased_in_part b w g) ∙ h

all_part_leased : (b : ℕ) (w : World) (gs : List ℕ) → list_all (is_leased_to (Some b) (part_of w b).leases) gs ≡ true → list_all (is_leased_to (Some b) w.leases) gs ≡ true
all_part_leased b w [] h = refl
all_part_leased b w (g ∷ gs) h = let parts = and_parts _ _ h in and_from _ _ (part_leased b w g parts.0) (all_part_leased b w gs parts.1)

-- the reverse of an operation names only granules that the operation names
named_back : (test : ℕ → Bool) (act : Act) → list_all test (named act) ≡ true → list_all test (named (rev act)) ≡ true
unfolding named
named_back test (Data g ipa source) h = and_from _ _ (and_parts _ _ h).0 refl
named_back test (Take order first) h = h
named_back test (UnTake order first) h = h
named_back test (Fill g v) h = h
named_back test (Peek g o v) h = h
named_back test (Delegate g) h = h
named_back test (Undelegate g) h = h
named_back test (Realm rd root v) h = h
named_back test (UnRealm rd root v) h = h
named_back test Activate h = h
named_back test (Rtt g ipa level) h = h
named_back test (UnRtt g ipa level) h = h
named_back test (Ripas ipa n) h = h
named_back test (Unknown g ipa) h = h
named_back test (UnData g ipa) h = h
named_back test (Rec g aux n) h = h
named_back test (UnRec g aux n) h = h
named_back test (Enter n) h = h
named_back test (Exit n) h = h
named_back test (Poke n ipa o v) h = h

-- The operation is a reverse and has no reverse itself. Its build must lease the granules that it names, and any guest
-- write in it reaches a granule of the build.
pub record Reverses (limits : Limits) (b : ℕ) (w : World) (r : Act) : Type 0 where
  pub reach : ReachesOwn limits b w r (realm_of b w)
  pub holds : holder b r ≡ Some b
  pub backward : (is_paired r ≡ false) × (is_reverse r ≡ true)

reverses : (limits : Limits) (b : ℕ) (w : World) (act : Act) → is_paired act ≡ true → Reverses limits b w (rev act)
unfolding reverse_of is_reverse
reverses limits b w (Take order first) p = record { reach = tt; holds = refl; backward = (refl, refl) }
reverses limits b w (Delegate g) p = record { reach = tt; holds = refl; backward = (refl, refl) }
reverses limits b w (Realm rd root v) p = record { reach = tt; holds = refl; backward = (refl, refl) }
reverses limits b w (Rtt g ipa level) p = record { reach = tt; holds = refl; backward = (refl, refl) }
reverses limits b w (Data g ipa source) p = record { reach = tt; holds = refl; backward = (refl, refl) }
reverses limits b w (Unknown g ipa) p = record { reach = tt; holds = refl; backward = (refl, refl) }
reverses limits b w (Rec g aux n) p = record { reach = tt; holds = refl; backward = (refl, refl) }
reverses limits b w _ p = cc

range_back : (act : Act) → is_paired act ≡ true → is_in_range act ≡ true → is_in_range (rev act) ≡ true
unfolding reverse_of
range_back (Take order first) p h = h
range_back (Delegate g) p h = refl
range_back (Realm rd root v) p h = refl
range_back (Rtt g ipa level) p h = refl
range_back (Data g ipa source) p h = refl
range_back (Unknown g ipa) p h = refl
range_back (Rec g aux n) p h = refl
range_back _ p h = cc

module _ (limits : Limits) (b : ℕ) (u v w : World) (act : Act) (su : IsSound b u) (sw : IsSound b w)
    (p : is_paired act ≡ true) (stepped : step limits u (by b act) ≡ Some v) (same : OwnsSame (part_of v b) (part_of w b)) where
  abbrev U : World
  U = part_of u b

  abbrev W : World
  W = part_of w b

  abbrev r : Act
  r = rev act

  part_stepped : step limits U (by b act) ≡ Some (part_of v b)
  part_stepped = step-part_of limits b u v (by b act) refl stepped

  can_undo : is_of_block act ≡ false → is_running (realm_of b w) act ≡ false → (x : World) × (step limits w (by b r) ≡ Some x)
  can_undo k rest =
      let back = reversed limits b U (part_of v b) W act su.part sw.part (IsSquare-part_of u b su.square) k p part_stepped same in
      let a = asked limits b U (part_of v b) act part_stepped in
      let part_leases : W.leases ≡ U.leases = same_leases limits b U (part_of v b) W act su.part sw.part (IsSquare-part_of u b su.square) k p part_stepped same in
      let info = reverses limits b w act p in
      let named_part : list_all (is_leased_to (Some b) W.leases) (named r) ≡ true =
      named_back (is_leased_to (Some b) W.leases) act (ap (λ ls. list_all (is_leased_to (Some b) ls) (named act)) part_leases
      ∙ ap (λ l. list_all (is_leased_to l U.leases) (named act)) (sym (holder_is b act k)) ∙ a.leases) in
      let named_here : list_all (is_leased_to (Some b) w.leases) (named r) ≡ true = all_part_leased b w (named r) named_part in
      let realm : realm_of b W ≡ realm_of b w = realm_of-part_of b w in
      let granules : map (seen W.machine) (named r) ≡ map (seen w.machine) (named r) =
      named_seen (is_of_other b) (Some b) (ap not (eq-eqb b b refl)) w.leases w.machine (named r) named_here in
      let ready : back.ready ≡ true = back.ready_if (ap (λ o. is_running o act) realm ∙ rest) in
      let used : List ℕ = used_vmids w.machine in
      let planned : outcome_of limits.vmids limits.aux used r (realm_of b w) (map (seen w.machine) (named r)) ≡ Ok back.updates =
      (λ i. outcome_of limits.vmids limits.aux used r (sym realm i) (sym granules i)) ∙ back.planned used ∙ check_true back.ready back.refusal (Ok back.updates) ready in
      let opened : is_allowed limits w (by b r) ≡ true =
      and_from _ _ (and_from _ _ (and_from _ _ a.below (ap (λ l. list_all (is_leased_to l w.leases) (named r)) info.holds ∙ named_here)) (range_back act p a.range))
      ((λ i. fits r (sym realm i) (sym granules i)) ∙ back.fitting) in
      (_, step_exact limits w b r back.updates (back_of_block limits b U (part_of v b) W act su.part sw.part (IsSquare-part_of u b su.square) k p part_stepped same act k) info.reach opened planned)

-- ---- blocks

module _ (limits : Limits) (b : ℕ) (u v w : World) (order first : ℕ) (su : IsSound b u) (sw : IsSound b w)
    (stepped : step limits u (by b (Take order first)) ≡ Some v) (same : OwnsSame (part_of v b) (part_of w b)) where
  abbrev block : List ℕ
  block = range_with_len first (2 ^ order)

  block_stepped : step limits (part_of u b) (by b (Take order first)) ≡ Some (part_of v b)
  block_stepped = step-part_of limits b u v (by b (Take order first)) refl stepped

  block_held : list_all (is_leased_to (Some b) w.leases) block ≡ true
  block_held = all_part_leased b w block (all_from_in (is_leased_to (Some b) (part_of w b).leases) block (λ g i. leased_from (Some b) (part_of w b).leases g
      (ap (λ ls. slice_get ls g) (sym same.leases)
      ∙ leases_taken b block (part_of u b) (part_of v b) (take_did limits b (part_of u b) (part_of v b) (part_of w b) order first (IsClean-part_of u b su.clean)
      (IsSquare-part_of u b su.square) block_stepped same) g
      ∙ ap (λ t. cond t (Some (Some b)) (slice_get (part_of u b).leases g)) i)))

  block_blank : list_all is_undelegated (map (seen (part_of w b).machine) block) ≡ true
  block_blank = all_seen block (λ g i.
      let clean = IsClean-part_of u b su.clean in
      let square = IsSquare-part_of u b su.square in
      let cell = taken_cells limits b (part_of u b) (part_of v b) (part_of w b) order first clean square block_stepped same g in
      let free = in_leased None (part_of u b).leases block (were_free limits b (part_of u b) (part_of v b) (part_of w b) order first clean square block_stepped same) g i in
      sym cell.state ∙ ap (λ (c : Cell). c.state) (clean_at (part_of u b) g clean free))
    where
      all_seen : (gs : List ℕ) → ((g : ℕ) → is_in g gs ≡ true → (cell_at (part_of w b).machine g).state ≡ Undelegated) → list_all is_undelegated (map (seen (part_of w b).machine) gs) ≡ true
      all_seen [] h = refl
      all_seen (g ∷ gs) h =
          and_from _ _ (ap (λ s. elim s [ Undelegated ↦ true | _ ↦ false ]) (h g (ap (λ t. t || is_in g gs) (eq-eqb g g refl))))
          (all_seen gs (λ k i. h k (elim (k == g) as (λ t. (t || is_in k gs) ≡ true) [ true ↦ refl | false ↦ i ])))

  block_undone : (x : World) × (step limits w (by b (UnTake order first)) ≡ Some x)
  unfolding step outcome_of named fits
  block_undone =
      let a = asked limits b (part_of u b) (part_of v b) (Take order first) block_stepped in
      let granules : map (seen (part_of w b).machine) block ≡ map (seen w.machine) block =
      named_seen (is_of_other b) (Some b) (ap not (eq-eqb b b refl)) w.leases w.machine block block_held in
      let gone = row_goes b (Some b) None (λ g. Free g) (λ g. refl) (λ g. refl) (λ g. refl) first (2 ^ order) w block_held in (
        gone.0,
        ap (λ t. cond t (updated_all b (map (λ (g : Seen). Free g.number) (map (seen w.machine) block)) w) None)
            (and_from _ _ (and_from _ _ (and_from _ _ a.below block_held) a.range) (ap (list_all is_undelegated) (sym granules) ∙ block_blank))
            ∙ ap (λ us. updated_all b us w) (seen_frees w.machine block) ∙ gone.1,
      )

-- ---- the newest open operation

pub undone_step : (limits : Limits) (b : ℕ) (u v w : World) (act : Act) → IsSound b u → IsSound b w → is_paired act ≡ true → step limits u (by b act) ≡ Some v
    → OwnsSame (part_of v b) (part_of w b) → is_running (realm_of b w) act ≡ false → (x : World) × (step limits w (by b (rev act)) ≡ Some x)
unfolding reverse_of
undone_step limits b u v w (Take order first) su sw p stepped same rest = block_undone limits b u v w order first su sw stepped same
undone_step limits b u v w (UnTake order first) su sw p stepped same rest = cc
undone_step limits b u v w act su sw p stepped same rest = can_undo limits b u v w act su sw p stepped same refl rest

pub record CanUndo (limits : Limits) (history : List Event) (w : World) (b : ℕ) (r : Act) : Type 0 where
  pub world : World
  pub stepped : step limits w (by b r) ≡ Some world
  pub in_turn : IsInTurn history (by b r)
  pub grown : Grows limits history (by b r) world

pub undoable : (limits : Limits) (b : ℕ) (history : List Event) (w : World) (act r : Act) → IsLegal limits history → replay limits history ≡ Some w
    → last_or None (open_entries b history) ≡ Some act → reverse_of act ≡ Some r → is_running (realm_of b w) act ≡ false → CanUndo limits history w b r
undoable limits b history w act r legal at_w top e rest =
    let n = newest limits b (SameFor b) (IsSound b) (laws limits b) history w act legal at_w top in
    let done = undone_step limits b n.before n.after_it w act n.sound_before n.sound (ap is_some e) n.stepped n.same rest in
    let stepped : step limits w (by b r) ≡ Some done.0 = ap (λ a. step limits w (by b a)) (sym (reverse_is act r e)) ∙ done.1 in
    let turn : IsInTurn history (by b r) = λ _. ap (option_and_then reverse_of) top ∙ e in
    record { world = done.0; stepped = stepped; in_turn = turn; grown = grows limits history (by b r) w done.0 legal at_w stepped turn }
