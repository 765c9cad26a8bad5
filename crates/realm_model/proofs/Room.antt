-- Proofs that an event takes history capacity of its own build only, and that a build's used capacity is the sum of
-- what its operations took.
use Rattle.std.proofs.Common.{◌≡◌, ℕ, ◌+◌, Bool, true, false, cond, inl, inr, ⊎_elim, List, [], ◌∷◌, ◌++◌, length, Some, None, Ok, Err, refl, sym, ap, ◌∙◌, subst, arith}
use Rattle.std.specs.List.{sum_by}
use Rattle.std.proofs.lemmas.Bool.{cases_eq}
use Rattle.std.proofs.lemmas.List.{length-append}
use Rattle.std.proofs.lemmas.List.Sums.{sum_by_push}
use Rattle.granule_addr.specs.declared.width.Root.{Root}
use Rattle.realm_model.specs.declared.act.Act.{Act}
use Rattle.realm_model.specs.declared.act.Act.TheVariants.{Realm, UnRealm, Enter, Exit}
use Rattle.realm_model.specs.declared.act.Event.{Event}
use Rattle.realm_model.specs.Machine.{Limits, RealmRow, cell_at}
use Rattle.realm_model.specs.Update.{Update, Outcome}
use Rattle.realm_model.specs.Command.Check.{error_input}
use Rattle.realm_model.specs.Act.{reverse_of, is_paired, is_reverse}
use Rattle.realm_model.specs.Outcome.{outcome_of, fits, on_realm}
use Rattle.realm_model.specs.World.{World, opening, realm_of, part_of}
use Rattle.realm_model.specs.Step.{step}
use Rattle.realm_model.specs.History.{acts_of, open_entries, IsInTurn, after, replay, IsLegal}
use Rattle.realm_model.specs.Running.{running_count}
use Rattle.realm_model.specs.Room.{used_room, room_taken, TakesRoom, RoomIsTaken, RoomIsSum}
use Rattle.realm_model.specs.OpenRealm.{makes_realm}
use Rattle.realm_model.specs.Undoing.{by}
use Rattle.realm_model.specs.StepLaw.{IsStep}
use Rattle.realm_model.specs.Command.Realm.{new_realm}
use Rattle.realm_model.specs.Command.Rec.{rec_enter, rec_exit}
use Rattle.realm_model.proofs.Booleans.{none_is}
use Rattle.realm_model.proofs.Reached.{of_legal}
use Rattle.realm_model.proofs.Stack.{pushed_paired, pushed_other, kind, paired, back, other}
use Rattle.realm_model.proofs.Growth.{acts_of-own, acts_of-other, open_entries-own, open_entries-other, takes_away, Grows, grows}
use Rattle.realm_model.proofs.HiddenSteps.{step-part_of}
use Rattle.realm_model.proofs.RealmOf.{realm_of-part_of, realm_of-other_step}
use Rattle.realm_model.proofs.Written.{IsSquare}
use Rattle.realm_model.proofs.StepBack.{asked}
use Rattle.realm_model.proofs.SoundParts.{IsSquare-part_of}
use Rattle.realm_model.proofs.ZeroPages.{IsKept, kept_reached}
use Rattle.realm_model.proofs.RunningRecs.{running}
use Rattle.realm_model.proofs.RealmAfter.{RunsAfter, is_realm_destroy, realm_turned, realm_made_step, realm_gone_step}
use Rattle.realm_model.proofs.StepSays.{step_is}
use Rattle.realm_model.proofs.Vmids.{still_none}
use Rattle.realm_model.proofs.PartRealm.{part_realm, none_there, none_at_first, count_some, count_none}

-- ---- the number of RECs that run after an operation

abbrev is_of_rec_run : Act → Bool
is_of_rec_run (Enter n) = true
is_of_rec_run (Exit n) = true
is_of_rec_run _ = false

none_runs : (act : Act) → is_of_rec_run act ≡ false → RunsAfter act 0 0
none_runs (Enter n) k = cc
none_runs (Exit n) k = cc
none_runs act k = refl

refuses : (us : List Update) → ◌≡◌ {A = Outcome} (Err error_input) (Ok us) → ⊥
refuses us e = cc

-- a build without a realm has no step that enters or exits a REC
no_realm_refuses : (limits : Limits) (b : ℕ) (w v : World) (act : Act) → is_of_rec_run act ≡ true → realm_of b w ≡ None → IsStep limits w (by b act) v → ⊥
unfolding outcome_of
no_realm_refuses limits b w v (Enter n) k none h = refuses h.updates (ap (λ o. on_realm o (λ rd. rec_enter rd n)) (sym none) ∙ h.outcome)
no_realm_refuses limits b w v (Exit n) k none h = refuses h.updates (ap (λ o. on_realm o (λ rd. rec_exit rd n)) (sym none) ∙ h.outcome)
no_realm_refuses limits b w v _ k none h = cc

module _ (limits : Limits) (b : ℕ) (w v : World) (kept : IsKept b w) (kept_v : IsKept b v) where
  abbrev V : World
  V = part_of v b

  square : IsSquare (part_of w b)
  square = IsSquare-part_of w b kept.sound.square

  no_rows : realm_of b (part_of w b) ≡ None → (k : ℕ) → (cell_at (part_of w b).machine k).descriptor ≡ None
  no_rows none = none_there b w kept (sym (realm_of-part_of b w) ∙ none)

  zero_of : (w : World) (kept : IsKept b w) → ((k : ℕ) (d : RealmRow) → (cell_at (part_of w b).machine k).descriptor ≡ Some d → running d.recs d.next ≡ 0) → running_count (realm_of b w) ≡ 0
  zero_of w kept none_run = elim (part_realm b w kept) [
    | inl none ↦ count_none b w kept (none_there b w kept none)
    | inr there ↦ count_some b w kept there.0 there.1 there.2 ∙ none_run there.0 there.1 there.2
  ]

  count_made : (rd : ℕ) (root : Root) (vmid : ℕ) → step limits (part_of w b) (by b (Realm rd root vmid)) ≡ Some V → running_count (realm_of b v) ≡ running_count (realm_of b w)
  unfolding fits new_realm
  count_made rd root vmid s =
      let none : realm_of b (part_of w b) ≡ None = none_is _ (asked limits b (part_of w b) V (Realm rd root vmid) s).fit in
      zero_of v kept_v (λ k e is. ap (λ (x : RealmRow). running x.recs x.next) (realm_made_step limits b (part_of w b) V rd root vmid square (no_rows none) s k e is))
      ∙ sym (count_none b w kept (no_rows none))

  count_gone : (rd : ℕ) (root : Root) (vmid : ℕ) → step limits (part_of w b) (by b (UnRealm rd root vmid)) ≡ Some V → running_count (realm_of b v) ≡ running_count (realm_of b w)
  count_gone rd root vmid s =
      let gone = realm_gone_step limits b (part_of w b) V rd root vmid square kept.sound.part s in
      count_none b v kept_v gone.0 ∙ sym (zero_of w kept gone.1)

  count_turned : (act : Act) → makes_realm act ≡ false → is_realm_destroy act ≡ false → step limits (part_of w b) (by b act) ≡ Some V
      → RunsAfter act (running_count (realm_of b w)) (running_count (realm_of b v))
  count_turned act plain stays s = elim (part_realm b w kept) [
    | inl none ↦
        let none_v = still_none limits (part_of w b) V b act square plain s (none_there b w kept none) in
        elim (is_of_rec_run act) as (λ t. is_of_rec_run act ≡ t → RunsAfter act (running_count (realm_of b w)) (running_count (realm_of b v))) [
          | true ↦ λ e. absurd (no_realm_refuses limits b (part_of w b) V act e (realm_of-part_of b w ∙ none) (step_is limits (part_of w b) V (by b act) s))
          | false ↦ λ e. subst (λ x. RunsAfter act x (running_count (realm_of b v))) (sym (count_none b w kept (none_there b w kept none)))
              (subst (λ y. RunsAfter act 0 y) (sym (count_none b v kept_v none_v)) (none_runs act e))
        ] refl
    | inr there ↦
        let then = realm_turned limits b (part_of w b) V act square kept.sound.part no_rows stays s there.0 there.1 there.2 in
        subst (λ x. RunsAfter act x (running_count (realm_of b v))) (sym (count_some b w kept there.0 there.1 there.2))
        (subst (λ y. RunsAfter act (running there.1.recs there.1.next) y) (sym (count_some b v kept_v there.0 then.0 then.1)) then.2.1)
  ]

  count_step : (act : Act) → step limits w (by b act) ≡ Some v → RunsAfter act (running_count (realm_of b w)) (running_count (realm_of b v))
  count_step act s = by_act act (step-part_of limits b w v (by b act) refl s)
    where
      by_act : (act : Act) → step limits (part_of w b) (by b act) ≡ Some V → RunsAfter act (running_count (realm_of b w)) (running_count (realm_of b v))
      by_act (Realm rd root vmid) s = count_made rd root vmid s
      by_act (UnRealm rd root vmid) s = count_gone rd root vmid s
      by_act act s = count_turned act refl refl s

-- ---- the capacity

-- an operation that has a reverse takes the capacity of two events, and keeps the count of running RECs
room_of_paired : (act : Act) (x y : ℕ) → is_paired act ≡ true → RunsAfter act x y → (room_taken act ≡ 2) × (y ≡ x)
unfolding room_taken reverse_of
room_of_paired (Enter n) x y p r = cc
room_of_paired (Exit n) x y p r = cc
room_of_paired act x y p r = (ap (λ t. cond t 2 (cond (is_reverse act) 0 1)) p, r)

-- a reverse takes no capacity, and keeps the count of running RECs
room_of_back : (act : Act) (x y : ℕ) → is_paired act ≡ false → is_reverse act ≡ true → RunsAfter act x y → (room_taken act ≡ 0) × (y ≡ x)
unfolding room_taken is_reverse
room_of_back (Enter n) x y p b r = cc
room_of_back (Exit n) x y p b r = cc
room_of_back act x y p b r = ((λ i. cond (p i) 2 (cond (b i) 0 1)), r)

-- an operation that neither has a reverse nor is one takes the capacity of one event, plus the change of the count of
-- running RECs
room_of_other : (act : Act) (x y : ℕ) → is_paired act ≡ false → is_reverse act ≡ false → RunsAfter act x y → y + 1 ≡ x + room_taken act
unfolding room_taken
room_of_other (Enter n) x y p b r = omega arith
room_of_other (Exit n) x y p b r = omega arith
room_of_other act x y p b r = ap (λ n. n + 1) r ∙ ap (λ n. x + n) (sym (λ i. cond (p i) 2 (cond (b i) 0 1)))

module _ (limits : Limits) (history : List Event) (w v : World) where
  own_room : (b : ℕ) (act : Act) → IsKept b w → IsKept b v → IsInTurn history (by b act) → step limits w (by b act) ≡ Some v
      → used_room b (history ++ by b act ∷ []) v ≡ used_room b history w + room_taken act
  own_room b act kept kept_v turn s =
      let runs = count_step limits b w v kept kept_v act s in
      let acts : length (acts_of b (history ++ by b act ∷ [])) ≡ length (acts_of b history) + 1 = ap length (acts_of-own history (by b act)) ∙ length-append (acts_of b history) (act ∷ []) in
      elim (kind act) [
        | paired p r ↦
            let opens : length (open_entries b (history ++ by b act ∷ [])) ≡ length (open_entries b history) + 1 =
            ap length (open_entries-own history (by b act) ∙ pushed_paired (open_entries b history) act p) ∙ length-append (open_entries b history) (act ∷ []) in
            let room = room_of_paired act (running_count (realm_of b w)) (running_count (realm_of b v)) p runs in
            sums (length (acts_of b history)) (length (open_entries b history)) (running_count (realm_of b w)) _ _ _ (room_taken act) acts opens room.1 room.0
        | back p r ↦
            let away = takes_away b history act p r turn in
            let opens : length (open_entries b history) ≡ length (open_entries b (history ++ by b act ∷ [])) + 1 =
            ap length away.open_is ∙ length-append (open_entries b (history ++ by b act ∷ [])) (away.newest ∷ []) in
            let room = room_of_back act (running_count (realm_of b w)) (running_count (realm_of b v)) p r runs in
            less (length (acts_of b history)) (length (open_entries b history)) (running_count (realm_of b w)) _ _ _ (room_taken act) acts opens room.1 room.0
        | other p r ↦
            let opens : length (open_entries b (history ++ by b act ∷ [])) ≡ length (open_entries b history) =
            ap length (open_entries-own history (by b act) ∙ pushed_other (open_entries b history) act p r) in
            let room = room_of_other act (running_count (realm_of b w)) (running_count (realm_of b v)) p r runs in
            same (length (acts_of b history)) (length (open_entries b history)) (running_count (realm_of b w)) _ _ _ (room_taken act) acts opens room
      ]
    where
      sums : (a o r a' o' r' room : ℕ) → a' ≡ a + 1 → o' ≡ o + 1 → r' ≡ r → room ≡ 2 → a' + o' + r' ≡ a + o + r + room
      sums a o r a' o' r' room e f g h = omega arith

      less : (a o r a' o' r' room : ℕ) → a' ≡ a + 1 → o ≡ o' + 1 → r' ≡ r → room ≡ 0 → a' + o' + r' ≡ a + o + r + room
      less a o r a' o' r' room e f g h = omega arith

      same : (a o r a' o' r' room : ℕ) → a' ≡ a + 1 → o' ≡ o → r' + 1 ≡ r + room → a' + o' + r' ≡ a + o + r + room
      same a o r a' o' r' room e f g = omega arith

  pub room_is_taken : (event : Event) → ((b : ℕ) → IsKept b w) → ((b : ℕ) → IsKept b v) → IsInTurn history event → step limits w event ≡ Some v → TakesRoom history w event v
  room_is_taken event kept kept_v turn s = record {
    own = own_room event.build event.act (kept event.build) (kept_v event.build) turn s;
    others = λ b apart.
        let realm : realm_of b v ≡ realm_of b w = realm_of-other_step limits b w v event apart (kept b).sound.clean s in
        λ i. length (acts_of-other b history event apart i) + length (open_entries-other b history event apart i) + running_count (realm i);
  }

pub room_taken_legal : (limits : Limits) (history : List Event) (w : World) (event : Event) (v : World) → IsLegal limits history → replay limits history ≡ Some w → RoomIsTaken limits history w event v
room_taken_legal limits history w event v legal at_w turn s =
    let grown : Grows limits history event v = grows limits history event w v legal at_w s turn in
    room_is_taken limits history w v event (λ b. kept_reached limits b history w at_w) (λ b. kept_reached limits b (history ++ event ∷ []) v grown.world_is) turn s

-- ---- the sum of the capacity that was taken

room_step : (limits : Limits) (b : ℕ) (before : List Event) (w v : World) (e : Event) → IsLegal limits before → replay limits before ≡ Some w → RoomIsSum before w b
    → IsInTurn before e → step limits w e ≡ Some v → RoomIsSum (before ++ e ∷ []) v b
room_step limits b before w v e legal at_w was turn s =
    let takes = room_taken_legal limits before w e v legal at_w turn s in
    ⊎_elim
    (λ same. subst (RoomIsSum (before ++ e ∷ []) v) same
    (takes.own ∙ ap (λ n. n + room_taken e.act) (subst (RoomIsSum before w) (sym same) was)
    ∙ sym (ap (sum_by room_taken) (acts_of-own before e) ∙ sum_by_push room_taken (acts_of e.build before) e.act)))
    (λ apart. takes.others b apart ∙ was ∙ ap (sum_by room_taken) (sym (acts_of-other b before e apart)))
    (cases_eq e.build b)

room_at_first : (limits : Limits) (b : ℕ) → RoomIsSum [] (opening limits) b
unfolding open_entries after
room_at_first limits b = ap (λ n. 0 + n) (count_none b (opening limits) (kept_reached limits b [] (opening limits) refl) (none_at_first limits b))

pub room_is_sum : (limits : Limits) (history : List Event) (w : World) (b : ℕ) → IsLegal limits history → replay limits history ≡ Some w → RoomIsSum history w b
room_is_sum limits history w b legal at_w =
    of_legal limits (λ es x. RoomIsSum es x b) (λ before w v e legal at_w was turn s. room_step limits b before w v e legal at_w was turn s) (room_at_first limits b) history w legal at_w
