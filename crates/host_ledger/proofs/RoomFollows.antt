-- Proofs that an operation of a build raises the build's used room by the room that the operation takes. Only an enter
-- or an exit changes the number of running RECs.
use Rattle.std.proofs.Common.{◌≡◌, ℕ, ◌+◌, Bool, true, false, cond, List, [], ◌∷◌, ◌++◌, length, Some, refl, ap, ◌∙◌, arith}
use Rattle.std.proofs.lemmas.List.{length-append}
use Rattle.realm_model.specs.declared.act.Act.{Act}
use Rattle.realm_model.specs.declared.act.Act.TheVariants.{Enter, Exit}
use Rattle.realm_model.specs.declared.act.Event.{Event}
use Rattle.realm_model.specs.Machine.{Limits}
use Rattle.realm_model.specs.Act.{is_paired, is_reverse, reverse_of}
use Rattle.realm_model.specs.World.{World, realm_of}
use Rattle.realm_model.specs.Step.{step}
use Rattle.realm_model.specs.History.{acts_of, open_entries, replay, IsInTurn, IsLegal}
use Rattle.realm_model.specs.Room.{used_room, room_taken}
use Rattle.realm_model.specs.Running.{running_count}
use Rattle.realm_model.specs.Undoing.{by}
use Rattle.realm_model.proofs.Growth.{acts_of-own, open_entries-own, takes_away}
use Rattle.realm_model.proofs.Room.{room_taken_legal}
use Rattle.realm_model.proofs.Stack.{pushed_paired, pushed_other, kind, paired, back, other}
use Rattle.host_ledger.specs.Kept.{running_after}

-- the operation is neither an enter nor an exit of a REC
abbrev is_plain : Act → Bool
is_plain (Enter number) = false
is_plain (Exit number) = false
is_plain _ = true

plain_room : (act : Act) → is_plain act ≡ true → room_taken act ≡ cond (is_paired act) 2 (cond (is_reverse act) 0 1)
unfolding room_taken
plain_room (Enter number) plain = cc
plain_room (Exit number) plain = cc
plain_room _ plain = refl

module _ (limits : Limits) (history : List Event) (w v : World) (legal : IsLegal limits history) (at_w : replay limits history ≡ Some w) (build : ℕ) where
  abbrev acts : ℕ
  acts = length (acts_of build history)

  abbrev opened : ℕ
  opened = length (open_entries build history)

  abbrev running : ℕ
  running = running_count (realm_of build w)

  module _ (act : Act) (turn : IsInTurn history (by build act)) (s : step limits w (by build act) ≡ Some v) where
    abbrev later : List Event
    later = history ++ by build act ∷ []

    pub room_follows : used_room build later v ≡ used_room build history w + room_taken act
    room_follows = (room_taken_legal limits history w (by build act) v legal at_w turn s).own

    pub more_acts : length (acts_of build later) ≡ acts + 1
    more_acts = ap length (acts_of-own history (by build act)) ∙ length-append (acts_of build history) (act ∷ [])

    one_more : is_paired act ≡ true → length (open_entries build later) ≡ opened + 1
    one_more p = ap length (open_entries-own history (by build act) ∙ pushed_paired (open_entries build history) act p) ∙ length-append (open_entries build history) (act ∷ [])

    one_less : is_paired act ≡ false → is_reverse act ≡ true → opened ≡ length (open_entries build later) + 1
    one_less p r =
        let away = takes_away build history act p r turn in
        ap length away.open_is ∙ length-append (open_entries build later) (away.newest ∷ [])

    as_many : is_paired act ≡ false → is_reverse act ≡ false → length (open_entries build later) ≡ opened
    as_many p r = ap length (open_entries-own history (by build act) ∙ pushed_other (open_entries build history) act p r)

    plain_runs : is_plain act ≡ true → running_count (realm_of build v) ≡ running
    plain_runs plain =
        let room = room_follows in
        let more = more_acts in
        let taken = plain_room act plain in
        elim (kind act) [
          | paired p r ↦
              let two : room_taken act ≡ 2 = taken ∙ ap (λ t. cond t 2 (cond (is_reverse act) 0 1)) p in
              let entries = one_more p in
              omega (arith, room, more, two, entries)
          | back p r ↦
              let none : room_taken act ≡ 0 = taken ∙ ap (λ t. cond t 2 (cond (is_reverse act) 0 1)) p ∙ ap (λ t. cond t 0 1) r in
              let entries = one_less p r in
              omega (arith, room, more, none, entries)
          | other p r ↦
              let one : room_taken act ≡ 1 = taken ∙ ap (λ t. cond t 2 (cond (is_reverse act) 0 1)) p ∙ ap (λ t. cond t 0 1) r in
              let entries = as_many p r in
              omega (arith, room, more, one, entries)
        ]

  enter_room : (number : ℕ) → room_taken (Enter number) ≡ 2
  unfolding room_taken
  enter_room number = refl

  exit_room : (number : ℕ) → room_taken (Exit number) ≡ 0
  unfolding room_taken
  exit_room number = refl

  enter_kind : (number : ℕ) → (is_paired (Enter number) ≡ false) × (is_reverse (Enter number) ≡ false)
  unfolding reverse_of is_reverse
  enter_kind number = (refl, refl)

  exit_kind : (number : ℕ) → (is_paired (Exit number) ≡ false) × (is_reverse (Exit number) ≡ false)
  unfolding reverse_of is_reverse
  exit_kind number = (refl, refl)

  pub one_runs : (number : ℕ) → IsInTurn history (by build (Exit number)) → step limits w (by build (Exit number)) ≡ Some v → running ≡ running_count (realm_of build v) + 1
  one_runs number turn s =
      let act : Act = Exit number in
      let room = room_follows act turn s in
      let more = more_acts act turn s in
      let none = exit_room number in
      let entries = as_many act turn s (exit_kind number).0 (exit_kind number).1 in
      omega (arith, room, more, none, entries)

  pub running_follows : (act : Act) → IsInTurn history (by build act) → step limits w (by build act) ≡ Some v → running_count (realm_of build v) ≡ running_after running act
  running_follows (Enter number) turn s =
      let act : Act = Enter number in
      let room = room_follows act turn s in
      let more = more_acts act turn s in
      let two = enter_room number in
      let entries = as_many act turn s (enter_kind number).0 (enter_kind number).1 in
      omega (arith, room, more, two, entries)
  running_follows (Exit number) turn s = let one = one_runs number turn s in omega (arith, one)
  running_follows act turn s = plain_runs act turn s refl
