-- The proof, from theorems about single steps, that what a build owns results from its open operations alone, whatever
-- other events the history has.
use Rattle.std.proofs.Common.{◌≡◌, ◌≢◌, ℕ, suc, ◌+◌, ◌≤◌, true, false, List, [], ◌∷◌, ◌++◌, length, take, reverse, Some, None, arith, refl, sym, ap, ◌∙◌, subst}
use Rattle.std.specs.Prelude.{◌==◌, option_and_then}
use Rattle.std.specs.List.{last_or}
use Rattle.std.proofs.lemmas.Bool.{eqb-true, eqb-false}
use Rattle.std.proofs.lemmas.Option.{option_and_then_some, same_Some}
use Rattle.std.proofs.lemmas.List.{append_assoc, append-nil, reverse-reverse, length-append}
use Rattle.realm_model.specs.declared.act.Act.{Act}
use Rattle.realm_model.specs.declared.act.Event.{Event}
use Rattle.realm_model.specs.Stack.{pushed}
use Rattle.realm_model.specs.Machine.{Limits}
use Rattle.realm_model.specs.Act.{reverse_of, is_reverse, is_paired}
use Rattle.realm_model.specs.World.{World, opening}
use Rattle.realm_model.specs.Step.{step}
use Rattle.realm_model.specs.History.{open_entries, IsInTurn, AllInTurn, after, replay, IsLegal}
use Rattle.realm_model.specs.Undoing.{by}
use Rattle.realm_model.proofs.Stack.{paired, pushed_other, back, pushed_back, kind, pushed_paired, other}
use Rattle.realm_model.proofs.Lists.{reverse_more, last-reverse, front_push, last_push}
use Rattle.realm_model.proofs.Growth.{open_entries-own, open_entries-other, takes_away}

-- The properties of single steps on which the lemmas of this file rely. `Same u w`: the build owns the same in both
-- worlds, whatever bytes, RIPAS, measurements and states of RECs are. `Sound w`: what every reachable world keeps.
pub record Laws (limits : Limits) (b : ℕ) (Same : World → World → Type 0) (Sound : World → Type 0) : Type 0 where
  pub itself : (w : World) → Same w w
  pub chain : (u v w : World) → Same u v → Same v w → Same u w
  pub sound_opening : Sound (opening limits)
  pub sound_step : (w v : World) (e : Event) → Sound w → step limits w e ≡ Some v → Sound v
  -- events of other builds change nothing that the build owns
  pub frame : (w v : World) (e : Event) → e.build ≢ b → Sound w → step limits w e ≡ Some v → Same w v
  -- an operation that has no reverse and is no reverse changes nothing that the build owns
  pub unpaired : (w v : World) (act : Act) → is_paired act ≡ false → is_reverse act ≡ false → Sound w → step limits w (by b act) ≡ Some v → Same w v
  -- a reverse operation leads back to what the build owned before the operation that it reverses
  pub pair : (u v w x : World) (act r : Act) → reverse_of act ≡ Some r → Sound u → Sound w → step limits u (by b act) ≡ Some v → Same v w → step limits w (by b r) ≡ Some x → Same u x

-- Histories that go on from a world `base`, in which the build has the operations `below` open.
module _ (limits : Limits) (b : ℕ) (Same : World → World → Type 0) (Sound : World → Type 0) (laws : Laws limits b Same Sound) (base : World) (below : List Act) where
  -- what the build owns in the world comes from the base world by steps of the listed operations alone; the newest
  -- operation is the first in the list
  abbrev pub Chain : List Act → World → Type 0
  Chain [] w = Same base w
  Chain (act ∷ st) w = (u : World) × (v : World) × Sound u × Chain st u × (step limits u (by b act) ≡ Some v) × Same v w × (is_paired act ≡ true)

  chain_same : (st : List Act) (w x : World) → Same w x → Chain st w → Chain st x
  chain_same [] w x same h = laws.chain _ _ _ h same
  chain_same (act ∷ st) w x same h = (h.0, h.1, h.2, h.3, h.4, laws.chain _ _ _ h.5 same, h.6)

  -- the world is sound, the operations of `stack` are open above `below` after the history, and `Chain` holds of
  -- `stack` and the world
  pub record Kept (stack : List Act) (history : List Event) (w : World) : Type 0 where
    pub sound : Sound w
    pub open_is : open_entries b history ≡ below ++ reverse stack
    pub chained : Chain stack w

  -- the build has at least as many operations open after the history as in the base world
  abbrev pub Stays : List Event → Type 0
  Stays history = length below ≤ length (open_entries b history)

  pub on_top : (st : List Act) (act : Act) → (below ++ reverse st) ++ act ∷ [] ≡ below ++ reverse (act ∷ st)
  on_top st act = append_assoc below (reverse st) (act ∷ []) ∙ ap (λ s. below ++ s) (sym (reverse_more st act))

  abbrev KeptBy : List Event → World → Type 0
  KeptBy history w = (st : List Act) × Kept st history w

  kept_paired : (st : List Act) (before : List Event) (w x : World) (act : Act) → is_paired act ≡ true → Kept st before w → step limits w (by b act) ≡ Some x
      → Kept (act ∷ st) (before ++ by b act ∷ []) x
  kept_paired st before w x act p kept stepped = record {
    sound = laws.sound_step w x (by b act) kept.sound stepped;
    open_is = open_entries-own before (by b act) ∙ ap (λ s. pushed s act) kept.open_is ∙ pushed_paired (below ++ reverse st) act p ∙ on_top st act;
    chained = (w, x, kept.sound, kept.chained, stepped, laws.itself x, p);
  }

  kept_other : (st : List Act) (before : List Event) (w x : World) (act : Act) → is_paired act ≡ false → is_reverse act ≡ false → Kept st before w
      → step limits w (by b act) ≡ Some x → Kept st (before ++ by b act ∷ []) x
  kept_other st before w x act p r kept stepped = record {
    sound = laws.sound_step w x (by b act) kept.sound stepped;
    open_is = open_entries-own before (by b act) ∙ ap (λ s. pushed s act) kept.open_is ∙ pushed_other (below ++ reverse st) act p r;
    chained = chain_same st w x (laws.unpaired w x act p r kept.sound stepped) kept.chained;
  }

  -- after a reverse of `top`, the newest operation above `below`, `Kept` holds of the stack without `top`
  pub kept_back : (top : Act) (st : List Act) (before : List Event) (w x : World) (act : Act) → is_paired act ≡ false → is_reverse act ≡ true
      → Kept (top ∷ st) before w → IsInTurn before (by b act) → step limits w (by b act) ≡ Some x
      → Kept st (before ++ by b act ∷ []) x
  kept_back top st before w x act p r kept turn stepped =
      let whole : open_entries b before ≡ (below ++ reverse st) ++ top ∷ [] = kept.open_is ∙ sym (on_top st top) in
      let pairs : reverse_of top ≡ Some act =
      ap (option_and_then reverse_of) (sym (ap (last_or None) whole ∙ last_push None (below ++ reverse st) top)) ∙ turn r in
      let was = kept.chained in
      record {
        sound = laws.sound_step w x (by b act) kept.sound stepped;
        open_is = open_entries-own before (by b act) ∙ ap (λ s. pushed s act) whole ∙ pushed_back ((below ++ reverse st) ++ top ∷ []) act p r ∙ front_push (below ++ reverse st) top;
        chained = chain_same st was.0 x (laws.pair was.0 was.1 w x top act pairs was.2 kept.sound was.4 was.5 stepped) was.3;
      }

  -- if nothing is open above `below`, `Stays` fails after each reverse that `IsInTurn` allows
  too_low : (before : List Event) (w : World) (act : Act) → is_paired act ≡ false → is_reverse act ≡ true → Kept [] before w → IsInTurn before (by b act) → Stays (before ++ by b act ∷ []) → ⊥
  too_low before w act p r kept turn stays =
      let away = takes_away b before act p r turn in
      let lengths : length (open_entries b before) ≡ length (open_entries b (before ++ by b act ∷ [])) + 1 =
      ap length away.open_is ∙ length-append (open_entries b (before ++ by b act ∷ [])) (away.newest ∷ []) in
      let all : length (open_entries b before) ≡ length below = ap length (kept.open_is ∙ append-nil below) in
      omega arith

  kept_own : (st : List Act) (before : List Event) (w x : World) (act : Act) → Kept st before w → IsInTurn before (by b act) → step limits w (by b act) ≡ Some x
      → Stays (before ++ by b act ∷ []) → KeptBy (before ++ by b act ∷ []) x
  kept_own st before w x act kept turn stepped stays = elim (kind act) [
    | paired p r ↦ (act ∷ st, kept_paired st before w x act p kept stepped)
    | back p r ↦ by_stack st p r kept
    | other p r ↦ (st, kept_other st before w x act p r kept stepped)
  ]
    where
      by_stack : (st : List Act) → is_paired act ≡ false → is_reverse act ≡ true → Kept st before w → KeptBy (before ++ by b act ∷ []) x
      by_stack [] p r kept = absurd (too_low before w act p r kept turn stays)
      by_stack (top ∷ st) p r kept = (st, kept_back top st before w x act p r kept turn stepped)

  pub kept_step : (st : List Act) (before : List Event) (w x : World) (e : Event) → Kept st before w → IsInTurn before e → step limits w e ≡ Some x
      → Stays (before ++ e ∷ []) → KeptBy (before ++ e ∷ []) x
  kept_step st before w x e kept turn stepped stays =
      elim (e.build == b) as (λ t. (e.build == b) ≡ t → KeptBy (before ++ e ∷ []) x) [
        | true ↦ λ own.
            let same : e ≡ by b e.act = λ i. record { build = eqb-true e.build b own i; act = e.act } in
            subst (λ d. KeptBy (before ++ d ∷ []) x) (sym same)
            (kept_own st before w x e.act kept (subst (IsInTurn before) same turn) (subst (λ d. step limits w d ≡ Some x) same stepped) (subst (λ d. Stays (before ++ d ∷ [])) same stays))
        | false ↦ λ apart. (
          st,
          record {
            sound = laws.sound_step w x e kept.sound stepped;
            open_is = open_entries-other b before e (eqb-false e.build b apart) ∙ kept.open_is;
            chained = chain_same st w x (laws.frame w x e (eqb-false e.build b apart) kept.sound stepped) kept.chained;
          },
        )
      ] refl

  pub kept_after : (st : List Act) (before es : List Event) (w x : World) → Kept st before w → AllInTurn before es → after limits es w ≡ Some x
      → ((n : ℕ) → Stays (before ++ take n es)) → KeptBy (before ++ es) x
  unfolding after
  kept_after st before [] w x kept turns h stays =
      (st, subst (Kept st (before ++ [])) (same_Some _ _ h) (subst (λ es. Kept st es w) (sym (append-nil before)) kept))
  kept_after st before (e ∷ es) w x kept turns h stays =
      option_and_then_some (after limits es) (step limits w e) x h (λ v stepped rest.
      let next = kept_step st before w v e kept turns.0 stepped (stays 1) in
      subst (λ es. KeptBy es x) (append_assoc before (e ∷ []) es)
      (kept_after next.0 (before ++ e ∷ []) es v x next.1 turns.1 rest (λ n. subst Stays (sym (append_assoc before (e ∷ []) (take n es))) (stays (suc n)))))

-- ---- from the opening world on

module _ (limits : Limits) (b : ℕ) (Same : World → World → Type 0) (Sound : World → Type 0) (laws : Laws limits b Same Sound) where
  pub kept : (history : List Event) (w : World) → IsLegal limits history → replay limits history ≡ Some w → (st : List Act) × Kept limits b Same Sound laws (opening limits) [] st history w
  unfolding open_entries
  kept history w legal at_w =
      kept_after limits b Same Sound laws (opening limits) [] [] [] history (opening limits) w
      (record { sound = laws.sound_opening; open_is = refl; chained = laws.itself (opening limits) }) legal.in_turn at_w (λ n. omega arith)

  -- if nothing is open, the build owns what it owned in the opening world
  pub nothing_open : (history : List Event) (w : World) → IsLegal limits history → replay limits history ≡ Some w → open_entries b history ≡ [] → Same (opening limits) w
  nothing_open history w legal at_w none =
      let k = kept history w legal at_w in
      let no_stack : k.0 ≡ [] = sym (reverse-reverse k.0) ∙ ap reverse (sym k.1.open_is ∙ none) in
      subst (λ st. Chain limits b Same Sound laws (opening limits) [] st w) no_stack k.1.chained

  -- a step of the operation led to some world, and in that world the build owned what it owns in `w`
  pub record Newest (act : Act) (w : World) : Type 0 where
    pub before : World
    pub after_it : World
    pub sound_before : Sound before
    pub sound : Sound w
    pub stepped : step limits before (by b act) ≡ Some after_it
    pub same : Same after_it w
    pub paired : is_paired act ≡ true

  pub newest : (history : List Event) (w : World) (act : Act) → IsLegal limits history → replay limits history ≡ Some w → last_or None (open_entries b history) ≡ Some act → Newest act w
  newest history w act legal at_w top =
      let k = kept history w legal at_w in
      top_of k.0 k.1.chained k.1.sound (ap (last_or None) (sym k.1.open_is) ∙ top)
    where
      top_of : (st : List Act) → Chain limits b Same Sound laws (opening limits) [] st w → Sound w → last_or None (reverse st) ≡ Some act → Newest act w
      top_of [] h sound e = cc
      top_of (a ∷ st) h sound e =
          let same : a ≡ act = same_Some _ _ (sym (last-reverse st a) ∙ e) in
          record {
            before = h.0;
            after_it = h.1;
            sound_before = h.2;
            sound = sound;
            stepped = subst (λ d. step limits h.0 (by b d) ≡ Some h.1) same h.4;
            same = h.5;
            paired = ap is_paired (sym same) ∙ h.6;
          }
