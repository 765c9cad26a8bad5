-- The theorem that a build can be rolled back to a valid mark, unless a REC that it created after the mark runs.
use Rattle.std.proofs.Common.{◌≡◌, ◌≢◌, ℕ, suc, ◌+◌, ◌≤◌, true, false, not, List, [], ◌∷◌, ◌++◌, length, map, take, drop, reverse, Some, None, refl, sym, ap, ◌∙◌, subst, arith}
use Rattle.std.specs.Prelude.{◌==◌, option_map, option_and_then}
use Rattle.std.specs.List.{list_any, last_or}
use Rattle.std.proofs.lemmas.Bool.{eqb-true, eqb-false}
use Rattle.std.proofs.lemmas.Option.{same_Some, option_and_then_some}
use Rattle.std.proofs.lemmas.List.{append_assoc, append-nil, reverse-reverse, length-reverse, take-append-drop, take-append-le, drop-append-le}
use Rattle.std.proofs.lemmas.List.Elements.{filter-append}
use Rattle.realm_model.specs.declared.act.Act.{Act}
use Rattle.realm_model.specs.declared.act.Event.{Event}
use Rattle.realm_model.specs.Machine.{Limits}
use Rattle.realm_model.specs.Act.{reverse_of}
use Rattle.realm_model.specs.World.{World, realm_of, part_of, without}
use Rattle.realm_model.specs.Step.{step}
use Rattle.realm_model.specs.History.{erase, open_entries, IsInTurn, AllInTurn, after, replay, IsLegal}
use Rattle.realm_model.specs.Running.{is_running}
use Rattle.realm_model.specs.Undoing.{reverses, by}
use Rattle.realm_model.specs.Marks.{Mark, IsValidMark, above, rolling_back, erase_after, IsRolledBack}
use Rattle.realm_model.specs.Ownership.{OwnsSame}
use Rattle.realm_model.proofs.Chain.{Kept, kept_step}
use Rattle.realm_model.proofs.OwnLaws.{laws, SameFor}
use Rattle.realm_model.proofs.OwnsSame.{own_itself, same_whole}
use Rattle.realm_model.proofs.SoundParts.{IsSound, sound_after}
use Rattle.realm_model.proofs.LeftOut.{erase_push, noninterference}
use Rattle.realm_model.proofs.HiddenSteps.{without-own_step}
use Rattle.realm_model.proofs.Growth.{grows, Grows}
use Rattle.realm_model.proofs.Reached.{clean_reached}
use Rattle.realm_model.proofs.Reaching.{step_says_reached}
use Rattle.realm_model.proofs.StaysThere.{has_still}
use Rattle.realm_model.proofs.OthersGoOn.{IsBack, other_there}
use Rattle.realm_model.proofs.UndoAll.{undo_all, Ended, counted, events, erase_own, erase_events}
use Rattle.realm_model.proofs.Lists.{take_further, drop_front, any_reverse}
use Rattle.realm_model.proofs.HistoryParts.{split, open_others}

-- ---- a history in two parts: what a build did in the second is left out of it, or undone after it

module _ (limits : Limits) (b : ℕ) (p : List Event) (base : World) (legal_p : IsLegal limits p) (at_p : replay limits p ≡ Some base) where
  abbrev below : List Act
  below = open_entries b p

  abbrev KeptHere : List Act → List Event → World → Type 0
  KeptHere st history w = Kept limits b (SameFor b) (IsSound b) (laws limits b) base below st history w

  -- Without the build's events, the second part `s` of a history is legal after the first part `p`. In the world that
  -- results, the build's part is as after `p`, and everything else is as after both parts.
  record Both (s : List Event) (y : World) : Type 0 where
    pub stack : List Act
    pub kept : KeptHere stack (p ++ s) y
    pub world : World
    pub legal : IsLegal limits (p ++ erase b s)
    pub world_is : replay limits (p ++ erase b s) ≡ Some world
    pub back : IsBack b base y world

  -- after this history the build has at least as many operations open as after the first part `p`
  abbrev Deep : List Event → Type 0
  Deep history = length below ≤ length (open_entries b history)

  -- `Both` still holds after one more step that `IsInTurn` allows, if `Deep` holds after this step
  both_step : (s : List Event) (y v : World) (e : Event) → replay limits (p ++ s) ≡ Some y → Both s y → IsInTurn (p ++ s) e → step limits y e ≡ Some v
      → Deep (p ++ (s ++ e ∷ [])) → Both (s ++ e ∷ []) v
  both_step s y v e at_y h turn stepped deep =
      let longer : (p ++ s) ++ e ∷ [] ≡ p ++ (s ++ e ∷ []) = append_assoc p s (e ∷ []) in
      let next = kept_step limits b (SameFor b) (IsSound b) (laws limits b) base below h.stack (p ++ s) y v e h.kept turn stepped (subst Deep (sym longer) deep) in
      let kept : KeptHere next.0 (p ++ (s ++ e ∷ [])) v = subst (λ es. KeptHere next.0 es v) longer next.1 in
      elim (e.build == b) as (λ t. (e.build == b) ≡ t → Both (s ++ e ∷ []) v) [
        | true ↦ λ own.
            let same : erase b (s ++ e ∷ []) ≡ erase b s = erase_push b s e true own ∙ append-nil (erase b s) in
            record {
              stack = next.0;
              kept = kept;
              world = h.world;
              legal = subst (λ es. IsLegal limits (p ++ es)) (sym same) h.legal;
              world_is = ap (λ es. replay limits (p ++ es)) same ∙ h.world_is;
              back = record { part = h.back.part; rest = h.back.rest ∙ sym (without-own_step limits b y v e (eqb-true e.build b own) (clean_reached limits (p ++ s) y at_y) stepped) };
            }
        | false ↦ λ other.
            let apart : e.build ≢ b = eqb-false e.build b other in
            let same : (p ++ erase b s) ++ e ∷ [] ≡ p ++ erase b (s ++ e ∷ []) = append_assoc p (erase b s) (e ∷ []) ∙ ap (λ es. p ++ es) (sym (erase_push b s e false other)) in
            let there = other_there limits b base y h.world h.back (has_still limits b base below h.stack y h.kept.chained) (sound_after limits b (p ++ erase b s) h.world h.world_is) v e apart
            (step_says_reached limits (p ++ erase b s) h.world e h.world_is) h.kept.sound stepped in
            let turn' : IsInTurn (p ++ erase b s) e = λ r. ap (λ acts. option_and_then reverse_of (last_or None acts)) (open_others b e.build apart p s) ∙ turn r in
            let grown : Grows limits (p ++ erase b s) e there.0 = grows limits (p ++ erase b s) e h.world there.0 h.legal h.world_is there.1 turn' in
            record {
              stack = next.0;
              kept = kept;
              world = there.0;
              legal = subst (IsLegal limits) same grown.legal;
              world_is = ap (replay limits) (sym same) ∙ grown.world_is;
              back = there.2;
            }
      ] refl

  -- `Both` still holds after further steps that `AllInTurn` allows, if `Deep` holds before and after each of them
  both_after : (s es : List Event) (y v : World) → IsLegal limits (p ++ s) → replay limits (p ++ s) ≡ Some y → Both s y → AllInTurn (p ++ s) es → after limits es y ≡ Some v
      → ((n : ℕ) → Deep (p ++ (s ++ take n es))) → Both (s ++ es) v
  unfolding after
  both_after s [] y v legal at_y h turns done deep = subst (Both (s ++ [])) (same_Some _ _ done) (subst (λ es. Both es y) (sym (append-nil s)) h)
  both_after s (e ∷ es) y v legal at_y h turns done deep =
      option_and_then_some (after limits es) (step limits y e) v done (λ x stepped rest.
      let longer : (p ++ s) ++ e ∷ [] ≡ p ++ (s ++ e ∷ []) = append_assoc p s (e ∷ []) in
      let grown : Grows limits (p ++ s) e x = grows limits (p ++ s) e y x legal at_y stepped turns.0 in
      subst (λ es. Both es v) (append_assoc s (e ∷ []) es)
      (both_after (s ++ e ∷ []) es x v
      (subst (IsLegal limits) longer grown.legal) (ap (replay limits) (sym longer) ∙ grown.world_is)
      (both_step s y x e at_y h turns.0 stepped (deep 1))
      (subst (λ before. AllInTurn before es) longer turns.1) rest
      (λ n. subst (λ t. Deep (p ++ t)) (sym (append_assoc s (e ∷ []) (take n es))) (deep (suc n)))))

  both : (s : List Event) (v : World) → AllInTurn p s → after limits s base ≡ Some v → ((n : ℕ) → Deep (p ++ take n s)) → Both s v
  both s v turns done deep =
      both_after [] s base v (subst (IsLegal limits) (sym (append-nil p)) legal_p) (ap (replay limits) (append-nil p) ∙ at_p) (record {
        stack = [];
        kept = record { sound = sound_after limits b p base at_p; open_is = ap (open_entries b) (append-nil p) ∙ sym (append-nil below); chained = own_itself (part_of base b) };
        world = base;
        legal = subst (IsLegal limits) (sym (append-nil p)) legal_p;
        world_is = ap (replay limits) (append-nil p) ∙ at_p;
        back = record { part = refl; rest = refl };
      }) (subst (λ before. AllInTurn before s) (sym (append-nil p)) turns) done deep

-- ---- the mark

-- further events of the build at the end of a history do not change the history without the build's events from `place`
-- on
erase_after_own : (b place : ℕ) (history : List Event) (acts : List Act) → place ≤ length history → erase_after b place (history ++ map (by b) acts) ≡ erase_after b place history
erase_after_own b place history acts within =
    (λ i. take-append-le place history (map (by b) acts) within i ++ erase b (drop-append-le place history (map (by b) acts) within i))
    ∙ ap (λ es. take place history ++ es)
    (filter-append (λ (x : Event). not (x.build == b)) (drop place history) (map (by b) acts)
    ∙ ap (λ es. erase b (drop place history) ++ es) (erase_own b acts) ∙ append-nil (erase b (drop place history)))

pub rolled_back : (limits : Limits) (history : List Event) (mark : Mark) (w : World) → IsLegal limits history → replay limits history ≡ Some w → IsValidMark mark history
    → list_any (is_running (realm_of mark.build w)) (above mark history) ≡ false → IsRolledBack limits mark history
rolled_back limits history mark w legal at_w stands rest =
    let b = mark.build in
    let p : List Event = take mark.place history in
    let s : List Event = drop mark.place history in
    let whole : p ++ s ≡ history = take-append-drop mark.place history in
    let parts = split limits p s w (subst (IsLegal limits) (sym whole) legal) (ap (replay limits) whole ∙ at_w) in
    let both_there : Both limits b p parts.base parts.legal parts.base_is s w = both limits b p parts.base parts.legal parts.base_is s w parts.turns parts.goes_on (λ n.
    subst (λ es. length (open_entries b p) ≤ length (open_entries b es)) (take_further mark.place n (mark.place + n) history refl)
    (subst (λ k. k ≤ length (open_entries b (take (mark.place + n) history))) (sym stands.depth) (stands.since (mark.place + n) (omega arith)))) in
    let st : List Act = both_there.stack in
    let kept : Kept limits b (SameFor b) (IsSound b) (laws limits b) parts.base (open_entries b p) st history w = subst
    (λ es. Kept limits b (SameFor b) (IsSound b) (laws limits b) parts.base (open_entries b p) st es w) whole both_there.kept in
    let top : above mark history ≡ reverse st = ap (drop mark.depth) kept.open_is ∙ ap (λ n. drop n (open_entries b p ++ reverse st)) (sym stands.depth) ∙ drop_front (open_entries b p) (reverse st) in
    let stack : st ≡ reverse (above mark history) = sym (reverse-reverse st) ∙ ap reverse (sym top) in
    let none_runs : list_any (is_running (realm_of b w)) st ≡ false = any_reverse _ st (ap (list_any (is_running (realm_of b w))) (sym top) ∙ rest) in
    let ended : Ended limits b parts.base (open_entries b p) (history ++ rolling_back mark history) =
    subst (λ st. Ended limits b parts.base (open_entries b p) (history ++ events b st)) stack (undo_all limits b parts.base (open_entries b p) st history w legal at_w kept none_runs) in
    let apart : without ended.world b ≡ without w b = same_Some _ _ (
    sym (ap (option_map (λ x. without x b)) ended.world_is) ∙ sym (noninterference limits (history ++ rolling_back mark history) b ended.legal).1
    ∙ ap (replay limits) (erase_events b history (reverse (above mark history)))
    ∙ (noninterference limits history b legal).1 ∙ ap (option_map (λ x. without x b)) at_w) in
    let part : SameFor b both_there.world ended.world = subst (λ x. OwnsSame x (part_of ended.world b)) (sym both_there.back.part) ended.kept.chained in
    let others : without both_there.world b ≡ without ended.world b = both_there.back.rest ∙ sym apart in
    record {
      legal = ended.legal;
      erased = both_there.legal;
      same = erase_after_own b mark.place history (reverses (reverse (above mark history))) stands.place;
      all = subst (λ st. length (events b st) ≡ length st) stack (counted limits b parts.base (open_entries b p) st w kept.chained) ∙ length-reverse (above mark history);
      world = ended.world;
      world_is = ended.world_is;
      other = both_there.world;
      other_is = both_there.world_is;
      owns = same_whole b both_there.world ended.world (sound_after limits b (p ++ erase b s) both_there.world both_there.world_is).square ended.kept.sound.square part others;
      rest = sym others;
      left_open = ended.kept.open_is ∙ append-nil (open_entries b p);
    }
