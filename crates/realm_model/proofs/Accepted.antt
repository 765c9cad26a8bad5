-- Proofs that leaving out a build changes no other build's used history capacity, and that the remaining events are
-- accepted if the other builds stay within the limits of capacity and of open operations.
use Rattle.std.proofs.Common.{◌≡◌, ◌≢◌, ℕ, zero, suc, ◌+◌, ◌<◌, ◌≤◌, ⊎_elim, true, false, not, cond, List, [], ◌∷◌, ◌++◌, length, take, Some, refl, sym, ap, ◌∙◌, subst, arith}
use Rattle.std.specs.Prelude.{◌==◌, option_map}
use Rattle.std.specs.List.{sum_by}
use Rattle.std.proofs.lemmas.Bool.{cases_eq}
use Rattle.std.proofs.lemmas.Option.{option_and_then_some}
use Rattle.std.proofs.lemmas.List.{append_assoc, length-append}
use Rattle.std.proofs.lemmas.List.Sums.{sum_by-append, sum_by_push}
use Rattle.realm_model.specs.declared.act.Event.{Event}
use Rattle.realm_model.specs.Machine.{Limits}
use Rattle.realm_model.specs.World.{World, opening, without}
use Rattle.realm_model.specs.Step.{step}
use Rattle.realm_model.specs.History.{erase, acts_of, open_entries, unmatched, after, replay, AllInTurn, IsLegal}
use Rattle.realm_model.specs.Room.{room_taken}
use Rattle.realm_model.specs.LeftOut.{KeepsItsRoom, AllAccepted, WhatIsLeftIsAccepted}
use Rattle.realm_model.proofs.Growth.{acts_of-own, open_entries-own, grows}
use Rattle.realm_model.proofs.HistoryParts.{acts_of-append, open_others}
use Rattle.realm_model.proofs.LeftOut.{noninterference, acts_of-erase, acts_of-erased}
use Rattle.realm_model.proofs.Room.{room_is_sum}
use Rattle.realm_model.proofs.Stack.{pushed_paired}

abbrev room_of : ℕ → List Event → ℕ
room_of b history = sum_by room_taken (acts_of b history)

-- ---- a history in turn

module _ (limits : Limits) (capacity most : ℕ) where
  all_accepted : (before es : List Event) (w v : World) → IsLegal limits before → replay limits before ≡ Some w → AllInTurn before es → after limits es w ≡ Some v
      → ((b : ℕ) → room_of b (before ++ es) ≤ capacity) → ((b n : ℕ) → length (open_entries b (before ++ take n es)) ≤ most) → AllAccepted limits capacity most before es
  unfolding after
  all_accepted before [] w v legal at_w turns done fits few = tt
  all_accepted before (e ∷ es) w v legal at_w turns done fits few =
      option_and_then_some (after limits es) (step limits w e) v done (λ x stepped rest.
      let grown = grows limits before e w x legal at_w stepped turns.0 in
      let joined : before ++ e ∷ es ≡ (before ++ e ∷ []) ++ es = sym (append_assoc before (e ∷ []) es) in (
        record {
          world = w;
          world_is = at_w;
          in_turn = turns.0;
          room = within _ _ _ _ _ _ (room_is_sum limits before w e.build legal at_w) (ap (sum_by room_taken) (acts_of-own before e) ∙ sum_by_push room_taken (acts_of e.build before) e.act)
              (ap (room_of e.build) joined ∙ ap (sum_by room_taken) (acts_of-append e.build (before ++ e ∷ []) es) ∙ sum_by-append room_taken (acts_of e.build (before ++ e ∷ [])) (acts_of e.build es))
              (fits e.build);
          few_open = λ paired. fewer _ _ (ap length (open_entries-own before e ∙ pushed_paired (open_entries e.build before) e.act paired) ∙ length-append (open_entries e.build before) (e.act ∷ []))
              (few e.build 1);
          next = x;
          stepped = stepped;
        },
        all_accepted (before ++ e ∷ []) es x v grown.legal grown.world_is turns.1 rest (λ b. subst (λ h. room_of b h ≤ capacity) joined (fits b))
            (λ b n. subst (λ h. length (open_entries b h) ≤ most) (sym (append_assoc before (e ∷ []) (take n es))) (few b (suc n))),
      ))
    where
      within : (used sum taken grown more whole : ℕ) → used ≡ sum → grown ≡ sum + taken → whole ≡ grown + more → whole ≤ capacity → used + taken ≤ capacity
      within used sum taken grown more whole u g m h = omega arith

      fewer : (now grown : ℕ) → grown ≡ now + 1 → grown ≤ most → now < most
      fewer now grown g h = omega arith

-- ---- a build left out

-- if `P` holds of `erase b (take n es)` for each number `n`, `P` holds of each prefix of `erase b es`
take-erase : (b : ℕ) (P : List Event → Type 0) (es : List Event) → ((n : ℕ) → P (erase b (take n es))) → (k : ℕ) → P (take k (erase b es))
take-erase b P es all zero = all 0
take-erase b P [] all (suc k) = all 0
take-erase b P (e ∷ es) all (suc k) = elim (e.build == b) as (λ t. (e.build == b) ≡ t → P (take (suc k) (cond (not t) (e ∷ erase b es) (erase b es)))) [
  | true ↦ λ own. take-erase b P es (λ n. subst (λ t. P (cond (not t) (e ∷ erase b (take n es)) (erase b (take n es)))) own (all (suc n))) (suc k)
  | false ↦ λ other. take-erase b (λ l. P (e ∷ l)) es (λ n. subst (λ t. P (cond (not t) (e ∷ erase b (take n es)) (erase b (take n es)))) other (all (suc n))) k
] refl

none_open : (b : ℕ) (es : List Event) → open_entries b (erase b es) ≡ []
unfolding open_entries
none_open b es = ap unmatched (acts_of-erased b es)

module _ (limits : Limits) (history : List Event) (w : World) (b : ℕ) (legal : IsLegal limits history) (at_w : replay limits history ≡ Some w) where
  left_legal : IsLegal limits (erase b history)
  left_legal = (noninterference limits history b legal).0

  at_left : replay limits (erase b history) ≡ Some (without w b)
  at_left = (noninterference limits history b legal).1 ∙ ap (option_map (λ x. without x b)) at_w

  pub keeps_its_room : (c : ℕ) → b ≢ c → KeepsItsRoom history w b c
  keeps_its_room c apart = record {
    left_open = open_others b c (λ same. apart (sym same)) [] history;
    room = room_is_sum limits (erase b history) (without w b) c left_legal at_left
        ∙ ap (sum_by room_taken) (acts_of-erase b c (λ same. apart (sym same)) history)
        ∙ sym (room_is_sum limits history w c legal at_w);
  }

  pub what_is_left_is_accepted : (capacity most : ℕ) → WhatIsLeftIsAccepted limits capacity most history w b
  unfolding after
  what_is_left_is_accepted capacity most fits =
      all_accepted limits capacity most [] (erase b history) (opening limits) (without w b) (record { steps = refl; in_turn = tt }) refl left_legal.in_turn at_left (λ c. of_build c)
      (λ c. take-erase b (λ h. length (open_entries c h) ≤ most) history (λ n. few_of_build c n))
    where
      none : (n limit : ℕ) → n ≡ 0 → n ≤ limit
      none n limit e = omega arith

      of_build : (c : ℕ) → room_of c (erase b history) ≤ capacity
      of_build c = ⊎_elim
          (λ same. none (room_of c (erase b history)) capacity (ap (λ n. room_of n (erase b history)) same ∙ ap (sum_by room_taken) (acts_of-erased b history)))
          (λ apart. subst (λ n. n ≤ capacity)
          (room_is_sum limits history w c legal at_w ∙ ap (sum_by room_taken) (sym (acts_of-erase b c apart history))) (fits.used c (λ same. apart (sym same))))
          (cases_eq c b)

      few_of_build : (c n : ℕ) → length (open_entries c (erase b (take n history))) ≤ most
      few_of_build c n = ⊎_elim
          (λ same. none (length (open_entries c (erase b (take n history)))) most (ap length (ap (λ x. open_entries x (erase b (take n history))) same ∙ none_open b (take n history))))
          (λ apart. subst (λ s. length s ≤ most) (sym (open_others b c apart [] (take n history))) (fits.few_open c n (λ same. apart (sym same))))
          (cases_eq c b)
