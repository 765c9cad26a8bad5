-- The proof that a mark is valid from the moment it is set until its build has fewer open operations than at that
-- moment.
use Rattle.std.proofs.Common.{◌≡◌, ℕ, ◌+◌, ◌<◌, ◌≤◌, true, false, List, [], ◌∷◌, ◌++◌, length, take, refl, sym, ap, ◌∙◌, subst, arith}
use Rattle.std.specs.Prelude.{nat_lt, ◌↔◌}
use Rattle.std.proofs.lemmas.Bool.{ltb-true, ltb-false}
use Rattle.std.proofs.lemmas.List.{take_all, take-append-le, length-append}
use Rattle.realm_model.specs.declared.act.Event.{Event}
use Rattle.realm_model.specs.History.{open_entries}
use Rattle.realm_model.specs.Marks.{Mark, mark_at, IsValidMark}

-- a mark is valid when it is set
pub valid_now : (build : ℕ) (history : List Event) → IsValidMark (mark_at build history) history
valid_now build history = record {
  place = omega arith;
  depth = ap (λ es. length (open_entries build es)) (take_all (length history) history (omega arith));
  since = λ n h. subst (λ es. length (open_entries build history) ≤ length (open_entries build es)) (sym (take_all n history h)) (omega arith);
}

module _ (mark : Mark) (history : List Event) (event : Event) (within : mark.place ≤ length history) where
  abbrev pub next : List Event
  next = history ++ event ∷ []

  abbrev Deep : List Event → Type 0
  Deep es = mark.depth ≤ length (open_entries mark.build es)

  -- if a history has at least `n` events, one more event at its end does not change the first `n`
  early : (n : ℕ) → n ≤ length history → take n next ≡ take n history
  early n h = take-append-le n history (event ∷ []) h

  longer : length next ≡ length history + 1
  longer = length-append history (event ∷ [])

  -- each number is at most the length of the history, or at least the length with the new event
  by_place : {P : Type 0} (n : ℕ) → (n ≤ length history → P) → (length next ≤ n → P) → P
  by_place {P} n low high = elim (nat_lt (length history) n) as (λ t. nat_lt (length history) n ≡ t → P) [
    | true ↦ λ e. let past : length history < n = ltb-true (length history) n e in high (omega (arith, longer))
    | false ↦ λ e. let not_past : n ≤ length history = ltb-false (length history) n e in low not_past
  ] refl

  -- the mark is valid after one more event exactly if it was valid before the event and its build has at least `depth`
  -- operations open after the event
  pub stays_valid : IsValidMark mark next ↔ (IsValidMark mark history × (mark.depth ≤ length (open_entries mark.build next)))
  stays_valid = (
    λ s. (
      record {
        place = within;
        depth = ap (λ es. length (open_entries mark.build es)) (sym (early mark.place within)) ∙ s.depth;
        since = λ n h. by_place n
            (λ low. subst Deep (early n low) (s.since n h))
            (λ high. subst Deep (early (length history) (omega arith) ∙ take_all (length history) history (omega arith) ∙ sym (take_all n history (omega (arith, longer))))
            (s.since (length history) within));
      },
      subst Deep (take_all (length next) next (omega arith)) (s.since (length next) (omega (arith, longer))),
    ),
    λ both. record {
      place = omega (arith, longer);
      depth = ap (λ es. length (open_entries mark.build es)) (early mark.place within) ∙ both.0.depth;
      since = λ n h. by_place n
          (λ low. subst Deep (sym (early n low)) (both.0.since n h))
          (λ high. subst Deep (sym (take_all n next high)) both.1);
    },
  )
