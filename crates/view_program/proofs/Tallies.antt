-- The invariant of the loop that counts one more outcome in a list of tallies, and proofs that each iteration preserves
-- it.
use Rattle.std.proofs.Common.{◌≡◌, ℕ, ◌+◌, ◌<◌, ◌≤◌, Bool, true, false, ◌||◌, if◌then◌else◌, List, [], ◌∷◌, length, map, get_or, set, take, refl, ap, sym, subst}
use Rattle.std.proofs.Common.{◌∙◌, inl, inr, arith}
use Rattle.std.proofs.Math.ListN.{length-map}
use Rattle.std.proofs.lemmas.Bool.Decides.{eqb_tells}
use Rattle.std.proofs.lemmas.List.{ext_get_or, get_or-map, get_or-set_same, get_or-set_other, get_or_default, length-set, take_more}
use Rattle.std.proofs.lemmas.List.Folds.{list_any-append}
use Rattle.view_program.specs.Tally.{bump, is_known}
use Rattle.plan_states.specs.Tallies.{count_of_tally}
use Rattle.plan_states.specs.declared.tally.PathTally.{PathTally}

-- ---- the loop over tallies

-- Of the first `n` tallies, those of the given outcome have their count raised by one. All others are as they were.
pub record AreBumped {K : Type 0} (same : K → K → Bool) (outcome : K) (old : List (PathTally K)) (n : ℕ) (new : List (PathTally K)) : Type 0 where
  pub all : length new ≡ length old
  pub done : (k : ℕ) (d : PathTally K) → k < n → count_of_tally (get_or new k d) ≡ bump same outcome (count_of_tally (get_or old k d))
  pub left : (k : ℕ) (d : PathTally K) → n ≤ k → get_or new k d ≡ get_or old k d

only : (b : Bool) → (b || false) ≡ b
only true = refl
only false = refl

module _ {K : Type 0} (same : K → K → Bool) (outcome : K) (old : List (PathTally K)) (n : ℕ) (new : List (PathTally K)) where
  AreBumped-more :
      (item after : PathTally K) (newer : List (PathTally K))
      → AreBumped same outcome old n new → n < length new → item ≡ get_or new n item
      → newer ≡ set new n after → count_of_tally after ≡ bump same outcome (count_of_tally item)
      → AreBumped same outcome old (n + 1) newer
  AreBumped-more item after newer is inside is_item is_newer is_after =
      let all = is.all in
      record {
        all = ap length is_newer ∙ length-set new n after ∙ is.all;
        done = λ k d below. elim (eqb_tells k n) as (λ _. count_of_tally (get_or newer k d) ≡ bump same outcome (count_of_tally (get_or old k d))) [
          | inl here ↦ subst (λ j. count_of_tally (get_or newer j d) ≡ bump same outcome (count_of_tally (get_or old j d))) (sym here.1)
              (ap count_of_tally (ap (λ l. get_or l n d) is_newer ∙ get_or-set_same new n after d inside) ∙ is_after
              ∙ ap (λ t. bump same outcome (count_of_tally t)) (is_item ∙ get_or_default new n item d inside ∙ is.left n d (omega arith)))
          | inr other ↦ ap count_of_tally (ap (λ l. get_or l k d) is_newer ∙ get_or-set_other new n k after d other.1) ∙ is.done k d (let apart = other.1 in omega arith)
        ];
        left = λ k d above. ap (λ l. get_or l k d) is_newer ∙ get_or-set_other new n k after d (λ e. absurd (omega arith)) ∙ is.left k d (omega arith);
      }

  pub AreBumped-once :
      (d : PathTally K) (count : ℕ) (newer : List (PathTally K))
      → AreBumped same outcome old n new → n < length new → same (get_or new n d).outcome outcome ≡ true
      → newer ≡ set new n (record (get_or new n d) { count = count }) → count ≡ (get_or new n d).count + 1
      → AreBumped same outcome old (n + 1) newer
  AreBumped-once d count newer is inside is_same is_newer once =
      AreBumped-more (get_or new n d) (record (get_or new n d) { count = count }) newer is inside (get_or_default new n d (get_or new n d) inside) is_newer
      (λ i. record {
        outcome = (get_or new n d).outcome;
        count = (once ∙ ap (λ t. if t then (get_or new n d).count + 1 else (get_or new n d).count)
            (sym is_same)) i;
        first = (get_or new n d).first.items;
      })

  pub AreBumped-same :
      (d : PathTally K) (newer : List (PathTally K))
      → AreBumped same outcome old n new → n < length new → same (get_or new n d).outcome outcome ≡ false
      → newer ≡ set new n (get_or new n d)
      → AreBumped same outcome old (n + 1) newer
  AreBumped-same d newer is inside other is_newer =
      AreBumped-more (get_or new n d) (get_or new n d) newer is inside (get_or_default new n d (get_or new n d) inside) is_newer
      (λ i. record {
        outcome = (get_or new n d).outcome;
        count = ap (λ t. if t then (get_or new n d).count + 1 else (get_or new n d).count)
            (sym other) i;
        first = (get_or new n d).first.items;
      })

  pub is_known-more :
      (d : PathTally K) → AreBumped same outcome old n new → n < length new
      → is_known same outcome (take (n + 1) old) ≡ (is_known same outcome (take n old) || same (get_or new n d).outcome outcome)
  is_known-more d is inside =
      let all = is.all in
      let within : n < length old = omega arith in
      ap (is_known same outcome) (take_more old n d within) ∙ list_any-append (λ t. same t.outcome outcome) (take n old) (get_or old n d ∷ [])
      ∙ ap (λ b. is_known same outcome (take n old) || b) (only (same (get_or old n d).outcome outcome))
      ∙ ap (λ t. is_known same outcome (take n old) || same t.outcome outcome) (sym (is.left n d (omega arith)))

pub or_same : (a b : Bool) → b ≡ true → (a || b) ≡ true
or_same true b is = refl
or_same false b is = is

pub or_other : (a b : Bool) → b ≡ false → (a || b) ≡ a
or_other true b is = refl
or_other false b is = is

pub all_bumped :
    {K : Type 0} (same : K → K → Bool) (outcome : K) (old : List (PathTally K)) (n : ℕ) (new : List (PathTally K))
    → length old ≤ n → AreBumped same outcome old n new
    → map count_of_tally new ≡ map (bump same outcome) (map count_of_tally old)
all_bumped same outcome [] n [] few is = refl
all_bumped same outcome [] n (t ∷ new) few is = absurd (let all = is.all in omega arith)
all_bumped same outcome (o ∷ old) n [] few is = absurd (let all = is.all in omega arith)
all_bumped {K} same outcome (o ∷ old) n (t ∷ new) few is =
    let all = is.all in
    let new_length = length-map (t ∷ new) (count_of_tally {K = K}) in
    let old_length = length-map (o ∷ old) (count_of_tally {K = K}) in
    let bumped_length = length-map (map count_of_tally (o ∷ old)) (bump same outcome) in
    ext_get_or (count_of_tally t) (map count_of_tally (t ∷ new)) (map (bump same outcome) (map count_of_tally (o ∷ old))) (omega arith) (λ i inside.
    get_or-map count_of_tally (t ∷ new) i t (count_of_tally t) (omega arith) ∙ is.done i t (omega arith)
    ∙ ap (bump same outcome) (sym (get_or-map count_of_tally (o ∷ old) i t (count_of_tally t) (omega arith)))
    ∙ sym (get_or-map (bump same outcome) (map count_of_tally (o ∷ old)) i (count_of_tally t) (count_of_tally t) (omega arith)))
