-- Proofs that tallies of outcomes stay correct when one more outcome is counted.
use Rattle.std.proofs.Common.{◌≡◌, ℕ, ◌+◌, Bool, true, false, ◌||◌, cond, if◌then◌else◌, List, [], ◌∷◌, ◌++◌, map, length, take, drop, refl, ap, sym, ◌∙◌}
use Rattle.std.proofs.Common.{append_assoc, append-nil, arith}
use Rattle.std.specs.Prelude.{count_by}
use Rattle.std.specs.List.{list_any}
use Rattle.std.specs.Cmp.{IsEquivalence}
use Rattle.std.proofs.Math.Seq.{take-append_seam}
use Rattle.std.proofs.lemmas.List.{map-append}
use Rattle.std.proofs.lemmas.List.Folds.{list_any-append}
use Rattle.std.proofs.lemmas.List.Sums.{sum_by-append}
use Rattle.view_program.specs.Tally.{Sighting, is_shown, firsts, times, counted, bump, is_known}
use Rattle.plan_states.specs.Tallies.{PathCount, count_of_tally}
use Rattle.plan_states.specs.declared.tally.PathTally.{PathTally}

list_any_map : {X Y : Type 0} (p : Y → Bool) (f : X → Y) (xs : List X) → list_any p (map f xs) ≡ list_any (λ x. p (f x)) xs
list_any_map p f [] = refl
list_any_map p f (x ∷ xs) = ap (λ b. p (f x) || b) (list_any_map p f xs)

map_alike : {X Y : Type 0} (f g : X → Y) → ((x : X) → f x ≡ g x) → (xs : List X) → map f xs ≡ map g xs
map_alike f g alike [] = refl
map_alike f g alike (x ∷ xs) = λ i. alike x i ∷ map_alike f g alike xs i

map_twice : {X Y Z : Type 0} (g : Y → Z) (f : X → Y) (xs : List X) → map g (map f xs) ≡ map (λ x. g (f x)) xs
map_twice g f [] = refl
map_twice g f (x ∷ xs) = ap (λ ys. g (f x) ∷ ys) (map_twice g f xs)

or_false : (a b : Bool) → (a || b) ≡ false → (a ≡ false) × (b ≡ false)
or_false true b is = absurd cc
or_false false b is = (refl, is)

or_falses : (a b : Bool) → a ≡ false → b ≡ false → (a || b) ≡ false
or_falses true b no_a no_b = absurd cc
or_falses false b no_a no_b = no_b

module _ {K : Type 0} (same : K → K → Bool) where
  -- ---- first sightings

  firsts-push :
      (earlier seen : List (Sighting K)) (s : Sighting K)
      → firsts same earlier (seen ++ s ∷ []) ≡ firsts same earlier seen ++ (if is_shown same (earlier ++ seen) s.outcome then [] else s ∷ [])
  firsts-push earlier [] s =
      append-nil (if is_shown same earlier s.outcome then [] else s ∷ []) ∙ ap (λ es. if is_shown same es s.outcome then [] else s ∷ []) (sym (append-nil earlier))
  firsts-push earlier (t ∷ seen) s =
      ap (λ rest. (if is_shown same earlier t.outcome then [] else t ∷ []) ++ rest) (firsts-push (earlier ++ t ∷ []) seen s)
      ∙ sym (append_assoc (if is_shown same earlier t.outcome then [] else t ∷ []) (firsts same (earlier ++ t ∷ []) seen)
      (if is_shown same ((earlier ++ t ∷ []) ++ seen) s.outcome then [] else s ∷ []))
      ∙ ap (λ es. firsts same earlier (t ∷ seen) ++ (if is_shown same es s.outcome then [] else s ∷ [])) (append_assoc earlier (t ∷ []) seen)

  module _ (equal : IsEquivalence same) where
    -- if the equivalence test `same` equates two outcomes, a list of sightings has either both or neither of them
    shown_alike : (x y : K) → same x y ≡ true → (earlier : List (Sighting K)) → is_shown same earlier x ≡ is_shown same earlier y
    shown_alike x y is [] = refl
    shown_alike x y is (e ∷ earlier) =
        λ i. (equal.symm e.outcome x ∙ equal.congr x y e.outcome is ∙ equal.symm y e.outcome) i || shown_alike x y is earlier i

    shown_later : (earlier : List (Sighting K)) (t : Sighting K) (outcome : K) → is_shown same earlier outcome ≡ false → same t.outcome outcome ≡ false → is_shown same (earlier ++ t ∷ []) outcome ≡ false
    shown_later earlier t outcome unseen other =
        list_any-append (λ s. same s.outcome outcome) earlier (t ∷ []) ∙ or_falses (is_shown same earlier outcome) (same t.outcome outcome || false) unseen
        (or_falses (same t.outcome outcome) false other refl)

    firsts_step :
        (earlier : List (Sighting K)) (t : Sighting K) (seen : List (Sighting K)) (outcome : K) (shown alike : Bool)
        → (is_shown same (earlier ++ t ∷ []) outcome ≡ false → is_shown same (firsts same (earlier ++ t ∷ []) seen) outcome ≡ is_shown same seen outcome)
        → is_shown same earlier t.outcome ≡ shown → same t.outcome outcome ≡ alike → is_shown same earlier outcome ≡ false
        → is_shown same ((if shown then [] else t ∷ []) ++ firsts same (earlier ++ t ∷ []) seen) outcome ≡ (alike || is_shown same seen outcome)
    firsts_step earlier t seen outcome true true later was is unseen = absurd (let e = shown_alike t.outcome outcome is earlier in cc)
    firsts_step earlier t seen outcome true false later was is unseen = later (shown_later earlier t outcome unseen is)
    firsts_step earlier t seen outcome false true later was is unseen = ap (λ b. b || is_shown same (firsts same (earlier ++ t ∷ []) seen) outcome) is
    firsts_step earlier t seen outcome false false later was is unseen =
        ap (λ b. b || is_shown same (firsts same (earlier ++ t ∷ []) seen) outcome) is ∙ later (shown_later earlier t outcome unseen is)

    -- An outcome that no earlier sighting has is among the first sightings if and only if it is among all sightings.
    firsts_shown :
        (earlier seen : List (Sighting K)) (outcome : K)
        → is_shown same earlier outcome ≡ false
        → is_shown same (firsts same earlier seen) outcome ≡ is_shown same seen outcome
    firsts_shown earlier [] outcome unseen = refl
    firsts_shown earlier (t ∷ seen) outcome unseen =
        firsts_step earlier t seen outcome (is_shown same earlier t.outcome) (same t.outcome outcome) (firsts_shown (earlier ++ t ∷ []) seen outcome) refl refl unseen

    -- ---- how often

    unseen_times : (seen : List (Sighting K)) (outcome : K) → is_shown same seen outcome ≡ false → count_by (λ s. same outcome s.outcome) seen ≡ 0
    unseen_times [] outcome unseen = refl
    unseen_times (s ∷ seen) outcome unseen =
        let parts = or_false (same s.outcome outcome) (is_shown same seen outcome) unseen in
        let none = equal.symm outcome s.outcome ∙ parts.0 in
        let rest = unseen_times seen outcome parts.1 in
        sum_by-append (λ x. cond (same outcome x.outcome) 1 0) (s ∷ []) seen ∙ ap (λ b. 0 + cond b 1 0 + count_by (λ x. same outcome x.outcome) seen) none ∙ omega arith

    times-push : (seen : List (Sighting K)) (s : Sighting K) (outcome : K)
        → times same (seen ++ s ∷ []) outcome ≡ (if same outcome s.outcome then times same seen outcome + 1 else times same seen outcome)
    times-push seen s outcome =
        sum_by-append (λ x. cond (same outcome x.outcome) 1 0) seen (s ∷ [])
        ∙ elim (same outcome s.outcome) as (λ b. count_by (λ x. same outcome x.outcome) seen + (0 + cond b 1 0)
        ≡ (if b then times same seen outcome + 1 else times same seen outcome)) [
          | true ↦ omega arith
          | false ↦ omega arith
        ]

    counted_at : List (Sighting K) → Sighting K → PathCount K
    counted_at seen s = record { outcome = s.outcome; count = times same seen s.outcome; first = s.schedule }

    one : (seen : List (Sighting K)) (s : Sighting K) (shown : Bool) → is_shown same seen s.outcome ≡ shown
        → map (counted_at (seen ++ s ∷ [])) (if shown then [] else s ∷ []) ≡ (if shown then [] else record { outcome = s.outcome; count = 1; first = s.schedule } ∷ [])
    unfolding counted_at
    one seen s true is = refl
    one seen s false is =
        let none = unseen_times seen s.outcome is in
        let more = times-push seen s s.outcome ∙ ap (λ b. if b then times same seen s.outcome + 1 else times same seen s.outcome) (equal.refl s.outcome) in
        let once : times same (seen ++ s ∷ []) s.outcome ≡ 1 = omega arith in
        λ i. record { outcome = s.outcome; count = once i; first = s.schedule } ∷ []

    pub counted-push :
        (seen : List (Sighting K)) (s : Sighting K)
        → counted same (seen ++ s ∷ []) ≡ map (bump same s.outcome) (counted same seen) ++
        (if is_shown same seen s.outcome then [] else record { outcome = s.outcome; count = 1; first = s.schedule } ∷ [])
    unfolding counted counted_at
    counted-push seen s =
        ap (map (counted_at (seen ++ s ∷ []))) (firsts-push [] seen s)
        ∙ map-append (counted_at (seen ++ s ∷ [])) (firsts same [] seen) (if is_shown same seen s.outcome then [] else s ∷ [])
        ∙ (λ i. (map_alike (counted_at (seen ++ s ∷ [])) (λ t. bump same s.outcome (counted_at seen t))
        (λ t j. record { outcome = t.outcome; count = times-push seen s t.outcome j; first = t.schedule }) (firsts same [] seen)
        ∙ sym (map_twice (bump same s.outcome) (counted_at seen) (firsts same [] seen))) i
        ++ one seen s (is_shown same seen s.outcome) refl i)

    pub known_is :
        (tallies : List (PathTally K)) (seen : List (Sighting K)) (outcome : K) → map count_of_tally tallies ≡ counted same seen → is_known same outcome tallies ≡ is_shown same seen outcome
    unfolding counted counted_at
    known_is tallies seen outcome are =
        sym (list_any_map (λ c. same c.outcome outcome) count_of_tally tallies) ∙ ap (list_any (λ c. same c.outcome outcome)) are
        ∙ list_any_map (λ c. same c.outcome outcome) (counted_at seen) (firsts same [] seen) ∙ firsts_shown [] seen outcome refl

    -- ---- the tallies

    module _ (tallies bumped : List (PathTally K)) (seen : List (Sighting K)) (s : Sighting K) (are : map count_of_tally tallies ≡ counted same seen)
        (is_bumped : map count_of_tally bumped ≡ map (bump same s.outcome) (map count_of_tally tallies)) where
      after : map count_of_tally bumped ++ (if is_known same s.outcome tallies then [] else record { outcome = s.outcome; count = 1; first = s.schedule } ∷ []) ≡ counted same (seen ++ s ∷ [])
      after =
          (λ i. (is_bumped ∙ ap (map (bump same s.outcome)) are) i ++ (if known_is tallies seen s.outcome are i then [] else record { outcome = s.outcome; count = 1; first = s.schedule } ∷ []))
          ∙ sym (counted-push seen s)

      pub shown_again : is_known same s.outcome tallies ≡ true → map count_of_tally bumped ≡ counted same (seen ++ s ∷ [])
      shown_again known =
          sym (append-nil (map count_of_tally bumped)) ∙ ap (λ b. map count_of_tally bumped ++ (if b then [] else record { outcome = s.outcome; count = 1; first = s.schedule } ∷ [])) (sym known) ∙ after

      pub shown_first :
          (tally : PathTally K) → is_known same s.outcome tallies ≡ false → count_of_tally tally ≡ record { outcome = s.outcome; count = 1; first = s.schedule }
          → map count_of_tally (bumped ++ tally ∷ []) ≡ counted same (seen ++ s ∷ [])
      shown_first tally new is =
          map-append count_of_tally bumped (tally ∷ []) ∙ ap (λ c. map count_of_tally bumped ++ c ∷ []) is
          ∙ ap (λ b. map count_of_tally bumped ++ (if b then [] else record { outcome = s.outcome; count = 1; first = s.schedule } ∷ [])) (sym new) ∙ after

-- if a list of the same length is written over a whole list, the result is the new list
pub written_back : {X : Type 0} (n : ℕ) (old new : List X) → n ≡ length old → length new ≡ length old → take n (new ++ drop (length new) old) ≡ new
written_back n old new is all = ap (λ k. take k (new ++ drop (length new) old)) (is ∙ sym all) ∙ take-append_seam new (drop (length new) old)

pub counted-none : {K : Type 0} (same : K → K → Bool) (tallies : List (PathTally K)) → tallies ≡ [] → map count_of_tally tallies ≡ counted same []
unfolding counted
counted-none {K} same tallies none = ap (map (count_of_tally {K = K})) none
