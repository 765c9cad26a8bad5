-- Lemmas about the marks that a host keeps, and about a build's progress in its plan after an answer. A host keeps a
-- mark while no fewer operations are open than at the mark. If two cursors have equal progress, they still do after the
-- same answer.
use Rattle.std.proofs.Common.{◌≡◌, ℕ, zero, suc, ◌==◌, ◌&&◌, Bool, true, false, cond, List, [], ◌∷◌, map, get_or, set, length, Option, Some, None, refl, sym, ap, ◌∙◌, eq-eqb, eqb-true, arith}
use Rattle.std.specs.Prelude.{nat_le, option_map}
use Rattle.std.proofs.lemmas.Bool.{and_parts}
use Rattle.std.proofs.lemmas.List.{map-set}
use Rattle.realm_model.proofs.Booleans.{and_false}
use Rattle.host_ledger.specs.declared.mark.Mark.{Mark}
use Rattle.host_ledger.specs.Marks.{is_same_mark, mark_while}
use Rattle.plan_replay.specs.Place.{first_place, is_refusal, moved_on, number_after}
use Rattle.plan_replay.specs.declared.answer.TurnAnswer.{TurnAnswer}
use Rattle.plan_replay.specs.declared.place.PlanCursor.{PlanCursor}
use Rattle.schedule_graph.specs.State.{Progress, progress_of}

-- ---- a mark, and the one that is kept

-- a mark is kept, and it is the same as the given one
abbrev pub keeps : Option Mark → Mark → Bool
keeps kept mark = elim kept [ Some it ↦ is_same_mark it mark | None ↦ false ]

-- the cursor has a mark, and it is the same as the one that is kept
abbrev pub goes : Option Mark → Option Mark → Bool
goes kept mark = elim mark [ Some it ↦ keeps kept it | None ↦ false ]

and_true : (t : Bool) → t ≡ (t && true)
and_true true = refl
and_true false = refl

same_length : (a b : Mark) → is_same_mark a b ≡ true → a.length ≡ b.length
same_length a b same =
    let first = and_parts (a.build == b.build) (a.length == b.length && a.place == b.place) same in
    let second = and_parts (a.length == b.length) (a.place == b.place) first.1 in
    eqb-true a.length b.length second.0

pub same_mark : (mark : Mark) → is_same_mark mark mark ≡ true
same_mark mark =
    λ i. eq-eqb mark.build mark.build refl i && (eq-eqb mark.length mark.length refl i && eq-eqb mark.place mark.place refl i)

keeps-while : (n : ℕ) (kept : Option Mark) (mark : Mark) → keeps (mark_while n kept) mark ≡ (keeps kept mark && nat_le mark.length n)
keeps-while n None mark = refl
keeps-while n (Some kept) mark = at (is_same_mark kept mark) refl
  where
    at : (t : Bool) → is_same_mark kept mark ≡ t → keeps (cond (nat_le kept.length n) (Some kept) None) mark ≡ (is_same_mark kept mark && nat_le mark.length n)
    at true same =
        (elim (nat_le kept.length n) as (λ t. keeps (cond t (Some kept) None) mark ≡ (is_same_mark kept mark && t)) [
          | true ↦ and_true (is_same_mark kept mark)
          | false ↦ sym (and_false (is_same_mark kept mark))
        ])
        ∙ ap (λ (k : ℕ). is_same_mark kept mark && nat_le k n) (same_length kept mark same)
    at false differs =
        (elim (nat_le kept.length n) as (λ t. keeps (cond t (Some kept) None) mark ≡ false) [ true ↦ differs | false ↦ refl ])
        ∙ sym (ap (λ s. s && nat_le mark.length n) differs)

-- once `n` operations are open, a mark is kept if and only if it was kept before and was set with at most `n`
-- operations open
pub keeps-at : (marks : List (Option Mark)) (b n : ℕ) (mark : Mark)
    → keeps (get_or (set marks b (mark_while n (get_or marks b None))) b None) mark ≡ (keeps (get_or marks b None) mark && nat_le mark.length n)
keeps-at [] b n mark = refl
keeps-at (kept ∷ marks) zero n mark = keeps-while n kept mark
keeps-at (kept ∷ marks) (suc b) n mark = keeps-at marks b n mark

-- ---- a new mark, in lists of marks that are as deep

abbrev pub depth : Option Mark → Option ℕ
depth mark = option_map (λ (m : Mark). m.length) mark

abbrev tail : {X : Type 0} → List X → List X
tail [] = []
tail (x ∷ xs) = xs

no_cons : {X : Type 0} (x : X) (xs : List X) → ◌≡◌ {A = List X} [] (x ∷ xs) → ⊥
no_cons x xs e = (let no = ap length e in absurd (omega (arith, no)))

pub also_set : (marks others : List (Option Mark)) (b : ℕ) (mark other : Mark) → map depth others ≡ map depth marks
    → get_or (set marks b (Some mark)) b None ≡ Some mark → get_or (set others b (Some other)) b None ≡ Some other
also_set [] [] b mark other same kept = (let no = kept in cc)
also_set [] (o ∷ others) b mark other same kept = absurd (no_cons (depth o) (map depth others) (sym same))
also_set (m ∷ marks) [] b mark other same kept = absurd (no_cons (depth m) (map depth marks) same)
also_set (m ∷ marks) (o ∷ others) zero mark other same kept = refl
also_set (m ∷ marks) (o ∷ others) (suc b) mark other same kept = also_set marks others b mark other (ap tail same) kept

-- ---- cursors

progress-at : (places : List PlanCursor) (b : ℕ) → progress_of (get_or places b first_place) ≡ get_or (map progress_of places) b (progress_of first_place)
progress-at [] b = refl
progress-at (place ∷ places) zero = refl
progress-at (place ∷ places) (suc b) = progress-at places b

pub progress_at : (ones others : List PlanCursor) → map progress_of others ≡ map progress_of ones
    → (b : ℕ) → progress_of (get_or others b first_place) ≡ progress_of (get_or ones b first_place)
progress_at ones others same b = progress-at others b ∙ ap (λ l. get_or l b (progress_of first_place)) same ∙ sym (progress-at ones b)

pub progress_set : (ones others : List PlanCursor) (b : ℕ) (one other : PlanCursor) → map progress_of others ≡ map progress_of ones
    → progress_of other ≡ progress_of one → map progress_of (set others b other) ≡ map progress_of (set ones b one)
progress_set ones others b one other same alike =
    map-set progress_of others b other ∙ (λ i. set (same i) b (alike i)) ∙ sym (map-set progress_of ones b one)

-- the progress after a turn with this answer: it is at the next step, unless the current step has undos left
module _ (gives_up : Bool) (answer : TurnAnswer) where
  abbrev next : ℕ → ℕ
  next done = number_after gives_up (is_refusal answer) done

  abbrev moved : Progress → Progress
  moved it = cond (it.left == 0) (record it { done = next it.done }) it

  progress-moved_on : (place : PlanCursor) → progress_of (moved_on gives_up answer place) ≡ moved (progress_of place)
  progress-moved_on place =
      elim (place.left == 0) as (λ t. progress_of (cond t (record place { done = next place.done }) place) ≡ cond t (record (progress_of place) { done = next place.done }) (progress_of place)) [
        | true ↦ refl
        | false ↦ refl
      ]

  pub progress_moved : (one other : PlanCursor) → progress_of other ≡ progress_of one → progress_of (moved_on gives_up answer other) ≡ progress_of (moved_on gives_up answer one)
  progress_moved one other same = progress-moved_on other ∙ ap moved same ∙ sym (progress-moved_on one)

  pub mark-moved_on : (place : PlanCursor) → (moved_on gives_up answer place).mark ≡ place.mark
  mark-moved_on place =
      elim (place.left == 0) as (λ t. (cond t (record place { done = next place.done }) place).mark ≡ place.mark) [ true ↦ refl | false ↦ refl ]

-- two cursors that agree on whether their marks are kept still agree once they are put at index `b` of two lists of
-- equal progress
pub goes-set : (ones others : List PlanCursor) (b : ℕ) (one other : PlanCursor) (kept also : Option Mark) → map progress_of others ≡ map progress_of ones
    → goes also other.mark ≡ goes kept one.mark
    → goes also (get_or (set others b other) b first_place).mark ≡ goes kept (get_or (set ones b one) b first_place).mark
goes-set [] [] b one other kept also same alike = refl
goes-set [] (o ∷ others) b one other kept also same alike = absurd (no_cons (progress_of o) (map progress_of others) (sym same))
goes-set (p ∷ ones) [] b one other kept also same alike = absurd (no_cons (progress_of p) (map progress_of ones) same)
goes-set (p ∷ ones) (o ∷ others) zero one other kept also same alike = alike
goes-set (p ∷ ones) (o ∷ others) (suc b) one other kept also same alike = goes-set ones others b one other kept also (ap tail same) alike
