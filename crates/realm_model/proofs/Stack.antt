-- The proof that the unmatched operations form a stack: an operation with a reverse is pushed, and a reverse operation
-- pops the top.
use Rattle.std.proofs.Common.{◌≡◌, ℕ, zero, suc, pred, ◌+◌, ◌-◌, ◌≤◌, Bool, true, false, cond, not, ◌&&◌, ◌||◌, List, [], ◌∷◌, ◌++◌, length, take, refl, sym, ap, ◌∙◌, arith}
use Rattle.std.specs.Prelude.{filter, fold, ◌==◌}
use Rattle.std.proofs.lemmas.Bool.{eq-eqb, ne_eqb}
use Rattle.std.proofs.lemmas.List.Elements.{filter-append}
use Rattle.std.proofs.lemmas.List.{length-append, append-nil, append_assoc}
use Rattle.realm_model.specs.declared.act.Act.{Act}
use Rattle.realm_model.specs.declared.act.Act.TheVariants.{UnTake, Undelegate, UnRealm, UnRtt, UnData, UnRec}
use Rattle.realm_model.specs.Stack.{pushed}
use Rattle.realm_model.specs.Act.{reverse_of, is_reverse, is_paired}
use Rattle.realm_model.specs.History.{is_balanced, has_nearer, is_matched, unmatched}
use Rattle.realm_model.proofs.Lists.{front, take-front}

-- an operation that has a reverse is not a reverse itself
paired_apart : (act : Act) → is_paired act ≡ true → is_reverse act ≡ false
unfolding reverse_of is_reverse
paired_apart (UnTake order first) h = cc
paired_apart (Undelegate granule) h = cc
paired_apart (UnRealm rd root vmid) h = cc
paired_apart (UnRtt granule ipa level) h = cc
paired_apart (UnData granule ipa) h = cc
paired_apart (UnRec granule auxiliaries number) h = cc
paired_apart _ h = refl

-- a paired operation is pushed on the stack, a reverse removes the top, and any other operation changes nothing
pub pushed_paired : (stack : List Act) (act : Act) → is_paired act ≡ true → pushed stack act ≡ stack ++ act ∷ []
unfolding pushed
pushed_paired stack act p = ap (λ t. cond t (stack ++ act ∷ []) (cond (is_reverse act) (take (length stack - 1) stack) stack)) p

pub pushed_back : (stack : List Act) (act : Act) → is_paired act ≡ false → is_reverse act ≡ true → pushed stack act ≡ front stack
unfolding pushed
pushed_back stack act p r = (λ i. cond (p i) (stack ++ act ∷ []) (cond (r i) (take (length stack - 1) stack) stack)) ∙ take-front stack

pub pushed_other : (stack : List Act) (act : Act) → is_paired act ≡ false → is_reverse act ≡ false → pushed stack act ≡ stack
unfolding pushed
pushed_other stack act p r = λ i. cond (p i) (stack ++ act ∷ []) (cond (r i) (take (length stack - 1) stack) stack)

-- ---- one operation, by its tests

abbrev need_step : Bool → Bool → ℕ → ℕ
need_step p r n = cond p (pred n) (cond r (suc n) n)

abbrev is_zero : ℕ → Bool
is_zero zero = true
is_zero (suc n) = false

abbrev opened_step : Bool → Act → ℕ → List Act → List Act
opened_step p x n rest = cond (p && is_zero n) (x ∷ rest) rest

-- the number of unmatched reverses of a list after a reverse is appended, given the list's unmatched operations and the
-- number before
abbrev more : List Act → ℕ → ℕ
more [] n = suc n
more (x ∷ xs) n = n

need_step_other : (p : Bool) → need_step p false 0 ≡ 0
need_step_other true = refl
need_step_other false = refl

counts_step : (p r : Bool) (x : Act) (F G : List Act) (n : ℕ) (o : List Act) → (p ≡ true → r ≡ false) → length F + n ≡ length G + length o
    → length (cond p (x ∷ F) F) + need_step p r n ≡ length (cond r (x ∷ G) G) + length (opened_step p x n o)
counts_step true true x F G n o apart h = let no : true ≡ false = apart refl in cc
counts_step true false x F G zero o apart h = omega arith
counts_step true false x F G (suc n) o apart h = omega arith
counts_step false true x F G n o apart h = omega arith
counts_step false false x F G n o apart h = h

need_step_back : (p r : Bool) (x : Act) (n : ℕ) (o : List Act) → need_step p r (more o n) ≡ more (opened_step p x n o) (need_step p r n)
need_step_back true r x zero [] = refl
need_step_back true r x zero (y ∷ o) = refl
need_step_back true r x (suc n) [] = refl
need_step_back true r x (suc n) (y ∷ o) = refl
need_step_back false true x n [] = refl
need_step_back false true x n (y ∷ o) = refl
need_step_back false false x n o = refl

opened_step_back : (p : Bool) (x : Act) (n : ℕ) (o : List Act) → opened_step p x (more o n) (front o) ≡ front (opened_step p x n o)
opened_step_back true x zero [] = refl
opened_step_back true x zero (y ∷ o) = refl
opened_step_back true x (suc n) [] = refl
opened_step_back true x (suc n) (y ∷ o) = refl
opened_step_back false x n o = refl

near_step : (p r : Bool) (F G k n : ℕ) (t : Bool) → (p ≡ true → r ≡ false) → need_step p r n ≤ k → k + cond p (suc F) F ≡ cond r (suc G) G
    → ((j : ℕ) → n ≤ j → j + F ≡ G → t ≡ false) → ((p && F == G) || t) ≡ false
near_step true true F G k n t apart h c next = let no : true ≡ false = apart refl in cc
near_step true false F G k n t apart h c next =
    let far : F ≡ G → ⊥ = λ e. omega arith in
    let enough : n ≤ suc k = elim n as (λ n. pred n ≤ k → n ≤ suc k) [ zero ↦ λ h. omega arith | suc m ↦ λ h. omega arith ] h in
    ap (λ s. s || t) (ne_eqb F G far) ∙ next (suc k) enough (omega arith)
near_step false true F G k n t apart h c next = elim k as (λ k. suc n ≤ k → k + F ≡ suc G → t ≡ false) [ zero ↦ λ h c. absurd (omega arith) | suc j ↦ λ h c. next j (omega arith) (omega arith) ] h c
near_step false false F G k n t apart h c next = next k h c

-- ---- lists

-- the number of the list's reverses that match no operation in the list, but operations before it
abbrev need : List Act → ℕ
need [] = 0
need (x ∷ xs) = need_step (is_paired x) (is_reverse x) (need xs)

-- the unmatched operations of a list: the paired ones for which `need` of the operations after them is 0
abbrev opened : List Act → List Act
opened [] = []
opened (x ∷ xs) = opened_step (is_paired x) x (need xs) (opened xs)

abbrev pairs : List Act → ℕ
pairs xs = length (filter is_paired xs)

abbrev backs : List Act → ℕ
backs xs = length (filter is_reverse xs)

counts : (xs : List Act) → pairs xs + need xs ≡ backs xs + length (opened xs)
counts [] = refl
counts (x ∷ xs) = counts_step (is_paired x) (is_reverse x) x (filter is_paired xs) (filter is_reverse xs) (need xs) (opened xs) (paired_apart x) (counts xs)

length_if : (p : Bool) (x : Act) (F : List Act) → length (cond p (x ∷ F) F) ≡ cond p (suc (length F)) (length F)
length_if true x F = refl
length_if false x F = refl

near : (k : ℕ) (xs : List Act) → need xs ≤ k → k + pairs xs ≡ backs xs → has_nearer xs ≡ false
near k [] h c = refl
near k (x ∷ xs) h c =
    near_step (is_paired x) (is_reverse x) (pairs xs) (backs xs) k (need xs) (has_nearer xs) (paired_apart x) h
    (ap (λ n. k + n) (sym (length_if (is_paired x) x (filter is_paired xs))) ∙ c ∙ length_if (is_reverse x) x (filter is_reverse xs))
    (λ j n e. near j xs n e)

need_other : (xs : List Act) (a : Act) → is_reverse a ≡ false → need (xs ++ a ∷ []) ≡ need xs
need_other [] a h = ap (λ r. need_step (is_paired a) r 0) h ∙ need_step_other (is_paired a)
need_other (x ∷ xs) a h = ap (need_step (is_paired x) (is_reverse x)) (need_other xs a h)

module _ (a : Act) (p : is_paired a ≡ false) (r : is_reverse a ≡ true) where
  need_back : (xs : List Act) → need (xs ++ a ∷ []) ≡ more (opened xs) (need xs)
  need_back [] = λ i. need_step (p i) (r i) 0
  need_back (x ∷ xs) = ap (need_step (is_paired x) (is_reverse x)) (need_back xs) ∙ need_step_back (is_paired x) (is_reverse x) x (need xs) (opened xs)

  opened_back : (xs : List Act) → opened (xs ++ a ∷ []) ≡ front (opened xs)
  opened_back [] = ap (λ t. opened_step t a 0 []) p
  opened_back (x ∷ xs) = (λ i. opened_step (is_paired x) x (need_back xs i) (opened_back xs i)) ∙ opened_step_back (is_paired x) x (need xs) (opened xs)

opened_other : (xs : List Act) (a : Act) → is_reverse a ≡ false → opened (xs ++ a ∷ []) ≡ opened xs ++ cond (is_paired a) (a ∷ []) []
opened_other [] a h = elim (is_paired a) as (λ t. opened_step t a 0 [] ≡ cond t (a ∷ []) []) [ true ↦ refl | false ↦ refl ]
opened_other (x ∷ xs) a h =
    (λ i. opened_step (is_paired x) x (need_other xs a h i) (opened_other xs a h i))
    ∙ elim (is_paired x && is_zero (need xs)) as (λ t. cond t (x ∷ (opened xs ++ cond (is_paired a) (a ∷ []) [])) (opened xs ++ cond (is_paired a) (a ∷ []) []) ≡ cond t
    (x ∷ opened xs) (opened xs) ++ cond (is_paired a) (a ∷ []) []) [ true ↦ refl | false ↦ refl ]

length_push : (p : Act → Bool) (F : List Act) (a : Act) → length (filter p (F ++ a ∷ [])) ≡ length (filter p F) + cond (p a) 1 0
length_push p F a =
    ap length (filter-append p F (a ∷ [])) ∙ length-append (filter p F) (filter p (a ∷ []))
    ∙ ap (λ n. length (filter p F) + n) (elim (p a) as (λ t. length (cond t (a ∷ []) []) ≡ cond t 1 0) [ true ↦ refl | false ↦ refl ])

-- ---- the matched operations

abbrev is_below : ℕ → ℕ → Bool
is_below k zero = false
is_below zero (suc n) = true
is_below (suc k) (suc n) = is_below k n

is_below-pred : (k n : ℕ) → is_below (suc k) n ≡ is_below k (pred n)
is_below-pred k zero = refl
is_below-pred k (suc n) = refl

more_some : (o : List Act) (n j : ℕ) → length o ≡ suc j → more o n ≡ n
more_some [] n j h = absurd (omega arith)
more_some (x ∷ o) n j h = refl

pub data Kind : Act → Type 0 where
  paired : {x : Act} → is_paired x ≡ true → is_reverse x ≡ false → Kind x
  back : {x : Act} → is_paired x ≡ false → is_reverse x ≡ true → Kind x
  other : {x : Act} → is_paired x ≡ false → is_reverse x ≡ false → Kind x

pub kind : (x : Act) → Kind x
kind x = elim (is_paired x) as (λ t. is_paired x ≡ t → Kind x) [
  | true ↦ λ p. paired p (paired_apart x p)
  | false ↦ λ p. elim (is_reverse x) as (λ t. is_reverse x ≡ t → Kind x) [ true ↦ λ r. back p r | false ↦ λ r. other p r ] refl
] refl

module _ (between rest : List Act) (a : Act) (k : ℕ) (n : need between ≡ 0) (c : pairs between ≡ backs between + k)
    (next : (j : ℕ) → need (between ++ a ∷ []) ≡ 0 → pairs (between ++ a ∷ []) ≡ backs (between ++ a ∷ []) + j → is_matched (between ++ a ∷ []) rest ≡ is_below j (need rest)) where
  -- the count of paired operations grows by one if the operation `a` at the end is paired
  pairs_push : pairs (between ++ a ∷ []) ≡ pairs between + cond (is_paired a) 1 0
  pairs_push = length_push is_paired between a

  backs_push : backs (between ++ a ∷ []) ≡ backs between + cond (is_reverse a) 1 0
  backs_push = length_push is_reverse between a

  matched_paired : is_paired a ≡ true → is_reverse a ≡ false → is_matched between (a ∷ rest) ≡ is_below k (need (a ∷ rest))
  matched_paired p r =
      let up : pairs (between ++ a ∷ []) ≡ pairs between + 1 = pairs_push ∙ ap (λ t. pairs between + cond t 1 0) p in
      let same : backs (between ++ a ∷ []) ≡ backs between + 0 = backs_push ∙ ap (λ t. backs between + cond t 1 0) r in
      ap (λ t. (t && is_balanced between && not (has_nearer between)) || is_matched (between ++ a ∷ []) rest) r
      ∙ next (suc k) (need_other between a r ∙ n) (omega arith)
      ∙ is_below-pred k (need rest) ∙ sym (λ i. is_below k (need_step (p i) (r i) (need rest)))

  matched_other : is_paired a ≡ false → is_reverse a ≡ false → is_matched between (a ∷ rest) ≡ is_below k (need (a ∷ rest))
  matched_other p r =
      let same_up : pairs (between ++ a ∷ []) ≡ pairs between + 0 = pairs_push ∙ ap (λ t. pairs between + cond t 1 0) p in
      let same : backs (between ++ a ∷ []) ≡ backs between + 0 = backs_push ∙ ap (λ t. backs between + cond t 1 0) r in
      ap (λ t. (t && is_balanced between && not (has_nearer between)) || is_matched (between ++ a ∷ []) rest) r
      ∙ next k (need_other between a r ∙ n) (omega arith)
      ∙ sym (λ i. is_below k (need_step (p i) (r i) (need rest)))

  matched_back : is_paired a ≡ false → is_reverse a ≡ true → is_matched between (a ∷ rest) ≡ is_below k (need (a ∷ rest))
  matched_back p r =
      let same_up : pairs (between ++ a ∷ []) ≡ pairs between + 0 = pairs_push ∙ ap (λ t. pairs between + cond t 1 0) p in
      let up : backs (between ++ a ∷ []) ≡ backs between + 1 = backs_push ∙ ap (λ t. backs between + cond t 1 0) r in
      ap (λ t. (t && is_balanced between && not (has_nearer between)) || is_matched (between ++ a ∷ []) rest) r
      ∙ elim k as (λ j. k ≡ j → (is_balanced between && not (has_nearer between)) || is_matched (between ++ a ∷ []) rest ≡ is_below j (suc (need rest))) [
        | zero ↦ λ e.
            let even : is_balanced between ≡ true = eq-eqb (pairs between) (backs between) (omega arith) in
            let nearest : has_nearer between ≡ false = near 0 between (omega arith) (omega arith) in
            λ i. (even i && not (nearest i)) || is_matched (between ++ a ∷ []) rest
        | suc j ↦ λ e.
            let odd : is_balanced between ≡ false = ne_eqb (pairs between) (backs between) (λ q. omega arith) in
            let all : pairs between + need between ≡ backs between + length (opened between) = counts between in
            ap (λ t. (t && not (has_nearer between)) || is_matched (between ++ a ∷ []) rest) odd
            ∙ next j (need_back a p r between ∙ more_some (opened between) (need between) j (omega arith) ∙ n) (omega arith)
      ] refl
      ∙ sym (λ i. is_below k (need_step (p i) (r i) (need rest)))

  matched_step : is_matched between (a ∷ rest) ≡ is_below k (need (a ∷ rest))
  matched_step = elim (kind a) [ paired p r ↦ matched_paired p r | back p r ↦ matched_back p r | other p r ↦ matched_other p r ]

matched : (between rest : List Act) (k : ℕ) → need between ≡ 0 → pairs between ≡ backs between + k → is_matched between rest ≡ is_below k (need rest)
matched between [] k n c = refl
matched between (a ∷ rest) k n c = matched_step between rest a k n c (λ j n c. matched (between ++ a ∷ []) rest j n c)

unmatched-opened : (xs : List Act) → unmatched xs ≡ opened xs
unmatched-opened [] = refl
unmatched-opened (x ∷ xs) =
    ap (λ t. cond (is_paired x && not t) (x ∷ unmatched xs) (unmatched xs)) (matched [] xs 0 refl refl)
    ∙ (λ i. cond (is_paired x && not_below (need xs) i) (x ∷ unmatched-opened xs i) (unmatched-opened xs i))
  where
    not_below : (n : ℕ) → not (is_below 0 n) ≡ is_zero n
    not_below zero = refl
    not_below (suc n) = refl

-- ---- the stack

-- an operation at the end of a list changes the unmatched operations as `pushed` changes a stack
pub unmatched_push : (xs : List Act) (a : Act) → unmatched (xs ++ a ∷ []) ≡ pushed (unmatched xs) a
unmatched_push xs a =
    unmatched-opened (xs ++ a ∷ [])
    ∙ elim (kind a) [
      | paired p r ↦ opened_other xs a r ∙ ap (λ t. opened xs ++ cond t (a ∷ []) []) p ∙ sym (pushed_paired (opened xs) a p)
      | back p r ↦ opened_back a p r xs ∙ sym (pushed_back (opened xs) a p r)
      | other p r ↦ opened_other xs a r ∙ ap (λ t. opened xs ++ cond t (a ∷ []) []) p ∙ append-nil (opened xs) ∙ sym (pushed_other (opened xs) a p r)
    ]
    ∙ ap (λ o. pushed o a) (sym (unmatched-opened xs))

-- the unmatched operations of `xs ++ ys` are those of `xs`, changed by `pushed` for each operation of `ys`
unmatched_all : (xs ys : List Act) → unmatched (xs ++ ys) ≡ fold pushed (unmatched xs) ys
unmatched_all xs [] = ap unmatched (append-nil xs)
unmatched_all xs (y ∷ ys) =
    ap unmatched (sym (append_assoc xs (y ∷ []) ys)) ∙ unmatched_all (xs ++ y ∷ []) ys ∙ ap (λ s. fold pushed s ys) (unmatched_push xs y)

pub unmatched-stack : (xs : List Act) → unmatched xs ≡ fold pushed [] xs
unmatched-stack xs = unmatched_all [] xs
