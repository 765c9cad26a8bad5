-- Lemmas about the text of a schedule, which grows turn by turn, and about a plan's new text, which differs only in the
-- schedule. An input that is a plan is kept whole.
use Rattle.std.proofs.Common.{◌≡◌, ℕ, ◌+◌, ◌<◌, List, [], ◌∷◌, ◌++◌, length, get_or, take, drop, sym, ap, ◌∙◌, arith, subst, inl, inr, Option, None, Some, Ok, true, ltb}
use Rattle.std.specs.Prelude.{IfSome}
use Rattle.std.proofs.lemmas.Bool.{cases_Bool, lt-ltb}
use Rattle.std.proofs.lemmas.List.{append-nil, append_assoc, take-append-drop, take_more, take_all, length-take-le}
use Rattle.realm_plan.specs.Plan.{Plan, plan_of}
use Rattle.realm_program.specs.Whole.{kept_of}
use Rattle.realm_program.proofs.KeptPlan.{plan_from_kept}
use Rattle.view_program.specs.OrderText.{turn_in_lines, turns_in_lines}

-- ---- the schedule

-- the text of a schedule with one more turn is the text of the schedule, followed by that of the turn
turns_in_lines-append : (place : ℕ) (turns : List ℕ) (build : ℕ)
    → turns_in_lines place (turns ++ build ∷ []) ≡ turns_in_lines place turns ++ turn_in_lines (place + length turns) build
turns_in_lines-append place [] build =
    append-nil (turn_in_lines place build) ∙ ap (λ at. turn_in_lines at build) (omega arith)
turns_in_lines-append place (first ∷ turns) build =
    let same : place + 1 + length turns ≡ place + length (first ∷ turns) = omega arith in
    ap (λ rest. turn_in_lines place first ++ rest)
    (turns_in_lines-append (place + 1) turns build ∙ ap (λ at. turns_in_lines (place + 1) turns ++ turn_in_lines at build) same)
    ∙ sym (append_assoc (turn_in_lines place first) (turns_in_lines (place + 1) turns) (turn_in_lines (place + length (first ∷ turns)) build))

-- the text of the first `place + 1` turns is that of the first `place`, followed by that of the next turn
pub turns_in_lines_more : (order : List ℕ) (place : ℕ) → place < length order
    → turns_in_lines 0 (take (place + 1) order) ≡ turns_in_lines 0 (take place order) ++ turn_in_lines place (get_or order place 0)
turns_in_lines_more order place here =
    let same : 0 + length (take place order) ≡ place = omega (arith, length-take-le place order (omega arith)) in
    ap (turns_in_lines 0) (take_more order place 0 here)
    ∙ turns_in_lines-append 0 (take place order) (get_or order place 0)
    ∙ ap (λ at. turns_in_lines 0 (take place order) ++ turn_in_lines at (get_or order place 0)) same

-- ---- the plan

-- a list that is cut at two places is its three parts, one after another
pub cut_twice : (bytes until front removed back : List ℕ) (to from : ℕ) → until ≡ take to bytes → back ≡ drop to bytes → front ≡ take from until
    → removed ≡ drop from until → bytes ≡ front ++ (removed ++ back)
cut_twice bytes until front removed back to from until_is back_is front_is removed_is =
    let joined : front ++ removed ≡ until =
    ap (λ part. part ++ removed) front_is ∙ ap (λ part. take from until ++ part) removed_is ∙ take-append-drop from until in
    sym (sym (append_assoc front removed back) ∙ ap (λ part. part ++ back) (joined ∙ until_is) ∙ ap (λ part. take to bytes ++ part) back_is
    ∙ take-append-drop to bytes)

-- a text that was empty before three parts were appended consists of these parts in sequence
pub three_parts : (none one two three front shown part back : List ℕ) → none ≡ [] → one ≡ none ++ front → two ≡ one ++ shown → three ≡ two ++ back
    → shown ≡ part → three ≡ front ++ (part ++ back)
three_parts none one two three front shown part back none_is one_is two_is three_is shown_is =
    three_is
    ∙ ap (λ text. text ++ back) (two_is ∙ ap (λ text. text ++ shown) (one_is ∙ ap (λ text. text ++ front) none_is) ∙ ap (λ text. front ++ text) shown_is)
    ∙ append_assoc front part back

-- ---- the input

-- more than 1,048,576 bytes are not a plan
too_long_for_plan : (bytes : List ℕ) (plan : Plan) → ltb 1048576 (length bytes) ≡ true → plan_of bytes ≡ Ok plan → ⊥
unfolding plan_of
too_long_for_plan bytes plan long is = let other = rw long at is in cc

-- if the bytes that the program keeps of an input are a plan, what holds of these bytes holds of the whole input
pub input_has : (P : List ℕ → Type 0) (input : Option (List ℕ)) (bytes : List ℕ) (plan : Plan) → IfSome input (λ xs. bytes ≡ kept_of xs)
    → plan_of bytes ≡ Ok plan → P bytes → IfSome input P
unfolding kept_of
input_has P None bytes plan kept is holds = tt
input_has P (Some xs) bytes plan kept is holds = elim (cases_Bool (ltb 1048576 (length xs))) [
  | inl long ↦ absurd (too_long_for_plan xs plan long (plan_from_kept (Some xs) bytes (Ok plan) kept is))
  | inr short ↦ subst P (kept ∙ take_all 1048577 xs (grind (arith, lt-ltb 1048576 (length xs), short))) holds
]
