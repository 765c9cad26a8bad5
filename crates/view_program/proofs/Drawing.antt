-- The loop invariant of a run in which each turn's build is drawn at random, and proofs that each turn preserves it.
use Rattle.std.proofs.Common.{◌≡◌, ℕ, ◌+◌, ◌%◌, zero, suc, Bool, true, false, cond, if◌then◌else◌, List, [], ◌∷◌, ◌++◌, append-nil, length, Some, None, refl, ap, sym, subst, ◌∙◌, arith}
use Rattle.std.specs.Prelude.{filter, find, slice_get}
use Rattle.std.specs.List.{range_with_len}
use Rattle.std.proofs.lemmas.List.Elements.{filter-append}
use Rattle.std.proofs.lemmas.Option.{slice_get-get_or}
use Rattle.std.proofs.lemmas.Nat.{mod_below}
use Rattle.granule_addr.proofs.Runs.{range_with_len_more}
use Rattle.rand_core.specs.Stream.{Stream, next_u32}
use Rattle.realm_plan.specs.Plan.{Plan}
use Rattle.view_program.specs.Chosen.{could, builds_left, lowest_of, Stage, IsStageTurn, AreChosen}
use Rattle.view_program.specs.Drawn.{builds_with_steps, drawn, AreDrawn, IsDrawnTo}
use Rattle.view_program.specs.declared.schedules.choice.Choice.{Choice}
use Rattle.view_program.proofs.Chosen.{AreChosen-more}

-- ---- what is drawn

kept_at : (p : ℕ → Bool) (y : ℕ) (ys : List ℕ) → ((j x : ℕ) → slice_get ys j ≡ Some x → p x ≡ true) → p y ≡ true → (i x : ℕ)
    → slice_get (y ∷ ys) i ≡ Some x → p x ≡ true
kept_at p y ys others here zero x got = let same : y ≡ x = cc in subst (λ z. p z ≡ true) same here
kept_at p y ys others here (suc j) x got = others j x got

kept_is : (p : ℕ → Bool) (xs : List ℕ) (i x : ℕ) → slice_get (filter p xs) i ≡ Some x → p x ≡ true
kept_is p [] i x is = absurd cc
kept_is p (y ∷ xs) i x is =
    elim (p y) as (λ b. p y ≡ b → slice_get (cond b (y ∷ filter p xs) (filter p xs)) i ≡ Some x → p x ≡ true) [
      | true ↦ λ here got. kept_at p y (filter p xs) (kept_is p xs) here i x got
      | false ↦ λ out got. kept_is p xs i x got
    ] refl is

-- ---- which have a step left

abbrev kept_below : (ℕ → Bool) → ℕ → List ℕ
kept_below p n = filter p (range_with_len 0 n)

kept_more : (p : ℕ → Bool) (n : ℕ) → kept_below p (n + 1) ≡ kept_below p n ++ (if p n then n ∷ [] else [])
kept_more p n = ap (filter p) (range_with_len_more 0 n n (omega arith)) ∙ filter-append p (range_with_len 0 n) (n ∷ [])

pub kept_with : (p : ℕ → Bool) (n : ℕ) → p n ≡ true → kept_below p n ++ n ∷ [] ≡ kept_below p (n + 1)
kept_with p n is = sym (kept_more p n ∙ ap (λ b. kept_below p n ++ (if b then n ∷ [] else [])) is)

pub kept_without : (p : ℕ → Bool) (n : ℕ) → p n ≡ false → kept_below p n ≡ kept_below p (n + 1)
kept_without p n is = sym (kept_more p n ∙ ap (λ b. kept_below p n ++ (if b then n ∷ [] else [])) is ∙ append-nil (kept_below p n))

-- a build that is drawn has a step left
pub drawn_could : (stream : Stream) (left : List Bool) (build : ℕ) → drawn stream left ≡ Some build → could left build ≡ true
unfolding builds_with_steps
drawn_could stream left build is = kept_is (could left) (range_with_len 0 8) ((next_u32 stream).0 % length (builds_with_steps left)) build is

none_kept : (p : ℕ → Bool) (xs : List ℕ) → filter p xs ≡ [] → find p xs ≡ None
none_kept p [] none = refl
none_kept p (y ∷ xs) none =
    elim (p y) as (λ b. cond b (y ∷ filter p xs) (filter p xs) ≡ [] → cond b (Some y) (find p xs) ≡ None) [
      | true ↦ λ some. absurd cc
      | false ↦ λ rest. none_kept p xs rest
    ] none

none_there : (ns : List ℕ) (n : ℕ) → slice_get ns (n % length ns) ≡ None → ns ≡ []
none_there [] n none = refl
none_there (x ∷ ns) n none = absurd (let some = slice_get-get_or (x ∷ ns) (n % length (x ∷ ns)) x (mod_below n (length (x ∷ ns)) (omega arith)) in let e = sym none ∙ some in cc)

-- if no build is drawn, no build has a step left
none_lowest : (stream : Stream) (left : List Bool) → drawn stream left ≡ None → lowest_of left ≡ None
unfolding builds_with_steps lowest_of
none_lowest stream left none = none_kept (could left) (range_with_len 0 8) (none_there (builds_with_steps left) (next_u32 stream).0 none)

-- ---- so far

pub record IsDrawing (plan : Plan) (stream : Stream) (from : Stage) (choices : List Choice) (to : Stage) (after : Stream) : Type 0 where
  pub are_drawn : AreDrawn stream choices after
  pub chosen : AreChosen plan from choices to

pub IsDrawing-none : (plan : Plan) (stream : Stream) (from : Stage) (choices : List Choice) → choices ≡ [] → IsDrawing plan stream from choices from stream
IsDrawing-none plan stream from choices none = rw none (record { are_drawn = refl; chosen = refl })

AreDrawn-more : (stream : Stream) (choices : List Choice) (at : Stream) (choice : Choice) → AreDrawn stream choices at → drawn at choice.left ≡ Some choice.build
    → AreDrawn stream (choices ++ choice ∷ []) (next_u32 at).1
AreDrawn-more stream [] at choice is draws = (subst (λ s. drawn s choice.left ≡ Some choice.build) is draws, ap (λ s. (next_u32 s).1) is)
AreDrawn-more stream (c ∷ choices) at choice is draws = (is.0, AreDrawn-more (next_u32 stream).1 choices at choice is.1 draws)

pub IsDrawing-more :
    (plan : Plan) (stream : Stream) (from : Stage) (choices : List Choice) (at : Stage) (choice : Choice) (to : Stage) (new : List Choice) (now after : Stream)
    → IsDrawing plan stream from choices at now
    → choice.left ≡ builds_left plan at.at.places → drawn now choice.left ≡ Some choice.build → IsStageTurn plan at choice.build to
    → new ≡ choices ++ choice ∷ [] → after ≡ (next_u32 now).1
    → IsDrawing plan stream from new to after
IsDrawing-more plan stream from choices at choice to new now after is left draws step pushed used = rw (pushed, used) (record {
  are_drawn = AreDrawn-more stream choices now choice is.are_drawn draws;
  chosen = AreChosen-more plan from choices at choice to is.chosen (record { left = left; could = drawn_could now choice.left choice.build draws }) step;
})

pub IsDrawnTo-whole :
    (plan : Plan) (stream : Stream) (from : Stage) (choices : List Choice) (to : Stage) (now after : Stream) (left : List Bool)
    → IsDrawing plan stream from choices to now → left ≡ builds_left plan to.at.places → drawn now left ≡ None → after ≡ now
    → IsDrawnTo plan stream from choices to after
IsDrawnTo-whole plan stream from choices to now after left is same none unused = rw unused (record {
  are_drawn = is.are_drawn;
  chosen = is.chosen;
  whole = subst (λ l. lowest_of l ≡ None) same (none_lowest now left none);
})
