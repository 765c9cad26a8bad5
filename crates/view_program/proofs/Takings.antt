-- The invariant of the loop that applies a history's lines to a host, and proofs that each line preserves it.
use Rattle.std.proofs.Common.{◌≡◌, ◌↔◌, Bool, true, false, Ok, Err, ℕ, ◌+◌, ◌<◌, List, [], ◌∷◌, ◌++◌, length, length-append, Option, Some, None}
use Rattle.std.proofs.Common.{IfSome, refl, sym, ap, ◌∙◌, append_assoc, arith, subst}
use mathlib.Core.List.{append-nil}
use Rattle.host_ledger.specs.View.{HostView}
use Rattle.realm_host.specs.Recorded.{fresh_like}
use Rattle.checked_io.specs.Lines.{lines_in, IsLine, HasLongLine}
use Rattle.history_text.proofs.Short.{event_is_short}
use Rattle.view_program.specs.Applied.{IsLineTaken, AreTaken, IsNoEvent}
use Rattle.view_program.specs.Taking.{AreLinesTaken, IsUntaken, AreCutShort, AreNotTaken}
use Rattle.view_program.specs.declared.fault.ViewError.{ViewError}
use Rattle.view_program.specs.declared.fault.ViewError.TheVariants.{NoPlan, Plan, NoOpening, NoEvent, Refused, EraseNamesNoBuild, OrderOutsideLimits, Memory, Device}

-- ---- what was read

abbrev pub Took : Option (List ℕ) → List (List ℕ) → Option (List ℕ) → Type 0
Took None lines now = Unit {0}
Took (Some xs) lines None = ⊥
Took (Some xs) lines (Some ys) = lines_in xs ≡ lines ++ lines_in ys

took_none : (start : Option (List ℕ)) → Took start [] start
took_none None = tt
took_none (Some xs) = refl

took_more : (start now next : Option (List ℕ)) (lines : List (List ℕ)) (line : List ℕ) → Took start lines now → IsLine now line next → Took start (lines ++ line ∷ []) next
took_more None now next lines line h k = tt
took_more (Some xs) None next lines line h k = absurd h
took_more (Some xs) (Some ys) None lines line h k = absurd k
took_more (Some xs) (Some ys) (Some zs) lines line h k = h ∙ ap (λ (t : List (List ℕ)). lines ++ t) k ∙ sym (append_assoc lines (line ∷ []) (lines_in zs))

-- ---- what was taken

taken_more : (old : HostView) (lines : List (List ℕ)) (mid : HostView) (line : List ℕ) (new : HostView) → AreTaken old lines mid → IsLineTaken mid line new → AreTaken old (lines ++ line ∷ []) new
taken_more old [] mid line new h k = (new, subst (λ (it : HostView). IsLineTaken it line new) h k, refl)
taken_more old (first ∷ more) mid line new h k = (h.0, h.1, taken_more h.0 more mid line new h.2 k)

pub length-taken_one : (old : HostView) (line : List ℕ) (new : HostView) → IsLineTaken old line new → length new.history ≡ length old.history + 1
length-taken_one old line new is = ap (λ (it : HostView). length it.history) is.grows ∙ length-append old.history (is.event ∷ [])

pub length-taken : (old : HostView) (lines : List (List ℕ)) (new : HostView) → AreTaken old lines new → length new.history ≡ length old.history + length lines
length-taken old [] new h = ap (λ (it : HostView). length it.history) h ∙ omega arith
length-taken old (line ∷ more) new h =
    let here : length h.0.history ≡ length old.history + 1 = length-taken_one old line h.0 h.1 in
    let there : length new.history ≡ length h.0.history + length more = length-taken h.0 more new h.2 in
    omega (arith, here, there)

pub fresh_like-taken : (old : HostView) (lines : List (List ℕ)) (new : HostView) → AreTaken old lines new → fresh_like new ≡ fresh_like old
fresh_like-taken old [] new h = ap fresh_like h
fresh_like-taken old (line ∷ more) new h = fresh_like-taken h.0 more new h.2 ∙ ap fresh_like h.1.grows

-- ---- so far

pub record SoFar (start now : Option (List ℕ)) (old mid : HostView) : Type 0 where
  pub lines : List (List ℕ)
  pub took : Took start lines now
  pub taken : AreTaken old lines mid

pub so_far_none : (start : Option (List ℕ)) (old : HostView) → SoFar start start old old
so_far_none start old = record { lines = []; took = took_none start; taken = refl }

module _ (start now : Option (List ℕ)) (old mid : HostView) (s : SoFar start now old mid) where
  pub so_far_more : (next : Option (List ℕ)) (line : List ℕ) (new : HostView) → IsLine now line next → IsLineTaken mid line new → SoFar start next old new
  so_far_more next line new is taken = record {
    lines = s.lines ++ line ∷ [];
    took = took_more start now next s.lines line s.took is;
    taken = taken_more old s.lines mid line new s.taken taken;
  }

  at_end : (start' now' : Option (List ℕ)) → Took start' s.lines now' → IfSome now' (λ bytes. lines_in bytes ≡ []) → IfSome start' (λ bytes. lines_in bytes ≡ s.lines)
  at_end None now' took end = tt
  at_end (Some xs) None took end = absurd took
  at_end (Some xs) (Some ys) took end = took ∙ ap (λ (t : List (List ℕ)). s.lines ++ t) end ∙ append-nil s.lines

  pub all_taken : IfSome now (λ bytes. lines_in bytes ≡ []) → AreLinesTaken start old mid
  all_taken end = record { lines = s.lines; of_input = at_end start now s.took end; taken = s.taken }

  -- ---- up to a line that is not taken

  cut_at : (start' now' : Option (List ℕ)) (line : List ℕ) (fault : ViewError) → Took start' s.lines now'
      → IfSome now' (λ bytes. (more : List (List ℕ)) × (lines_in bytes ≡ line ∷ more)) → IsUntaken mid line fault
      → IfSome start' (λ bytes. AreCutShort old (lines_in bytes) fault)
  cut_at None now' line fault took is untaken = tt
  cut_at (Some xs) None line fault took is untaken = absurd took
  cut_at (Some xs) (Some ys) line fault took is untaken = record {
    before = s.lines;
    line = line;
    after = is.0;
    mid = mid;
    split = took ∙ ap (λ (t : List (List ℕ)). s.lines ++ t) is.1;
    taken = s.taken;
    untaken = untaken;
  }

  next_is : (now' next : Option (List ℕ)) (line : List ℕ) → IsLine now' line next → IfSome now' (λ bytes. (more : List (List ℕ)) × (lines_in bytes ≡ line ∷ more))
  next_is None next line is = tt
  next_is (Some xs) None line is = absurd is
  next_is (Some xs) (Some ys) line is = (lines_in ys, is)

  pub not_taken : (next : Option (List ℕ)) (line : List ℕ) (fault : ViewError) → IsLine now line next → IsUntaken mid line fault → AreNotTaken start old fault
  not_taken next line (NoPlan errors) is untaken = absurd untaken
  not_taken next line (Plan fault) is untaken = absurd untaken
  not_taken next line NoOpening is untaken = absurd untaken
  not_taken next line (NoEvent number) is untaken = cut_at start now line (NoEvent number) s.took (next_is now next line is) untaken
  not_taken next line (Refused number why words) is untaken = cut_at start now line (Refused number why words) s.took (next_is now next line is) untaken
  not_taken next line EraseNamesNoBuild is untaken = absurd untaken
  not_taken next line OrderOutsideLimits is untaken = absurd untaken
  not_taken next line Memory is untaken = tt
  not_taken next line Device is untaken = tt

  long_is_none : (line : List ℕ) → 256 < length line → IsNoEvent line
  long_is_none line long = λ event is. let short = event_is_short line event is in absurd (omega (arith, short, long))

  cut_long : (start' now' : Option (List ℕ)) (number : ℕ) → Took start' s.lines now' → IfSome now' (HasLongLine 256) → number ≡ length mid.history + 2
      → IfSome start' (λ bytes. AreCutShort old (lines_in bytes) (NoEvent number))
  cut_long None now' number took is same = tt
  cut_long (Some xs) None number took is same = absurd took
  cut_long (Some xs) (Some ys) number took is same = record {
    before = s.lines;
    line = is.line;
    after = is.more;
    mid = mid;
    split = took ∙ ap (λ (t : List (List ℕ)). s.lines ++ t) is.lines;
    taken = s.taken;
    untaken = (same, long_is_none is.line is.long);
  }

  pub too_long : (number : ℕ) → IfSome now (HasLongLine 256) → number ≡ length mid.history + 2 → AreNotTaken start old (NoEvent number)
  too_long number is same = cut_long start now number s.took is same

-- if the outcome is `Ok`, and a read failed exactly if the outcome is `error`, no read failed
pub unfailed : {A E : Type 0} (failed : Bool) (it : A) (error : E) → (failed ≡ true) ↔ (Ok it ≡ Err error) → failed ≡ false
unfailed false it error told = refl
unfailed true it error told = let failed = told.0 refl in absurd (cc)
