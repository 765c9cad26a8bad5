-- Lemmas on a build's stack of leased pages: the granules of a block are appended one by one. Writing a changed stack
-- back leaves the other builds' stacks as they are.
use Rattle.std.proofs.Common.{◌≡◌, ℕ, ◌+◌, ◌<◌, ◌≤◌, List, [], ◌∷◌, ◌++◌, length, take, get_or, set, vec_len, vec_capacity}
use Rattle.std.proofs.Common.{sym, ap, ◌∙◌, subst, arith, append_assoc}
use Rattle.std.proofs.lemmas.List.{length-map, get_or-map, map-set, take_more_set}
use Rattle.std.proofs.lemmas.List.Elements.{All-set}
use Rattle.std.specs.Global.{Vec}
use Rattle.std.specs.List.{range_with_len}
use Rattle.build_journal.specs.Stacks.{contents, IsRoomy, IsKept}
use Rattle.granule_addr.proofs.Runs.{range_with_len_more}

-- if a list begins with `pages` and a block's first k granules, writing the block's next granule after them makes it
-- begin with `pages` and k + 1 granules
pub written_on : (pages before : List ℕ) (start first k granule : ℕ) → start + k < length before → granule ≡ first + k
    → take (start + k) before ≡ pages ++ range_with_len first k
    → take (start + (k + 1)) (set before (start + k) granule) ≡ pages ++ range_with_len first (k + 1)
written_on pages before start first k granule inside same before_is =
    let next : start + (k + 1) ≡ start + k + 1 = omega arith in
    ap (λ n. take n (set before (start + k) granule)) next
    ∙ take_more_set before (start + k) granule inside
    ∙ ap (λ front. front ++ granule ∷ []) before_is
    ∙ append_assoc pages (range_with_len first k) (granule ∷ [])
    ∙ ap (λ run. pages ++ run) (sym (range_with_len_more first k granule (sym same)))

module _ (stacks : List (Vec ℕ)) (at build : ℕ) (old new : Vec ℕ) (same : at ≡ build) (there : build < length (contents stacks)) (read : old ≡ get_or stacks at old) where
  inside : at < length stacks
  inside = let len = length-map stacks (λ stack. stack.items) in omega arith

  pub old_contents : get_or (contents stacks) build [] ≡ old.items
  old_contents =
      ap (λ (k : ℕ). get_or (contents stacks) k []) (sym same)
      ∙ get_or-map (λ stack. stack.items) stacks at old [] inside
      ∙ ap (λ (stack : Vec ℕ). stack.items) (sym read)

  -- if the stack `new` has the pages `f old.items`, writing `new` applies `f` to the build's pages, and leaves the
  -- pages of other builds unchanged
  pub contents_written : (f : List ℕ → List ℕ) → new.items ≡ f old.items → contents (set stacks at new) ≡ set (contents stacks) build (f (get_or (contents stacks) build []))
  contents_written f is =
      map-set (λ stack. stack.items) stacks at new
      ∙ ap (λ (k : ℕ). set (contents stacks) k new.items) same
      ∙ ap (λ (pages : List ℕ). set (contents stacks) build pages) (is ∙ ap f (sym old_contents))

  -- `IsKept` still holds after a stack is replaced by one with at least as much memory and at most `room` pages
  pub IsKept-written : (room : ℕ) → IsKept room stacks → vec_capacity old ≤ vec_capacity new → vec_len new ≤ room → IsKept room (set stacks at new)
  IsKept-written room kept memory fits =
      let was : IsRoomy room old = subst (IsRoomy room) (sym read) (kept.roomy at old inside) in
      let had = was.memory in
      record {
        few_pages = kept.few_pages;
        roomy = All-set (IsRoomy room) stacks at new (record { memory = omega arith; fits = fits }) kept.roomy;
      }
