-- The proof that the maximal free blocks determine the set of free granules.
use Rattle.std.proofs.Common.{◌≡◌, ℕ, ◌+◌, ◌<◌, Bool, true, false, List, length, get_or, sym, ap, ◌∙◌, arith}
use Rattle.std.specs.Prelude.{map}
use Rattle.std.specs.List.{list_any, range_with_len}
use Rattle.std.specs.Cmp.{both_ways}
use Rattle.std.proofs.lemmas.Bool.{eqb-true, eq-eqb}
use Rattle.std.proofs.lemmas.List.{ext_get_or}
use Rattle.std.proofs.lemmas.List.Folds.{Any-from_list_any, list_any_at}
use Rattle.std.proofs.lemmas.List.FromFn.{length-range_with_len, length-map-range_with_len, get_or-range_with_len, get_or-map-range_with_len}
use Rattle.page_arena.specs.Page.{is_free}
use Rattle.buddy.specs.Heads.{head_at, start_at, is_held_at, held, AreMaximal}
use Rattle.buddy.proofs.Aligned.{start_holds, start_is}
use Rattle.buddy.proofs.Flags.{one_page}
use Rattle.buddy.proofs.Heads.{of_head, head_of}
use Rattle.buddy.proofs.Maximal.{holder}

module _ (heads : List ℕ) (flags : List Bool) (lists : AreMaximal heads flags) (x : ℕ) where
  -- a free granule lies in a listed block
  is_held : is_free flags x ≡ true → list_any (is_held_at heads x) (range_with_len 0 10) ≡ true
  is_held free =
      let h = holder flags 0 x (omega arith) (one_page flags x free) in
      let maximal = h.2 in
      let low = maximal.low in
      let within = h.3 in
      let start : start_at x h.0 ≡ h.1 = start_is x h.0 h.1 maximal.free.aligned (omega arith, omega arith) in
      let at : head_at heads (start_at x h.0) ≡ h.0 + 1 = ap (head_at heads) start ∙ head_of heads flags lists h.0 h.1 maximal in
      let index : h.0 < length (range_with_len 0 10) = omega (arith, length-range_with_len 0 10) in
      let read : get_or (range_with_len 0 10) h.0 0 ≡ h.0 = let r = get_or-range_with_len 0 10 h.0 0 (omega arith) in omega arith in
      list_any_at (is_held_at heads x) (range_with_len 0 10) h.0 0 index (ap (is_held_at heads x) read ∙ eq-eqb (head_at heads (start_at x h.0)) (h.0 + 1) at)

  -- a granule that lies in a listed block is free
  holds_free : list_any (is_held_at heads x) (range_with_len 0 10) ≡ true → is_free flags x ≡ true
  holds_free found =
      let any = Any-from_list_any (is_held_at heads x) (range_with_len 0 10) found in
      let head = eqb-true (head_at heads (start_at x any.1)) (any.1 + 1) any.4 in
      let maximal = of_head heads flags lists any.1 (start_at x any.1) head in
      let inside = start_holds x any.1 in
      maximal.free.run.each x inside.0 inside.1

pub flags_are : (heads : List ℕ) (flags : List Bool) → AreMaximal heads flags → flags ≡ held heads
unfolding held
flags_are heads flags lists =
    let test : ℕ → Bool = λ x. list_any (is_held_at heads x) (range_with_len 0 10) in
    ext_get_or false flags (map test (range_with_len 0 (length heads))) (sym (lists.sized) ∙ sym (length-map-range_with_len test 0 (length heads))) (λ x lt.
    both_ways (is_free flags x) (test x) (is_held heads flags lists x) (holds_free heads flags lists x)
    ∙ sym (get_or-map-range_with_len test 0 (length heads) x x false (let sized = lists.sized in omega arith) (omega arith)))
