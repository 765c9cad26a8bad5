-- Proofs that the invariant of the index of free granules still holds after a block is taken or given back.
use Rattle.std.proofs.Common.{◌≡◌, ℕ, ◌+◌, ◌-◌, ◌^◌, ◌<◌, ◌≤◌, Bool, true, false, List, length, replicate, inl, inr, sym, ap, subst, ◌∙◌, arith}
use Rattle.std.proofs.Math.Nat.{mod-one}
use Rattle.std.proofs.lemmas.Bool.{cases_lt}
use Rattle.std.proofs.lemmas.List.{ext_get_or, length-replicate, get_or-replicate}
use Rattle.page_arena.specs.Page.{is_free}
use Rattle.page_arena.specs.Block.{IsRun, IsFreeBlock, IsTakenBlock, with_taken, with_given}
use Rattle.page_arena.specs.Blocks.{length-with_taken, length-with_given, is_free-with_given_inside, is_free-with_given_outside}
use Rattle.buddy.specs.MaximalBlock.{IsMaximalBlock}
use Rattle.buddy.specs.Heads.{head_at, held, AreMaximal, IsIndex}
use Rattle.buddy.proofs.Flags.{clash, first_flag}
use Rattle.buddy.proofs.Held.{flags_are}
use Rattle.buddy.proofs.Counts.{count_of, count_of_free, count_of_most, count_of-with_taken, count_of-with_given}
use Rattle.granule_addr.proofs.Same.{same_each}

-- if `AreMaximal` holds with some flags, `AreMaximal` also holds with the flags that `held` computes from the listed
-- blocks
pub seen : (heads : List ℕ) (flags : List Bool) → AreMaximal heads flags → AreMaximal heads (held heads)
seen heads flags lists = subst (AreMaximal heads) (flags_are heads flags lists) lists

module _ (count : ℕ) (heads now : List ℕ) (order first : ℕ) (index : IsIndex count heads) where
  abbrev flags : List Bool
  flags = held heads

  module _ (block : IsFreeBlock flags order first) (lists : AreMaximal now (with_taken flags order first)) where
    taken_fewer : count_of (with_taken flags order first) + 2 ^ order ≡ count
    taken_fewer = count_of-with_taken flags order first block ∙ sym index.counted

    pub taken_count : 2 ^ order ≤ count
    taken_count = let fewer = taken_fewer in omega arith

    pub taken_index : IsIndex (count - 2 ^ order) now
    taken_index =
        let same : with_taken flags order first ≡ held now = flags_are now (with_taken flags order first) lists in
        let sized = lists.sized in let before = index.lists.sized in let few = index.few in let len = length-with_taken flags order first block in
        let fewer = taken_fewer in let counted = ap count_of same in
        record { few = omega arith; lists = seen now (with_taken flags order first) lists; counted = omega arith }

  module _ (block : IsTakenBlock flags order first) (lists : AreMaximal now (with_given flags order first)) where
    given_more : count_of (with_given flags order first) ≡ count + 2 ^ order
    given_more = count_of-with_given flags order first block ∙ ap (λ (n : ℕ). n + 2 ^ order) (sym index.counted)

    pub given_count : count + 2 ^ order ≤ 4096
    given_count =
        let more = given_more in let most = count_of_most (with_given flags order first) in let len = length-with_given flags order first block in
        let before = index.lists.sized in let few = index.few in omega arith

    pub more_index : IsIndex (count + 2 ^ order) now
    more_index =
        let same : with_given flags order first ≡ held now = flags_are now (with_given flags order first) lists in
        let sized = lists.sized in let before = index.lists.sized in let few = index.few in let len = length-with_given flags order first block in
        let more = given_more in let counted = ap count_of same in
        record { few = omega arith; lists = seen now (with_given flags order first) lists; counted = omega arith }

-- ---- the granules of a machine are freed one by one, from the last to the first

-- exactly the granules from `granule` on are free
pub record IsGivenFrom (n granule : ℕ) (heads : List ℕ) : Type 0 where
  pub lists : AreMaximal heads (held heads)
  pub sized : length (held heads) ≡ n
  pub taken : IsRun false (held heads) 0 granule
  pub free : (x : ℕ) → granule ≤ x → x < n → is_free (held heads) x ≡ true
  pub inside : granule ≤ n

none_free : (n : ℕ) → AreMaximal (replicate n 0) (replicate n false)
none_free n = record {
  sized = length-replicate n 0 ∙ sym (length-replicate n false);
  each = λ order first. (
    λ (head : head_at (replicate n 0) first ≡ order + 1). let none : head_at (replicate n 0) first ≡ 0 = same_each n first 0 in absurd (omega arith),
    λ (maximal : IsMaximalBlock (replicate n false) order first). clash (is_free (replicate n false) first) (first_flag true (replicate n false) order first maximal.free) (same_each n first false),
  );
}

pub given_none : (n : ℕ) → IsGivenFrom n n (replicate n 0)
given_none n =
    let same = flags_are (replicate n 0) (replicate n false) (none_free n) in
    record {
      lists = seen (replicate n 0) (replicate n false) (none_free n);
      sized = ap length (sym same) ∙ length-replicate n false;
      taken = record { each = λ x low high. ap (λ (flags : List Bool). is_free flags x) (sym same) ∙ same_each n x false };
      free = λ x low high. absurd (omega arith);
      inside = omega arith;
    }

module _ (n granule : ℕ) (heads : List ℕ) (given : IsGivenFrom n granule heads) where
  module _ (some : 0 < granule) where
    pub taken_page : IsTakenBlock (held heads) 0 (granule - 1)
    taken_page =
        let sized = given.sized in let inside = given.inside in
        record {
          aligned = mod-one (granule - 1);
          inside = omega arith;
          run = record { each = λ x low high. given.taken.each x (omega arith) (omega arith) };
        }

    pub given_page : (now : List ℕ) → AreMaximal now (with_given (held heads) 0 (granule - 1)) → IsGivenFrom n (granule - 1) now
    given_page now lists =
        let block = taken_page in
        let same = flags_are now (with_given (held heads) 0 (granule - 1)) lists in
        let inside = given.inside in
        let now_is : (x : ℕ) → is_free (held now) x ≡ is_free (with_given (held heads) 0 (granule - 1)) x = λ x. ap (λ (flags : List Bool). is_free flags x) (sym same) in
        record {
          lists = seen now (with_given (held heads) 0 (granule - 1)) lists;
          sized = ap length (sym same) ∙ length-with_given (held heads) 0 (granule - 1) block ∙ given.sized;
          taken = record { each = λ x low high. now_is x ∙ is_free-with_given_outside (held heads) 0 (granule - 1) block x (inl (omega arith)) ∙ given.taken.each x low (omega arith) };
          free = λ x low high.
              now_is x
              ∙ elim (cases_lt x granule) [
                | inl less ↦ is_free-with_given_inside (held heads) 0 (granule - 1) block x low (omega arith)
                | inr le ↦ is_free-with_given_outside (held heads) 0 (granule - 1) block x (inr (omega arith)) ∙ given.free x le high
              ];
          inside = omega arith;
        }

  module _ (none : granule ≡ 0) where
    pub given_all : held heads ≡ replicate n true
    given_all = ext_get_or false (held heads) (replicate n true) (given.sized ∙ sym (length-replicate n true)) (λ x lt.
        let sized = given.sized in given.free x (omega arith) (omega arith) ∙ sym (get_or-replicate n x true false (omega arith)))

    pub given_index : n ≤ 4096 → IsIndex n heads
    given_index few = let sized = given.lists.sized in let len = given.sized in record {
      few = omega arith;
      lists = given.lists;
      counted = sym (ap count_of given_all ∙ count_of_free n);
    }
