use Rattle.std.proofs.Common.{◌≡◌, ℕ, ◌+◌, ◌<◌, ◌≤◌, List, length, set, get_or, sym, ap, ◌∙◌, arith, length-set}
use Rattle.std.proofs.lemmas.List.{get_or_read}
use Rattle.buddy.specs.Heads.{head_at}
use Rattle.buddy.specs.Links.{IsLinked}
use Rattle.buddy.specs.FirstBlock.{ListsView}
use Rattle.buddy.proofs.Linking.{take_between, take_last, take_front, take_only, recounted}
use Rattle.buddy.proofs.links.Links.take_out.Goals as goal
use Rattle.buddy.proofs.links.Links.take_out.Goals.{then-prev-len, else-prev-len}

-- The lists are linked after the block at granule `g` is removed, whether it has both neighbours, only a previous one,
-- only a next one, or none.
record Without (heads next prev firsts : List ℕ) (g k p n : ℕ) : Type 0 where
  between : p < length heads → n < length heads → IsLinked (length (set heads g 0)) (set heads g 0) (set next p n) (set prev n p) firsts
  last : p < length heads → length heads ≤ n → IsLinked (length (set heads g 0)) (set heads g 0) (set next p n) prev firsts
  front : length heads ≤ p → n < length heads → IsLinked (length (set heads g 0)) (set heads g 0) next (set prev n p) (set firsts k n)
  only : length heads ≤ p → length heads ≤ n → IsLinked (length (set heads g 0)) (set heads g 0) next prev (set firsts k n)

without : {heads next prev firsts : List ℕ} {p n : ℕ} (g k : ℕ) → IsLinked (length heads) heads next prev firsts → head_at heads g ≡ k + 1
    → p ≡ get_or prev g p → n ≡ get_or next g n → Without heads next prev firsts g k p n
without {heads = heads} {next = next} {prev = prev} {p = p} {n = n} g k linked head p_read n_read =
    let inside = (linked.low g k head).1 in
    let sized = linked.sized in
    let p_is = get_or_read prev g p (omega arith) p_read 0 in
    let n_is = get_or_read next g n (omega arith) n_read 0 in
    let same = length-set heads g 0 in
    record {
      between = λ a b. recounted (sym same) (take_between _ _ _ _ _ linked g k p n head p_is n_is a b);
      last = λ a b. recounted (sym same) (take_last _ _ _ _ _ linked g k p n head p_is n_is a b);
      front = λ a b. recounted (sym same) (take_front _ _ _ _ _ linked g k p n head p_is n_is a b);
      only = λ a b. recounted (sym same) (take_only _ _ _ _ _ linked g k p n head p_is n_is a b);
    }

pub invariant_of-self : goal.invariant_of-self
invariant_of-self c =
    let now = without c.args.granule c.args.order c.self.invariant (ap (λ (lists : ListsView). head_at lists.heads c.args.granule) c.self.view_is ∙ c.requires.head) c.index-prev.ensures c.index-next.ensures in
    elim c.if-prev-len.branch [
      | then-prev-len w ↦ let same = ap (λ links. length links.heads.items) w.self-inside-is in
          rw w.self-inside-is (now.between (omega (arith, w.if-prev-len.true, length-set {A = ℕ})) (omega (arith, length-set {A = ℕ})))
      | else-prev-len w ↦ let same = ap (λ links. length links.heads.items) w.self-inside-is in
          rw w.self-inside-is (now.front (omega (arith, w.if-prev-len.false, length-set {A = ℕ})) (omega (arith, length-set {A = ℕ})))
    ]

pub invariant_of-self-else-next-len : goal.invariant_of-self-else-next-len
invariant_of-self-else-next-len c =
    let now = without c.args.granule c.args.order c.self.invariant (ap (λ (lists : ListsView). head_at lists.heads c.args.granule) c.self.view_is ∙ c.requires.head) c.index-prev.ensures c.index-next.ensures in
    elim c.if-prev-len.branch [
      | then-prev-len w ↦ let same = ap (λ links. length links.heads.items) w.self-inside-is in
          rw w.self-inside-is (now.last (omega (arith, w.if-prev-len.true, length-set {A = ℕ})) (omega (arith, length-set {A = ℕ})))
      | else-prev-len w ↦ let same = ap (λ links. length links.heads.items) w.self-inside-is in
          rw w.self-inside-is (now.only (omega (arith, w.if-prev-len.false, length-set {A = ℕ})) (omega (arith, length-set {A = ℕ})))
    ]
