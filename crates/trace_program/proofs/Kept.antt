-- Proofs that the bytes kept of a line, at most 65,537, do not depend on the parts in which the line is read.
use Rattle.std.proofs.Common.{◌≡◌, ℕ, ◌+◌, ◌-◌, ◌<◌, ◌≤◌, List, [], ◌∷◌, ◌++◌, length, take, sym, ap, ◌∙◌, subst, arith, append-nil, inl, inr, ltb, ltb-true, ltb-false}
use Rattle.std.proofs.lemmas.Bool.{cases_Bool}
use Rattle.std.proofs.lemmas.List.{take_all, take-append-le, length-take}
use Rattle.std.proofs.Math.Seq.{take-append-add}
use Rattle.trace_program.specs.Reading.{kept_of_line}

-- a list that is `room` bytes short of `n`, followed by the first `room` bytes of a part, is the first `n` bytes of the
-- list and the part together
short_kept : (n room : ℕ) (rest part : List ℕ) → length rest + room ≡ n → rest ++ take room part ≡ take n (rest ++ part)
short_kept n room rest part is = sym (ap (λ k. take k (rest ++ part)) (sym is) ∙ take-append-add rest part room)

part_kept : (n : ℕ) (rest part : List ℕ) → take n rest ++ take (n - length (take n rest)) part ≡ take n (rest ++ part)
part_kept n rest part =
    let size = length-take n rest in
    elim (cases_Bool (ltb n (length rest))) [
      | inl e ↦
          let long = ltb-true n (length rest) e in
          let none : n - length (take n rest) ≡ 0 = omega (arith, size, long) in
          rw none (append-nil (take n rest) ∙ sym (take-append-le n rest part (omega (arith, long))))
      | inr e ↦
          let short = ltb-false n (length rest) e in
          let all : take n rest ≡ rest = take_all n rest short in
          rw all (short_kept n (n - length rest) rest part (omega (arith, short)))
    ]

pub kept_part : (line rest part : List ℕ) → line ≡ kept_of_line rest → line ++ take (65537 - length line) part ≡ kept_of_line (rest ++ part)
unfolding kept_of_line
kept_part line rest part is = rw is (part_kept 65537 rest part)

pub kept_none : kept_of_line [] ≡ []
unfolding kept_of_line
kept_none = take_all 65537 [] (omega arith)

-- if nothing is kept of a line, the line is empty
pub none_kept : (line rest : List ℕ) → line ≡ kept_of_line rest → length line ≡ 0 → length rest ≡ 0
unfolding kept_of_line
none_kept line rest is l = let size = length-take 65537 rest in let zero : length (take 65537 rest) ≡ 0 = subst (λ (t : List ℕ). length t ≡ 0) is l in omega (arith, size, zero)

pub some_kept : (line rest : List ℕ) → line ≡ kept_of_line rest → 0 < length line → 0 < length rest
unfolding kept_of_line
some_kept line rest is l = let size = length-take 65537 rest in let some : 0 < length (take 65537 rest) = subst (λ (t : List ℕ). 0 < length t) is l in omega (arith, size, some)
