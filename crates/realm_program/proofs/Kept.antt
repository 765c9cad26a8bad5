-- Proofs that the bytes read from an input are the whole input, or the first 1,048,577 bytes of a longer one.
use Rattle.std.proofs.Common.{◌≡◌, ℕ, ◌+◌, ◌≤◌, List, [], ◌++◌, length, take, Option, Some, None, sym, ap, ◌∙◌, arith}
use mathlib.Core.List.{append-nil}
use Rattle.std.specs.Prelude.{IfSome}
use Rattle.std.specs.Io.KnownBytes.{Consumes, IsAtEnd}
use Rattle.std.proofs.Math.Seq.{take-append_seam}
use Rattle.std.proofs.lemmas.List.{take_all, length-append}
use Rattle.realm_program.specs.Whole.{kept_of, ReadsOnce}

-- if `kept` bytes were read from an input, they are its first `kept` bytes
taken_at_limit : (kept : ℕ) (xs ys front : List ℕ) → xs ≡ front ++ ys → length front ≡ kept → front ≡ take kept xs
taken_at_limit kept xs ys front joined full = rw (joined, ← full) (sym (take-append_seam front ys))

-- if an input has at most `kept` bytes and all were read, cutting the input off after `kept` bytes gives the bytes read
taken_at_end : (kept : ℕ) (xs ys front : List ℕ) → xs ≡ front ++ ys → ys ≡ [] → length front ≤ kept → front ≡ take kept xs
taken_at_end kept xs ys front joined none few =
    let whole : xs ≡ front = joined ∙ ap (λ t. front ++ t) none ∙ append-nil front in
    rw whole (sym (take_all kept front few))

pub kept_at_limit : (a b : Option (List ℕ)) (front : List ℕ) → Consumes a b front → length front ≡ 1048577 → IfSome a (λ xs. front ≡ kept_of xs)
unfolding kept_of
kept_at_limit None b front h full = tt
kept_at_limit (Some xs) None front h full = absurd h
kept_at_limit (Some xs) (Some ys) front h full = taken_at_limit 1048577 xs ys front h full

-- if at most 1,048,577 bytes were read, and the next read reached the end without a byte, `kept_of` gives the bytes
-- read
pub kept_at_end : (a b c : Option (List ℕ)) (front more : List ℕ) → Consumes a b front → Consumes b c more → more ≡ [] → IsAtEnd c → length front ≤ 1048577 → IfSome a (λ xs. front ≡ kept_of xs)
unfolding kept_of
kept_at_end None b c front more h k none ends few = tt
kept_at_end (Some xs) None c front more h k none ends few = absurd h
kept_at_end (Some xs) (Some ys) None front more h k none ends few = absurd k
kept_at_end (Some xs) (Some ys) (Some zs) front more h k none ends few =
    taken_at_end 1048577 xs ys front h (k ∙ ap (λ t. t ++ zs) none ∙ ends) few

-- if each read but the last gave a byte or more, there was at most one read for each byte and one for the end
pub reads_once : (a b : Option (List ℕ)) (front : List ℕ) (old new count : ℕ) → Consumes a b front → count ≤ length front → new ≤ old + (count + 1)
    → ReadsOnce a old new
reads_once None b front old new count taken few is = tt
reads_once (Some xs) None front old new count taken few is = absurd taken
reads_once (Some xs) (Some ys) front old new count taken few is =
    let whole : length xs ≡ length front + length ys = ap length taken ∙ length-append front ys in
    omega (arith, whole, few, is)
