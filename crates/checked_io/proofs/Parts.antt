-- Proofs that the first line of a byte string goes up to the first line feed, or else to the end of the string.
use Rattle.std.proofs.Common.{◌≡◌, ℕ, ◌<◌, ◌==◌, not, true, false, List, [], ◌∷◌, ◌++◌, length, refl, ap, ◌∙◌, arith}
use Rattle.std.specs.List.{onto_first, list_all}
use Rattle.std.proofs.lemmas.Bool.{and_parts, not-true}
use Rattle.std.proofs.lemmas.List.Splits.{length-slice_split}
use Rattle.checked_io.specs.Lines.{parts_of, last_line, without_empty_last, lines_in, HasLongLine}

-- the bytes have no line feed
abbrev pub HasNoFeed : List ℕ → Type 0
HasNoFeed bytes = list_all (λ b. not (b == 10)) bytes ≡ true

no_feed_cons : (b : ℕ) (bytes : List ℕ) → HasNoFeed (b ∷ bytes) → ((b == 10) ≡ false) × HasNoFeed bytes
no_feed_cons b bytes h = let parts = and_parts (not (b == 10)) (list_all (λ c. not (c == 10)) bytes) h in (not-true (b == 10) parts.0, parts.1)

pub no_feed_more : (bytes : List ℕ) (b : ℕ) → HasNoFeed bytes → (b == 10) ≡ false → HasNoFeed (bytes ++ b ∷ [])
no_feed_more [] b h other = rw other refl
no_feed_more (c ∷ bytes) b h other =
    let parts = and_parts (not (c == 10)) (list_all (λ d. not (d == 10)) bytes) h in
    rw (parts.0) (no_feed_more bytes b parts.1 other)

-- the bytes before the first line feed are the first part, and the bytes after it give the other parts
parts_feed : (line ys : List ℕ) → HasNoFeed line → parts_of (line ++ 10 ∷ ys) ≡ line ∷ parts_of ys
parts_feed [] ys h = refl
parts_feed (b ∷ line) ys h =
    let (other, more) = no_feed_cons b line h in
    rw other (ap (λ (t : List (List ℕ)). onto_first b t) (parts_feed line ys more))

not_last : (line : List ℕ) (parts : List (List ℕ)) → 0 < length parts → without_empty_last (line ∷ parts) ≡ line ∷ without_empty_last parts
not_last line [] some = absurd (omega (arith, some))
not_last line (next ∷ more) some = refl

pub lines_feed : (line ys : List ℕ) → HasNoFeed line → lines_in (line ++ 10 ∷ ys) ≡ line ∷ lines_in ys
lines_feed line ys h =
    ap without_empty_last (parts_feed line ys h)
    ∙ not_last line (parts_of ys) (omega (arith, length-slice_split (λ b. b == 10) ys))

-- bytes without a line feed are a single part
parts_last : (line : List ℕ) → HasNoFeed line → parts_of line ≡ line ∷ []
parts_last [] h = refl
parts_last (b ∷ line) h =
    let (other, more) = no_feed_cons b line h in
    rw other (ap (λ (t : List (List ℕ)). onto_first b t) (parts_last line more))

some_last : (line : List ℕ) → 0 < length line → last_line line ≡ line ∷ []
some_last [] some = absurd (omega (arith, some))
some_last (b ∷ line) some = refl

pub lines_last : (line : List ℕ) → HasNoFeed line → 0 < length line → lines_in line ≡ line ∷ []
lines_last line h some = ap without_empty_last (parts_last line h) ∙ some_last line some

-- the first part of `bytes`, which ends at the first line feed or at the end, is longer than `line`
pub record GoesOn (line bytes : List ℕ) : Type 0 where
  pub whole : List ℕ
  pub more : List (List ℕ)
  pub parts : parts_of bytes ≡ whole ∷ more
  pub longer : length line < length whole

first_part : (b : ℕ) (ys : List ℕ) → (b == 10) ≡ false → (ps : List (List ℕ)) → parts_of ys ≡ ps → 0 < length ps → GoesOn [] (b ∷ ys)
first_part b ys other [] is some = absurd (omega (arith, some))
first_part b ys other (p ∷ more) is some = record { whole = b ∷ p; more = more; parts = rw (other, is) refl; longer = omega arith }

goes_on : (line : List ℕ) (b : ℕ) (ys : List ℕ) → HasNoFeed line → (b == 10) ≡ false → GoesOn line (line ++ b ∷ ys)
goes_on [] b ys h other = first_part b ys other (parts_of ys) refl (omega (arith, length-slice_split (λ c. c == 10) ys))
goes_on (c ∷ line) b ys h other =
    let (apart, rest) = no_feed_cons c line h in
    let on = goes_on line b ys rest other in
    record { whole = c ∷ on.whole; more = on.more; parts = rw (apart, on.parts) refl; longer = omega (arith, on.longer) }

first_line : (line : List ℕ) (more : List (List ℕ)) → 0 < length line → (rest : List (List ℕ)) × (without_empty_last (line ∷ more) ≡ line ∷ rest)
first_line line [] some = ([], some_last line some)
first_line line (next ∷ more) some = (without_empty_last (next ∷ more), refl)

pub long_line : (most : ℕ) (line : List ℕ) (b : ℕ) (ys : List ℕ) → HasNoFeed line → (b == 10) ≡ false → length line ≡ most → HasLongLine most (line ++ b ∷ ys)
long_line most line b ys h other full =
    let on = goes_on line b ys h other in
    let first = first_line on.whole on.more (omega (arith, on.longer)) in
    record { line = on.whole; more = first.0; lines = ap without_empty_last on.parts ∙ first.1; long = omega (arith, on.longer, full) }
