-- Proofs about the three outcomes of reading a line: the bytes read are the next line, the next line is too long, or no
-- line is left.
use Rattle.std.proofs.Common.{◌≡◌, ℕ, ◌+◌, ◌<◌, ◌==◌, false, List, [], ◌∷◌, ◌++◌, length, take, drop, get_or, length-drop}
use Rattle.std.proofs.Common.{length-take, drop-cons, add-one, Option, Some, None, IfSome, refl, sym, ap, ◌∙◌, arith, subst}
use mathlib.Core.List.{append-nil}
use Rattle.std.proofs.lemmas.List.{get_or-take}
use Rattle.std.specs.Io.KnownBytes.{Consumes, IsAtEnd, prepend_known}
use Rattle.checked_io.specs.Lines.{lines_in, IsLine, HasLongLine}
use Rattle.checked_io.proofs.Parts.{HasNoFeed, lines_feed, lines_last, long_line}

pub line_with_feed : (old mid new : Option (List ℕ)) (line : List ℕ) (b : ℕ) → Consumes old mid line → Consumes mid new (b ∷ []) → b ≡ 10 → HasNoFeed line → IsLine old line new
line_with_feed None mid new line b h k feed none = tt
line_with_feed (Some xs) None new line b h k feed none = absurd h
line_with_feed (Some xs) (Some ys) None line b h k feed none = absurd k
line_with_feed (Some xs) (Some ys) (Some zs) line b h k feed none =
    let whole : xs ≡ line ++ 10 ∷ zs = h ∙ ap (λ t. line ++ t) (k ∙ ap (λ c. c ∷ zs) feed) in
    ap lines_in whole ∙ lines_feed line zs none

pub line_at_end : (old new : Option (List ℕ)) (line : List ℕ) → Consumes old new line → IsAtEnd new → HasNoFeed line → 0 < length line → IsLine old line new
line_at_end None new line h end none some = tt
line_at_end (Some xs) None line h end none some = absurd h
line_at_end (Some xs) (Some ys) line h end none some =
    let whole : xs ≡ line = h ∙ ap (λ t. line ++ t) end ∙ append-nil line in
    ap lines_in whole ∙ lines_last line none some ∙ ap (λ (t : List ℕ). line ∷ lines_in t) (sym end)

pub no_line_at_end : (old new : Option (List ℕ)) (line : List ℕ) → Consumes old new line → IsAtEnd new → length line ≡ 0 → IfSome old (λ bytes. lines_in bytes ≡ [])
no_line_at_end None new line h end none = tt
no_line_at_end (Some xs) None line h end none = absurd h
no_line_at_end (Some xs) (Some ys) [] h end none = ap lines_in (h ∙ end)
no_line_at_end (Some xs) (Some ys) (b ∷ line) h end none = absurd (omega (arith, none))

pub too_long : (most : ℕ) (old mid new : Option (List ℕ)) (line : List ℕ) (b : ℕ) → Consumes old mid line → Consumes mid new (b ∷ []) → (b == 10) ≡ false → HasNoFeed line → length line ≡ most
    → IfSome old (HasLongLine most)
too_long most None mid new line b h k other none full = tt
too_long most (Some xs) None new line b h k other none full = absurd h
too_long most (Some xs) (Some ys) None line b h k other none full = absurd k
too_long most (Some xs) (Some ys) (Some zs) line b h k other none full =
    subst (HasLongLine most) (sym (h ∙ ap (λ t. line ++ t) k)) (long_line most line b zs none other full)

-- ---- what is ahead

pub ahead_filled : (old new : Option (List ℕ)) (part : List ℕ) → Consumes old new part → Consumes (prepend_known [] old) (prepend_known part new) []
ahead_filled None new part h = tt
ahead_filled (Some xs) None part h = absurd h
ahead_filled (Some xs) (Some ys) part h = h

pub ahead_taken : (rest more : List ℕ) (b : ℕ) (known : Option (List ℕ)) → rest ≡ b ∷ more → Consumes (prepend_known rest known) (prepend_known more known) (b ∷ [])
ahead_taken rest more b None is = tt
ahead_taken rest more b (Some xs) is = ap (λ t. t ++ xs) is

pub at_end : (known : Option (List ℕ)) → IsAtEnd known → IsAtEnd (prepend_known [] known)
at_end None end = tt
at_end (Some xs) end = end

-- if reading consumes `front` between the inputs `a` and `b`, and nothing between `b` and `c`, it consumes `front`
-- between `a` and `c`
pub consumes_same : (a b c : Option (List ℕ)) (front : List ℕ) → Consumes a b front → Consumes b c [] → Consumes a c front
consumes_same None b c front h k = tt
consumes_same (Some xs) None c front h k = absurd h
consumes_same (Some xs) (Some ys) None front h k = absurd k
consumes_same (Some xs) (Some ys) (Some zs) front h k = h ∙ ap (λ t. front ++ t) k

-- a nonempty part of the buffer is the byte at index `from`, followed by the rest of the part
pub first_of_part : (buffer : List ℕ) (from to : ℕ) (part : List ℕ) → drop from (take to buffer) ≡ part → 0 < length part → part ≡ get_or buffer from 0 ∷ drop (from + 1) (take to buffer)
first_of_part buffer from to part is some =
    let within : from < length (take to buffer) = omega (arith, length-drop from (take to buffer), ap length is) in
    let before : from < to = omega (arith, length-take to buffer) in
    sym is ∙ drop-cons (take to buffer) from 0 within ∙ rw (get_or-take to buffer from 0 before, add-one) refl
