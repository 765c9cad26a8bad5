-- Proofs that a printed word of a trace is read back unchanged, is not empty, and has no byte in it that separates the
-- words or the parts of a line.
use Rattle.std.proofs.Common.{◌≡◌, ℕ, ◌<◌, List, [], ◌∷◌, ◌++◌, length, Bool, true, false, eqb, Option, Some, None, IfSome, option_map, refl, ap, ◌∙◌, arith, codes, append-nil}
use Rattle.rmm_trace.specs.declared.word.Atom.{Atom}
use Rattle.rmm_trace.specs.declared.word.TraceWord.{TraceWord}
use Rattle.rmm_trace.specs.Cuts.{before_mark, after_mark}
use Rattle.rmm_trace.specs.Words.{atom_text, tail_text, comma_text, word_text, atom_in, tail_in, comma_in, word_in, IsAtom, IsWord}
use Rattle.rmm_trace.proofs.Cuts.{lacks, lacks-append, before_lacking, after_lacking, before_at_mark, after_at_mark}
use Rattle.rmm_trace.proofs.Texts.{IsMark, is_plus, is_comma, is_slash, atom_lacks, atom_back, atom_some}

-- ---- tails

tail_lacks : (mark m : ℕ) → IsMark mark → eqb m mark ≡ false → (o : Option Atom) → lacks mark (tail_text (m ∷ []) o) ≡ true
tail_lacks mark m is apart None = refl
tail_lacks mark m is apart (Some a) = rw apart (atom_lacks mark is a)

before_tail : (m : ℕ) (xs : List ℕ) (o : Option Atom) → lacks m xs ≡ true → before_mark m (xs ++ tail_text (m ∷ []) o) ≡ xs
before_tail m xs None h = ap (before_mark m) (append-nil xs) ∙ before_lacking m xs h
before_tail m xs (Some a) h = before_at_mark m xs (atom_text a) h

after_tail : (m : ℕ) (xs : List ℕ) (o : Option Atom) → lacks m xs ≡ true → after_mark m (xs ++ tail_text (m ∷ []) o) ≡ option_map atom_text o
after_tail m xs None h = ap (after_mark m) (append-nil xs) ∙ after_lacking m xs h
after_tail m xs (Some a) h = after_at_mark m xs (atom_text a) h

tail_back : (o : Option Atom) → IfSome o IsAtom → tail_in (option_map atom_text o) ≡ Some o
tail_back None is = refl
tail_back (Some a) is = rw (atom_back a is) refl

before_comma : (xs : List ℕ) (b : Bool) → lacks 44 xs ≡ true → before_mark 44 (xs ++ comma_text b) ≡ xs
before_comma xs true h = before_at_mark 44 xs [] h
before_comma xs false h = ap (before_mark 44) (append-nil xs) ∙ before_lacking 44 xs h

comma_back : (xs : List ℕ) (b : Bool) → lacks 44 xs ≡ true → comma_in (after_mark 44 (xs ++ comma_text b)) ≡ Some b
comma_back xs true h = ap comma_in (after_at_mark 44 xs [] h)
comma_back xs false h = ap (λ t. comma_in (after_mark 44 t)) (append-nil xs) ∙ ap comma_in (after_lacking 44 xs h)

comma_lacks : (mark : ℕ) → eqb 44 mark ≡ false → (b : Bool) → lacks mark (comma_text b) ≡ true
comma_lacks mark apart true = rw apart refl
comma_lacks mark apart false = refl

-- ---- words

word_of_parts : (bs front middle value : List ℕ) (step mask : Option (List ℕ)) (w : TraceWord) → before_mark 44 bs ≡ front → comma_in (after_mark 44 bs) ≡ Some w.is_listed
    → before_mark 43 front ≡ middle → after_mark 43 front ≡ step → before_mark 47 middle ≡ value → after_mark 47 middle ≡ mask
    → atom_in value ≡ Some w.value → tail_in mask ≡ Some w.mask → tail_in step ≡ Some w.step → word_in bs ≡ Some w
word_of_parts bs front middle value step mask w cut listed cut_step is_step cut_mask is_mask a m s = rw (cut, listed, cut_step, is_step, cut_mask, is_mask, a, m, s) refl

-- the text of a word's value and mask lacks each byte for which `IsMark` holds, other than `/`
middle_lacks : (mark : ℕ) → IsMark mark → eqb 47 mark ≡ false → (w : TraceWord) → lacks mark (atom_text w.value ++ tail_text (codes "/") w.mask) ≡ true
middle_lacks mark is slash w = lacks-append mark (atom_text w.value) (tail_text (codes "/") w.mask) (atom_lacks mark is w.value) (tail_lacks mark 47 is slash w.mask)

-- the text of a word before its comma lacks each byte for which `IsMark` holds, other than `/` and `+`
front_lacks : (mark : ℕ) → IsMark mark → eqb 47 mark ≡ false → eqb 43 mark ≡ false → (w : TraceWord)
    → lacks mark (atom_text w.value ++ tail_text (codes "/") w.mask ++ tail_text (codes "+") w.step) ≡ true
front_lacks mark is slash plus w =
    lacks-append mark (atom_text w.value ++ tail_text (codes "/") w.mask) (tail_text (codes "+") w.step) (middle_lacks mark is slash w) (tail_lacks mark 43 is plus w.step)

pub word_lacks : (mark : ℕ) → IsMark mark → eqb 47 mark ≡ false → eqb 43 mark ≡ false → eqb 44 mark ≡ false → (w : TraceWord) → lacks mark (word_text w) ≡ true
word_lacks mark is slash plus comma w =
    lacks-append mark (atom_text w.value ++ tail_text (codes "/") w.mask ++ tail_text (codes "+") w.step) (comma_text w.is_listed)
    (front_lacks mark is slash plus w) (comma_lacks mark comma w.is_listed)

pub word_back : (w : TraceWord) → IsWord w → word_in (word_text w) ≡ Some w
word_back w is =
    let value = atom_text w.value in
    let middle = value ++ tail_text (codes "/") w.mask in
    let front = middle ++ tail_text (codes "+") w.step in
    let lacks_comma = front_lacks 44 is_comma refl refl w in
    let lacks_plus = middle_lacks 43 is_plus refl w in
    let lacks_slash = atom_lacks 47 is_slash w.value in
    word_of_parts (word_text w) front middle value (option_map atom_text w.step) (option_map atom_text w.mask) w
    (before_comma front w.is_listed lacks_comma) (comma_back front w.is_listed lacks_comma)
    (before_tail 43 middle w.step lacks_plus) (after_tail 43 middle w.step lacks_plus)
    (before_tail 47 value w.mask lacks_slash) (after_tail 47 value w.mask lacks_slash)
    (atom_back w.value is.value) (tail_back w.mask is.mask) (tail_back w.step is.step)

-- a text is not empty if its first part is not
some-append : (xs ys : List ℕ) → 0 < length xs → 0 < length (xs ++ ys)
some-append [] ys h = absurd (omega arith)
some-append (x ∷ xs) ys h = omega arith

-- no valid word has an empty text
pub word_some : (w : TraceWord) → IsWord w → 0 < length (word_text w)
word_some w is =
    let value = atom_text w.value in
    let middle = value ++ tail_text (codes "/") w.mask in
    some-append (middle ++ tail_text (codes "+") w.step) (comma_text w.is_listed)
    (some-append middle (tail_text (codes "+") w.step) (some-append value (tail_text (codes "/") w.mask) (atom_some w.value is.value)))
