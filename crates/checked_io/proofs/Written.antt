-- Proofs that consecutive writes append their bytes to an output in sequence, and that partial writes of a text append
-- a prefix of the text.
use Rattle.std.proofs.Common.{◌≡◌, ℕ, List, [], ◌++◌, take, drop, Option, Some, None, sym, ap, ◌∙◌}
use mathlib.Core.List.{append_assoc, append-nil}
use Rattle.std.proofs.lemmas.List.{take-append-drop}
use Rattle.std.specs.Io.KnownBytes.{Appends, Keeps}

-- the part of the text before `rest` has been appended to the output, if the bytes of the output are known
pub record Wrote (old new : Option (List ℕ)) (text rest : List ℕ) : Type 0 where
  pub front : List ℕ
  pub split : text ≡ front ++ rest
  pub grows : Appends old new front

pub appends_none : (old : Option (List ℕ)) → Appends old old []
appends_none None = tt
appends_none (Some xs) = sym (append-nil xs)

pub appends_keeps : (a b c : Option (List ℕ)) (front : List ℕ) → Appends a b front → Keeps b c → Appends a c front
appends_keeps None b c front h k = tt
appends_keeps (Some xs) None c front h k = absurd h
appends_keeps (Some xs) (Some ys) None front h k = absurd k
appends_keeps (Some xs) (Some ys) (Some zs) front h k = k ∙ h

pub appends_more : (a b c : Option (List ℕ)) (front more : List ℕ) → Appends a b front → Appends b c more → Appends a c (front ++ more)
appends_more None b c front more h k = tt
appends_more (Some xs) None c front more h k = absurd h
appends_more (Some xs) (Some ys) None front more h k = absurd k
appends_more (Some xs) (Some ys) (Some zs) front more h k = k ∙ rw h (append_assoc xs front more)

pub wrote_more : (a b c : Option (List ℕ)) (text rest : List ℕ) (n : ℕ) → Wrote a b text rest → Appends b c (take n rest) → Wrote a c text (drop n rest)
wrote_more a b c text rest n wrote takes = record {
  front = wrote.front ++ take n rest;
  split = wrote.split ∙ ap (λ t. wrote.front ++ t) (sym (take-append-drop n rest)) ∙ sym (append_assoc wrote.front (take n rest) (drop n rest));
  grows = appends_more a b c wrote.front (take n rest) wrote.grows takes;
}
