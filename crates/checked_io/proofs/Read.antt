-- Proofs that consecutive reads consume the bytes of an input in sequence, and that all bytes remain if nothing is
-- read.
use Rattle.std.proofs.Common.{ℕ, List, [], ◌++◌, Option, Some, None, refl, sym, ap, ◌∙◌, append_assoc}
use Rattle.std.specs.Io.KnownBytes.{Keeps, Consumes}

pub keeps_same : (known : Option (List ℕ)) → Keeps known known
keeps_same None = tt
keeps_same (Some bytes) = refl

pub consumes_none : (old : Option (List ℕ)) → Consumes old old []
consumes_none None = tt
consumes_none (Some xs) = refl

pub consumes_more : (a b c : Option (List ℕ)) (front more : List ℕ) → Consumes a b front → Consumes b c more → Consumes a c (front ++ more)
consumes_more None b c front more h k = tt
consumes_more (Some xs) None c front more h k = absurd h
consumes_more (Some xs) (Some ys) None front more h k = absurd k
consumes_more (Some xs) (Some ys) (Some zs) front more h k = h ∙ ap (λ t. front ++ t) k ∙ sym (append_assoc front more zs)
