-- Proofs that feeding padding zeros to a hash in pieces gives the same message as feeding all of them at once.
use Rattle.std.proofs.Common.{◌≡◌, ℕ, ◌+◌, ◌-◌, ◌≤◌, List, [], ◌++◌, take, replicate, ap, ◌∙◌, append_assoc, append-nil, arith}
use Rattle.std.proofs.lemmas.List.{replicate-append-replicate, take-replicate}
use Rattle.rmm_model.specs.Bytes.{zeros}

zeros-none : (m : List ℕ) → m ++ zeros 0 ≡ m
unfolding zeros
zeros-none m = append-nil m

pub zeros-same : (m : List ℕ) (a : ℕ) → m ++ zeros (a - a) ≡ m
zeros-same m a =
    let none : a - a ≡ 0 = omega arith in
    ap (λ (n : ℕ). m ++ zeros n) none ∙ zeros-none m

pub zeros-more : (m : List ℕ) (a b c : ℕ) → a + b ≡ c → (m ++ zeros a) ++ zeros b ≡ m ++ zeros c
unfolding zeros
zeros-more m a b c sum =
    append_assoc m (replicate a 0) (replicate b 0)
    ∙ ap (λ (tail : List ℕ). m ++ tail) (replicate-append-replicate a b 0 ∙ ap (λ (n : ℕ). replicate n 0) sum)

pub take-zeros : (count : ℕ) → count ≤ 64 → take count (replicate 64 0) ≡ zeros count
unfolding zeros
take-zeros count few = take-replicate count 64 0 few
