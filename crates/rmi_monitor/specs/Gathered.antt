-- A finite map gathered from a function's entries at the indexes 0, 1 and so on; an entry is a key with a value.
use Rattle.std.specs.Prelude.{◌≡◌, ◌<◌, ℕ, zero, suc, Option, Some, None}
use Rattle.std.specs.FinMap.{FinMap, empty, insert}
use Rattle.std.specs.Ordering.{nat_cmp}

-- the map after the given entry is inserted; the same map if no entry is given
abbrev pub added : {A : Type 0} → Option (ℕ × A) → FinMap nat_cmp A → FinMap nat_cmp A
added None map = map
added (Some entry) map = insert map entry.0 entry.1

-- the map of the entries that `entry_at` has at the indexes below `n`
unfoldable pub gathered : {A : Type 0} → (ℕ → Option (ℕ × A)) → ℕ → FinMap nat_cmp A
gathered entry_at zero = empty
gathered entry_at (suc n) = added (entry_at n) (gathered entry_at n)

-- no two of the first `n` indexes have entries with the same key
abbrev pub IsOnce : {A : Type 0} → (ℕ → Option (ℕ × A)) → ℕ → Type 0
IsOnce {A} entry_at n = (i j key : ℕ) (a b : A) → i < n → j < n → entry_at i ≡ Some (key, a) → entry_at j ≡ Some (key, b) → i ≡ j
