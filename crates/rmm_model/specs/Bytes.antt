-- The zero bytes that pad hashed messages.
use Rattle.std.specs.Prelude.{ℕ, List, replicate}

-- the given number of zero bytes
unfoldable pub zeros : ℕ → List ℕ
zeros count = replicate count 0
