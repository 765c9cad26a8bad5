-- The logical view of a reader or writer that remembers whether a call has failed.
use Rattle.std.specs.Prelude.{ℕ, Bool}

pub record ToldView (D : Type 0) : Type 0 where
  pub device : D
  -- whether a call to the reader or writer has failed
  pub failed : Bool
  -- whether a write or flush failed because of a closed pipe
  pub is_closed : Bool
  -- the number of read calls, or the greatest `u64` if there were more
  pub reads : ℕ
