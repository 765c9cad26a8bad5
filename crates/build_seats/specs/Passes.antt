-- The view of a `Pass`: the build, and the number of the build's events that are counted. A `Pass` is the only share of
-- a build's ghost ledger.
use Rattle.std.specs.Prelude.{ℕ}

pub record PassView : Type 0 where
  pub build : ℕ
  pub count : ℕ

-- the view of a build's `Pass` (ledger share) before any event is counted
abbrev pub unused : ℕ → PassView
unused build = record { build = build; count = 0 }
