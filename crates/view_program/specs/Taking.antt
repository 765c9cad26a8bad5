-- The result of applying the remaining lines of a history to a host: all are applied, or there is a reason why some
-- line is not.
use Rattle.std.specs.Prelude.{◌≡◌, ◌+◌, ℕ, List, ◌∷◌, ◌++◌, length, Option, IfSome}
use Rattle.host_ledger.specs.View.{HostView}
use Rattle.checked_io.specs.Lines.{lines_in}
use Rattle.view_program.specs.Applied.{AreTaken, IsNoEvent, IsEventRefused}
use Rattle.view_program.specs.declared.fault.ViewError.{ViewError}
use Rattle.view_program.specs.declared.fault.ViewError.TheVariants.{NoEvent, Refused, Memory, Device}

-- all remaining lines of the input are applied to the host
pub record AreLinesTaken (input : Option (List ℕ)) (old new : HostView) : Type 0 where
  pub lines : List (List ℕ)
  pub of_input : IfSome input (λ bytes. lines_in bytes ≡ lines)
  pub taken : AreTaken old lines new

-- The host does not apply this line, for the reason in the error. The line's number is the number of the host's events
-- plus 2.
abbrev pub IsUntaken : HostView → List ℕ → ViewError → Type 0
IsUntaken host line (NoEvent number) = (number ≡ length host.history + 2) × IsNoEvent line
IsUntaken host line (Refused number why words) = (number ≡ length host.history + 2) × IsEventRefused why host line
IsUntaken host line fault = ⊥

pub record AreCutShort (old : HostView) (lines : List (List ℕ)) (fault : ViewError) : Type 0 where
  pub before : List (List ℕ)
  pub line : List ℕ
  pub after : List (List ℕ)
  pub mid : HostView
  pub split : lines ≡ before ++ line ∷ after
  pub taken : AreTaken old before mid
  pub untaken : IsUntaken mid line fault

-- the error is a reason why some of the input's remaining lines are not applied to the host
abbrev pub AreNotTaken : Option (List ℕ) → HostView → ViewError → Type 0
AreNotTaken input old (NoEvent number) = IfSome input (λ bytes. AreCutShort old (lines_in bytes) (NoEvent number))
AreNotTaken input old (Refused number why words) = IfSome input (λ bytes. AreCutShort old (lines_in bytes) (Refused number why words))
AreNotTaken input old Memory = Unit {0}
AreNotTaken input old Device = Unit {0}
AreNotTaken input old fault = ⊥
