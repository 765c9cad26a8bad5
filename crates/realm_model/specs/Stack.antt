-- The open operations of a build as a stack.
use Rattle.std.specs.Prelude.{◌≡◌, ◌-◌, List, [], ◌∷◌, ◌++◌, cond, fold, length, take}
use Rattle.realm_model.specs.declared.act.Act.{Act}
use Rattle.realm_model.specs.Act.{is_paired, is_reverse}
use Rattle.realm_model.specs.History.{unmatched}

-- The stack after an operation, which is pushed if it has a reverse, and pops the top if it is a reverse. The top is at
-- the end of the list. No other operation changes the stack.
unfoldable pub pushed : List Act → Act → List Act
pushed stack act =
    cond (is_paired act) (stack ++ act ∷ []) (cond (is_reverse act) (take (length stack - 1) stack) stack)

-- the unmatched operations of a list are the ones that are left on the stack
abbrev pub MatchingIsAStack : List Act → Type 0
MatchingIsAStack acts = unmatched acts ≡ fold pushed [] acts
