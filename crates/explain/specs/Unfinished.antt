-- The unfinished abort of a build, and the lines that report it.
use Rattle.std.specs.Prelude.{ℕ, ◌==◌, List, ◌++◌, ◌∷◌, codes, length, Option, Some, None, if◌then◌else◌}
use Rattle.std.specs.Fmt.{decimal}
use Rattle.host_ledger.specs.View.{HostView, open_of, is_aborting}
use Rattle.explain.specs.declared.unfinished.UnfinishedAbort.{UnfinishedAbort}

-- the unfinished abort of a build, if there is one, with the number of turns that it needs: one for each open operation
abbrev pub unfinished_abort : HostView → ℕ → Option UnfinishedAbort
unfinished_abort host build =
    if is_aborting host build then Some (record { build = build; turns = length (open_of host build) }) else None

-- ---- the lines that report an unfinished abort

-- the words `more turn` or `more turns`, to follow the number of turns that an abort still needs
abbrev pub turns_noun : ℕ → List ℕ
turns_noun turns = if turns == 1 then codes "more turn" else codes "more turns"

-- the error line with the number of turns that an abort still needs, and the help line on how to add them
abbrev pub abort_lines : UnfinishedAbort → List ℕ
abort_lines abort =
    codes "    error: the abort of build " ++ (decimal abort.build ++ (codes " needs " ++ (decimal abort.turns ++ (32 ∷ turns_noun abort.turns ++ codes " in `order`\n"))))
    ++ (codes "    help: add " ++ (decimal abort.turns ++ (32 ∷ turns_noun abort.turns ++ (codes " of build " ++ (decimal abort.build ++ codes " to `order`; `realmview order` does it\n")))))
