-- The text of a schedule in a plan: the line `order = [..]`.
use Rattle.std.specs.Prelude.{ℕ, List, [], ◌∷◌, ◌++◌, codes}
use Rattle.std.specs.List.{flat_map}
use Rattle.std.specs.Fmt.{decimal}

-- the text of a schedule's turns after the first: the build of each, after a comma and a space
abbrev pub turns_after : List ℕ → List ℕ
turns_after schedule = flat_map (λ build. codes ", " ++ decimal build) schedule

-- the line `order = [..]` that gives a plan this schedule
abbrev pub schedule_text : List ℕ → List ℕ
schedule_text [] = codes "order = []"
schedule_text (build ∷ schedule) = codes "order = [" ++ (decimal build ++ (turns_after schedule ++ codes "]"))
