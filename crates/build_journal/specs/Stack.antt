-- The condition that each operation in a build's stack of open operations has a reverse.
use Rattle.std.specs.Prelude.{Bool, List}
use Rattle.std.specs.List.{list_all}
use Rattle.realm_model.specs.declared.act.Act.{Act}
use Rattle.realm_model.specs.Act.{is_paired}

-- each operation of the list has a reverse
abbrev pub are_paired : List Act → Bool
are_paired acts = list_all is_paired acts
