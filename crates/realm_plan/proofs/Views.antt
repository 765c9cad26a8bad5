-- Rewrite rules for the length of a list made by `map`, and for whether all its items pass a test.
use Rattle.std.proofs.lemmas.List.{length-map}
use Rattle.std.proofs.lemmas.List.Folds.{list_all-map}

pub ruleset item_views = (length-map, list_all-map)
