-- Lemmas on the search for a failure condition by name: the search ends at the condition with that name, and goes on
-- after any other condition.
use Rattle.std.proofs.Common.{◌≡◌, ℕ, ◌+◌, ◌<◌, ◌≤◌, List, None, Some, cond, length, get_or, drop, ap, add-one, drop-cons}
use Rattle.std.specs.Str.{bytes_eq}
use Rattle.std.proofs.lemmas.List.{drop_all}
use Rattle.rmm_model.specs.declared.condition.Condition.{Condition}
use Rattle.rmm_checks.specs.Names.{name_of, find_named}

pub named_at : (text : List ℕ) (conditions : List Condition) (i : ℕ) (d : Condition) → i < length conditions
    → find_named text (drop i conditions) ≡ cond (bytes_eq text (name_of (get_or conditions i d))) (Some (get_or conditions i d)) (find_named text (drop (i + 1) conditions))
named_at text conditions i d lt = rw add-one (ap (find_named text) (drop-cons conditions i d lt))

pub named_end : (text : List ℕ) (conditions : List Condition) (i : ℕ) → length conditions ≤ i → find_named text (drop i conditions) ≡ None
named_end text conditions i past = ap (find_named text) (drop_all i conditions past)
