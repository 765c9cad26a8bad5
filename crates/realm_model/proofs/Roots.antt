-- The proof that the starting tables of a realm are distinct granules.
use Rattle.std.proofs.Common.{◌≡◌, true, ap}
use Rattle.std.proofs.lemmas.Bool.{and_parts, and_from, eqb-true, eq-eqb}
use Rattle.granule_addr.specs.Root.{start_count, starting_tables}
use Rattle.granule_addr.specs.declared.width.Root.{Root}
use Rattle.realm_model.specs.Outcome.{is_root}
use Rattle.realm_model.proofs.Lists.{AllDistinct, AllDistinct-range}

pub same_root : (a b : Root) → is_root a b ≡ true → a ≡ b
same_root a b h =
    let parts = and_parts _ _ h in
    λ i. record { first = eqb-true a.first b.first parts.0 i; width = eqb-true a.width b.width parts.1 i }

pub root_same : (a b : Root) → a ≡ b → is_root a b ≡ true
root_same a b e = and_from _ _ (eq-eqb a.first b.first (ap (λ (r : Root). r.first) e)) (eq-eqb a.width b.width (ap (λ (r : Root). r.width) e))

pub starting_tables-AllDistinct : (root : Root) → AllDistinct (starting_tables root)
unfolding starting_tables
starting_tables-AllDistinct root = AllDistinct-range root.first (start_count root.width)
