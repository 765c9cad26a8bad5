use Rattle.std.proofs.Common.{◌≡◌, ◌||◌, ℕ, List, [], ◌∷◌, map, Bor, refl, ap₂, ◌∙◌}
use Rattle.std.proofs.lemmas.Cmp.{nat_list_eq_equiv}
use Rattle.std.specs.List.{list_any}
use Rattle.std.specs.Str.{bytes_eq}
use Rattle.realm_plan.proofs.contents.is_among.Goals as goal

among : (key : List ℕ) (names : List (Bor (List ℕ))) → list_any (λ n. bytes_eq n.now key) names ≡ list_any (bytes_eq key) (map (λ n. n.now) names)
among key [] = refl
among key (name ∷ names) = ap₂ ◌||◌ (nat_list_eq_equiv.symm name.now key) (among key names)

pub returns : goal.returns
returns c = c.contains.ensures.value ∙ among c.args.key.now c.args.names.now
