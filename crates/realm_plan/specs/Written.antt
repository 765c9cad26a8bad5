-- The texts of each build's steps, read from the bytes of a plan; none if the bytes spell no document with a plan's
-- keys.
use Rattle.std.specs.Prelude.{ℕ, List, Option, option_map}
use Rattle.realm_plan.specs.Contents.{◌>>=◌, contents_of}
use Rattle.realm_plan.specs.Plan.{document_of}

abbrev pub written_steps : List ℕ → Option (List (List (List ℕ)))
written_steps bytes = option_map (λ c. c.builds) (document_of bytes >>= contents_of)
