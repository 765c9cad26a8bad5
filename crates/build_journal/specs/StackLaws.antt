-- A theorem that pushing a block of order `order` onto a stack of pages makes the stack longer by 2^order pages.
use Rattle.std.specs.Prelude.{◌≡◌, ℕ, ◌+◌, ◌^◌, List, length}
use Rattle.std.specs.List.{range_with_len}
use Rattle.std.proofs.Common.{ap, ◌∙◌, length-append}
use Rattle.std.proofs.lemmas.List.FromFn.{length-range_with_len}
use Rattle.build_journal.specs.Stacks.{pushed}

pub length-pushed : (pages : List ℕ) (first order : ℕ) → length (pushed pages first order) ≡ length pages + 2 ^ order
length-pushed pages first order =
    length-append pages (range_with_len first (2 ^ order)) ∙ ap (λ (n : ℕ). length pages + n) (length-range_with_len first (2 ^ order))
