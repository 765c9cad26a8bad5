-- Lemmas about the text of a map: the lines are appended one after another, and a page's line has the page's state and
-- byte sum.
use Rattle.std.proofs.Common.{◌≡◌, ℕ, ◌+◌, ◌<◌, List, ◌++◌, length, Some, sum, ap, sym, ◌∙◌, slice_index, arith, rules}
use Rattle.std.specs.Prelude.{Option, IsSome, option_map, slice_get, unwrap_or}
use Rattle.std.specs.List.{flat_map, range_with_len}
use Rattle.std.proofs.lemmas.List.{flat_map_more}
use Rattle.std.proofs.lemmas.Option.{slice_get-get_or}
use Rattle.host_ledger.specs.View.{HostView, world_of, pages_of_build}
use Rattle.realm_model.specs.Machine.{cell_at}
use Rattle.realm_model.specs.declared.states.GranuleState.{GranuleState}
use Rattle.realm_plan.specs.Lines.{page_line}
use Rattle.plan_replay.specs.Run.{page_text}
use Rattle.granule_addr.proofs.Runs.{range_with_len_more}

-- the lines of the first `n` items, followed by the line of item `n`, are the lines of the first `n + 1` items
pub lines_more :
    (f : ℕ → List ℕ) (n : ℕ) (old between line new : List ℕ)
    → between ≡ old ++ flat_map f (range_with_len 0 n)
    → new ≡ between ++ line
    → line ≡ f n
    → new ≡ old ++ flat_map f (range_with_len 0 (n + 1))
lines_more f n old between line new so_far appended is_line =
    appended ∙ ap (λ t. t ++ line) so_far ∙ ap (λ l. (old ++ flat_map f (range_with_len 0 n)) ++ l) is_line
    ∙ flat_map_more f old (range_with_len 0 n) n ∙ ap (λ ns. old ++ flat_map f ns) (sym (range_with_len_more 0 n n (omega arith)))

-- for each page that the build has, a lookup by the page's number finds a value
pub page_is_told : {A : Type 0} (tells : ℕ → A) (pages : List ℕ) (page : ℕ) (told : Option A) → page < length pages → told ≡ option_map tells (slice_get pages page) → IsSome told
page_is_told tells pages page told inside is = rw (is, slice_get-get_or pages page 0 inside) (search rules)

-- the line written from the state of a page and the sum of its bytes is the page's line in the map
pub page_line_is :
    (host : HostView) (build page : ℕ) (state : GranuleState) (total : ℕ)
    → page < length (pages_of_build host build)
    → Some state ≡ option_map (λ g. (cell_at (world_of host).machine g).state) (slice_get (pages_of_build host build) page)
    → Some total ≡ option_map (λ g. sum (cell_at (world_of host).machine g).bytes) (slice_get (pages_of_build host build) page)
    → page_line build page state total ≡ page_text host build page
page_line_is host build page state total inside is_state is_total =
    let found = slice_get-get_or (pages_of_build host build) page 0 inside in
    ap (λ s. page_line build page s total) (ap (λ o. unwrap_or o state) (is_state ∙ ap (option_map (λ g. (cell_at (world_of host).machine g).state)) found))
    ∙ ap (λ n. page_line build page (cell_at (world_of host).machine (slice_index (pages_of_build host build) page)).state n)
    (ap (λ o. unwrap_or o total) (is_total ∙ ap (option_map (λ g. sum (cell_at (world_of host).machine g).bytes)) found))
