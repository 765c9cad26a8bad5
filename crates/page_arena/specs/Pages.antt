-- Theorems that page stores satisfy `IsSized` when they are new, and after pages are written, taken or given back.
use Rattle.std.specs.Prelude.{◌≡◌, ℕ, ◌+◌, ◌<◌, ◌≤◌, Bool, List, [], length, replicate, set}
use Rattle.std.proofs.Common.{sym, ap, ◌∙◌, ⊎_elim, arith}
use Rattle.std.proofs.lemmas.List.{length-set, length-replicate}
use Rattle.std.proofs.lemmas.List.Elements.{All-set, All-from_get_or, All-replicate}
use Rattle.granule_addr.specs.Page.{page_of, zero_page}
use Rattle.page_arena.specs.Page.{page_at, IsSized}
use Rattle.page_arena.specs.Block.{with_run}
use Rattle.page_arena.specs.Runs.{length-with_run, get_or-with_run_inside, get_or-with_run_outside, inside_or_outside}

pub length-page_of : (value : ℕ) → length (page_of value) ≡ 4096
unfolding page_of
length-page_of value = length-replicate 4096 value

-- 1 to 4,096 pages of zeros, with a flag for each, satisfy `IsSized`
pub IsSized-replicate : (count : ℕ) (flag : Bool) → 1 ≤ count → count ≤ 4096 → IsSized (replicate count zero_page) (replicate count flag)
IsSized-replicate count flag some few =
    let len = length-replicate count zero_page in
    record {
      some_page = omega arith;
      few_pages = omega arith;
      whole = All-replicate (λ page. length page ≡ 4096) count zero_page (length-page_of 0);
      flagged = length-replicate count flag ∙ sym len;
    }

module _ (pages : List (List ℕ)) (flags : List Bool) (sized : IsSized pages flags) where
  -- a page has 4,096 bytes
  pub length-page_at : (granule : ℕ) → granule < length pages → length (page_at pages granule) ≡ 4096
  length-page_at granule inside = sized.whole granule [] inside

  -- `IsSized` still holds after a page is replaced by one of 4,096 bytes
  pub IsSized-set : (granule : ℕ) (page : List ℕ) → length page ≡ 4096 → IsSized (set pages granule page) flags
  IsSized-set granule page whole =
      let len = length-set pages granule page in
      let some = sized.some_page in
      let few = sized.few_pages in
      let flagged = sized.flagged in
      record {
        some_page = omega arith;
        few_pages = omega arith;
        whole = All-set (λ p. length p ≡ 4096) pages granule page whole sized.whole;
        flagged = omega arith;
      }

  -- `IsSized` still holds after the flags of a run of pages are all set to `flag`
  pub IsSized-flags : (first count : ℕ) (flag : Bool) → first + count ≤ length flags → IsSized pages (with_run flags first count flag)
  IsSized-flags first count flag fits =
      record {
        some_page = sized.some_page;
        few_pages = sized.few_pages;
        whole = sized.whole;
        flagged = length-with_run flags first count flag fits ∙ sized.flagged;
      }

  -- `IsSized` still holds after a run of pages is cleared, and the flags of the run are all set to `flag`
  pub IsSized-with_run : (first count : ℕ) (flag : Bool) → first + count ≤ length flags → IsSized (with_run pages first count zero_page) (with_run flags first count flag)
  IsSized-with_run first count flag fits =
      let flagged = sized.flagged in
      let within : first + count ≤ length pages = omega arith in
      let len : length (with_run pages first count zero_page) ≡ length pages = length-with_run pages first count zero_page within in
      let some = sized.some_page in
      let few = sized.few_pages in
      record {
        some_page = omega arith;
        few_pages = omega arith;
        whole = All-from_get_or (λ page. length page ≡ 4096) _ [] (λ i lt.
            ⊎_elim
            (λ h. ap length (get_or-with_run_inside pages first count zero_page within i [] h.0 h.1) ∙ length-page_of 0)
            (λ h. ap length (get_or-with_run_outside pages first count zero_page within i [] h) ∙ length-page_at i (omega arith))
            (inside_or_outside first count i));
        flagged = length-with_run flags first count flag fits ∙ flagged ∙ sym len;
      }
