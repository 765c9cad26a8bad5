-- The host's run pages for RMI_REC_ENTER, and the running REC that uses each page.
use Rattle.std.specs.Prelude.{ℕ, List, Bool, Option, Some, None, is_none, slice_set, nat_eq, min}
use Rattle.std.specs.List.{position_from}
use Rattle.std.specs.Option.{option_eq, unwrap_or}
use Rattle.realm_model.specs.declared.act.Act.{Act}
use Rattle.realm_model.specs.declared.act.Act.TheVariants.{Enter, Exit}

abbrev pub is_same : Option ℕ → Option ℕ → Bool
is_same rec it = option_eq nat_eq it rec

-- the number of the run page that the REC `rec` uses, or of the lowest free page if `rec` is None; 63 if no such page
-- is found
abbrev pub run_page_of : Option ℕ → List (Option ℕ) → ℕ
run_page_of rec pages = min 63 (unwrap_or (position_from (is_same rec) 0 pages) 63)

-- The run page for an event about a REC: the lowest free page if the REC is entered, and for any other event the page
-- that the REC uses.
abbrev pub run_page_for : Option ℕ → Act → List (Option ℕ) → ℕ
run_page_for rec (Enter number) pages = run_page_of None pages
run_page_for rec _ pages = run_page_of rec pages

-- the run pages after an event about a REC, each with the running REC that uses it, if any
abbrev pub run_pages_after : Option ℕ → Act → List (Option ℕ) → List (Option ℕ)
run_pages_after rec (Enter number) pages = slice_set pages (run_page_of None pages) rec
run_pages_after rec (Exit number) pages = slice_set pages (run_page_of rec pages) None
run_pages_after rec _ pages = pages
