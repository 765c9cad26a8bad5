use Rattle.std.proofs.Common.{◌≡◌, ◌≤◌, inl, inr, true, Ok, Err, replicate, rules}
use Rattle.std.proofs.lemmas.Bool.{cases_lt}
use Rattle.granule_addr.specs.Page.{zero_page}
use Rattle.page_arena.specs.Pages.{IsSized-replicate}
use Rattle.buddy.proofs.arena.BuddyArena.build.Goals as goal

not_err : {P T E : Type 0} {value : T} {error : E} → Ok value ≡ Err error → P
not_err is = cc

pub invariant_of-result : goal.invariant_of-result
invariant_of-result c =
    let size = c.in_ok-raw.ensures.bad_size in let pages = c.args.pages in
    let some : 1 ≤ pages = elim (cases_lt pages 1) [ inl none ↦ not_err (size.1 (inl none)) | inr some ↦ some ] in
    let few : pages ≤ 4096 = elim (cases_lt 4096 pages) [ inl many ↦ not_err (size.1 (inr many)) | inr few ↦ few ] in
    let zero : c.in_ok-raw.raw ≡ replicate pages zero_page = search rules in
    let free : c.in_ok-index.index.flags ≡ replicate pages true = search rules in
    record { sized = rw (zero, free) (IsSized-replicate pages true some few) }
