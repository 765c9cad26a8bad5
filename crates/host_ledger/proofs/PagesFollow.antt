-- Proofs that the ledger's update of a build's pages gives the pages after one more operation of the build.
use Rattle.std.proofs.Common.{◌≡◌, ℕ, ◌+◌, ◌-◌, ◌^◌, ◌<◌, ◌≤◌, List, [], ◌∷◌, ◌++◌, length, take, refl, sym, ap, ◌∙◌, subst, arith, length-append}
use Rattle.std.specs.List.{All}
use Rattle.std.proofs.lemmas.Nat.{pow_pos}
use Rattle.std.proofs.lemmas.List.FromFn.{length-range_with_len}
use Rattle.std.proofs.Math.Seq.{take-append_seam}
use Rattle.build_journal.specs.Stacks.{Stacks, stack_of}
use Rattle.realm_model.specs.declared.act.Act.{Act}
use Rattle.realm_model.specs.declared.act.Act.TheVariants.{Take, UnTake}
use Rattle.realm_model.specs.declared.act.Event.{Event}
use Rattle.realm_model.specs.Act.{block}
use Rattle.realm_model.specs.History.{pages_of, IsInTurn}
use Rattle.realm_model.specs.Undoing.{by}
use Rattle.realm_model.proofs.Pages.{pages_of-take, pages_of-untake, pages_of-same}
use Rattle.realm_model.proofs.EachOfRange.{of_all_range}
use Rattle.host_ledger.specs.Kept.{pages_after, CanFollowPages}
use Rattle.std.proofs.lemmas.List.Elements.{All-tail}

length-block : (order first : ℕ) → length (block order first) ≡ 2 ^ order
length-block order first = length-range_with_len first (2 ^ order)

-- if a list of pages ends with a block, the pages before the block are the list without its last 2^order pages
untaken : (pages left : List ℕ) (order first : ℕ) → pages ≡ left ++ block order first → left ≡ take (length pages - 2 ^ order) pages
untaken pages left order first e =
    let long : length pages ≡ length left + 2 ^ order = ap length e ∙ length-append left (block order first) ∙ ap (λ n. length left + n) (length-block order first) in
    let count : length pages - 2 ^ order ≡ length left = omega arith in
    sym (take-append_seam left (block order first)) ∙ (λ i. take (sym count i) (sym e i))

pub pages_follow : (build : ℕ) (history : List Event) (act : Act) → IsInTurn history (by build act)
    → pages_of build (history ++ by build act ∷ []) ≡ pages_after (pages_of build history) act
pages_follow build history (Take order first) turn = pages_of-take build history order first
pages_follow build history (UnTake order first) turn =
    untaken (pages_of build history) _ order first (pages_of-untake build history order first turn)
pages_follow build history act turn = pages_of-same build history act refl turn

-- a block whose pages are all below a number ends at or below that number
block_below : (order first most : ℕ) → All (λ page. page < most) (block order first) → first + 2 ^ order ≤ most
block_below order first most all =
    let some : 0 < 2 ^ order = pow_pos order in
    let last = of_all_range (λ page. page < most) first (2 ^ order) all (first + 2 ^ order - 1) (omega arith) (omega arith) in
    omega arith

-- if all pages of two joined lists are below a number, all pages of the second list are below that number
later_pages : (most : ℕ) (xs ys : List ℕ) → All (λ page. page < most) (xs ++ ys) → All (λ page. page < most) ys
later_pages most [] ys all = all
later_pages most (x ∷ xs) ys all = later_pages most xs ys (All-tail (λ page. page < most) x (xs ++ ys) all)

pub can_follow_pages : (history : List Event) (leases : Stacks) (build : ℕ) (act : Act) → stack_of leases build ≡ pages_of build history
    → IsInTurn history (by build act) → length (pages_of build (history ++ by build act ∷ [])) ≤ leases.room
    → All (λ page. page < leases.room) (pages_of build (history ++ by build act ∷ [])) → leases.room ≤ 4096 → CanFollowPages leases build act
can_follow_pages history leases build (Take order first) stack turn room inside few =
    let grown = pages_of-take build history order first in
    let long = ap length grown ∙ length-append (pages_of build history) (block order first) in
    let size = length-block order first in
    let same = ap length stack in
    let end = block_below order first leases.room (later_pages leases.room (pages_of build history) (block order first) (subst (All (λ page. page < leases.room)) grown inside)) in
    (omega arith, omega arith)
can_follow_pages history leases build (UnTake order first) stack turn room inside few =
    let long = ap length (pages_of-untake build history order first turn) ∙ length-append (pages_of build (history ++ by build (UnTake order first) ∷ [])) (block order first) in
    let size = length-block order first in
    let same = ap length stack in
    omega arith
can_follow_pages history leases build act stack turn room inside few = tt
