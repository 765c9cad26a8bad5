use Rattle.std.proofs.Common.{◌≡◌, ◌-◌, ℕ, List, length, set, refl, sym, ap, ◌∙◌, arith}
use Rattle.granule_addr.specs.Page.{zero_page}
use Rattle.page_arena.specs.Block.{with_run}
use Rattle.page_arena.specs.Runs.{with_run_none}
use Rattle.page_arena.specs.Slots.{pages_in}
use Rattle.page_arena.proofs.InSlots.{length-pages_in, run_more}
use Rattle.page_arena.proofs.pages.RawPages.clear.Goals as goal

pub overflow_add-i-end : goal.overflow_add-i-end
overflow_add-i-end c =
    let p = c.self.inside in let n = length-pages_in p.row.items p.slots.of.items in let seen = ap length c.self.view_is in let asked = c.requires in let few = c.self.invariant.few in omega arith

pub loop-i-init : goal.loop-i-init
loop-i-init c =
    let p = c.self.inside in let pages = pages_in p.row.items p.slots.of.items in let none : c.args.first - c.args.first ≡ 0 = omega arith in
    record {
      whole = c.self.invariant;
      slots = refl;
      cleared = sym (ap (λ (n : ℕ). with_run pages c.args.first n zero_page) none ∙ with_run_none pages c.args.first zero_page);
    }

pub clear_page-requires-clause-inside : goal.clear_page-requires-clause-inside
clear_page-requires-clause-inside c =
    let p = c.self.inside in let n = length-pages_in p.row.items p.slots.of.items in let seen = ap length c.self.view_is in let asked = c.requires in
    let same = ap length c.loop-i.invariant.slots in let test = c.loop-i-test.true in omega arith

pub loop-i-preserved : goal.loop-i-preserved
loop-i-preserved c =
    let kept = c.loop-i.invariant in let cleared = c.clear_page.ensures in let now = cleared.whole in
    let p = c.self.inside in let pages = pages_in p.row.items p.slots.of.items in let n = length-pages_in p.row.items p.slots.of.items in
    let seen = ap length c.self.view_is in let asked = c.requires in let test = c.loop-i-test.true in
    record {
      whole = record {
        place = now.place;
        owner = now.owner ∙ kept.whole.owner;
        whole = now.whole;
        mark = now.mark;
        zeros = now.zeros;
        some = now.some;
        few = now.few;
      };
      slots = kept.slots;
      cleared = cleared.pages
          ∙ ap (λ (ps : List (List ℕ)). set ps c.loop-i.i zero_page) kept.cleared
          ∙ run_more pages c.args.first c.loop-i.i (omega arith) (omega arith);
    }
