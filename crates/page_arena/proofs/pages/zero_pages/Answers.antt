use Rattle.std.proofs.Common.{◌≡◌, ℕ, ◌+◌, ◌∷◌, [], List, length, get_or, refl, sym, ap, ◌∙◌, arith}
use Rattle.std.proofs.lemmas.List.{length-replicate}
use Rattle.granule_addr.specs.Page.{page_of, zero_page}
use Rattle.page_arena.specs.Owned.{put_at}
use Rattle.page_arena.specs.Slots.{pages_in}
use Rattle.page_arena.proofs.Puts.{put_last}
use Rattle.page_arena.proofs.InSlots.{pages_in-replicate}
use Rattle.page_arena.proofs.pages.zero_pages.Goals as goal

pub invariant_of-result : goal.invariant_of-result
unfolding page_of
invariant_of-result c =
    let made = c.in_ok-start.ensures in let put = c.put.ensures in let slots = c.in_ok-slots.ensures in
    let many : length c.in_ok-slots.slots.of.items ≡ c.args.pages = ap length slots.0 ∙ length-replicate c.args.pages 0 in
    let items : c.put.new.self.items ≡ zero_page ∷ [] =
    put.3 ∙ ap (λ (ps : List (List ℕ)). put_at ps 0 zero_page) made.2 ∙ sym (put_last [] 0 zero_page refl) in
    let some = c.requires.some in let few = c.requires.few in let used = slots.1 in
    record {
      place = put.0 ∙ made.0;
      owner = put.2 ∙ made.3;
      whole = put.1 ∙ made.1 ∙ ap (λ (k : ℕ). k + 1) (sym many);
      mark = used ∙ ap length (sym items);
      zeros = ap (λ (ps : List (List ℕ)). get_or ps 0 zero_page) items;
      some = omega arith;
      few = omega arith;
    }

pub returns : goal.returns
unfolding page_of
returns c =
    let made = c.in_ok-start.ensures in let put = c.put.ensures in let slots = c.in_ok-slots.ensures in
    let items : c.put.new.self.items ≡ zero_page ∷ [] =
    put.3 ∙ ap (λ (ps : List (List ℕ)). put_at ps 0 zero_page) made.2 ∙ sym (put_last [] 0 zero_page refl) in
    ap (λ (of : List ℕ). pages_in c.put.new.self.items of) slots.0
    ∙ pages_in-replicate c.put.new.self.items c.args.pages (ap (λ (ps : List (List ℕ)). get_or ps 0 zero_page) items)
