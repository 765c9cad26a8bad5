use Rattle.std.proofs.Common.{◌≡◌, ℕ, ◌-◌, ◌<◌, List, [], ◌++◌, length, set, get_or, sym, ap, ◌∙◌, arith}
use Rattle.std.proofs.lemmas.List.{set-append_left, set-append_right, get_or_append_left, get_or-append_right}
use Rattle.page_arena.specs.Page.{page_at}
use Rattle.page_arena.proofs.plain.pages.copy_page.Goals as goal

-- if the list of pages is cut before the higher of the pages `target` and `source`, a copy from one part to the other
-- is a copy in the whole list
module _ (pages front back : List (List ℕ)) (target source : ℕ) (page : List ℕ) (value : pages ≡ front ++ back) where
  copied_up : length front ≡ source → target < source → page ≡ get_or back 0 [] → set front target page ++ back ≡ set pages target (page_at pages source)
  copied_up long below is =
      let none : source - source ≡ 0 = omega arith in
      let read : page_at pages source ≡ get_or back 0 [] =
      ap (λ ps. page_at ps source) value ∙ get_or-append_right front back source source [] long (omega arith) ∙ ap (λ (n : ℕ). get_or back n []) none in
      sym (set-append_left front back target page (omega arith))
      ∙ ap (λ ps. set ps target page) (sym value)
      ∙ ap (set pages target) (is ∙ sym read)

  copied_down : length front ≡ target → source < target → page ≡ get_or front source [] → front ++ set back 0 page ≡ set pages target (page_at pages source)
  copied_down long below is =
      let none : target - target ≡ 0 = omega arith in
      let read : page_at pages source ≡ get_or front source [] =
      ap (λ ps. page_at ps source) value ∙ get_or_append_left front back [] source (omega arith) in
      ap (λ (n : ℕ). front ++ set back n page) (sym none)
      ∙ sym (set-append_right front back target target page long (omega arith))
      ∙ ap (λ ps. set ps target page) (sym value)
      ∙ ap (set pages target) (is ∙ sym read)

pub returns-then-target-source : goal.returns-then-target-source
returns-then-target-source c =
    let parts = c.split_at_mut-front.ensures in
    copied_up c.args.pages.now _ _ c.args.target c.args.source c.copy_from_slice.new.self parts.value parts.front_len c.if-target-source.true c.copy_from_slice.ensures.after

pub returns-else-target-source : goal.returns-else-target-source
returns-else-target-source c =
    let parts = c.split_at_mut-front-else-target-source.ensures in
    let apart = c.requires.different in
    let below : c.args.source < c.args.target = omega arith in
    copied_down c.args.pages.now _ _ c.args.target c.args.source c.copy_from_slice-else-target-source.new.self parts.value parts.front_len below c.copy_from_slice-else-target-source.ensures.after
