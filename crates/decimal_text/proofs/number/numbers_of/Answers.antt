use Rattle.std.proofs.Common.{◌≡◌, ◌<◌, length, lit<, refl, sym, ◌∙◌, arith}
use Rattle.std.proofs.lemmas.Bool.{false≢true, eqb-false, eqb-true}
use Rattle.std.proofs.lemmas.Str.Pattern.{strip_prefix_char}
use Rattle.decimal_text.proofs.Cuts.{length-from_space-le}
use Rattle.decimal_text.proofs.Fields.{are_numbers_more, next_field, full_has_no_next, goes_on_more, spelled_more, ends_spelled}
use Rattle.decimal_text.proofs.number.numbers_of.Goals as goal

pub returns-in_default-number_of-clause-none : goal.returns-in_default-number_of-clause-none
returns-in_default-number_of-clause-none g c = λ ns are spelled.
    let begins = rw c.in-Some.is at (strip_prefix_char 32 _ _ c.strip_prefix.ensures.cases (lit< tt)) in
    let next = next_field g.row.MOST _ ns _ _ are begins (c.loop-fields.invariant.only ns are spelled) in
    c.in_default-number_of.ensures.none next.number next.small (c.cut_at_space.ensures.before ∙ next.field)

pub loop-fields-smaller : goal.loop-fields-smaller
loop-fields-smaller g c =
    let begins = rw c.in-Some.is at (strip_prefix_char 32 _ _ c.strip_prefix.ensures.cases (lit< tt)) in
    rw (c.cut_at_space.ensures.from, begins) (omega (arith, length-from_space-le c.in-Some.fields.now))

pub loop-fields-preserved : goal.loop-fields-preserved
loop-fields-preserved g c =
    let begins = rw c.in-Some.is at (strip_prefix_char 32 _ _ c.strip_prefix.ensures.cases (lit< tt)) in
    let is = sym c.cut_at_space.ensures.before ∙ c.in-Some-number_of.ensures.found in
    let room : length c.loop-fields.numbers.items < g.row.MOST = omega (arith, eqb-false _ _ (sym c.if-is_full.ensures.value), c.if-is_full.ensures.fits) in
    record {
      is_text = c.cut_at_space.ensures.utf8;
      are = rw c.push.ensures.items (are_numbers_more g.row.MOST _ _ c.loop-fields.invariant.are room (omega arith));
      found = rw (c.push.ensures.items, c.cut_at_space.ensures.from) (spelled_more _ _ _ _ _ c.loop-fields.invariant.found begins is);
      only = λ ns are spelled.
          rw (c.push.ensures.items, c.cut_at_space.ensures.from)
          (goes_on_more _ ns _ _ (omega arith) is (next_field g.row.MOST _ ns _ _ are begins (c.loop-fields.invariant.only ns are spelled)));
    }

pub returns-else-is_empty-clause-none : goal.returns-else-is_empty-clause-none
returns-else-is_empty-clause-none g c = λ ns are spelled.
    let ends = rw c.in_default.is at (strip_prefix_char 32 _ _ c.strip_prefix.ensures.cases (lit< tt)) in
    let empty = ends_spelled _ ns _ ends (c.loop-fields.invariant.only ns are spelled) in
    false≢true (c.if-is_empty.ensures ∙ rw empty refl)

pub loop-fields-init : goal.loop-fields-init
loop-fields-init g c = record {
  is_text = c.utf8.text;
  are = rw c.new-numbers.ensures (omega arith, tt);
  found = rw c.new-numbers.ensures refl;
  only = λ ns are spelled. rw c.new-numbers.ensures (ns, refl, spelled);
}

pub returns-then-is_full-clause-none : goal.returns-then-is_full-clause-none
returns-then-is_full-clause-none g c = λ ns are spelled.
    let begins = rw c.in-Some.is at (strip_prefix_char 32 _ _ c.strip_prefix.ensures.cases (lit< tt)) in
    let next = next_field g.row.MOST _ ns _ _ are begins (c.loop-fields.invariant.only ns are spelled) in
    let full : length c.loop-fields.numbers.items ≡ g.row.MOST = eqb-true _ _ (sym c.if-is_full.ensures.value) in
    full_has_no_next g.row.MOST _ ns _ are full next
