use Rattle.std.proofs.Common.{◌≡◌, false, arith, ◌∙◌}
use Rattle.std.proofs.lemmas.List.{drop_all}
use Rattle.view_program.specs.OrderText.{order_part}
use Rattle.view_program.proofs.OrderTexts.{cut_twice, three_parts}
use Rattle.view_program.proofs.plan_order.with_order.Goals as goal

pub returns : goal.returns
returns c =
    let until = c.split_at.result.0.now in
    let back = c.split_at.result.1.now in
    let front = c.split_at-2.result.0.now in
    let removed = c.split_at-2.result.1.now in
    let place = c.in_ok-place.place in
    record {
      front = front;
      removed = removed;
      back = back;
      is_value = place.is_value;
      line_is_more = λ (is_line : place.is_value ≡ false).
          let same : place.from ≡ place.to = c.in_ok-place.ensures is_line in
          c.split_at-2.ensures.back ∙ drop_all c.min-2.result until (omega (arith, same, c.min.ensures, c.min-2.ensures, c.split_at.ensures.front_len));
      of_bytes = cut_twice c.args.bytes.now until front removed back c.min.result c.min-2.result c.split_at.ensures.front c.split_at.ensures.back
          c.split_at-2.ensures.front c.split_at-2.ensures.back;
      of_text = three_parts c.new-text.result.items c.extend_from_slice.new.self.items c.extend_from_slice-2.new.self.items
          c.extend_from_slice-3.new.self.items front c.as_bytes.result.now (order_part place.is_value front c.args.order.now) back
          c.new-text.ensures.items c.in_ok-extend_from_slice.ensures.items c.in_ok-extend_from_slice-2.ensures.items
          c.in_ok-extend_from_slice-3.ensures.items (c.as_bytes.ensures.value ∙ c.in_ok-part.ensures);
    }
