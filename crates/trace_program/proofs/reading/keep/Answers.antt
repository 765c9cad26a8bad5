use Rattle.std.proofs.Common.{◌≡◌, ◌-◌, ◌++◌, length, min, take, ap, ◌∙◌, arith}
use Rattle.std.proofs.lemmas.List.{take_min}
use Rattle.std.proofs.lemmas.Grind.{common_steps}
use Rattle.trace_program.proofs.Kept.{kept_part}
use Rattle.trace_program.proofs.reading.keep.Goals as goal

pub returns : goal.returns
returns c = λ rest is.
    let line = c.args.line.now.items in
    let part = c.args.part.now in
    let room : c.saturating_sub-room.result ≡ 65537 - length line = grind (arith, common_steps) in
    let kept = c.split_at.ensures.front ∙ ap (λ n. take n part) c.min.ensures ∙ take_min c.saturating_sub-room.result part ∙ ap (λ n. take n part) room in
    c.in_ok-extend_from_slice.ensures.items ∙ ap (λ t. line ++ t) kept ∙ kept_part line rest part is
