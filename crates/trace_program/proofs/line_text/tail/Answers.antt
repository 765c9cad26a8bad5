use Rattle.std.proofs.Common.{◌≡◌, ◌∙◌, drop, length, ap, sym}
use Rattle.std.specs.Option.{option_copied}
use Rattle.trace_program.proofs.Tails.{question_short, sign_short, answer_short, tail_with, tail_without}
use Rattle.trace_program.proofs.line_text.tail.Goals as goal

pub split_at-requires : goal.split_at-requires
split_at-requires c = question_short c.args.bytes.now _ c.cut_line.ensures.question

pub split_at-requires-in-Some : goal.split_at-requires-in-Some
split_at-requires-in-Some c =
    let has = sym c.cut_line.ensures.answer ∙ ap option_copied c.in-Some.is in
    rw (c.split_at.ensures.back) (sign_short c.args.bytes.now _ c.cut_line.ensures.question c.in-Some.answer.now has)

pub split_at-requires-in-Some-2 : goal.split_at-requires-in-Some-2
split_at-requires-in-Some-2 c =
    let has = sym c.cut_line.ensures.answer ∙ ap option_copied c.in-Some.is in
    rw (c.split_at-in-Some.ensures.back, c.split_at.ensures.back) (answer_short c.args.bytes.now _ c.cut_line.ensures.question c.in-Some.answer.now has)

pub returns-in-Some : goal.returns-in-Some
returns-in-Some c =
    let has = sym c.cut_line.ensures.answer ∙ ap option_copied c.in-Some.is in
    c.split_at-in-Some-2.ensures.back ∙ ap (drop (length c.in-Some.answer.now)) (c.split_at-in-Some.ensures.back ∙ ap (drop 3) c.split_at.ensures.back)
    ∙ tail_with c.args.bytes.now _ c.cut_line.ensures.question c.in-Some.answer.now has

pub returns-in-None : goal.returns-in-None
returns-in-None c =
    c.split_at.ensures.back ∙ tail_without c.args.bytes.now _ c.cut_line.ensures.question (sym c.cut_line.ensures.answer ∙ ap option_copied c.in-None.is)
