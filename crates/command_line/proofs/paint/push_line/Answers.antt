use Rattle.std.proofs.Common.{◌≡◌, ◌∙◌, ◌++◌, List, ap, subst, take, ℕ}
use Rattle.std.specs.Prelude.{None, Some}
use Rattle.std.proofs.lemmas.List.{take-append-drop}
use Rattle.std.proofs.lemmas.Result.{on_ok_weaker}
use Rattle.command_line.specs.Painted.{AddsPainted}
use Rattle.command_line.proofs.Pieces.{both_added, piece_added}
use Rattle.command_line.proofs.paint.push_line.Goals as goal

pub returns-in_default : goal.returns-in_default
returns-in_default c = on_ok_weaker c.push.result (λ is. piece_added _ _ c.colour_of_line-whole.result c.args.line.now is) c.push.ensures

pub returns : goal.returns
returns c =
    let line = c.args.line.now in
    let label = c.in-Some-label.label in
    let before = c.split_at.result.0.now in
    let word = c.split_at-2.result.0.now in
    let after = c.split_at-2.result.1.now in
    let cut : before ++ c.split_at.result.1.now ≡ line =
    ap (λ s. s ++ c.split_at.result.1.now) c.split_at.ensures.front ∙ ap (λ s. take label.start line ++ s) c.split_at.ensures.back ∙ take-append-drop label.start line in
    let cut_word : word ++ after ≡ c.split_at.result.1.now =
    ap (λ s. s ++ after) c.split_at-2.ensures.front ∙ ap (λ s. take label.len c.split_at.result.1.now ++ s) c.split_at-2.ensures.back ∙ take-append-drop label.len c.split_at.result.1.now in
    let whole : before ++ (word ++ after) ≡ line = ap (λ s. before ++ s) cut_word ∙ cut in
    let first = piece_added c.args.out.now.items c.push-2.new.out.items None before c.in_ok-push.ensures in
    let second = piece_added c.push-2.new.out.items c.push-3.new.out.items (Some label.colour) word c.in_ok-push-2.ensures in
    on_ok_weaker c.push-4.result
    (λ is. subst (λ (s : List ℕ). AddsPainted c.args.out.now.items s c.push-4.new.out.items) whole
    (both_added _ _ _ _ _ first (both_added _ _ _ _ _ second (piece_added _ _ None after is))))
    c.push-4.ensures
