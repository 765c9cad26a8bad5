use Rattle.std.proofs.Common.{◌≡◌, ◌∙◌, ◌++◌, List, [], ap, sym, subst, take, ℕ}
use Rattle.std.specs.Prelude.{None}
use Rattle.std.proofs.lemmas.List.{append-nil, append_assoc, take-append-drop}
use Rattle.command_line.specs.Painted.{AddsPainted}
use Rattle.command_line.proofs.Passed.{no_more}
use Rattle.command_line.proofs.Pieces.{both_added, piece_added}
use Rattle.command_line.proofs.paint.painted.Goals as goal

pub returns-then-is_empty : goal.returns-then-is_empty
returns-then-is_empty c =
    let seen = c.lines.invariant.0 in
    let none = no_more c.lines.rest.now (sym c.is_empty.ensures ∙ c.if-is_empty.true) in
    subst (λ (s : List ℕ). AddsPainted [] s c.lines.out.items)
    (sym (append-nil seen) ∙ ap (λ s. seen ++ s) (sym none) ∙ c.lines.invariant.1) c.lines.invariant.2

pub lines-preserved : goal.lines-preserved
lines-preserved c =
    let rest = c.lines.rest.now in
    let seen = c.lines.invariant.0 in
    let line = c.split_at.result.0.now in
    let more = c.split_at.result.1.now in
    let feed = c.split_at-in-lines.result.0.now in
    let after = c.split_at-in-lines.result.1.now in
    let cut : line ++ more ≡ rest =
    ap (λ s. s ++ more) c.split_at.ensures.front ∙ ap (λ s. take c.line_len.result rest ++ s) c.split_at.ensures.back ∙ take-append-drop c.line_len.result rest in
    let cut_more : feed ++ after ≡ more =
    ap (λ s. s ++ after) c.split_at-in-lines.ensures.front ∙ ap (λ s. take c.min.result more ++ s) c.split_at-in-lines.ensures.back ∙ take-append-drop c.min.result more in (
      seen ++ (line ++ feed),
      append_assoc seen (line ++ feed) after ∙ ap (λ s. seen ++ s) (append_assoc line feed after ∙ ap (λ s. line ++ s) cut_more ∙ cut) ∙ c.lines.invariant.1,
      both_added [] _ _ seen (line ++ feed) c.lines.invariant.2 (both_added _ _ _ line feed c.in_ok-push_line.ensures (piece_added _ _ None feed c.in_ok-push.ensures)),
    )

pub returns : goal.returns
returns c =
    subst (λ (s : List ℕ). AddsPainted [] s c.push-2.new.out.items) c.lines.invariant.1
    (both_added [] _ _ c.lines.invariant.0 c.lines.rest.now c.lines.invariant.2 (piece_added _ _ None c.lines.rest.now c.in_ok-push-2.ensures))
