use Rattle.std.proofs.Common.{◌≡◌, ℕ, ◌+◌, List, length, sym, ap, ◌∙◌, add-one, arith}
use Rattle.rmm_model.specs.Machine.{Machine}
use Rattle.rmm_trace.specs.declared.word.TraceWord.{TraceWord}
use Rattle.rmm_answers.specs.Guest.{put_result_at, results}
use Rattle.rmm_answers.proofs.guest.put_results.Goals as goal

one_result_more : (m : Machine) (rec k : ℕ) (ws new : List TraceWord) → new ≡ put_result_at m rec k ws → ws ≡ results m rec k → new ≡ results m rec (k + 1)
unfolding results
one_result_more m rec k ws new put so_far = put ∙ ap (put_result_at m rec k) so_far ∙ sym (ap (λ j. results m rec j) (add-one k))

pub loop-k-init : goal.loop-k-init
unfolding results
loop-k-init g c = record { so_far = c.requires.empty; few = omega (arith, ap length c.requires.empty) }

pub loop-k-preserved : goal.loop-k-preserved
loop-k-preserved g c = record {
  so_far = one_result_more c.args.rmm.now c.args.rec c.loop-k.k _ _ c.put_result_at.ensures.items c.loop-k.invariant.so_far;
  few = omega (arith, c.put_result_at.ensures.len, c.loop-k.invariant.few);
}
