-- The loop invariant of repeated runs with randomly drawn schedules, and proofs that each run preserves it.
use Rattle.std.proofs.Common.{◌≡◌, ℕ, ◌+◌, List, [], ◌∷◌, ◌++◌, length, length-append, refl, subst, arith}
use Rattle.rand_core.specs.Stream.{Stream}
use Rattle.host_ledger.specs.View.{HostView}
use Rattle.realm_plan.specs.Plan.{Plan}
use Rattle.realm_program.specs.Replay.{opening_host}
use Rattle.view_program.specs.Chosen.{IsChosenRun}
use Rattle.view_program.specs.Drawn.{AreDrawn, IsDrawn, AreSamples}
use Rattle.view_program.specs.Totals.{Visit, AreTotals}
use Rattle.view_program.specs.declared.schedules.choice.Choice.{Choice}
use Rattle.plan_states.specs.declared.step_end.EndOfStep.{EndOfStep}
use Rattle.view_program.specs.declared.schedules.totals.Totals.{Totals}
use Rattle.view_program.specs.Exploring.{IsAdded, IsDrawnAndCounted}

AreSamples-more :
    (plan : Plan) (host : HostView) (stream : Stream) (visits : List Visit) (now : Stream) (visit : Visit) (after : Stream)
    → AreSamples plan host stream visits now → IsDrawn plan host now visit after
    → AreSamples plan host stream (visits ++ visit ∷ []) after
AreSamples-more plan host stream [] now visit after are is = (after, subst (λ s. IsDrawn plan host s visit after) are is, refl)
AreSamples-more plan host stream (v ∷ visits) now visit after are is = (are.0, are.1, AreSamples-more plan host are.0 visits now visit after are.2 is)

-- The totals count the runs in `count` schedules drawn from `stream`, and `now` is the rest of the stream.
pub record IsSampling (plan : Plan) (stream : Stream) (count : ℕ) (now : Stream) (totals : Totals) : Type 0 where
  pub visits : List Visit
  pub are_samples : AreSamples plan (opening_host plan) stream visits now
  pub are_totals : AreTotals (length plan.builds) visits totals
  pub so_many : length visits ≡ count

pub IsSampling-none : (plan : Plan) (stream : Stream) (totals : Totals) → ((builds : ℕ) → AreTotals builds [] totals) → IsSampling plan stream 0 stream totals
IsSampling-none plan stream totals new = record { visits = []; are_samples = refl; are_totals = new (length plan.builds); so_many = refl }

pub IsSampling-more : (plan : Plan) (stream : Stream) (count : ℕ) (now after : Stream) (old new : Totals) → IsSampling plan stream count now old
    → IsDrawnAndCounted plan now after old new → IsSampling plan stream (count + 1) after new
IsSampling-more plan stream count now after old new so_far is = record {
  visits = so_far.visits ++ is.visit ∷ [];
  are_samples = AreSamples-more plan (opening_host plan) stream so_far.visits now is.visit after so_far.are_samples is.is_drawn;
  are_totals = is.counted so_far.visits so_far.are_totals;
  so_many = (let so_many = so_far.so_many in omega (arith, length-append so_far.visits (is.visit ∷ [])));
}

-- If a run on a fresh host, in a schedule drawn from the stream, is added to the totals, `IsDrawnAndCounted` holds of
-- the totals.
pub IsDrawnAndCounted-run :
    (plan : Plan) (stream after : Stream) (fresh to : HostView) (choices cs : List Choice) (ends es : List EndOfStep) (old new : Totals)
    → fresh ≡ opening_host plan → cs ≡ choices → es ≡ ends
    → AreDrawn stream choices after × IsChosenRun plan fresh choices to ends
    → IsAdded plan to cs es old new
    → IsDrawnAndCounted plan stream after old new
IsDrawnAndCounted-run plan stream after fresh to choices cs ends es old new opens same_choices same_ends is added =
    let here : IsAdded plan to choices ends old new = subst (λ xs. IsAdded plan to choices xs old new) same_ends (subst (λ xs. IsAdded plan to xs es old new) same_choices added) in
    record {
      visit = record { choices = choices; ends = ends; map = here.map };
      is_drawn = record { are_drawn = is.0; to = to; is_run = subst (λ host. IsChosenRun plan host choices to ends) opens is.1; map = here.is_map };
      counted = here.counted;
    }
