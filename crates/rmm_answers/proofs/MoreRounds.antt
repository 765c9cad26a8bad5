-- Proofs that a trace's `repeat` goes on if and only if its count is not used up and the last call or page fill
-- succeeded.
use Rattle.std.proofs.Common.{◌≡◌, ◌≢◌, ℕ, zero, suc, ◌+◌, Bool, true, false, if◌then◌else◌, List, refl, sym, ap, ◌∙◌, eq-eqb, arith}
use Rattle.std.proofs.lemmas.Bool.{ne_eqb}
use Rattle.rmi_abi.specs.declared.registers.Registers.{Registers}
use Rattle.rmm_model.specs.Call.{rmi}
use Rattle.rmm_model.specs.Machine.{Machine}
use Rattle.rmm_trace.specs.declared.word.TraceWord.{TraceWord}
use Rattle.rmm_answers.specs.Rounds.{asked, last, more_rounds, filled, last_fill, more_fills}

-- ---- calls

pub no_more : (left : ℕ) (call : List TraceWord) (round : ℕ) (after : Registers × Machine) → left ≡ 0 → last round after ≡ more_rounds left call round after
unfolding more_rounds
no_more zero call round after none = refl
no_more (suc left) call round after none = absurd (omega arith)

pub refused : (left : ℕ) (call : List TraceWord) (round : ℕ) (after : Registers × Machine) → after.0.x0 ≢ 0 → last round after ≡ more_rounds left call round after
unfolding more_rounds
refused zero call round after is = refl
refused (suc left) call round after is =
    sym (ap (λ (b : Bool). if b then more_rounds left call (round + 1) (rmi (asked call (round + 1)) after.1) else last round after) (ne_eqb after.0.x0 0 is))

pub one_more : (left k : ℕ) (call : List TraceWord) (round : ℕ) (after : Registers × Machine) → k + 1 ≡ left → after.0.x0 ≡ 0
    → more_rounds left call round after ≡ more_rounds k call (round + 1) (rmi (asked call (round + 1)) after.1)
unfolding more_rounds
one_more zero k call round after is done = absurd (omega arith)
one_more (suc left) k call round after is done =
    let next = rmi (asked call (round + 1)) after.1 in
    ap (λ (b : Bool). if b then more_rounds left call (round + 1) next else last round after) (eq-eqb after.0.x0 0 done)
    ∙ ap (λ j. more_rounds j call (round + 1) next) {x = left} {y = k} (omega arith)

-- ---- fills

pub no_more_fills : (left : ℕ) (ws : List TraceWord) (round : ℕ) (after : Bool × Machine) → left ≡ 0 → last_fill round after ≡ more_fills left ws round after
unfolding more_fills
no_more_fills zero ws round after none = refl
no_more_fills (suc left) ws round after none = absurd (omega arith)

pub faulted : (left : ℕ) (ws : List TraceWord) (round : ℕ) (after : Bool × Machine) → after.0 ≡ false → last_fill round after ≡ more_fills left ws round after
unfolding more_fills
faulted zero ws round after is = refl
faulted (suc left) ws round after is =
    sym (ap (λ (b : Bool). if b then more_fills left ws (round + 1) (filled ws (round + 1) after.1) else last_fill round after) is)

pub one_more_fill : (left k : ℕ) (ws : List TraceWord) (round : ℕ) (after : Bool × Machine) → k + 1 ≡ left → after.0 ≡ true
    → more_fills left ws round after ≡ more_fills k ws (round + 1) (filled ws (round + 1) after.1)
unfolding more_fills
one_more_fill zero k ws round after is done = absurd (omega arith)
one_more_fill (suc left) k ws round after is done =
    let next = filled ws (round + 1) after.1 in
    ap (λ (b : Bool). if b then more_fills left ws (round + 1) next else last_fill round after) done
    ∙ ap (λ j. more_fills j ws (round + 1) next) {x = left} {y = k} (omega arith)
