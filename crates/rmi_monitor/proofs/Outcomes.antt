-- Lemmas about the postcondition of a command: the answer for a refusal and for a success, and the RMM after a refusal.
use Rattle.std.proofs.Common.{◌≡◌, Bool, false, List, Option, Some, None, Result, Ok, Err, refl, sym, ap, ◌∙◌, subst}
use Rattle.std.specs.Result.{IsErrAnd}
use Rattle.realm_model.specs.declared.rmi.Rmi.{Rmi}
use Rattle.realm_model.specs.Machine.{RealmRow, Seen}
use Rattle.realm_model.specs.Update.{Update, Outcome}
use Rattle.realm_model.specs.Command.Check.{check, error_input, with_realm}
use Rattle.realm_model.proofs.Outcomes.{check_false}
use Rattle.rmi_monitor.specs.View.{MonitorView, Answers, after_command}

-- the postcondition of a command: its answer, and the RMM after it
abbrev pub Says : MonitorView → Outcome → Result (Unit {0}) Rmi → MonitorView → Type 0
Says monitor outcome result new = record { answer : Answers result outcome; machine : new ≡ after_command outcome monitor }

pub answers_err : (A : Type 0) (rmi : Rmi) (outcome : Outcome) → outcome ≡ Err rmi → Answers {A = A} (Err rmi) outcome
answers_err A rmi outcome e = subst (λ (o : Outcome). Answers {A = A} (Err rmi) o) (sym e) refl

pub answers_ok : {A : Type 0} (value : A) (updates : List Update) (outcome : Outcome) → outcome ≡ Ok updates → Answers (Ok value) outcome
answers_ok value updates outcome e = subst (λ (o : Outcome). Answers (Ok value) o) (sym e) tt

-- a call that is refused with an error gives the answer of a command whose outcome is that error
pub answers_refused : {A : Type 0} (answer : Result A Rmi) (rmi : Rmi) (outcome : Outcome) → IsErrAnd answer (λ e. e ≡ rmi) → outcome ≡ Err rmi → Answers answer outcome
answers_refused (Ok value) rmi outcome said e = absurd said
answers_refused {A} (Err refusal) rmi outcome said e = answers_err A refusal outcome (e ∙ ap (λ (r : Rmi). Err r) (sym said))

pub answers_input : {A : Type 0} (answer : Result A Rmi) (rmi : Rmi) (outcome : Outcome) → IsErrAnd answer (λ e. e ≡ rmi) → rmi ≡ error_input → outcome ≡ Err error_input
    → Answers answer outcome
answers_input answer rmi outcome said is e = answers_refused answer rmi outcome said (e ∙ ap (λ (r : Rmi). Err r) (sym is))

-- a refusal changes nothing
pub after_err : (monitor : MonitorView) (rmi : Rmi) (outcome : Outcome) → outcome ≡ Err rmi → monitor ≡ after_command outcome monitor
after_err monitor rmi outcome e = ap (λ (o : Outcome). after_command o monitor) (sym e)

module _ {monitor : MonitorView} {outcome : Outcome} where
  pub refusal : {rmi : Rmi} → outcome ≡ Err rmi → Says monitor outcome (Err rmi) monitor
  refusal {rmi} e = record { answer = answers_err (Unit {0}) rmi outcome e; machine = after_err monitor rmi outcome e }

  -- a call that is refused with an error meets the postcondition of a command whose outcome is that error, if nothing
  -- changes
  pub refusal_of : {rmi : Rmi} (answer : Result (Unit {0}) Rmi) → IsErrAnd answer (λ e. e ≡ rmi) → outcome ≡ Err rmi → Says monitor outcome answer monitor
  refusal_of {rmi} answer said e = record { answer = answers_refused answer rmi outcome said e; machine = after_err monitor rmi outcome e }

  pub refusal_input : {rmi : Rmi} (answer : Result (Unit {0}) Rmi) → IsErrAnd answer (λ e. e ≡ rmi) → rmi ≡ error_input → outcome ≡ Err error_input
      → Says monitor outcome answer monitor
  refusal_input answer said is e = refusal_of answer said (e ∙ ap (λ (r : Rmi). Err r) (sym is))

-- ---- what is refused

-- a command that needs a realm is refused with an input error at a granule that is no RD
pub realm_absent : (rd : Seen) (f : RealmRow → Outcome) → rd.cell.descriptor ≡ None → with_realm rd f ≡ Err error_input
unfolding with_realm
realm_absent rd f e = ap (λ o. elim o [ Some realm ↦ f realm | None ↦ Err error_input ]) e

-- a command is refused with an input error if the granule is no RD, or the realm fails the test of the command's inputs
pub input_refused : (rd : Seen) (test : RealmRow → Bool) (f : RealmRow → Outcome) → ((row : RealmRow) → rd.cell.descriptor ≡ Some row → test row ≡ false)
    → with_realm rd (λ row. check (test row) error_input (f row)) ≡ Err error_input
unfolding with_realm
input_refused rd test f fails = of rd.cell.descriptor refl
  where
    of : (o : Option RealmRow) → rd.cell.descriptor ≡ o
        → ◌≡◌ {A = Outcome} (elim o [ Some row ↦ check (test row) error_input (f row) | None ↦ Err error_input ]) (Err error_input)
    of None is = refl
    of (Some row) is = check_false (test row) error_input (f row) (fails row is)
