-- Proofs that a session takes one more line unless its check is done, and ignores all further lines once it is done.
use Rattle.std.proofs.Common.{◌≡◌, ℕ, Bool, true, false, List, [], ◌∷◌, ◌++◌, refl, sym, ap, ◌∙◌, subst, append_assoc, append-nil, inl, inr}
use Rattle.command_line.specs.declared.rmitrace.TraceSubcommand.{TraceSubcommand}
use Rattle.trace_program.specs.declared.session.Session.{Session}
use Rattle.trace_program.specs.Session.{IsLineText, IsSession, after_line, is_check_done}

-- no Boolean is both true and false
pub not_both : (b : Bool) → b ≡ true → b ≡ false → ⊥
not_both true e f = absurd (cc)
not_both false e f = absurd (cc)

module _ (asked : TraceSubcommand) (source : List ℕ) where
  pub session_more : (old : Session) (lines : List (List ℕ)) (line text told : List ℕ) (mid : Session) → IsSession asked source old lines text mid → is_check_done asked mid ≡ false
      → IsLineText asked source line mid (after_line asked mid line) told → IsSession asked source old (lines ++ line ∷ []) (text ++ told) (after_line asked mid line)
  session_more old [] line text told mid is going k =
      let same = is.1 in
      inr (
        subst (λ (s : Session). is_check_done asked s ≡ false) same going,
        (
          told,
          [],
          subst (λ (s : Session). IsLineText asked source line s (after_line asked s line) told) same k,
          (refl, ap (λ (s : Session). after_line asked s line) same),
          ap (λ t. t ++ told) is.0 ∙ sym (append-nil told),
        ),
      )
  session_more old (l ∷ ls) line text told mid is going k =
      elim is [
        | inl done ↦ absurd (not_both (is_check_done asked old) done.0 (subst (λ (s : Session). is_check_done asked s ≡ false) done.2 going))
        | inr goes ↦
            let it = goes.1 in
            inr (
              goes.0,
              (
                it.0,
                it.1 ++ told,
                it.2,
                session_more (after_line asked old l) ls line it.1 told mid it.3 going k,
                ap (λ t. t ++ told) it.4 ∙ append_assoc it.0 it.1 told,
              ),
            )
      ]

  done_more : (old : Session) (more : List (List ℕ)) → is_check_done asked old ≡ true → IsSession asked source old more [] old
  done_more old [] done = (refl, refl)
  done_more old (line ∷ more) done = inl (done, refl, refl)

  -- once the check is done, further lines change nothing
  pub session_done : (old : Session) (lines more : List (List ℕ)) (text : List ℕ) (last : Session) → IsSession asked source old lines text last → is_check_done asked last ≡ true
      → IsSession asked source old (lines ++ more) text last
  session_done old [] more text last is done =
      rw (is.0) (subst (λ (s : Session). IsSession asked source old more [] s) (sym is.1) (done_more old more (subst (λ (s : Session). is_check_done asked s ≡ true) is.1 done)))
  session_done old (l ∷ ls) more text last is done =
      elim is [
        | inl over ↦ inl over
        | inr goes ↦
            let it = goes.1 in
            inr (goes.0, (it.0, it.1, it.2, session_done (after_line asked old l) ls more it.1 last it.3 done, it.4))
      ]
