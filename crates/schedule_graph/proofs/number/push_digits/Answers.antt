use Rattle.std.proofs.Common.{◌≡◌, ◌<◌, ◌+◌, ◌-◌, ◌++◌, ℕ, List, [], ◌∷◌, length, map, reverse, take, get_or, add-one, append_assoc, refl, ap, sym, ◌∙◌, arith, string_bytes}
use Rattle.std.proofs.Math.Seq.{take-suc}
use Rattle.std.proofs.lemmas.Fmt.{decimal_digit}
use Rattle.std.proofs.lemmas.List.{get_or-reverse, length-reverse, map-append}
use Rattle.std.specs.Fmt.{decimal}
use Rattle.schedule_graph.proofs.number.push_digits.Goals as goal

abbrev code : ℕ → ℕ
code digit = 48 + digit

-- if a text ends with the first `done` digits, from the highest on, it ends with the first `done + 1` once the next
-- digit is appended
more : (digits : List ℕ) (done digit : ℕ) (old between new : List ℕ) → done < length digits → digit ≡ get_or digits (length digits - 1 - done) 0 → digit < 10
    → between ≡ old ++ map code (take done (reverse digits)) → new ≡ between ++ decimal digit → new ≡ old ++ map code (take (done + 1) (reverse digits))
more digits done digit old between new inside is small so_far then =
    let inside_reverse : done < length (reverse digits) = omega (arith, inside, length-reverse digits) in
    let next : get_or (reverse digits) done 0 ≡ digit = get_or-reverse digits done 0 inside ∙ sym is in
    then
    ∙ (λ i. so_far i ++ decimal_digit digit small i)
    ∙ append_assoc old (map code (take done (reverse digits))) (code digit ∷ [])
    ∙ ap (λ t. old ++ t) (sym (map-append code (take done (reverse digits)) (digit ∷ [])))
    ∙ ap (λ ds. old ++ map code ds) (sym (ap (λ k. take k (reverse digits)) (add-one done) ∙ take-suc (reverse digits) done 0 inside_reverse ∙ ap (λ d. take done (reverse digits) ++ d ∷ []) next))

pub loop-done-preserved : goal.loop-done-preserved
loop-done-preserved c =
    let digits = c.args.digits.now in
    let done = c.loop-done.done in
    more digits done (get_or digits (length digits - 1 - done) 0) (string_bytes c.args.text.now) (string_bytes c.loop-done.text) (string_bytes c.write.new.self)
    c.loop-done-test.true refl (c.requires (length digits - 1 - done) 0 (omega (arith, c.loop-done-test.true))) c.loop-done.invariant c.in_ok-write.ensures.bytes
