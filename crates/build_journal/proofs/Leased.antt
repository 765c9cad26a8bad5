-- Proofs that writing one lease over a range of granules gives the same list of leases as setting the lease granule by
-- granule.
use Rattle.std.proofs.Common.{◌≡◌, ℕ, zero, suc, ◌+◌, ◌-◌, ◌≤◌, List, [], ◌∷◌, ◌++◌, length, take, drop, set, replicate, Option, sym, ap, ◌∙◌, arith, append_assoc, length-drop}
use Rattle.std.proofs.Math.Seq.{paste, paste-zero}
use Rattle.std.proofs.lemmas.List.{length-set, length-replicate, length-take-le, take_all, take-append-le, take_more_set, drop-set-lt}
use Rattle.std.proofs.lemmas.List.Edits.{length-paste}
use Rattle.std.proofs.lemmas.Slice.{put_mid-paste}
use Rattle.std.specs.List.{range_with_len}
use Rattle.realm_model.specs.StepLaw.{set_each}
use borrow.Rule.Slice.PartMut.{put_mid}

-- if `leases` has at least `count` elements from `first` on, pasting `count` copies of one lease there sets each of
-- these elements
pub paste-set_each : (leases : List (Option ℕ)) (lease : Option ℕ) (first count : ℕ) → first + count ≤ length leases
    → paste leases first (replicate count lease) count ≡ set_each lease (range_with_len first count) leases
unfolding set_each
paste-set_each leases lease first zero fits = sym (paste-zero leases first [])
paste-set_each leases lease first (suc count) fits =
    let once : List (Option ℕ) = set leases first lease in
    let same : length once ≡ length leases = length-set leases first lease in
    let end : first + suc count ≡ first + 1 + count = omega arith in
    let run : List (Option ℕ) = take count (replicate count lease) in
    let head : take first leases ++ (lease ∷ run) ≡ take (first + 1) once ++ run =
    sym (append_assoc (take first leases) (lease ∷ []) run) ∙ ap (λ (xs : List (Option ℕ)). xs ++ run) (sym (take_more_set leases first lease (omega arith))) in
    let tail : drop (first + suc count) leases ≡ drop (first + 1 + count) once =
    ap (λ (n : ℕ). drop n leases) end ∙ sym (drop-set-lt (first + 1 + count) leases first lease (omega arith)) in
    ap (λ (xs : List (Option ℕ)). xs ++ drop (first + suc count) leases) head
    ∙ ap (λ (xs : List (Option ℕ)). take (first + 1) once ++ run ++ xs) tail
    ∙ paste-set_each once lease (first + 1) count (omega arith)

-- replacing a part of the list by copies of one lease, one for each granule of the part, sets the lease of each of
-- these granules
pub written-set_each : (leases seen run : List (Option ℕ)) (lease : Option ℕ) (len first count many : ℕ)
    → seen ≡ leases → len ≡ length leases → many ≡ count → run ≡ replicate (length (take many (drop first seen))) lease → first + count ≤ length leases
    → take len (put_mid first many seen run ++ drop (length (put_mid first many seen run)) leases) ≡ set_each lease (range_with_len first count) leases
written-set_each leases seen run lease len first count many seen_is len_is many_is run_is fits =
    let fits' : first + count ≤ length seen = rw seen_is fits in
    let long : length (replicate count lease) ≡ count = length-replicate count lease in
    let rest : length (drop first seen) ≡ length seen - first = length-drop first seen in
    let part : length (take many (drop first seen)) ≡ count = length-take-le many (drop first seen) (omega arith) ∙ many_is in
    let run_is' : run ≡ replicate count lease = run_is ∙ ap (λ (n : ℕ). replicate n lease) part in
    let written : put_mid first many seen run ≡ paste seen first (replicate count lease) count =
    put_mid-paste first many seen run (replicate count lease) count run_is' (sym many_is) (sym long) in
    let whole : length (put_mid first many seen run) ≡ len =
    ap length written ∙ length-paste seen first (replicate count lease) count fits' (omega arith) ∙ ap length seen_is ∙ sym len_is in
    take-append-le len (put_mid first many seen run) (drop (length (put_mid first many seen run)) leases) (omega arith)
    ∙ take_all len (put_mid first many seen run) (omega arith)
    ∙ written
    ∙ ap (λ (xs : List (Option ℕ)). paste xs first (replicate count lease) count) seen_is
    ∙ paste-set_each leases lease first count fits
