-- Proofs that protected IPA granules are in the address space, and that IPA granules outside it are not protected.
use Rattle.std.proofs.Common.{◌≡◌, ℕ, ◌+◌, ◌-◌, ◌*◌, ◌^◌, ◌<◌, ◌≤◌, ◌&&◌, true, cond, Option, Some, None, ⊎_elim, refl, sym, ap, ◌∙◌, subst, arith}
use Rattle.std.proofs.lemmas.Bool.{cases_lt, ltb-true, lt-ltb, le-leb, and_from}
use Rattle.std.proofs.lemmas.Nat.{pow-add, pow_pos}
use Rattle.std.proofs.Math.Pow.{pow_mono}
use Rattle.granule_addr.specs.Ipa.{is_width, is_in_space, is_protected_at}
use Rattle.granule_addr.specs.Root.{start_count, served_space}
use Rattle.realm_model.proofs.Booleans.{false_from, true_false}
use Rattle.rmi_monitor.proofs.Comparisons.{test_failed}

pub protected_inside : (width ipa : ℕ) → is_protected_at ipa width ≡ true → ipa < served_space width
protected_inside width ipa protected =
    let below : ipa < 2 ^ (width - 13) = ltb-true ipa (2 ^ (width - 13)) protected in
    ⊎_elim
    (λ (narrow : width < 39).
    let few : width - 13 ≤ 26 = omega arith in
    let least : 2 ^ (width - 13) ≤ 2 ^ 26 = pow_mono few in
    one_table (start_count width) (omega arith) (pow_pos (width - 39)))
    (λ (wide : 39 ≤ width).
    let split : width - 13 ≡ width - 39 + 26 = omega arith in
    let half : 2 ^ (width - 13) ≡ start_count width * 2 ^ 26 = ap (λ n. 2 ^ n) split ∙ pow-add 2 (width - 39) 26 in
    within (start_count width) (subst (λ n. ipa < n) half below))
    (cases_lt width 39)
  where
    within : (tables : ℕ) → ipa < tables * 67108864 → ipa < tables * 134217728
    within tables low = omega arith

    one_table : (tables : ℕ) → ipa < 67108864 → 1 ≤ tables → ipa < tables * 134217728
    one_table tables low some = omega arith

-- if an IPA granule is outside an address space of 39 to 43 bits, the check for protection gives `None`
pub outside_unprotected : (ipa width number : ℕ) → number ≡ width → 39 ≤ number → number ≤ 43 → None ≡ cond (is_width number && is_in_space ipa number) (Some ipa) None
    → (result : Option ℕ) → result ≡ None → result ≡ cond (is_protected_at ipa width) (Some ipa) None
outside_unprotected ipa width number same least most none result is =
    is ∙ ap (λ b. cond b (Some ipa) None) (sym (false_from (is_protected_at ipa width) (λ protected.
    let below : ipa < 2 ^ (width - 13) = ltb-true ipa (2 ^ (width - 13)) protected in
    let more : 2 ^ (width - 13) ≤ 2 ^ (number - 12) = pow_mono (omega arith) in
    let inside : is_in_space ipa number ≡ true = lt-ltb ipa (2 ^ (number - 12)) (omega arith) in
    let wide : is_width number ≡ true = and_from _ _ (le-leb 39 number least) (le-leb number 43 most) in
    true_false _ (and_from _ _ wide inside) (test_failed (is_width number && is_in_space ipa number) ipa None none refl))))
