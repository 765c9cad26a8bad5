-- Proofs that for each IPA width the starting tables cover exactly the address space, half of which is protected.
use Rattle.std.proofs.Common.{◌≡◌, ◌+◌, ◌-◌, ◌*◌, ◌^◌, ◌≤◌, ℕ, true, sym, ap, ◌∙◌, arith}
use Rattle.std.proofs.lemmas.Bool.{and_parts, leb-true}
use Rattle.std.proofs.lemmas.Nat.{pow-add}
use Rattle.granule_addr.specs.Ipa.{is_width}
use Rattle.granule_addr.specs.Root.{start_count}

pub served_is : (width : ℕ) → is_width width ≡ true → start_count width * 2 ^ 27 ≡ 2 ^ (width - 12)
served_is width h =
    let least : 39 ≤ width = leb-true 39 width (and_parts _ _ h).0 in
    let split : width - 12 ≡ width - 39 + 27 = omega arith in
    sym (ap (λ n. 2 ^ n) split ∙ pow-add 2 (width - 39) 27)

pub half_is : (width : ℕ) → is_width width ≡ true → 2 ^ (width - 13) ≡ start_count width * 2 ^ 26
half_is width h =
    let least : 39 ≤ width = leb-true 39 width (and_parts _ _ h).0 in
    let split : width - 13 ≡ width - 39 + 26 = omega arith in
    ap (λ n. 2 ^ n) split ∙ pow-add 2 (width - 39) 26
