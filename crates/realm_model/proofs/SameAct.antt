-- The proof that the derived `==` of operations decides equality.
use Rattle.std.proofs.Common.{◌&&◌, ℕ, nat_eq}
use Rattle.std.specs.Str.{bytes_eq}
use Rattle.arrayvec.specs.declared.array_vec.ArrayVec.{ArrayVec}
use Rattle.granule_addr.specs.declared.width.Root.{Root}
use Rattle.realm_model.specs.contracts.act.Act as act
use Rattle.realm_model.specs.contracts.act.ActPartialEq.TheImpl as derived
use Rattle.realm_model.proofs.Same.{DecidesEquality, number, numbers, nothing, through, last, both, variant}

root : DecidesEquality (λ (x y : Root). nat_eq x.first y.first && nat_eq x.width y.width)
root = through (λ (x : Root). (x.first, x.width)) (λ x y same i. record { first = (same i).0; width = (same i).1 }) (both number number)

granules : DecidesEquality (λ (x y : ArrayVec ℕ 16 (Unit {0})). bytes_eq x.items y.items)
granules = through (λ (x : ArrayVec ℕ 16 (Unit {0})). x.items) (λ x y same i. record { items = same i }) numbers

-- the derived `==` of operations decides equality; the proof goes through the variants of `Act` in sequence
pub same_act : DecidesEquality derived.eq-value.it
same_act =
    let one = last number in
    let two = both number one in
    let three = both number two in
    let four = both number three in
    let realm = both number (both root one) in
    let rec = both number (both granules one) in
    variant act.enum _ (two, (two, (two, (three, (one, (one, (realm, (realm, (nothing, (three, (three, (two, (three, (two, (two, (rec, (rec, (one, (one, (four, tt))))))))))))))))))))
