use Rattle.std.proofs.Common.{◌≡◌, ℕ, ◌-◌, ◌^◌, ◌<◌, ◌&&◌, ◌||◌, Bool, true, false, not, nat_le, sym, ◌∙◌}
use Rattle.std.proofs.lemmas.Bool.{and_parts, lt-leb, ltb-true}
use Rattle.rmm_model.specs.declared.realm.RmmRealm.{RmmRealm}
use Rattle.rmm_model.specs.Realm.{is_protected}
use Rattle.rmm_granules.proofs.Widths.{space_fits, half_fits}
use Rattle.rmm.proofs.set_ripas.check_request.Goals as goal

-- the range begins at a protected address, as is known for a range that is not empty and a REC that belongs to the
-- realm
protected : (is_owner none is : Bool) → is_owner ≡ true → none ≡ false → (not is_owner || (none || is)) ≡ true → is ≡ true
protected true false true owned some either = either
protected true false false owned some either = either
protected true true is owned some either = cc
protected false none is owned some either = cc

-- if the REC belongs to the realm, a range that is not empty and within the request begins in the lower half of the
-- address space
below_half : (realm : RmmRealm) (within is_owner : Bool) (base top : ℕ) → is_owner ≡ true → base < top
    → (within && (not is_owner || (nat_le top base || is_protected realm base))) ≡ true → base < 2 ^ (realm.s2sz - 1)
below_half realm within is_owner base top owned some is =
    let parts = and_parts within (not is_owner || (nat_le top base || is_protected realm base)) is in
    ltb-true base (2 ^ (realm.s2sz - 1)) (protected is_owner (nat_le top base) (is_protected realm base) owned (lt-leb top base some) parts.1)

pub returns-clause-in_space : goal.returns-clause-in_space
returns-clause-in_space c =
    let realm = c.args.realm.now in
    half_fits realm.s2sz c.args.base
    (below_half realm (nat_le c.args.top c.args.asking.now.ripas.top) c.args.is_owner c.args.base c.args.top c.if-not-is_owner.false c.requires.size (sym c.is_within.ensures ∙ c.if-not-is_within.false))

pub returns-clause-low : goal.returns-clause-low
returns-clause-low c =
    let realm = c.args.realm.now in
    space_fits realm.s2sz c.args.base c.requires.width
    (half_fits realm.s2sz c.args.base
    (below_half realm (nat_le c.args.top c.args.asking.now.ripas.top) c.args.is_owner c.args.base c.args.top c.if-not-is_owner.false c.requires.size (sym c.is_within.ensures ∙ c.if-not-is_within.false)))
