use Rattle.std.proofs.Common.{ℕ, List, length, sym, ap, subst, arith}
use Rattle.realm_model.specs.RecsOpen.{IsRising}
use Rattle.host_ledger.specs.Recs.{IsAbove}
use Rattle.host_ledger.proofs.RecsFollow.{rising_with}
use Rattle.host_ledger.proofs.recs.Recs.push.Goals as goal

pub push_reserved-requires : goal.push_reserved-requires
push_reserved-requires c =
    let same = ap length c.self.view_is in
    omega (arith, same, c.requires.few, c.self.invariant.0, c.self.inside.entries.ok.0)

pub invariant_of-self : goal.invariant_of-self
invariant_of-self c =
    let same = ap length c.self.view_is in
    let made = c.push_reserved.ensures in (
      omega (arith, made.capacity, c.self.invariant.0),
      omega (arith, made.len, same, c.requires.few, c.self.inside.entries.ok.0),
      subst IsRising (sym made.items)
          (rising_with c.self.inside.entries.items c.args.number c.args.granule c.self.invariant.2
          (subst (λ (recs : List (ℕ × ℕ)). IsAbove recs c.args.number) (sym c.self.view_is) c.requires.above)),
    )
