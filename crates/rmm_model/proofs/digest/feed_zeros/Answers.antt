use Rattle.std.proofs.Common.{◌≡◌, ℕ, List, ◌+◌, ◌-◌, ◌≤◌, ◌++◌, sym, subst, arith}
use Rattle.rmm_model.specs.Bytes.{zeros}
use Rattle.rmm_model.proofs.Zeros.{zeros-same, zeros-more}
use Rattle.rmm_model.proofs.digest.feed_zeros.Goals as goal

pub zeros-init : goal.zeros-init
zeros-init g c = record {
  fed = λ m h. subst (λ (bytes : List ℕ). g.D.Digest.holds c.args.hasher.now bytes) (sym (zeros-same m c.args.count)) h;
  within = omega arith;
}

pub zeros-preserved : goal.zeros-preserved
zeros-preserved g c =
    let some : ℕ = c.min-some.result in
    let left : ℕ = c.zeros.left in
    record {
      fed = λ m h. subst (λ (bytes : List ℕ). g.D.Digest.holds c.feed_some_zeros.new.hasher bytes)
          (zeros-more m (c.args.count - left) some (c.args.count - (left - some)) (omega (arith, c.zeros.invariant.within, c.min-some.ensures)))
          (c.feed_some_zeros.ensures (m ++ zeros (c.args.count - left)) (c.zeros.invariant.fed m h));
      within = omega (arith, c.zeros.invariant.within);
    }
