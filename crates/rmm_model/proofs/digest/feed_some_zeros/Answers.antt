use Rattle.std.proofs.Common.{ℕ, List, ◌++◌, subst}
use Rattle.rmm_model.proofs.Zeros.{take-zeros}
use Rattle.rmm_model.proofs.digest.feed_some_zeros.Goals as goal

pub returns : goal.returns
returns g c = λ m h. subst (λ (tail : List ℕ). g.D.Digest.holds c.update.new.self (m ++ tail)) (take-zeros c.args.count c.requires) (c.update.ensures m h)
