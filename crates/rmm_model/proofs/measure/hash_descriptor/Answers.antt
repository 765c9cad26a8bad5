use Rattle.std.proofs.Common.{ℕ, List, [], ◌++◌, subst}
use Rattle.rmm_model.specs.Measure.{word, with_content}
use Rattle.rmm_model.proofs.measure.hash_descriptor.Goals as goal

pub returns : goal.returns
returns g c =
    let extension = c.args.extension.now in
    let front : List ℕ = word c.type_of.result ++ word 0x100 in
    let fed = c.feed_content.ensures (front ++ c.as_slice.result.now) (c.update.ensures front (c.feed_word-2.ensures (word c.type_of.result) (c.feed_word.ensures [] c.new-hasher.ensures))) in
    subst (λ (t : ℕ). g.D.Digest.digest_of (with_content (word t ++ word 0x100 ++ c.args.rim.now) extension) c.finalize.result) c.type_of.ensures
    (subst (λ (rim : List ℕ). g.D.Digest.digest_of (with_content (front ++ rim) extension) c.finalize.result) c.as_slice.ensures
    (c.finalize.ensures (with_content (front ++ c.as_slice.result.now) extension) fed))
