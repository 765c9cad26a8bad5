use Rattle.std.proofs.Common.{sym, ap, ◌∙◌}
use Rattle.hex.specs.Hex.{decode_of}
use Rattle.hex.proofs.HexLemmas.{decode_of-encode_lower}
use Rattle.rmm_trace.proofs.law.measurement_texts_are_injective.Goals as goal

pub returns : goal.returns
returns c = λ a b is_a is_b same.
    let both = sym (decode_of-encode_lower a is_a) ∙ ap decode_of same ∙ decode_of-encode_lower b is_b in
    cc
