use Rattle.std.proofs.Common.{◌≡◌, ◌<◌, length, Some, None, option_copied, sym, ap, ◌∙◌, arith}
use Rattle.std.proofs.lemmas.Bool.{eqb-false, eqb-true}
use Rattle.rmm_trace.specs.Cuts.{before_mark}
use Rattle.rmm_trace.specs.Words.{word_in}
use Rattle.rmm_trace.proofs.Parts.{first_of_rest, found_more, found_no_word, found_too_many}
use Rattle.rmm_trace.proofs.sentence.read_into.Goals as goal

pub returns-then-is_full : goal.returns-then-is_full
returns-then-is_full c =
    let full : length c.words.words.items ≡ 64 = eqb-true _ _ (sym c.if-is_full.ensures.value) in
    found_too_many _ c.words.words.items (option_copied c.words.rest) c.in-Some.here.now full (ap option_copied c.in-Some.is) c.words.invariant.same

pub returns-in-None : goal.returns-in-None
returns-in-None c =
    let room : length c.words.words.items < 64 = omega (arith, eqb-false _ _ (sym c.if-is_full.ensures.value), c.if-is_full.ensures.fits) in
    let here : None ≡ word_in (before_mark 32 c.in-Some.here.now) = c.in-None.ensures ∙ ap word_in c.cut_at.ensures.before in
    found_no_word _ c.words.words.items (option_copied c.words.rest) c.in-Some.here.now room (ap option_copied c.in-Some.is) here c.words.invariant.same

pub words-smaller : goal.words-smaller
words-smaller c = rw c.cut_at.ensures.after ((first_of_rest (option_copied c.words.rest) c.in-Some.here.now (ap option_copied c.in-Some.is)).smaller)

pub words-preserved : goal.words-preserved
words-preserved c =
    let room : length c.words.words.items < 64 = omega (arith, eqb-false _ _ (sym c.if-is_full.ensures.value), c.if-is_full.ensures.fits) in
    let here : Some c.in-Some-read_word.word ≡ word_in (before_mark 32 c.in-Some.here.now) = c.in-Some-read_word.ensures ∙ ap word_in c.cut_at.ensures.before in
    record {
      few = rw c.push.ensures.len (omega arith);
      same = rw (c.push.ensures.items, c.cut_at.ensures.after)
          (found_more _ c.words.words.items (option_copied c.words.rest) c.in-Some.here.now c.in-Some-read_word.word room (ap option_copied c.in-Some.is) here c.words.invariant.same);
    }
