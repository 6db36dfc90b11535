use Rattle.std.proofs.Common.{◌<◌, length, string_bytes, arith}
use Rattle.test_lines.specs.Spelled.{IsTextOf}
use Rattle.test_lines.proofs.Lists.{AllZip-more}
use Rattle.test_lines.proofs.words.texts_of.Goals as goal

pub loop-word-preserved : goal.loop-word-preserved
loop-word-preserved c =
    let lt : c.loop-word.word-index < length c.args.words.now = omega arith in
    rw c.in_ok-push.ensures.items (AllZip-more (λ text w. IsTextOf (string_bytes text) w.now) c.loop-word.texts.items c.args.words.now c.loop-word.word-index c.in_ok-text_of.field-0 _ lt c.loop-word.invariant (c.in_ok-text_of.ensures.none, c.in_ok-text_of.ensures.text))
