use Rattle.std.proofs.Common.{◌<◌, length, arith}
use Rattle.test_lines.specs.Words.{SpellsElement}
use Rattle.test_lines.proofs.Lists.{AllZip-more}
use Rattle.test_lines.proofs.words.elements_of.Goals as goal

pub loop-word-preserved : goal.loop-word-preserved
loop-word-preserved g c =
    let lt : c.loop-word.word-index < length c.args.words.now = omega arith in
    rw c.in_ok-push.ensures.items (AllZip-more (λ x w. SpellsElement g.F.Field.ring x w.now) c.loop-word.all.items c.args.words.now c.loop-word.word-index c.in_ok-element_of.field-0 _ lt c.loop-word.invariant c.in_ok-element_of.ensures.element)
