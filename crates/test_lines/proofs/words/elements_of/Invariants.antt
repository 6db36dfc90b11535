use Rattle.std.specs.List.{AllZip}
use Rattle.std.proofs.Common.{take}
use Rattle.test_lines.specs.Words.{SpellsElement}
use Rattle.test_lines.proofs.words.elements_of.Given as goal

abbrev pub invariant-loop-word : goal.invariant-loop-word
invariant-loop-word g l = AllZip (λ x w. SpellsElement g.F.Field.ring x w.now) l.all.items (take l.word-index l.words)
