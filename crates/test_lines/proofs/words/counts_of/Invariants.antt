use Rattle.std.specs.List.{AllZip}
use Rattle.std.proofs.Common.{take}
use Rattle.test_lines.specs.Words.{SpellsNumber}
use Rattle.test_lines.proofs.words.counts_of.Given as goal

abbrev pub invariant-loop-part : goal.invariant-loop-part
invariant-loop-part l = AllZip (λ n w. SpellsNumber n w.now) l.all.items (take l.part-index l.part-items)
