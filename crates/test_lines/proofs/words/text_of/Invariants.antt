use Rattle.std.proofs.Common.{string_bytes}
use Rattle.test_lines.proofs.Spelled.{SpellsSoFar}
use Rattle.test_lines.proofs.words.text_of.Given as goal

abbrev pub invariant-loop-letter : goal.invariant-loop-letter
invariant-loop-letter l = SpellsSoFar l.yielded l.behind (string_bytes l.text)
