use Rattle.std.specs.List.{AllZip}
use Rattle.std.proofs.Common.{take, string_bytes}
use Rattle.test_lines.specs.Spelled.{IsTextOf}
use Rattle.test_lines.proofs.words.texts_of.Given as goal

abbrev pub invariant-loop-word : goal.invariant-loop-word
invariant-loop-word l = AllZip (λ text w. IsTextOf (string_bytes text) w.now) l.texts.items (take l.word-index l.words)
