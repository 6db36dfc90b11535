use Rattle.std.proofs.Common.{◌≡◌, ◌++◌, codes, string_bytes, take}
use Rattle.test_lines.proofs.Shown.{with_spaces}
use Rattle.test_lines.proofs.words.show_elements.Given as goal

-- the elements shown so far
abbrev pub invariant-loop-place : goal.invariant-loop-place
invariant-loop-place g l = string_bytes l.text ≡ (string_bytes l.fn.text ++ codes "[") ++ with_spaces g.F.Number.least (take l.place l.elements)
