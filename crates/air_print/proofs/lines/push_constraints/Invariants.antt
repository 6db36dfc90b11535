use Rattle.std.proofs.Common.{◌≡◌, ◌++◌, map, string_bytes}
use Rattle.air_print.specs.Lines.{lines_text, number_lines, constraint_line}
use Rattle.air_print.proofs.LineLemmas.{lines_from}
use Rattle.air_print.proofs.lines.push_constraints.Given as goal

-- the written text and the remaining lines make up the result
abbrev pub invariant-loop-place : goal.invariant-loop-place
invariant-loop-place g l =
    let line = constraint_line g.F.PrimeField64.residues l.pool l.names.1 (map string_bytes l.shown) in
    string_bytes l.text ++ lines_from line l.place-counter l.roots ≡ string_bytes l.fn.text ++ lines_text (number_lines line l.roots)
