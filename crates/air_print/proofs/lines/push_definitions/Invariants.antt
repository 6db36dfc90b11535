use Rattle.std.proofs.Common.{◌≡◌, ◌++◌, string_bytes}
use Rattle.air_print.specs.Lines.{lines_text, number_lines, definition_line}
use Rattle.air_print.proofs.LineLemmas.{lines_from}
use Rattle.air_print.proofs.lines.push_definitions.Given as goal

-- the written text and the remaining lines make up the result
abbrev pub invariant-loop-name : goal.invariant-loop-name
invariant-loop-name g l =
    let line = definition_line g.F.PrimeField64.residues l.pool l.names.1 in
    string_bytes l.text ++ lines_from line l.name-counter l.id-items ≡ string_bytes l.fn.text ++ lines_text (number_lines line l.id-items)
