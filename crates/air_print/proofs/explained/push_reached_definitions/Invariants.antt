use Rattle.std.proofs.Common.{◌≡◌, ◌++◌, string_bytes}
use Rattle.air_print.specs.Lines.{lines_text}
use Rattle.air_print.specs.Explained.{reached_definitions}
use Rattle.air_print.proofs.Definitions.{definitions_from}
use Rattle.air_print.proofs.explained.push_reached_definitions.Given as goal

-- the written text and the remaining lines make up the result
abbrev pub invariant-loop-name : goal.invariant-loop-name
invariant-loop-name g l =
    let m = g.F.PrimeField64.residues in
    string_bytes l.text ++ definitions_from m l.pool l.names.1 l.marks l.name l.id-items ≡ string_bytes l.fn.text ++ lines_text (reached_definitions m l.pool (l.id-items, l.names.1) l.marks)
