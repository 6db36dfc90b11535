use Rattle.std.proofs.Common.{◌≡◌, ◌≤◌, length}
use Rattle.std.specs.Str.Lines.{lines}
use Rattle.air_program.specs.Grammar.{rows_of_lines}
use Rattle.air_program.specs.Parsing.{element_values}
use Rattle.air_program.proofs.input.parser.push_row.Given as goal

abbrev pub invariant-lines : goal.invariant-lines
invariant-lines l = record {
  kept : element_values l.numbers.items ≡ element_values l.fn.numbers.items;
  same : rows_of_lines (lines l.rest.now) ≡ rows_of_lines (lines l.fn.rest.now);
  shorter : length (lines l.rest.now) ≤ length (lines l.fn.rest.now);
}

abbrev pub decreases-lines : goal.decreases-lines
decreases-lines l = length (lines l.rest.now)
