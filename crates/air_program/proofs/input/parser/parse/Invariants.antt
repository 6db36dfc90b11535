use Rattle.std.proofs.Common.{◌≡◌, ◌%◌, length, vec_len}
use Rattle.std.specs.Str.Lines.{lines}
use Rattle.air_program.specs.Grammar.{rows_of_lines, parse}
use Rattle.air_program.specs.Parsing.{element_values}
use Rattle.air_program.proofs.Inputs.{input_with}
use Rattle.air_program.proofs.input.parser.parse.Given as goal

abbrev pub invariant-rows : goal.invariant-rows
invariant-rows l = record {
  rest : input_with (element_values l.public_values.items) (element_values l.values.items) (rows_of_lines (lines l.rest)) ≡ parse l.bytes;
  three : vec_len l.public_values ≡ 3;
  whole_rows : vec_len l.values % 2 ≡ 0;
}

abbrev pub decreases-rows : goal.decreases-rows
decreases-rows l = length (lines l.rest)
