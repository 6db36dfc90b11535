use Rattle.std.proofs.Common.{◌≡◌, ◌≤◌, length, vec_len}
use Rattle.air_program.specs.Grammar.{numbers_in, numbers_of_line, fields_of}
use Rattle.air_program.specs.Parsing.{element_values, onto}
use Rattle.air_program.proofs.input.parser.push_numbers.Given as goal

abbrev pub invariant-fields : goal.invariant-fields
invariant-fields l = record {
  same : onto (element_values l.numbers.items) (numbers_in (fields_of l.rest)) ≡ onto (element_values l.fn.numbers.items) (numbers_of_line l.line);
  more : l.before ≤ vec_len l.numbers;
}

abbrev pub decreases-fields : goal.decreases-fields
decreases-fields l = length (fields_of l.rest)
