use Rattle.std.proofs.Common.{◌≡◌, length}
use Rattle.air_program.specs.Grammar.{fields_of}
use Rattle.air_program.proofs.input.pieces.next_field.Given as goal

abbrev pub invariant-parts : goal.invariant-parts
invariant-parts l = fields_of l.rest ≡ fields_of l.line

abbrev pub decreases-parts : goal.decreases-parts
decreases-parts l = length l.rest
