use Rattle.std.proofs.Common.{◌≡◌, ◌++◌, eqb, take, get_or, string_bytes}
use Rattle.air_print.specs.Equations.{equation}
use Rattle.air_print.proofs.ExplainedPieces.{begun}
use Rattle.air_print.proofs.equations.push_equations.Given as goal

-- the equations so far
abbrev pub invariant-loop-id : goal.invariant-loop-id
invariant-loop-id g l = record {
  first : l.is_first ≡ eqb l.id-index 0;
  text_is : string_bytes l.text ≡ string_bytes l.fn.text ++ begun (equation g.F.PrimeField64.residues l.pool l.names.1 (λ j. get_or l.values j g.F.Field.ring.zero)) (take l.id-index l.ids);
}
