use Rattle.std.proofs.Common.{sym}
use Rattle.air_program.proofs.Cuts.{found, not_found, rest_of}
use Rattle.air_program.proofs.input.pieces.cut.Goals as goal

pub returns-in_err-end-clause-none : goal.returns-in_err-end-clause-none
returns-in_err-end-clause-none c = rw c.from_residual.ensures (not_found _ c.args.bytes.now (sym c.in_err-end.ensures))

pub returns-clause-some : goal.returns-clause-some
returns-clause-some c = rw rest_of (found _ c.args.bytes.now c.in_ok-end.end (sym c.in_ok-end.ensures)).1
