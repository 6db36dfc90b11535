use Rattle.air_author.proofs.Powers.{IsPower}
use Rattle.air_author.proofs.expressions.power.multiply_by_itself.Given as goal

abbrev pub invariant-loop-done : goal.invariant-loop-done
invariant-loop-done g l = IsPower g.R.Algebra.has g.R.Algebra.means g.R.Algebra.extends g.F.Field.ring.one l.initial.ring l.ring l.x l.total l.done
