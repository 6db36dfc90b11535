use Rattle.air_field.specs.Term.{mul_term}
use Rattle.air_field.proofs.JoinLaws.{take_one, join_refused, part-mul_left}
use Rattle.air_field.proofs.rings.algebra.Algebra.product.Goals as goal

pub loop-x-preserved : goal.loop-x-preserved
loop-x-preserved g c = take_one g.met.Self.Algebra.laws mul_term g.F.Field.ONE _ _ c.loop-x-test.true c.x-item.is c.mul.ensures.extended c.in_ok-total.ensures.made c.loop-x.invariant

pub returns-in_err-total-clause-refused : goal.returns-in_err-total-clause-refused
returns-in_err-total-clause-refused g c = join_refused g.met.Self.Algebra.laws mul_term g.F.Field.ONE _ _ c.loop-x-test.true c.x-item.is part-mul_left c.in_err-total.ensures.refused c.loop-x.invariant _ c.from_residual.ensures.1
