use Rattle.std.proofs.Common.{arith}
use Rattle.air_symbolic.proofs.Lowering.{operands-there, added, subtracted, negated, multiplied}
use Rattle.air_symbolic.proofs.pools.lower.ExprPool+ExtLeaf+F+EF.over_base.Goals as goal

pub lowered_at-requires : goal.lowered_at-requires
lowered_at-requires g c = (operands-there g.F.Field.ring c.requires.pool c.requires.ready (rw c.in-Add.is at c.node.ensures)) 0 0 (omega arith)

pub lowered_at-requires-in-Add : goal.lowered_at-requires-in-Add
lowered_at-requires-in-Add g c = (operands-there g.F.Field.ring c.requires.pool c.requires.ready (rw c.in-Add.is at c.node.ensures)) 1 0 (omega arith)

pub lowered_at-requires-in-Sub : goal.lowered_at-requires-in-Sub
lowered_at-requires-in-Sub g c = (operands-there g.F.Field.ring c.requires.pool c.requires.ready (rw c.in-Sub.is at c.node.ensures)) 0 0 (omega arith)

pub lowered_at-requires-in-Sub-2 : goal.lowered_at-requires-in-Sub-2
lowered_at-requires-in-Sub-2 g c = (operands-there g.F.Field.ring c.requires.pool c.requires.ready (rw c.in-Sub.is at c.node.ensures)) 1 0 (omega arith)

pub lowered_at-requires-in-Neg : goal.lowered_at-requires-in-Neg
lowered_at-requires-in-Neg g c = (operands-there g.F.Field.ring c.requires.pool c.requires.ready (rw c.in-Neg.is at c.node.ensures)) 0 0 (omega arith)

pub lowered_at-requires-in-Mul : goal.lowered_at-requires-in-Mul
lowered_at-requires-in-Mul g c = (operands-there g.F.Field.ring c.requires.pool c.requires.ready (rw c.in-Mul.is at c.node.ensures)) 0 0 (omega arith)

pub lowered_at-requires-in-Mul-2 : goal.lowered_at-requires-in-Mul-2
lowered_at-requires-in-Mul-2 g c = (operands-there g.F.Field.ring c.requires.pool c.requires.ready (rw c.in-Mul.is at c.node.ensures)) 1 0 (omega arith)

pub returns-in-Add : goal.returns-in-Add
returns-in-Add g c = added g.F.Field.ring c.requires.pool c.requires.ready (rw c.in-Add.is at c.node.ensures) c.lowered_at.ensures c.lowered_at-in-Add.ensures

pub returns-in-Sub : goal.returns-in-Sub
returns-in-Sub g c = subtracted g.F.Field.ring c.requires.pool c.requires.ready (rw c.in-Sub.is at c.node.ensures) c.lowered_at-in-Sub.ensures c.lowered_at-in-Sub-2.ensures

pub returns-in-Neg : goal.returns-in-Neg
returns-in-Neg g c = negated g.F.Field.ring c.requires.pool c.requires.ready (rw c.in-Neg.is at c.node.ensures) c.lowered_at-in-Neg.ensures

pub returns-in-Mul : goal.returns-in-Mul
returns-in-Mul g c = multiplied g.F.Field.ring c.requires.pool c.requires.ready (rw c.in-Mul.is at c.node.ensures) c.lowered_at-in-Mul.ensures c.lowered_at-in-Mul-2.ensures
