use Rattle.std.proofs.lemmas.Result.{on_ok_weaker, on_err_weaker}
use Rattle.air_symbolic.proofs.Pushed.{enters-leaf, enters-sum, enters-difference, enters-negative, enters-product, keeps-leaf, keeps-sum, keeps-difference, keeps-negative, keeps-product}
use Rattle.air_symbolic.proofs.pools.kind_tables.KindTables.enter.Goals as goal

pub returns-in-Leaf-clause-entered : goal.returns-in-Leaf-clause-entered
returns-in-Leaf-clause-entered g c = on_ok_weaker _ (enters-leaf c.args.node.now c.args.number c.in-Leaf.a c.in-Leaf.is) c.enter.ensures.entered

pub returns-in-Leaf-clause-refused : goal.returns-in-Leaf-clause-refused
returns-in-Leaf-clause-refused g c = on_err_weaker _ keeps-leaf c.enter.ensures.refused

pub returns-in-Add-clause-entered : goal.returns-in-Add-clause-entered
returns-in-Add-clause-entered g c = on_ok_weaker _ (enters-sum c.args.node.now c.args.number (c.in-Add.x, c.in-Add.y) c.in-Add.degree_multiple c.in-Add.is) (rw c.number.ensures at (rw c.number-in-Add.ensures at c.enter-in-Add.ensures.entered))

pub returns-in-Add-clause-refused : goal.returns-in-Add-clause-refused
returns-in-Add-clause-refused g c = on_err_weaker _ keeps-sum c.enter-in-Add.ensures.refused

pub returns-in-Sub-clause-entered : goal.returns-in-Sub-clause-entered
returns-in-Sub-clause-entered g c = on_ok_weaker _ (enters-difference c.args.node.now c.args.number (c.in-Sub.x, c.in-Sub.y) c.in-Sub.degree_multiple c.in-Sub.is) (rw c.number-in-Sub.ensures at (rw c.number-in-Sub-2.ensures at c.enter-in-Sub.ensures.entered))

pub returns-in-Sub-clause-refused : goal.returns-in-Sub-clause-refused
returns-in-Sub-clause-refused g c = on_err_weaker _ keeps-difference c.enter-in-Sub.ensures.refused

pub returns-in-Neg-clause-entered : goal.returns-in-Neg-clause-entered
returns-in-Neg-clause-entered g c = on_ok_weaker _ (enters-negative c.args.node.now c.args.number c.in-Neg.x c.in-Neg.degree_multiple c.in-Neg.is) (rw c.number-in-Neg.ensures at c.enter-in-Neg.ensures.entered)

pub returns-in-Neg-clause-refused : goal.returns-in-Neg-clause-refused
returns-in-Neg-clause-refused g c = on_err_weaker _ keeps-negative c.enter-in-Neg.ensures.refused

pub returns-in-Mul-clause-entered : goal.returns-in-Mul-clause-entered
returns-in-Mul-clause-entered g c = on_ok_weaker _ (enters-product c.args.node.now c.args.number (c.in-Mul.x, c.in-Mul.y) c.in-Mul.degree_multiple c.in-Mul.is) (rw c.number-in-Mul.ensures at (rw c.number-in-Mul-2.ensures at c.enter-in-Mul.ensures.entered))

pub returns-in-Mul-clause-refused : goal.returns-in-Mul-clause-refused
returns-in-Mul-clause-refused g c = on_err_weaker _ keeps-product c.enter-in-Mul.ensures.refused
