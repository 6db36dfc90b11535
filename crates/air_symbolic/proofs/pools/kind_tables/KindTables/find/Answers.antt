use Rattle.air_symbolic.specs.declared.pools.expr.SymbolicExpr.TheVariants.{Leaf, Add, Sub, Neg, Mul}
use Rattle.air_symbolic.proofs.Pushed.{FindsNumbers-find}
use Rattle.air_symbolic.proofs.pools.kind_tables.KindTables.find.Goals as goal

pub returns-in-Leaf : goal.returns-in-Leaf
returns-in-Leaf g c = λ nodes numbered. rw c.in-Leaf.is (FindsNumbers-find (λ a _. Leaf a) nodes _ c.in-Leaf.a _ numbered.leaves c.find.ensures)

pub returns-in-Add : goal.returns-in-Add
returns-in-Add g c = λ nodes numbered. rw c.in-Add.is (FindsNumbers-find (λ k. Add k.0 k.1) nodes _ (c.in-Add.x, c.in-Add.y) _ numbered.sums (rw c.number.ensures at (rw c.number-in-Add.ensures at c.find-in-Add.ensures)))

pub returns-in-Sub : goal.returns-in-Sub
returns-in-Sub g c = λ nodes numbered. rw c.in-Sub.is (FindsNumbers-find (λ k. Sub k.0 k.1) nodes _ (c.in-Sub.x, c.in-Sub.y) _ numbered.differences (rw c.number-in-Sub.ensures at (rw c.number-in-Sub-2.ensures at c.find-in-Sub.ensures)))

pub returns-in-Neg : goal.returns-in-Neg
returns-in-Neg g c = λ nodes numbered. rw c.in-Neg.is (FindsNumbers-find Neg nodes _ c.in-Neg.x _ numbered.negatives (rw c.number-in-Neg.ensures at c.find-in-Neg.ensures))

pub returns-in-Mul : goal.returns-in-Mul
returns-in-Mul g c = λ nodes numbered. rw c.in-Mul.is (FindsNumbers-find (λ k. Mul k.0 k.1) nodes _ (c.in-Mul.x, c.in-Mul.y) _ numbered.products (rw c.number-in-Mul.ensures at (rw c.number-in-Mul-2.ensures at c.find-in-Mul.ensures)))
