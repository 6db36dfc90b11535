use Rattle.air_symbolic.specs.declared.pools.expr.SymbolicExpr.TheVariants.{Leaf, Add, Sub, Neg, Mul}
use Rattle.air_symbolic.proofs.Pushed.{FindsNumbers-none}
use Rattle.air_symbolic.proofs.pools.kind_tables.KindTables.new.Goals as goal

pub returns : goal.returns
returns g c = record {
  leaves = FindsNumbers-none (λ a _. Leaf a) _ c.new.ensures;
  sums = FindsNumbers-none (λ k. Add k.0 k.1) _ c.new-2.ensures;
  differences = FindsNumbers-none (λ k. Sub k.0 k.1) _ c.new-3.ensures;
  negatives = FindsNumbers-none Neg _ c.new-4.ensures;
  products = FindsNumbers-none (λ k. Mul k.0 k.1) _ c.new-5.ensures;
}
