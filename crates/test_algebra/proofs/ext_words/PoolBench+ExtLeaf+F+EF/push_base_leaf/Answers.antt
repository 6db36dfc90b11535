use Rattle.air_symbolic.specs.laws.ExtPool.{base_lent_from}
use Rattle.test_algebra.proofs.ext_words.PoolBench+ExtLeaf+F+EF.push_base_leaf.Goals as goal

pub invariant_of-self : goal.invariant_of-self
invariant_of-self g c = (base_lent_from g.met.EF.ExtensionField.laws c.self.inside.pool c.base_mut.result.now c.leaf_expr.new.self c.base_mut.ensures.value c.leaf_expr.ensures.grown).pool c.self.invariant
