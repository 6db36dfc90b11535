use Rattle.std.proofs.lemmas.Result.{IfOk-weaker}
use Rattle.air_symbolic.specs.ExtLeaves.{ext_reads}
use Rattle.air_symbolic.proofs.Making.{made-equal}
use Rattle.air_symbolic.proofs.pools.ext_pool.ExprPoolExtLeafFromVarSymbolicVariableExt.from_var.Goals as goal

pub returns-clause-extended : goal.returns-clause-extended
returns-clause-extended g c = c.variable.ensures.grown

pub returns-clause-made : goal.returns-clause-made
returns-clause-made g c =
    let reads = ext_reads g.EF.ExtensionField.basis in
    IfOk-weaker _ _ _ (λ z. made-equal g.F.Field.ring reads c.variable.new.self _ z) c.variable.ensures.made
