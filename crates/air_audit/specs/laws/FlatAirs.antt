-- `RootsIn` has at most one proof.
use Rattle.std.specs.Prelude.{ℕ, List}
use Rattle.std.proofs.Props.{props}
use Rattle.air_symbolic.specs.ExtLeaves.{BaseNodes}
use Rattle.air_symbolic.specs.laws.OnePool.{base_pool-prop}
use Rattle.air_audit.specs.FlatAirs.{RootsIn}

pub RootsIn-prop : {F : Type 0} (p : BaseNodes F) (roots : List ℕ) → IsProp (RootsIn p roots)
RootsIn-prop p roots = hlevel (props, base_pool-prop p)
