-- The contracts' view of a recording.
use Rattle.std.specs.Prelude.{ℕ, List, ⊤}
use Rattle.air_symbolic.specs.Pools.{Pool}
use Rattle.air_symbolic.specs.declared.leaves.base_leaf.BaseLeaf.{BaseLeaf}
use Rattle.air_symbolic.specs.declared.leaves.ext_leaf.ExtLeaf.{ExtLeaf}

-- A recording: a pool, and the numbers of the recorded expressions of each kind, in order: the base ones in the pool's base
-- pool, the extension ones in the pool.
pub record Recording (F E : Type 0) : Type 0 where
  pub pool : Pool (Pool ⊤ (BaseLeaf F)) (ExtLeaf F E)
  pub base : List ℕ
  pub ext : List ℕ
