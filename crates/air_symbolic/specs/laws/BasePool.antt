-- A pool of base expressions.
use Rattle.air_field.specs.Ring.{CommRing}
use Rattle.air_field.specs.Algebra.{AlgebraLaws}
use Rattle.air_symbolic.specs.Pools.{IsPool, PoolHas, PoolMeans, Grown}
use Rattle.air_symbolic.specs.BaseLeaves.{base_reads, base_grows}
use Rattle.air_symbolic.specs.laws.BaseLeaves.{base_leaf_laws}
use Rattle.air_symbolic.specs.PoolRefusals.{PoolRefuses}
use Rattle.air_symbolic.specs.laws.Pools.{pool_laws}

pub base_pool_laws : {F : Type 0} (r : CommRing F) → AlgebraLaws (IsPool (base_reads {F = F})) (PoolHas base_reads) (PoolMeans base_reads r) (Grown base_grows base_reads) PoolRefuses
base_pool_laws r = pool_laws r base_reads base_grows tt (base_leaf_laws r)
