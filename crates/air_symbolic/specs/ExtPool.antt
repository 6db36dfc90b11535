-- A pool of extension expressions, over the base pool that it owns.
use Rattle.std.specs.Prelude.{ℕ}
use Rattle.air_field.specs.Ring.{CommRing}
use Rattle.air_field.specs.Extension.{Basis}
use Rattle.air_field.specs.Term.{Term}
use Rattle.air_field.specs.Algebra.{Made}
use Rattle.air_symbolic.specs.Pools.{IsPool, PoolHas, PoolMeans, Grown, Pool, on_base}
use Rattle.air_symbolic.specs.BaseLeaves.{base_reads}
use Rattle.air_symbolic.specs.ExtLeaves.{BaseNodes, ext_grows, ext_reads}
use Rattle.air_symbolic.specs.declared.leaves.ext_leaf.ExtLeaf.{ExtLeaf}

-- an extension pool over its base pool, as contracts see it
abbrev pub ExtNodes : Type 0 → Type 0 → Type 0
ExtNodes F EF = Pool (BaseNodes F) (ExtLeaf F EF)

module _ {F EF : Type 0} (basis : Basis F EF) where
  -- the extension pool has grown
  abbrev pub ExtGrown : ExtNodes F EF → ExtNodes F EF → Type 0
  ExtGrown p q = Grown ext_grows (ext_reads basis) p q

  -- if only the base pool grows, the extension pool has grown
  abbrev pub GrowsWithBase : ExtNodes F EF → Type 0
  GrowsWithBase p = (u : BaseNodes F) → ext_grows p.base u → ExtGrown p (on_base p u)

  -- number i is in the base pool
  pub record BaseHas (p : ExtNodes F EF) (i : ℕ) : Type 0 where
    pub pool : IsPool (ext_reads basis) p
    pub base : PoolHas base_reads p.base i

module _ {F EF : Type 0} (r : CommRing F) (basis : Basis F EF) where
  -- number z of the extension pool means t
  abbrev pub ExtMade : Term F → ExtNodes F EF → ℕ → Type 0
  ExtMade = Made (PoolHas (ext_reads basis)) (PoolMeans (ext_reads basis) r)

  -- number i of the base pool means t
  pub record BaseMeans (p : ExtNodes F EF) (i : ℕ) (t : Term F) : Type 0 where
    pub pool : IsPool (ext_reads basis) p
    pub base : PoolMeans base_reads r p.base i t
