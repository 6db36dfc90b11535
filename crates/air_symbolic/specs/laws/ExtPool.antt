-- The laws of an extension pool as a ring, over the base pool that it owns.
use Rattle.std.specs.Prelude.{◌≡◌, ℕ}
use Rattle.std.proofs.Common.{subst}
use Rattle.air_field.specs.Ring.{CommRing, AlgebraOver}
use Rattle.air_field.specs.Extension.{Basis, ExtensionLaws}
use Rattle.air_field.specs.Algebra.{AlgebraLaws}
use Rattle.air_field.specs.ExtAlgebra.{ExtAlgebraLaws}
use Rattle.air_symbolic.specs.Pools.{IsPool, PoolHas, PoolMeans, Grown, on_base}
use Rattle.air_symbolic.specs.BaseLeaves.{base_reads, base_grows}
use Rattle.air_symbolic.specs.laws.BaseLeaves.{base_leaf_laws}
use Rattle.air_symbolic.specs.ExtLeaves.{BaseNodes, no_base_nodes, ext_grows, ext_reads}
use Rattle.air_symbolic.specs.laws.ExtLeaves.{ext_leaf_laws}
use Rattle.air_symbolic.specs.PoolRefusals.{PoolRefuses}
use Rattle.air_symbolic.specs.laws.Pools.{pool_laws, Grown-under, has-kept, means-kept}
use Rattle.air_symbolic.specs.ExtPool.{ExtNodes, BaseHas, BaseMeans}

module _ {F EF : Type 0} {r : CommRing F} {over : AlgebraOver F EF} {basis : Basis F EF} {n : ℕ} (laws : ExtensionLaws r over basis n) where
  -- an extension pool is a ring of expressions
  pub ext_pool_laws : AlgebraLaws (IsPool (ext_reads basis)) (PoolHas (ext_reads basis))
      (PoolMeans (ext_reads basis) r) (Grown ext_grows (ext_reads basis)) PoolRefuses
  ext_pool_laws = pool_laws r (ext_reads basis) ext_grows no_base_nodes (ext_leaf_laws laws)

  -- if the base pool was borrowed and has grown, the extension pool has grown
  pub base_lent : (p : ExtNodes F EF) (u : BaseNodes F) → ext_grows p.base u → Grown ext_grows (ext_reads basis) p (on_base p u)
  base_lent p u g = Grown-under r (ext_reads basis) ext_grows no_base_nodes (ext_leaf_laws laws) p u g

  -- `base_lent` for a borrowed value equal to the base pool
  pub base_lent_from : (p : ExtNodes F EF) (lent u : BaseNodes F) → lent ≡ p.base → ext_grows lent u → Grown ext_grows (ext_reads basis) p (on_base p u)
  base_lent_from p lent u e g = base_lent p u (subst (λ (l : BaseNodes F). ext_grows l u) e g)

-- if the extension pool has grown, its base pool has grown
pub base_grown : {F EF : Type 0} (basis : Basis F EF) (p q : ExtNodes F EF) → Grown ext_grows (ext_reads basis) p q → Grown base_grows base_reads p.base q.base
base_grown basis p q g = g.base

module _ {F EF : Type 0} (r : CommRing F) (basis : Basis F EF) where
  -- numbers of the base pool stay in it and keep their meaning
  pub ext_keeps_base : ExtAlgebraLaws (IsPool (ext_reads basis)) (BaseHas basis) (BaseMeans r basis)
      (Grown ext_grows (ext_reads basis))
  ext_keeps_base = record {
    base_has_stays = λ p q x g h. record { pool = g.pool h.pool; base = has-kept r base_reads base_grows tt (base_leaf_laws r) p.base q.base x g.base h.base };
    base_means_stays = λ p q x t g h. record { pool = g.pool h.pool; base = means-kept r base_reads base_grows tt (base_leaf_laws r) p.base q.base x t g.base h.base };
    base_means_has = λ p x t h. record { pool = h.pool; base = record { pool = h.base.pool; here = h.base.here } };
    base_has_valid = λ p x h. h.pool;
    base_means_some = λ p x h.
        let some = (pool_laws r base_reads base_grows tt (base_leaf_laws r)).means_some p.base x h.base in
        (some.0, record { pool = h.pool; base = some.1 });
  }
