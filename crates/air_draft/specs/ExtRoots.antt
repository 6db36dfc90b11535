-- What the roots of a pool mean over an extension.
use Rattle.air_field.specs.Ring.{CommRing}
use Rattle.air_field.specs.Extension.{Basis}
use Rattle.air_builder.specs.Assertion.{Assertion, Base, Extension}
use Rattle.air_symbolic.specs.BaseLeaves.{base_reads}
use Rattle.air_symbolic.specs.ExtLeaves.{ext_reads}
use Rattle.air_symbolic.specs.ExtPool.{ExtNodes}
use Rattle.air_symbolic.specs.Pools.{PoolMeans}
use Rattle.air_audit.specs.declared.flat.root.Root.{Root}
use Rattle.air_audit.specs.declared.flat.root.Root.TheVariants as root

-- a root means what an assertion of its kind says to be zero
abbrev pub RootMeans : {F EF : Type 0} → CommRing F → Basis F EF → ExtNodes F EF → Root F EF → Assertion F → Type 0
RootMeans r basis p (root.Base i) (Base t) = PoolMeans base_reads r p.base i t
RootMeans r basis p (root.Extension i) (Extension t) = PoolMeans (ext_reads basis) r p i t
RootMeans r basis p _ _ = ⊥
