-- AIRs whose constraints are expressions of a pool.
use Rattle.std.specs.Prelude.{ℕ, ◌<◌, List, map, All}
use Rattle.air_symbolic.specs.BaseLeaves.{base_reads}
use Rattle.air_symbolic.specs.Pools.{IsPool, term_at, size}
use Rattle.air_symbolic.specs.ExtLeaves.{BaseNodes}
use Rattle.air_builder.specs.Assertion.{Assertion, Base}

-- the pool is one, and the roots are in it
pub record RootsIn {F : Type 0} (p : BaseNodes F) (roots : List ℕ) : Type 0 where
  pub pool : IsPool base_reads p
  pub here : All (λ i. i < size p) roots

-- that each root's term is zero, in order
abbrev pub zero_at_roots : {F : Type 0} → BaseNodes F → List ℕ → List (Assertion F)
zero_at_roots p roots = map (λ t. Base t) (map (term_at base_reads p) roots)
