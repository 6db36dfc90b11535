use Rattle.std.proofs.Common.{◌≡◌, map, take}
use Rattle.air_field.specs.Degree.{degree_by, cached_weight}
use Rattle.air_symbolic.specs.Pools.{term_at}
use Rattle.air_symbolic.proofs.pools.pool.ExprPool.stated_degrees.Given as goal

abbrev pub invariant-loop-root : goal.invariant-loop-root
invariant-loop-root g l = l.values.items ≡ map (λ x. degree_by cached_weight (term_at g.A.SymLeaf.reads l.self x)) (take l.root-index l.roots)
