use Rattle.std.proofs.Common.{◌≡◌, ℕ, length, map, take}
use Rattle.air_symbolic.specs.DegreeTables.{AreDegrees}
use Rattle.air_symbolic.proofs.pools.pool.ExprPool.degrees_from.Given as goal

-- the degrees of the first roots
abbrev pub invariant-loop-root : goal.invariant-loop-root
invariant-loop-root g l = (degree : ℕ → ℕ) → AreDegrees degree (length l.table.degrees.items) l.table.degrees.items → l.values.items ≡ map degree (take l.root-index l.roots)
