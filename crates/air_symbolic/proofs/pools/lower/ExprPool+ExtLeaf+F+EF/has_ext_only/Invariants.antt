use Rattle.std.proofs.Common.{ℕ, ◌<◌, get_or, None}
use Rattle.air_symbolic.specs.Lowered.{IsMarkedExtOnly}
use Rattle.air_symbolic.proofs.pools.lower.ExprPool+ExtLeaf+F+EF.has_ext_only.Given as goal

abbrev pub invariant-loop-mark : goal.invariant-loop-mark
invariant-loop-mark g l = (i : ℕ) → i < l.mark-index → IsMarkedExtOnly l.self (get_or l.marks i None) → ⊥
