use Rattle.std.proofs.Common.{◌≡◌, ◌<◌, ℕ, length}
use Rattle.air_symbolic.specs.ExtLeaves.{ext_grows, ext_reads}
use Rattle.air_symbolic.specs.Lowered.{LoweredAt}
use Rattle.air_symbolic.specs.Pools.{Grown}
use Rattle.air_symbolic.specs.Reach.{Marked}
use Rattle.air_symbolic.proofs.pools.lower.ExprPool+ExtLeaf+F+EF.lower.Given as goal

-- the marked numbers so far are lowered in the present base pool
abbrev pub invariant-loop-mark : goal.invariant-loop-mark
invariant-loop-mark g l = record {
  same_nodes : l.self.nodes ≡ l.initial.self.nodes;
  grown : Grown ext_grows (ext_reads g.EF.ExtensionField.basis) l.initial.self l.self;
  places : length l.table.items ≡ l.mark-index;
  made : (i : ℕ) → i < l.mark-index → Marked l.marks i → LoweredAt l.self l.table.items i;
}
