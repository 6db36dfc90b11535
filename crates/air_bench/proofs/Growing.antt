-- The last nodes of a pool that grows by one.
use Rattle.std.proofs.Common.{◌≡◌, ℕ, ◌+◌, ◌<◌, [], ◌∷◌, length, ap, ◌∙◌, arith}
use Rattle.std.proofs.Math.ListN.{length-append}
use Rattle.std.proofs.lemmas.List.Elements.{All-cons}
use Rattle.air_symbolic.specs.BaseLeaves.{base_reads}
use Rattle.air_symbolic.specs.ExtLeaves.{BaseNodes}
use Rattle.air_symbolic.specs.Pools.{Pool, Grown, IsPool, size}
use Rattle.air_symbolic.specs.declared.leaves.base_leaf.BaseLeaf.{BaseLeaf}
use Rattle.air_audit.specs.FlatAirs.{RootsIn}

module _ {F : Type 0} {grows : Unit {0} → Unit {0} → Type 0} {p q : Pool (Unit {0}) (BaseLeaf F)} (g : Grown grows base_reads p q) where
  kept : {i : ℕ} → i < length p.nodes → i < length q.nodes
  kept h = let longer : length q.nodes ≡ length p.nodes + length g.nodes.0 = ap length g.nodes.1 ∙ length-append p.nodes g.nodes.0 in omega (arith, longer, h)

  pub last_four : {u v x y z : ℕ} → RootsIn p (u ∷ v ∷ x ∷ y ∷ []) → z < length q.nodes → RootsIn q (v ∷ x ∷ y ∷ z ∷ [])
  last_four {u = u} {v = v} {x = x} {y = y} {z = z} old h = record {
    pool = g.pool old.pool;
    here = All-cons (λ i. i < length q.nodes) v (x ∷ y ∷ z ∷ []) (kept (old.here 1 0 (omega arith))) (All-cons (λ i. i < length q.nodes) x (y ∷ z ∷ []) (kept (old.here 2 0 (omega arith))) (All-cons (λ i. i < length q.nodes) y (z ∷ []) (kept (old.here 3 0 (omega arith))) (All-cons (λ i. i < length q.nodes) z [] h (λ k d b. absurd (omega (arith, b))))));
  }

-- one node serves as all four
pub one_node : {F : Type 0} (p : BaseNodes F) (y : ℕ) → IsPool base_reads p → y < size p → RootsIn p (y ∷ y ∷ y ∷ y ∷ [])
one_node p y pool h =
    let P : ℕ → Type 0 = λ i. i < size p in
    record {
      pool = pool;
      here = All-cons P y (y ∷ y ∷ y ∷ []) h (All-cons P y (y ∷ y ∷ []) h (All-cons P y (y ∷ []) h (All-cons P y [] h (λ k d b. absurd (omega (arith, b))))));
    }
