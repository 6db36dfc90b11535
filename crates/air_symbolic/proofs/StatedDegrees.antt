-- Facts that don't depend on the degree that a node states.
use Rattle.std.proofs.Common.{◌≡◌, ℕ, refl}
use Rattle.std.specs.Prelude.{Option}
use Rattle.air_symbolic.specs.Trees.{Tree}
use Rattle.air_symbolic.specs.Nodes.{unfold_node, operands}
use Rattle.air_symbolic.specs.Numbering.{with_degree}
use Rattle.air_symbolic.specs.declared.pools.expr.SymbolicExpr.{SymbolicExpr}
use Rattle.air_symbolic.specs.declared.pools.expr.SymbolicExpr.TheVariants.{Leaf, Add, Sub, Neg, Mul}

module _ {A : Type 0} where
  pub unfold-with_degree : (f : ℕ → Option (Tree A)) (n : SymbolicExpr A) (d : ℕ) → unfold_node f (with_degree n d) ≡ unfold_node f n
  unfold-with_degree f (Leaf a) d = refl
  unfold-with_degree f (Add x y e) d = refl
  unfold-with_degree f (Sub x y e) d = refl
  unfold-with_degree f (Neg x e) d = refl
  unfold-with_degree f (Mul x y e) d = refl

  pub operands-with_degree : (n : SymbolicExpr A) (d : ℕ) → operands (with_degree n d) ≡ operands n
  operands-with_degree (Leaf a) d = refl
  operands-with_degree (Add x y e) d = refl
  operands-with_degree (Sub x y e) d = refl
  operands-with_degree (Neg x e) d = refl
  operands-with_degree (Mul x y e) d = refl

  -- each node states a degree
  pub own-degree : (n : SymbolicExpr A) → (d : ℕ) × (with_degree n d ≡ n)
  own-degree (Leaf a) = (0, refl)
  own-degree (Add x y e) = (e, refl)
  own-degree (Sub x y e) = (e, refl)
  own-degree (Neg x e) = (e, refl)
  own-degree (Mul x y e) = (e, refl)
