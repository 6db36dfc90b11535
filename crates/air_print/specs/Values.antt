-- The values of a pool's expressions.
use Rattle.std.specs.Prelude.{◌≡◌, ℕ, ◌<◌, List, length, slice_index_or, Option, None, Some}
use Rattle.air_field.specs.Ring.{CommRing, minus, self_algebra}
use Rattle.air_field.specs.Term.{Leaf}
use Rattle.air_field.specs.Value.{value}
use Rattle.air_symbolic.specs.BaseLeaves.{base_term, base_leaves}
use Rattle.air_symbolic.specs.Nodes.{tree_of, IsNode}
use Rattle.air_symbolic.specs.Reach.{EachOperand, Marked}
use Rattle.air_symbolic.specs.Trees.{term_of}
use Rattle.air_symbolic.specs.declared.leaves.base_leaf.BaseLeaf.{BaseLeaf}
use Rattle.air_symbolic.specs.declared.pools.expr.SymbolicExpr.{SymbolicExpr}
use Rattle.air_symbolic.specs.declared.pools.expr.SymbolicExpr.TheVariants as node

module _ {F : Type 0} (r : CommRing F) (s : Leaf → F) where
  -- the value of the term of expression i, where s gives the values of the leaves
  abbrev pub number_value : List (SymbolicExpr (BaseLeaf F)) → ℕ → F
  number_value ns i = value (self_algebra r) s (term_of base_term (tree_of ns i))

  -- the value of a node, where `at` gives the values of its operands
  abbrev pub node_value : (ℕ → F) → SymbolicExpr (BaseLeaf F) → F
  node_value at (node.Leaf a) = value (self_algebra r) s (base_term a)
  node_value at (node.Add x y d) = r.add (at x) (at y)
  node_value at (node.Sub x y d) = minus r (at x) (at y)
  node_value at (node.Neg x d) = r.neg (at x)
  node_value at (node.Mul x y d) = r.mul (at x) (at y)

  -- `values` has the value of each marked expression below k
  abbrev pub Known : List (SymbolicExpr (BaseLeaf F)) → List (Option ℕ) → ℕ → List F → Type 0
  Known ns marks k values = (i : ℕ) → i < k → Marked marks i → slice_index_or values i r.zero ≡ number_value ns i

-- Marks of all nodes: each mark is its own index, and the operands of a marked node are marked.
pub record AreClosed {F : Type 0} (ns : List (SymbolicExpr (BaseLeaf F))) (marks : List (Option ℕ)) : Type 0 where
  pub places : length marks ≡ length ns
  pub own : (i j : ℕ) → slice_index_or marks i None ≡ Some j → j ≡ i
  pub operands : (i : ℕ) (n : SymbolicExpr (BaseLeaf F)) → Marked marks i → IsNode base_leaves ns i n → EachOperand (λ j. Marked marks j) n
