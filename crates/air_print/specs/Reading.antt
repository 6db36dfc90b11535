-- The columns, periodic columns and public values that an expression reads.
use Rattle.std.specs.List.{list_any}
use Rattle.std.specs.Prelude.{slice_get, nat_eq, ◌≡◌, ℕ, Bool, true, false, ◌&&◌, List, [], ◌∷◌, length, Option, None, Some}
use Rattle.air_symbolic.specs.BaseLeaves.{base_leaves}
use Rattle.air_symbolic.specs.Reach.{Reached}
use Rattle.air_symbolic.specs.declared.leaves.base_leaf.BaseLeaf.{BaseLeaf}
use Rattle.air_symbolic.specs.declared.leaves.base_leaf.BaseLeaf.TheVariants as leaf
use Rattle.air_symbolic.specs.declared.pools.expr.SymbolicExpr.{SymbolicExpr}
use Rattle.air_symbolic.specs.declared.pools.expr.SymbolicExpr.TheVariants as node
use Rattle.air_print.specs.Names.{is_reached, passing_below}

abbrev pub is_variable_leaf : {F : Type 0} → BaseLeaf F → Bool
is_variable_leaf (leaf.Variable v) = true
is_variable_leaf _ = false

-- a column, a periodic column or a public value
abbrev pub is_variable : {F : Type 0} → SymbolicExpr (BaseLeaf F) → Bool
is_variable (node.Leaf a) = is_variable_leaf a
is_variable _ = false

abbrev pub has_variable : {F : Type 0} → Option (SymbolicExpr (BaseLeaf F)) → Bool
has_variable None = false
has_variable (Some n) = is_variable n

-- whether number i is in the list
abbrev pub is_in : List ℕ → ℕ → Bool
is_in numbers i = list_any (nat_eq i) numbers

-- expression i is marked, and is such a leaf
abbrev pub is_read : {F : Type 0} → List (SymbolicExpr (BaseLeaf F)) → List (Option ℕ) → ℕ → Bool
is_read ns marks i = is_reached marks i && has_variable (slice_get ns i)

-- such expressions below n, in order
abbrev pub read_below : {F : Type 0} → List (SymbolicExpr (BaseLeaf F)) → List (Option ℕ) → ℕ → List ℕ
read_below ns marks n = passing_below (is_read ns marks) n

-- The columns, periodic columns and public values that occur in the tree of `root`: each once, in the order of the pool.
pub record Reads {F : Type 0} (ns : List (SymbolicExpr (BaseLeaf F))) (root : ℕ) (numbers : List ℕ) : Type 0 where
  pub marks : List (Option ℕ)
  pub reached : Reached base_leaves ns (root ∷ []) marks
  pub numbers_are : numbers ≡ read_below ns marks (length ns)
