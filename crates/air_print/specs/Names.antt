-- Which expressions of a pool have a name when some roots are shown, and their names.
use Rattle.std.specs.Prelude.{slice_get, ◌≡◌, ℕ, zero, suc, ◌+◌, Bool, true, false, ◌&&◌, is_some, nat_le, ◌==◌, if◌then◌else◌, List, [], ◌∷◌, ◌++◌, length, slice_index_or, Option, None, Some}
use Rattle.std.specs.List.{count_by}
use Rattle.air_symbolic.specs.Leaves.{Leaves}
use Rattle.air_symbolic.specs.Nodes.{operands}
use Rattle.air_symbolic.specs.Reach.{Reached}
use Rattle.air_symbolic.specs.declared.pools.expr.SymbolicExpr.{SymbolicExpr}
use Rattle.air_symbolic.specs.declared.pools.expr.SymbolicExpr.TheVariants.{Leaf}

-- ---- sums and filters below a bound

-- the sum of f over the numbers below a bound
abbrev pub total_below : (ℕ → ℕ) → ℕ → ℕ
total_below f zero = 0
total_below f (suc n) = total_below f n + f n

-- the numbers below a bound that pass a test, in order
abbrev pub passing_below : (ℕ → Bool) → ℕ → List ℕ
passing_below test zero = []
passing_below test (suc n) = passing_below test n ++ (if test n then n ∷ [] else [])

-- ---- the uses of an expression

-- 1 if x is i, otherwise 0
abbrev pub one_if_is : ℕ → ℕ → ℕ
one_if_is i x = if x == i then 1 else 0

-- the number of operands of a node that are expression i
abbrev pub operand_places : {A : Type 0} → ℕ → SymbolicExpr A → ℕ
operand_places i n = count_by (λ x. x == i) (operands n)

abbrev pub node_places : {A : Type 0} → ℕ → Option (SymbolicExpr A) → ℕ
node_places i None = 0
node_places i (Some n) = operand_places i n

-- Below, `marks` says for each expression whether the roots reach it.

abbrev pub is_reached : List (Option ℕ) → ℕ → Bool
is_reached marks i = is_some (slice_index_or marks i None)

-- the number of operands of node j that are expression i, if j is reached; otherwise 0
abbrev pub places_at : {A : Type 0} → List (SymbolicExpr A) → List (Option ℕ) → ℕ → ℕ → ℕ
places_at ns marks i j = if is_reached marks j then node_places i (slice_get ns j) else 0

-- the number of operands of reached nodes, and of roots, that are expression i
abbrev pub count_of_places : {A : Type 0} → List (SymbolicExpr A) → List ℕ → List (Option ℕ) → ℕ → ℕ
count_of_places ns roots marks i = count_by (λ root. root == i) roots + total_below (places_at ns marks i) (length ns)

-- ---- names

abbrev pub is_operation : {A : Type 0} → SymbolicExpr A → Bool
is_operation (Leaf a) = false
is_operation _ = true

abbrev pub has_operation : {A : Type 0} → Option (SymbolicExpr A) → Bool
has_operation None = false
has_operation (Some n) = is_operation n

-- expression i is reached, is not a leaf, and is used at least twice
abbrev pub is_named : {A : Type 0} → List (SymbolicExpr A) → List ℕ → List (Option ℕ) → ℕ → Bool
is_named ns roots marks i = is_reached marks i && (has_operation (slice_get ns i) && nat_le 2 (count_of_places ns roots marks i))

-- the name of expression i: the number of named expressions before it
abbrev pub name_by : (ℕ → Bool) → ℕ → Option ℕ
name_by test i = if test i then Some (length (passing_below test i)) else None

-- The expressions that have a name, in order, and for each expression its name.
pub record AreNames {A F : Type 0} (l : Leaves A F) (ns : List (SymbolicExpr A)) (roots : List ℕ) (names : List ℕ × List (Option ℕ)) : Type 0 where
  pub marks : List (Option ℕ)
  pub reached : Reached l ns roots marks
  pub named : names.0 ≡ passing_below (is_named ns roots marks) (length ns)
  pub each : (i : ℕ) → slice_index_or names.1 i None ≡ name_by (is_named ns roots marks) i
