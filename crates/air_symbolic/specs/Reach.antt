-- The numbers of a pool that some roots reach.
use Rattle.std.specs.Prelude.{◌≡◌, ◌⊎◌, ℕ, List, length, slice_index_or, All, Contains, Option, None, Some}
use Rattle.air_symbolic.specs.Leaves.{Leaves}
use Rattle.air_symbolic.specs.Nodes.{operands, IsNode}
use Rattle.air_symbolic.specs.declared.pools.expr.SymbolicExpr.{SymbolicExpr}

-- each operand of a node has the property
abbrev pub EachOperand : {A : Type 0} → (ℕ → Type 0) → SymbolicExpr A → Type 0
EachOperand P n = All P (operands n)

-- number i is an operand of a node
abbrev pub IsOperand : {A : Type 0} → ℕ → SymbolicExpr A → Type 0
IsOperand i n = Contains (operands n) i

-- The roots reach a number: it is one of them, or an operand of a node that they reach.
pub data ReachedFrom {A F : Type 0} (l : Leaves A F) (ns : List (SymbolicExpr A)) (roots : List ℕ) : ℕ → Type 0 where
  root : {i : ℕ} → Contains roots i → ReachedFrom l ns roots i
  operand : {i j : ℕ} {n : SymbolicExpr A} → ReachedFrom l ns roots j → IsNode l ns j n → IsOperand i n → ReachedFrom l ns roots i

-- number i is marked: entry i of the marks is i
abbrev pub Marked : List (Option ℕ) → ℕ → Type 0
Marked marks i = slice_index_or marks i None ≡ Some i

-- Earlier marks stay, and more numbers may be marked, but only ones with the property P.
pub record MarkedMore (P : ℕ → Type 0) (old new : List (Option ℕ)) : Type 0 where
  pub places : length new ≡ length old
  pub stays : (i : ℕ) → Marked old i → Marked new i
  pub only : (i j : ℕ) → slice_index_or new i None ≡ Some j → (slice_index_or old i None ≡ Some j) ⊎ ((j ≡ i) × P i)

-- Of the nodes ns exactly the numbers that the roots reach are marked.
pub record Reached {A F : Type 0} (l : Leaves A F) (ns : List (SymbolicExpr A)) (roots : List ℕ) (marks : List (Option ℕ)) : Type 0 where
  pub places : length marks ≡ length ns
  pub roots_marked : All (λ i. Marked marks i) roots
  pub operands_marked : (i : ℕ) (n : SymbolicExpr A) → Marked marks i → IsNode l ns i n → EachOperand (λ j. Marked marks j) n
  pub only_reached : (i j : ℕ) → slice_index_or marks i None ≡ Some j → (j ≡ i) × ReachedFrom l ns roots i
