-- Writing a list: the places of written nodes, and the remaining steps.
use Rattle.std.specs.Prelude.{◌≡◌, ℕ, ◌<◌, ◌^◌, Bool, true, false, List, [], ◌∷◌, map, reverse, Option, Some, None, codes, set}
use Rattle.std.specs.List.{slice_get}
use Rattle.serde_json.specs.Data.{Data}
use Rattle.air_symbolic.specs.Nodes.{operands, IsValidNode}
use Rattle.air_symbolic.specs.Reach.{EachOperand}
use Rattle.air_symbolic.specs.declared.pools.expr.SymbolicExpr.{SymbolicExpr}
use Rattle.air_symbolic.specs.declared.pools.expr.SymbolicExpr.TheVariants.{Leaf, Add, Sub, Neg, Mul}
use Rattle.air_json.specs.Spelling.{case_data, IsCase}
use Rattle.air_json.specs.Nodes.{Kind}
use Rattle.air_json.specs.Written.{two_data, one_data}

-- ---- one node, with a table of places by number

-- number x has a place
abbrev pub Placed : List (Option ℕ) → ℕ → Type 0
Placed places x = (i : ℕ) × (slice_get places x ≡ Some (Some i))

-- the table without the places of these numbers, which are taken out from the last on
unfoldable pub without_places : List ℕ → List (Option ℕ) → List (Option ℕ)
without_places [] places = places
without_places (n ∷ ns) places = set (without_places ns places) n None

-- each operand of the node has a place; a leaf is valid
abbrev pub IsWritable : {A : Type 0} → (A → Type 0) → List (Option ℕ) → SymbolicExpr A → Type 0
IsWritable valid places n = IsValidNode valid n × EachOperand (Placed places) n

-- the case of this name with the stated degree and the operands' places
abbrev pub NamesTwo : List ℕ → List (Option ℕ) → ℕ → ℕ → ℕ → Data → Type 0
NamesTwo name places x y d v = (i : Placed places x) × (j : Placed places y) × (v ≡ case_data name (two_data d i.0 j.0))

abbrev pub NamesOne : List ℕ → List (Option ℕ) → ℕ → ℕ → Data → Type 0
NamesOne name places x d v = (i : Placed places x) × (v ≡ case_data name (one_data d i.0))

-- the value is the one written for the node
abbrev pub IsNodeValue : {A S F : Type 0} → Kind S F → (A → S) → List (Option ℕ) → SymbolicExpr A → Data → Type 0
IsNodeValue kind seen places (Leaf a) v = IsCase (codes "Leaf") (λ c. kind.writes c (seen a)) v
IsNodeValue kind seen places (Add x y d) v = NamesTwo (codes "Add") places x y d v
IsNodeValue kind seen places (Sub x y d) v = NamesTwo (codes "Sub") places x y d v
IsNodeValue kind seen places (Neg x d) v = NamesOne (codes "Neg") places x d v
IsNodeValue kind seen places (Mul x y d) v = NamesTwo (codes "Mul") places x y d v × (d < 2 ^ 64)

-- ---- the remaining steps

-- A step visits an expression (false) or writes it (true). Visiting an expression adds steps that visit its operands,
-- left before right, and then write it. The next step is the last of the list.
abbrev pub steps_of : {A : Type 0} → ℕ → SymbolicExpr A → List (ℕ × Bool)
steps_of n node = (n, true) ∷ map (λ x. (x, false)) (reverse (operands node))
