-- Tables that find the numbers of a list's nodes, one for each kind of node.
use Rattle.std.specs.Prelude.{◌≡◌, ◌≢◌, ◌⊎◌, ◌↔◌, ℕ, List, [], ◌∷◌, Option, Some}
use Rattle.std.specs.declared.cmp.Ordering.{Ordering}
use Rattle.std.specs.Ordering.{nat_cmp, ordering_then}
use Rattle.std.specs.List.{slice_get}
use Rattle.std.specs.Option.{option_or}
use Rattle.std.specs.Map.{lookup}
use Rattle.std.specs.BTreeMap.{BTreeMap, get, is_at}
use Rattle.air_symbolic.specs.declared.pools.expr.SymbolicExpr.{SymbolicExpr}
use Rattle.air_symbolic.specs.declared.pools.expr.SymbolicExpr.TheVariants.{Leaf, Add, Sub, Neg, Mul}
use Rattle.air_symbolic.specs.declared.pools.kind_table.KindTable.{KindTable}
use Rattle.air_symbolic.specs.declared.pools.kind_tables.KindTables.{KindTables}

-- ---- Nodes, whatever degree they state

-- the node that states degree d; a leaf states none
abbrev pub with_degree : {A : Type 0} → SymbolicExpr A → ℕ → SymbolicExpr A
with_degree (Leaf a) d = Leaf a
with_degree (Add x y e) d = Add x y d
with_degree (Sub x y e) d = Sub x y d
with_degree (Neg x e) d = Neg x d
with_degree (Mul x y e) d = Mul x y d

-- no node of the list is this one, whatever degree it states
abbrev pub IsNowhere : {A : Type 0} → List (SymbolicExpr A) → SymbolicExpr A → Type 0
IsNowhere nodes node = (i d : ℕ) → slice_get nodes i ≢ Some (with_degree node d)

-- the node with number i is this one, up to the degree it states
abbrev pub IsAt : {A : Type 0} → List (SymbolicExpr A) → SymbolicExpr A → ℕ → Type 0
IsAt nodes node i = (d : ℕ) × (slice_get nodes i ≡ Some (with_degree node d))

-- ---- Tables

-- the order of two operands: by the first, then by the second
abbrev pub operands_cmp : ℕ × ℕ → ℕ × ℕ → Ordering
operands_cmp k l = ordering_then (nat_cmp k.0 l.0) (nat_cmp k.1 l.1)

-- the number of a key: from the first run that has it, else from the map
abbrev pub number_in : {K : Type 0} → (K → K → Ordering) → List (List (K × ℕ)) → BTreeMap K ℕ → K → Option ℕ
number_in cmp [] rest key = get cmp rest key
number_in cmp (run ∷ runs) rest key = option_or (lookup (is_at (cmp key)) run) (number_in cmp runs rest key)

-- the number of a key in a table
abbrev pub numbers_by : {K : Type 0} → (K → K → Ordering) → KindTable K → K → Option ℕ
numbers_by cmp table key = number_in cmp table.runs.items table.rest key

-- the key has this number now, and every other key still has its own
abbrev pub Entered : {K : Type 0} → (K → Option ℕ) → (K → Option ℕ) → K → ℕ → Type 0
Entered {K = K} old new key number = (k : K) → ((k ≡ key) × (new k ≡ Some number)) ⊎ ((k ≢ key) × (new k ≡ old k))

-- the table finds, by its key, the number of each node that `node_of` makes from a key and a degree, and no other
-- number
abbrev pub FindsNumbers : {K N : Type 0} → (K → ℕ → N) → List N → (K → Option ℕ) → Type 0
FindsNumbers {K = K} node_of nodes table =
    (k : K) (i : ℕ) → (table k ≡ Some i) ↔ ((d : ℕ) × (slice_get nodes i ≡ Some (node_of k d)))

-- the table of each kind finds the numbers of the nodes of that kind
pub record AreNumbered {A : Type 0} (nodes : List (SymbolicExpr A)) (leaf : A → Option ℕ) (sum difference : ℕ × ℕ → Option ℕ) (negative : ℕ → Option ℕ) (product : ℕ × ℕ → Option ℕ) : Type 0 where
  pub leaves : FindsNumbers (λ a _. Leaf a) nodes leaf
  pub sums : FindsNumbers (λ k. Add k.0 k.1) nodes sum
  pub differences : FindsNumbers (λ k. Sub k.0 k.1) nodes difference
  pub negatives : FindsNumbers Neg nodes negative
  pub products : FindsNumbers (λ k. Mul k.0 k.1) nodes product

-- `AreNumbered` for these tables, with this order of leaves
abbrev pub AreNumberedIn : {A : Type 0} → (A → A → Ordering) → KindTables A → List (SymbolicExpr A) → Type 0
AreNumberedIn leaf_cmp t nodes =
    AreNumbered nodes (numbers_by leaf_cmp t.leaves) (numbers_by operands_cmp t.sums) (numbers_by operands_cmp t.differences) (numbers_by nat_cmp t.negatives) (numbers_by operands_cmp t.products)

-- `AreNumberedIn` for the tables that were made; if none were, there are no nodes
abbrev pub FindEach : {A : Type 0} → (A → A → Ordering) → List (KindTables A) → List (SymbolicExpr A) → Type 0
FindEach leaf_cmp [] nodes = nodes ≡ []
FindEach leaf_cmp (t ∷ ts) nodes = AreNumberedIn leaf_cmp t nodes
