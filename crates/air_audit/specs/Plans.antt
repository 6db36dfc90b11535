-- How the expressions of roots are made, one after another.
use Rattle.std.specs.List.{AllZip, list_any}
use Rattle.std.specs.Prelude.{slice_get, ◌≡◌, ◌||◌, ℕ, ◌<◌, List, [], ◌∷◌, length, slice_index_or, All, Bool, false, Option, None, Some, ⊤, ◌==◌}
use Rattle.air_field.specs.Term.{Term, leaf_term, main}
use Rattle.air_symbolic.specs.Leaves.{Leaves}
use Rattle.air_symbolic.specs.Nodes.{operands, IsNode}
use Rattle.air_symbolic.specs.Reach.{Marked}
use Rattle.air_symbolic.specs.declared.pools.expr.SymbolicExpr.{SymbolicExpr}
use Rattle.air_symbolic.specs.declared.pools.expr.SymbolicExpr.TheVariants as node
use Rattle.air_audit.specs.declared.flat.step.Step.{Step}
use Rattle.air_audit.specs.declared.flat.step.Step.TheVariants as step

-- the number of a place
abbrev pub number_at : List ℕ → ℕ → ℕ
number_at numbers p = slice_index_or numbers p 0

-- place p is before place k, and has number i
abbrev pub IsPlaceOf : List ℕ → ℕ → ℕ → ℕ → Type 0
IsPlaceOf numbers k p i = (p < k) × (i ≡ number_at numbers p)

-- the node is a leaf
abbrev pub IsLeaf : {A : Type 0} → SymbolicExpr A → Type 0
IsLeaf (node.Leaf a) = ⊤
IsLeaf _ = ⊥

-- the column of the main trace that a term is, behind its row's offset
abbrev pub column_of : {F : Type 0} → Term F → Option (ℕ × ℕ)
column_of (leaf_term (main o c)) = Some (o, c)
column_of _ = None

-- the step is of the node's kind: a leaf, its column of the main trace, or the operation
abbrev pub IsOfKind : {A F : Type 0} → Leaves A F → Step → SymbolicExpr A → Type 0
IsOfKind l step.Leaf (node.Leaf a) = ⊤
IsOfKind l (step.Current c) (node.Leaf a) = column_of (l.term a) ≡ Some (0, c)
IsOfKind l (step.Next c) (node.Leaf a) = column_of (l.term a) ≡ Some (1, c)
IsOfKind l (step.Add p q) (node.Add x y d) = ⊤
IsOfKind l (step.Sub p q) (node.Sub x y d) = ⊤
IsOfKind l (step.Neg p) (node.Neg x d) = ⊤
IsOfKind l (step.Mul p q) (node.Mul x y d) = ⊤
IsOfKind l (step.Gate p q) (node.Mul x y d) = ⊤
IsOfKind l _ _ = ⊥

-- the places that a step names, in order
abbrev pub step_places : Step → List ℕ
step_places (step.Add p q) = p ∷ q ∷ []
step_places (step.Sub p q) = p ∷ q ∷ []
step_places (step.Neg p) = p ∷ []
step_places (step.Mul p q) = p ∷ q ∷ []
step_places (step.Gate p q) = p ∷ q ∷ []
step_places _ = []

-- the step makes the node: it is of the node's kind, and names the places of its operands
abbrev pub StepMakes : {A F : Type 0} → Leaves A F → (ℕ → ℕ → Type 0) → Step → SymbolicExpr A → Type 0
StepMakes l at s n = IsOfKind l s n × AllZip at (step_places s) (operands n)

-- the step makes the node of place k's number, out of operands before it
abbrev pub MakesPlace : {A F : Type 0} → Leaves A F → List (SymbolicExpr A) → List ℕ → ℕ → Step → Type 0
MakesPlace {A} l ns numbers k s = (n : SymbolicExpr A) → IsNode l ns (number_at numbers k) n → StepMakes l (IsPlaceOf numbers k) s n

-- for each number there is a step, which makes its node
pub record AreSteps {A F : Type 0} (l : Leaves A F) (ns : List (SymbolicExpr A)) (numbers : List ℕ) (steps : List Step) : Type 0 where
  pub long : length steps ≡ length numbers
  pub makes : (k : ℕ) → k < length numbers → MakesPlace l ns numbers k (slice_index_or steps k step.Leaf)

-- whether number i is an operand of the node
abbrev pub has_operand : {A : Type 0} → ℕ → SymbolicExpr A → Bool
has_operand i n = list_any (λ x. i == x) (operands n)

abbrev pub some_has_operand : {A : Type 0} → ℕ → Option (SymbolicExpr A) → Bool
some_has_operand i None = false
some_has_operand i (Some n) = has_operand i n

-- number i is a root, or an operand of the node of one of the numbers
abbrev pub IsUsed : {A : Type 0} → List (SymbolicExpr A) → List ℕ → List ℕ → ℕ → Type 0
IsUsed ns roots numbers i = (list_any (λ r. i == r) roots || list_any (λ j. some_has_operand i (slice_get ns j)) numbers) ≡ Bool.true

-- The steps make, in order, the nodes of some numbers, each of which the roots need; the roots are at these places.
pub record IsPlan {A F : Type 0} (l : Leaves A F) (ns : List (SymbolicExpr A)) (roots numbers : List ℕ) (steps : List Step) (places : List ℕ) : Type 0 where
  pub here : (k : ℕ) → k < length numbers → number_at numbers k < length ns
  pub made : AreSteps l ns numbers steps
  pub within : All (λ p. p < length numbers) places
  pub stand : AllZip (λ p i. i ≡ number_at numbers p) places roots
  pub used : (k : ℕ) → k < length numbers → IsUsed ns roots numbers (number_at numbers k)

-- Each marked number has a place, and those that are less have places before it.
pub record HavePlaces (marks : List (Option ℕ)) (numbers places : List ℕ) : Type 0 where
  pub long : length places ≡ length marks
  pub marked : (k : ℕ) → k < length numbers → Marked marks (number_at numbers k)
  pub placed : (i : ℕ) → Marked marks i → IsPlaceOf numbers (length numbers) (slice_index_or places i 0) i
  pub before : (k i : ℕ) → k < length numbers → i < number_at numbers k → Marked marks i → IsPlaceOf numbers k (slice_index_or places i 0) i
