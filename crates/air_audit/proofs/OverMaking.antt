-- Making the expressions of numbers over an extension.
use Rattle.std.proofs.Common.{◌≡◌, ℕ, zero, suc, ◌<◌, List, [], ◌∷◌, length, get_or, slice_get, All, Some, subst, arith}
use Rattle.air_field.specs.Extension.{Basis}
use Rattle.air_field.specs.Term.{Term}
use Rattle.air_symbolic.specs.ExtPool.{ExtNodes}
use Rattle.air_symbolic.specs.Leaves.{Leaves}
use Rattle.air_symbolic.specs.Nodes.{IsNode}
use Rattle.air_symbolic.specs.BaseLeaves.{base_reads}
use Rattle.air_symbolic.specs.ExtLeaves.{ext_reads}
use Rattle.air_symbolic.specs.Pools.{term_at, size}
use Rattle.air_symbolic.specs.Reach.{EachOperand}
use Rattle.air_symbolic.specs.declared.leaves.ext_leaf.ExtLeaf.{ExtLeaf}
use Rattle.air_symbolic.specs.declared.leaves.ext_leaf.ExtLeaf.TheVariants as leaf
use Rattle.air_symbolic.specs.declared.pools.expr.SymbolicExpr.{SymbolicExpr}
use Rattle.air_symbolic.specs.declared.pools.expr.SymbolicExpr.TheVariants as node
use Rattle.air_audit.specs.declared.flat.root.Root.{Root}
use Rattle.air_audit.specs.declared.flat.step.Step.{Step}
use Rattle.air_audit.specs.Plans.{number_at, IsPlaceOf}
use Rattle.air_audit.specs.ExtPlans.{lifted_at, lifted_ids, base_ids, ext_ids, made_of_base, InWindow, LeafIsPlanned, HaveRoots, IsOrder, IsExtPlan}
use Rattle.air_audit.specs.FlatExtAirs.{ExtRootsIn}
use Rattle.air_audit.specs.Tables.{HasNumber, RootHas, TableMade}
use Rattle.air_audit.proofs.ExtRoots.{all_left, all_right, over_here, made_here}
use Rattle.air_audit.proofs.Needed.{made_at_place}
use Rattle.air_audit.proofs.OverRoots.{roots_made}
use Rattle.air_audit.proofs.Planning.{each_below, order_here}

-- a table has the operands of the next number's node
pub operands_made : {A F E : Type 0} (l : Leaves A F) (ns : List (SymbolicExpr A)) (roots numbers places : List ℕ) (P : Term F → E → Type 0)
    (term : ℕ → Term F) (table : List E) (k : ℕ) (n : SymbolicExpr A)
    → IsOrder l ns roots numbers places → k < length numbers → TableMade P term numbers table k → IsNode l ns (number_at numbers k) n
    → EachOperand (λ i. HasNumber (P (term i)) places table i) n
operands_made l ns roots numbers places P term table k n order lt made is =
    each_below (λ i. IsPlaceOf numbers k (get_or places i 0) i) (λ i. HasNumber (P (term i)) places table i) (number_at numbers k) n
    (λ i below at. (within i below, made_at_place P term numbers table k (get_or places i 0) i made at))
    is.below (order.before k lt n is)
  where
    within : (i : ℕ) → i < number_at numbers k → i < length places
    within i below = let here = order.here k lt in let long = order.rooted.long in omega (arith, below, here, long)

module _ {F EF : Type 0} (ns : List (SymbolicExpr (ExtLeaf F EF))) where
  -- what holds of all that the numbers' nodes hold holds of what one of them holds
  held_by_one : (P : ℕ → Type 0) (numbers : List ℕ) (k : ℕ) → k < length numbers → All P (lifted_ids ns numbers)
      → All P (lifted_at (slice_get ns (number_at numbers k)))
  held_by_one P [] k lt h = absurd (omega (arith, lt))
  held_by_one P (j ∷ rest) zero lt h = all_left P (lifted_at (slice_get ns j)) (lifted_ids ns rest) h
  held_by_one P (j ∷ rest) (suc k) lt h = held_by_one P rest k (omega (arith, lt)) (all_right P (lifted_at (slice_get ns j)) (lifted_ids ns rest) h)

  -- the leaf of a number is planned
  leaf_planned : (base_numbers base_places numbers : List ℕ) (k : ℕ) (a : ExtLeaf F EF) → k < length numbers
      → slice_get ns (number_at numbers k) ≡ Some (node.Leaf a)
      → All (λ i. (i < length base_places) × IsPlaceOf base_numbers (length base_numbers) (get_or base_places i 0) i) (lifted_ids ns numbers)
      → All (λ i. InWindow (slice_get ns i)) numbers → LeafIsPlanned base_numbers base_places a
  leaf_planned base_numbers base_places numbers k (leaf.Base i) lt is h w =
      subst (λ o. All (λ i. (i < length base_places) × IsPlaceOf base_numbers (length base_numbers) (get_or base_places i 0) i) (lifted_at o)) is
      (held_by_one (λ i. (i < length base_places) × IsPlaceOf base_numbers (length base_numbers) (get_or base_places i 0) i) numbers k lt h) 0 i (omega arith)
  leaf_planned base_numbers base_places numbers k (leaf.ExtVariable v) lt is h w = subst InWindow is (w k 0 lt)
  leaf_planned base_numbers base_places numbers k (leaf.ExtConstant c) lt is h w = tt

-- roots that have places are in the table of places
pub placed_long : (count : ℕ) (numbers table roots : List ℕ) → HaveRoots count numbers table roots → All (λ i. i < count) roots
    → All (λ i. (i < length table) × IsPlaceOf numbers (length numbers) (get_or table i 0) i) roots
placed_long count numbers table roots h here k d lt = let at = here k d lt in (omega (arith, at, h.long), h.placed k d lt)

pub planned_leaf : {F EF : Type 0} (basis : Basis F EF) (p : ExtNodes F EF) (roots : List (Root F EF)) (base_numbers : List ℕ) (base_steps : List Step)
    (base_places base_table numbers table : List ℕ)
    → IsExtPlan basis p roots base_numbers base_steps base_places base_table numbers table → All (λ i. i < size p.base) (made_of_base p roots numbers)
    → (k : ℕ) (a : ExtLeaf F EF) → k < length numbers → slice_get p.nodes (number_at numbers k) ≡ Some (node.Leaf a) → LeafIsPlanned base_numbers base_table a
planned_leaf basis p roots base_numbers base_steps base_places base_table numbers table plan here k a lt is =
    leaf_planned p.nodes base_numbers base_table numbers k a lt is
    (all_left (λ i. (i < length base_table) × IsPlaceOf base_numbers (length base_numbers) (get_or base_table i 0) i) (lifted_ids p.nodes numbers)
    (base_ids roots)
    (placed_long (size p.base) base_numbers base_table (made_of_base p roots numbers) plan.base_roots here))
    plan.window

-- both tables have what the roots of a plan need
pub planned_roots : {F EF E X : Type 0} (basis : Basis F EF) (p : ExtNodes F EF) (roots : List (Root F EF)) (base_numbers : List ℕ) (base_steps : List Step)
    (base_places base_table numbers table : List ℕ)
    → ExtRootsIn basis p roots → IsExtPlan basis p roots base_numbers base_steps base_places base_table numbers table
    → (P : Term F → E → Type 0) (Q : Term F → X → Type 0) (base : List E) (over : List X)
    → TableMade P (term_at base_reads p.base) base_numbers base (length base_numbers)
    → TableMade Q (term_at (ext_reads basis) p) numbers over (length numbers)
    → All (RootHas (λ i. P (term_at base_reads p.base i)) (λ i. Q (term_at (ext_reads basis) p i)) base_table table base over) roots
planned_roots basis p roots base_numbers base_steps base_places base_table numbers table here plan P Q base over base_made made =
    let order = order_here (ext_reads basis p.base) p.nodes (ext_ids roots) numbers table plan.order in
    roots_made basis p P Q base_numbers base_table numbers table base over base_made made roots
    (all_right (λ i. (i < length base_table) × IsPlaceOf base_numbers (length base_numbers) (get_or base_table i 0) i) (lifted_ids p.nodes numbers)
    (base_ids roots)
    (placed_long (size p.base) base_numbers base_table (made_of_base p roots numbers) plan.base_roots
    (made_here basis p here.pool roots numbers here.here order)))
    (placed_long (size p) numbers table (ext_ids roots) plan.order.rooted (over_here basis p roots here.here))
