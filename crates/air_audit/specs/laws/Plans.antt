-- `IsPlan` has at most one proof.
use Rattle.std.specs.List.{AllZip}
use Rattle.std.specs.Prelude.{◌≡◌, ℕ, List, [], ◌∷◌}
use Rattle.std.proofs.Props.{props}
use Rattle.air_symbolic.specs.Leaves.{Leaves}
use Rattle.air_symbolic.specs.Nodes.{operands}
use Rattle.air_symbolic.specs.declared.pools.expr.SymbolicExpr.{SymbolicExpr}
use Rattle.air_symbolic.specs.declared.pools.expr.SymbolicExpr.TheVariants as node
use Rattle.air_audit.specs.declared.flat.step.Step.{Step}
use Rattle.air_audit.specs.declared.flat.step.Step.TheVariants as step
use Rattle.air_audit.specs.Plans.{number_at, IsPlaceOf, IsOfKind, step_places, StepMakes, IsPlan}

IsOfKind-prop : {A F : Type 0} (l : Leaves A F) (s : Step) (n : SymbolicExpr A) → IsProp (IsOfKind l s n)
IsOfKind-prop l step.Leaf (node.Leaf a) = hlevel props
IsOfKind-prop l (step.Current c) (node.Leaf a) = hlevel props
IsOfKind-prop l (step.Next c) (node.Leaf a) = hlevel props
IsOfKind-prop l (step.Add p q) (node.Add x y d) = hlevel props
IsOfKind-prop l (step.Sub p q) (node.Sub x y d) = hlevel props
IsOfKind-prop l (step.Neg p) (node.Neg x d) = hlevel props
IsOfKind-prop l (step.Mul p q) (node.Mul x y d) = hlevel props
IsOfKind-prop l (step.Gate p q) (node.Mul x y d) = hlevel props
IsOfKind-prop l _ _ = hlevel props

zip-prop : {X Y : Type 0} (R : X → Y → Type 0) → ((x : X) (y : Y) → IsProp (R x y)) → (xs : List X) (ys : List Y) → IsProp (AllZip R xs ys)
zip-prop R each [] [] = hlevel props
zip-prop R each [] (y ∷ ys) = hlevel props
zip-prop R each (x ∷ xs) [] = hlevel props
zip-prop R each (x ∷ xs) (y ∷ ys) = hlevel (props, each x y, zip-prop R each xs ys)

StepMakes-prop : {A F : Type 0} (l : Leaves A F) (numbers : List ℕ) (k : ℕ) (s : Step) (n : SymbolicExpr A) → IsProp (StepMakes l (IsPlaceOf numbers k) s n)
StepMakes-prop l numbers k s n = hlevel (props, IsOfKind-prop l s n, zip-prop (IsPlaceOf numbers k) (λ p i. hlevel props) (step_places s) (operands n))

roots-prop : (numbers places roots : List ℕ) → IsProp (AllZip (λ p i. i ≡ number_at numbers p) places roots)
roots-prop numbers = zip-prop (λ p i. i ≡ number_at numbers p) (λ p i. hlevel props)

pub IsPlan-prop : {A F : Type 0} (l : Leaves A F) (ns : List (SymbolicExpr A)) (roots numbers : List ℕ) (steps : List Step) (places : List ℕ) → IsProp (IsPlan l ns roots numbers steps places)
IsPlan-prop l ns roots numbers steps places = hlevel (props, StepMakes-prop l, roots-prop)
