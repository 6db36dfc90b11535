-- How an expression is shown by its node.
use Rattle.std.proofs.Common.{◌≡◌, ℕ, ◌<◌, ◌≤◌, List, length, take, Option, None, refl, ap, ap₂, ◌∙◌, arith}
use Rattle.std.proofs.lemmas.Option.{slice_get_within}
use Rattle.air_symbolic.specs.Leaves.{Leaves}
use Rattle.air_symbolic.specs.Nodes.{OperandsBelow, IsNode}
use Rattle.air_symbolic.specs.laws.Numbers.{made-before, made-node}
use Rattle.air_symbolic.specs.declared.pools.expr.SymbolicExpr.{SymbolicExpr}
use Rattle.air_symbolic.specs.declared.pools.expr.SymbolicExpr.TheVariants.{Leaf, Add, Sub, Neg, Mul}
use Rattle.air_print.specs.Infix.{Shown, nothing, sum, difference, negative, product, shown_node, named_or, shown_at, shown_number}

-- operands below j are below any greater bound
pub below-more : {A : Type 0} (j k : ℕ) (n : SymbolicExpr A) → j ≤ k → OperandsBelow j n → OperandsBelow k n
below-more j k n le h = λ i d b. let low = h i d b in omega (arith, le, low)

module _ {A : Type 0} (named : ℕ → Option ℕ) where
  abbrev step : (ℕ → Shown A) → SymbolicExpr A → Shown A
  step f n = shown_node (λ x. named_or (named x) (f x)) n

  -- a node whose operands are below i is shown by the nodes below i
  module _ (ns : List (SymbolicExpr A)) (i : ℕ) (within : i ≤ length ns) where
    operand-before : (x : ℕ) → x < i → shown_number named (take i ns) x ≡ shown_number named ns x
    operand-before x h = ap (named_or (named x)) (made-before nothing step ns i x h within)

    node-before : (n : SymbolicExpr A) → OperandsBelow i n → shown_node (shown_number named (take i ns)) n ≡ shown_node (shown_number named ns) n
    node-before (Leaf a) h = refl
    node-before (Add x y d) h = ap₂ sum (operand-before x (h 0 x (omega arith))) (operand-before y (h 1 y (omega arith)))
    node-before (Sub x y d) h = ap₂ difference (operand-before x (h 0 x (omega arith))) (operand-before y (h 1 y (omega arith)))
    node-before (Neg x d) h = ap negative (operand-before x (h 0 x (omega arith)))
    node-before (Mul x y d) h = ap₂ product (operand-before x (h 0 x (omega arith))) (operand-before y (h 1 y (omega arith)))

  module _ {F : Type 0} (l : Leaves A F) (ns : List (SymbolicExpr A)) (i : ℕ) (n : SymbolicExpr A) (is : IsNode l ns i n) where
    -- an expression is shown as its node
    pub shown_at-node : shown_at named ns i ≡ shown_node (shown_number named ns) n
    shown_at-node =
        made-node nothing step ns i n is.node ∙ node-before ns i (omega (arith, slice_get_within ns i n is.node)) n is.below

    -- an expression without a name is shown as its node at each use
    pub unnamed : named i ≡ None → shown_number named ns i ≡ shown_node (shown_number named ns) n
    unnamed e = ap (λ o. named_or o (shown_at named ns i)) e ∙ shown_at-node
