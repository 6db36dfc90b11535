-- What depends only on a node's leaf and on its operands.
use Rattle.std.proofs.Common.{◌≡◌, ◌⊎◌, ℕ, zero, suc, ◌+◌, max, [], ◌∷◌, All, Contains, refl, sym, ap, ap₂, inl, inr, arith}
use Rattle.std.specs.Prelude.{Option, option_map}
use Rattle.std.proofs.lemmas.List.Elements.{All-nil, All-cons}
use Rattle.air_field.specs.Degree.{degree_by}
use Rattle.air_field.specs.Term.{Leaf as Entry, Term}
use Rattle.air_symbolic.specs.Trees.{Tree, add_tree, sub_tree, neg_tree, mul_tree, both}
use Rattle.air_symbolic.specs.Nodes.{unfold_node, node_term, node_degree, operands, IsValidNode}
use Rattle.air_symbolic.specs.declared.pools.expr.SymbolicExpr.{SymbolicExpr}
use Rattle.air_symbolic.specs.declared.pools.expr.SymbolicExpr.TheVariants.{Leaf, Add, Sub, Neg, Mul}

-- ---- One operand, and two

pub of_one : (P : ℕ → Type 0) (x : ℕ) → P x → All P (x ∷ [])
of_one P x h = All-cons P x [] h (All-nil P)

pub of_two : (P : ℕ → Type 0) (x y : ℕ) → P x → P y → All P (x ∷ y ∷ [])
of_two P x y h k = All-cons P x (y ∷ []) h (of_one P y k)

pub no_operand : (i : ℕ) → Contains [] i → ⊥
no_operand i (k, b, e) = absurd (omega arith)

pub the_operand : (i x : ℕ) → Contains (x ∷ []) i → i ≡ x
the_operand i x (zero, b, e) = sym e
the_operand i x (suc k, b, e) = absurd (omega arith)

pub one_of_two : (i x y : ℕ) → Contains (x ∷ y ∷ []) i → (i ≡ x) ⊎ (i ≡ y)
one_of_two i x y (zero, b, e) = inl (sym e)
one_of_two i x y (suc zero, b, e) = inr (sym e)
one_of_two i x y (suc (suc k), b, e) = absurd (omega arith)

-- ---- Nodes

module _ {A : Type 0} where
  pub valid_node-weaker : (V W : A → Type 0) → ((a : A) → V a → W a) → (n : SymbolicExpr A) → IsValidNode V n → IsValidNode W n
  valid_node-weaker V W f (Leaf a) h = f a h
  valid_node-weaker V W f _ h = tt

  pub unfold_node-same : (f g : ℕ → Option (Tree A)) (n : SymbolicExpr A) → All (λ x. f x ≡ g x) (operands n) → unfold_node f n ≡ unfold_node g n
  unfold_node-same f g (Leaf a) h = refl
  unfold_node-same f g (Add x y d) h = ap₂ (both add_tree) (h 0 x (omega arith)) (h 1 y (omega arith))
  unfold_node-same f g (Sub x y d) h = ap₂ (both sub_tree) (h 0 x (omega arith)) (h 1 y (omega arith))
  unfold_node-same f g (Neg x d) h = ap (option_map neg_tree) (h 0 x (omega arith))
  unfold_node-same f g (Mul x y d) h = ap₂ (both mul_tree) (h 0 x (omega arith)) (h 1 y (omega arith))

  pub node_degree-same : (u v : A → ℕ) (f g : ℕ → ℕ) (n : SymbolicExpr A) → IsValidNode (λ a. u a ≡ v a) n → All (λ x. f x ≡ g x) (operands n) → node_degree u f n ≡ node_degree v g n
  node_degree-same u v f g (Leaf a) e h = e
  node_degree-same u v f g (Add x y d) e h = ap₂ max (h 0 x (omega arith)) (h 1 y (omega arith))
  node_degree-same u v f g (Sub x y d) e h = ap₂ max (h 0 x (omega arith)) (h 1 y (omega arith))
  node_degree-same u v f g (Neg x d) e h = h 0 x (omega arith)
  node_degree-same u v f g (Mul x y d) e h = ap₂ (λ a b. a + b) (h 0 x (omega arith)) (h 1 y (omega arith))

  -- the degree of a node is that of its term
  pub node_degree-is : {F : Type 0} (w : Entry → ℕ) (term : A → Term F) (at : ℕ → Term F) (n : SymbolicExpr A) → node_degree (λ a. degree_by w (term a)) (λ i. degree_by w (at i)) n ≡ degree_by w (node_term term at n)
  node_degree-is w term at (Leaf a) = refl
  node_degree-is w term at (Add x y d) = refl
  node_degree-is w term at (Sub x y d) = refl
  node_degree-is w term at (Neg x d) = refl
  node_degree-is w term at (Mul x y d) = refl
