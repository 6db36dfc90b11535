-- The remaining steps of writing a list, and their trees.
use Rattle.std.proofs.Common.{◌≡◌, ℕ, ◌+◌, ◌<◌, Bool, true, false, List, [], ◌∷◌, ◌++◌, append_assoc, length, length-append, refl, sym, ap, subst, ◌∙◌, arith}
use Rattle.std.proofs.lemmas.List.{append-nil}
use Rattle.air_symbolic.specs.Trees.{Tree, leaf_tree, add_tree, sub_tree, neg_tree, mul_tree}
use Rattle.air_symbolic.specs.Nodes.{OperandsBelow}
use Rattle.air_symbolic.specs.declared.pools.expr.SymbolicExpr.{SymbolicExpr}
use Rattle.air_symbolic.specs.declared.pools.expr.SymbolicExpr.TheVariants.{Leaf, Add, Sub, Neg, Mul}
use Rattle.air_json.specs.Written.{subtrees}
use Rattle.air_json.specs.laws.Written.{parts, parts_root}
use Rattle.air_json.specs.Writing.{steps_of}

-- the tree of a node, whose operands have the trees that f gives
abbrev pub node_tree : {A S : Type 0} → (A → S) → (ℕ → Tree S) → SymbolicExpr A → Tree S
node_tree seen f (Leaf a) = leaf_tree (seen a)
node_tree seen f (Add x y d) = add_tree (f x) (f y)
node_tree seen f (Sub x y d) = sub_tree (f x) (f y)
node_tree seen f (Neg x d) = neg_tree (f x)
node_tree seen f (Mul x y d) = mul_tree (f x) (f y)

-- the trees that a step brings into the list, and those of all steps, the last step first
abbrev pub take_within_cap : {S : Type 0} → (ℕ → Tree S) → ℕ × Bool → List (Tree S)
take_within_cap f (n, false) = subtrees (f n)
take_within_cap f (n, true) = f n ∷ []

pub left : {S : Type 0} → (ℕ → Tree S) → List (ℕ × Bool) → List (Tree S)
left f [] = []
left f (s ∷ steps) = left f steps ++ take_within_cap f s

-- the greatest number of steps
abbrev pub work_of : {S : Type 0} → (ℕ → Tree S) → ℕ × Bool → ℕ
work_of f (n, false) = length (subtrees (f n)) + length (subtrees (f n))
work_of f (n, true) = 1

pub work : {S : Type 0} → (ℕ → Tree S) → List (ℕ × Bool) → ℕ
work f [] = 0
work f (s ∷ steps) = work_of f s + work f steps

-- every step's number is below n
pub Within : ℕ → List (ℕ × Bool) → Type 0
Within n [] = Unit {0}
Within n (s ∷ steps) = (s.0 < n) × Within n steps

pub within_one : (n : ℕ) (s : ℕ × Bool) → s.0 < n → Within n (s ∷ [])
unfolding Within
within_one n s h = (h, tt)

pub within_append : (n : ℕ) (xs ys : List (ℕ × Bool)) → Within n xs → Within n ys → Within n (xs ++ ys)
unfolding Within
within_append n [] ys h k = k
within_append n (s ∷ xs) ys h k = (h.0, within_append n xs ys h.1 k)

pub within_front : (n : ℕ) (xs ys : List (ℕ × Bool)) → Within n (xs ++ ys) → Within n xs
unfolding Within
within_front n [] ys h = tt
within_front n (s ∷ xs) ys h = (h.0, within_front n xs ys h.1)

pub within_last : (n : ℕ) (xs : List (ℕ × Bool)) (s : ℕ × Bool) → Within n (xs ++ s ∷ []) → s.0 < n
unfolding Within
within_last n [] s h = h.0
within_last n (x ∷ xs) s h = within_last n xs s h.1

module _ {S : Type 0} (f : ℕ → Tree S) where
  left_append : (xs ys : List (ℕ × Bool)) → left f (xs ++ ys) ≡ left f ys ++ left f xs
  unfolding left
  left_append [] ys = sym (append-nil (left f ys))
  left_append (s ∷ xs) ys = ap (λ (l : List (Tree S)). l ++ take_within_cap f s) (left_append xs ys) ∙ append_assoc (left f ys) (left f xs) (take_within_cap f s)

  pub left_one : (s : ℕ × Bool) → left f (s ∷ []) ≡ take_within_cap f s
  unfolding left
  left_one s = refl

  pub left_push : (xs : List (ℕ × Bool)) (s : ℕ × Bool) → left f (xs ++ s ∷ []) ≡ take_within_cap f s ++ left f xs
  left_push xs s = left_append xs (s ∷ []) ∙ ap (λ (l : List (Tree S)). l ++ left f xs) (left_one s)

  pub left_none : left f [] ≡ []
  unfolding left
  left_none = refl

  work_append : (xs ys : List (ℕ × Bool)) → work f (xs ++ ys) ≡ work f xs + work f ys
  unfolding work
  work_append [] ys = omega arith
  work_append (s ∷ xs) ys = omega (arith, work_append xs ys)

  -- ---- a step that visits an expression

  module _ {A : Type 0} (seen : A → S) where
    steps_left : (n : ℕ) (node : SymbolicExpr A) → f n ≡ node_tree seen f node → left f (steps_of n node) ≡ subtrees (f n)
    unfolding left
    steps_left n (Leaf a) e = subst (λ (t : Tree S). t ∷ [] ≡ subtrees t) (sym e) refl
    steps_left n (Add x y d) e = subst (λ (t : Tree S). subtrees (f x) ++ subtrees (f y) ++ t ∷ [] ≡ subtrees t) (sym e) refl
    steps_left n (Sub x y d) e = subst (λ (t : Tree S). subtrees (f x) ++ subtrees (f y) ++ t ∷ [] ≡ subtrees t) (sym e) refl
    steps_left n (Neg x d) e = subst (λ (t : Tree S). subtrees (f x) ++ t ∷ [] ≡ subtrees t) (sym e) refl
    steps_left n (Mul x y d) e = subst (λ (t : Tree S). subtrees (f x) ++ subtrees (f y) ++ t ∷ [] ≡ subtrees t) (sym e) refl

    pub look_left : (xs : List (ℕ × Bool)) (n : ℕ) (node : SymbolicExpr A) → f n ≡ node_tree seen f node → left f (xs ++ steps_of n node) ≡ left f (xs ++ (n, false) ∷ [])
    look_left xs n node e =
        left_append xs (steps_of n node)
        ∙ ap (λ (l : List (Tree S)). l ++ left f xs) (steps_left n node e ∙ sym (left_one (n, false)))
        ∙ sym (left_append xs ((n, false) ∷ []))

    three : (n x y : ℕ) → work f ((n, true) ∷ (y, false) ∷ (x, false) ∷ []) < length (subtrees (f x) ++ subtrees (f y) ++ f n ∷ []) + length (subtrees (f x) ++ subtrees (f y) ++ f n ∷ [])
    unfolding work
    three n x y = omega (arith, length-append (subtrees (f x) ++ subtrees (f y)) (f n ∷ []), length-append (subtrees (f x)) (subtrees (f y)))

    two : (n x : ℕ) → work f ((n, true) ∷ (x, false) ∷ []) < length (subtrees (f x) ++ f n ∷ []) + length (subtrees (f x) ++ f n ∷ [])
    unfolding work
    two n x = omega (arith, length-append (subtrees (f x)) (f n ∷ []))

    one : (n : ℕ) → work f ((n, true) ∷ []) < length (f n ∷ []) + length (f n ∷ [])
    unfolding work
    one n = omega arith

    work_left : (n : ℕ) (node : SymbolicExpr A) → work f (steps_of n node) < length (left f (steps_of n node)) + length (left f (steps_of n node))
    unfolding left
    work_left n (Leaf a) = one n
    work_left n (Add x y d) = three n x y
    work_left n (Sub x y d) = three n x y
    work_left n (Neg x d) = two n x
    work_left n (Mul x y d) = three n x y

    work_last : (xs : List (ℕ × Bool)) (n : ℕ) → work f (xs ++ (n, false) ∷ []) ≡ work f xs + (length (subtrees (f n)) + length (subtrees (f n)))
    unfolding work
    work_last xs n = omega (arith, work_append xs ((n, false) ∷ []))

    pub look_less : (xs : List (ℕ × Bool)) (n : ℕ) (node : SymbolicExpr A) → f n ≡ node_tree seen f node → work f (xs ++ steps_of n node) < work f (xs ++ (n, false) ∷ [])
    look_less xs n node e =
        let same : length (left f (steps_of n node)) ≡ length (subtrees (f n)) = ap length (steps_left n node e) in
        omega (arith, work_append xs (steps_of n node), work_last xs n, work_left n node, same)

    steps_within : (size n : ℕ) (node : SymbolicExpr A) → n < size → OperandsBelow n node → Within size (steps_of n node)
    unfolding Within
    steps_within size n (Leaf a) h k = (h, tt)
    steps_within size n (Add x y d) h k = (h, (let low = k 1 y (omega arith) in omega (arith, low, h), (let low = k 0 x (omega arith) in omega (arith, low, h), tt)))
    steps_within size n (Sub x y d) h k = (h, (let low = k 1 y (omega arith) in omega (arith, low, h), (let low = k 0 x (omega arith) in omega (arith, low, h), tt)))
    steps_within size n (Neg x d) h k = (h, (let low = k 0 x (omega arith) in omega (arith, low, h), tt))
    steps_within size n (Mul x y d) h k = (h, (let low = k 1 y (omega arith) in omega (arith, low, h), (let low = k 0 x (omega arith) in omega (arith, low, h), tt)))

    pub look_within : (size : ℕ) (xs : List (ℕ × Bool)) (n : ℕ) (node : SymbolicExpr A) → Within size (xs ++ (n, false) ∷ []) → OperandsBelow n node → Within size (xs ++ steps_of n node)
    look_within size xs n node h k = within_append size xs (steps_of n node) (within_front size xs ((n, false) ∷ []) h) (steps_within size n node (within_last size xs (n, false) h) k)

  -- ---- a step that is removed

  some_work : (s : ℕ × Bool) → 0 < work_of f s
  some_work (n, true) = omega arith
  some_work (n, false) = omega (arith, ap length (parts_root (f n)), length-append (parts (f n)) (f n ∷ []))

  pub work_pop : (xs : List (ℕ × Bool)) (s : ℕ × Bool) → work f xs < work f (xs ++ s ∷ [])
  unfolding work
  work_pop xs s = omega (arith, work_append xs (s ∷ []), some_work s)
