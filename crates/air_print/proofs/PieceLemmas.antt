-- Pieces, one after another.
use Rattle.std.proofs.Common.{◌≡◌, ℕ, ◌+◌, ◌<◌, ◌≤◌, Bool, true, false, List, [], ◌∷◌, ◌++◌, All, Result, Ok, Err, OnOk, append_assoc, append-nil, refl, sym, ap, ◌∙◌, arith}
use Rattle.std.proofs.lemmas.List.Elements.{All-nil, All-cons, All-append}
use Rattle.air_field.specs.Modular.{Modular}
use Rattle.air_symbolic.specs.Nodes.{OperandsBelow}
use Rattle.air_symbolic.specs.declared.leaves.base_leaf.BaseLeaf.{BaseLeaf}
use Rattle.air_symbolic.specs.declared.pools.expr.SymbolicExpr.{SymbolicExpr}
use Rattle.air_symbolic.specs.declared.pools.expr.SymbolicExpr.TheVariants.{Leaf, Add, Sub, Neg, Mul}
use Rattle.air_print.specs.declared.binding.Binding.{Binding}
use Rattle.air_print.specs.declared.binding.Binding.TheVariants.{Loose, Summand, Factor, Negated}
use Rattle.air_print.specs.declared.pieces.Piece.{Piece}
use Rattle.air_print.specs.declared.pieces.Piece.TheVariants.{Operand, Plus, Minus, Times, Close}
use Rattle.air_print.specs.Infix.{Shown, shown_node, infix_text, leaf_text, opening_text, in_parentheses, wraps_sum, wraps_product}
use Rattle.air_print.specs.Pieces.{piece_text, rest_text, pair_pieces, node_front, node_rest, IsPieceBelow, shown_size, piece_size, rest_size}

-- two facts about one success, combined
pub on_both : {T E : Type 0} (P Q R : Type 0) (r : Result T E) → (P → Q → R) → OnOk r P → OnOk r Q → OnOk r R
on_both P Q R (Ok x) h p q = h p q
on_both P Q R (Err e) h p q = tt

module _ {F : Type 0} {p : ℕ} (m : Modular F p) (f : ℕ → Shown (BaseLeaf F)) where
  pub rest_text-append : (xs ys : List (Piece F)) → rest_text m f (xs ++ ys) ≡ rest_text m f ys ++ rest_text m f xs
  rest_text-append [] ys = sym (append-nil (rest_text m f ys))
  rest_text-append (x ∷ xs) ys =
      ap (λ t. t ++ piece_text m f x) (rest_text-append xs ys)
      ∙ append_assoc (rest_text m f ys) (rest_text m f xs) (piece_text m f x)

  -- the last piece comes next
  pub rest_text-push : (xs : List (Piece F)) (x : Piece F) → rest_text m f (xs ++ x ∷ []) ≡ piece_text m f x ++ rest_text m f xs
  rest_text-push xs x = rest_text-append xs (x ∷ [])

  pair-text : (wrap : Bool) (left operator right : Piece F) → opening_text wrap ++ rest_text m f (pair_pieces wrap left operator right) ≡ in_parentheses wrap (piece_text m f left ++ (piece_text m f operator ++ piece_text m f right))
  pair-text true left operator right = simp append_assoc
  pair-text false left operator right = simp (append_assoc, append-nil)

  -- the front of a node and its remaining pieces make up its text
  pub node-text : (within : Binding) (n : SymbolicExpr (BaseLeaf F)) → node_front m within n ++ rest_text m f (node_rest within n) ≡ infix_text m within (shown_node f n)
  node-text within (Leaf a) = append-nil (leaf_text m within a)
  node-text within (Add x y d) = pair-text (wraps_sum within) (Operand x Loose) Plus (Operand y Summand)
  node-text within (Sub x y d) = pair-text (wraps_sum within) (Operand x Loose) Minus (Operand y Summand)
  node-text within (Neg x d) = refl
  node-text within (Mul x y d) = pair-text (wraps_product within) (Operand x Summand) Times (Operand y Factor)

  -- after the front of a node is written, its remaining pieces are left
  pub left-text : (within : Binding) (n : SymbolicExpr (BaseLeaf F)) (old : List ℕ) (rest : List (Piece F)) → (old ++ node_front m within n) ++ rest_text m f (rest ++ node_rest within n) ≡ old ++ (infix_text m within (shown_node f n) ++ rest_text m f rest)
  left-text within n old rest =
      ap (λ t. (old ++ node_front m within n) ++ t) (rest_text-append rest (node_rest within n))
      ∙ append_assoc old (node_front m within n) (rest_text m f (node_rest within n) ++ rest_text m f rest)
      ∙ ap (λ t. old ++ t) (sym (append_assoc (node_front m within n) (rest_text m f (node_rest within n)) (rest_text m f rest)))
      ∙ ap (λ t. old ++ (t ++ rest_text m f rest)) (node-text within n)

module _ {F : Type 0} (f : ℕ → Shown (BaseLeaf F)) where
  rest_size-append : (xs ys : List (Piece F)) → rest_size f (xs ++ ys) ≡ rest_size f xs + rest_size f ys
  rest_size-append [] ys = omega arith
  rest_size-append (x ∷ xs) ys = omega (arith, rest_size-append xs ys)

  pub rest_size-push : (xs : List (Piece F)) (x : Piece F) → rest_size f (xs ++ x ∷ []) ≡ rest_size f xs + piece_size f x
  rest_size-push xs x = omega (arith, rest_size-append xs (x ∷ []))

  pair-size : (wrap : Bool) (left operator right : Piece F) → piece_size f operator ≡ 1 → rest_size f (pair_pieces wrap left operator right) ≤ piece_size f left + piece_size f right + 2
  pair-size true left operator right e = omega (arith, e)
  pair-size false left operator right e = omega (arith, e)

  node-size : (within : Binding) (n : SymbolicExpr (BaseLeaf F)) → rest_size f (node_rest within n) < shown_size (shown_node f n)
  node-size within (Leaf a) = omega arith
  node-size within (Add x y d) = omega (arith, pair-size (wraps_sum within) (Operand x Loose) Plus (Operand y Summand) refl)
  node-size within (Sub x y d) = omega (arith, pair-size (wraps_sum within) (Operand x Loose) Minus (Operand y Summand) refl)
  node-size within (Neg x d) = omega arith
  node-size within (Mul x y d) = omega (arith, pair-size (wraps_product within) (Operand x Summand) Times (Operand y Factor) refl)

  -- the pieces that a node leaves are smaller than the node
  pub left-size : (within : Binding) (n : SymbolicExpr (BaseLeaf F)) (rest : List (Piece F)) → rest_size f (rest ++ node_rest within n) < rest_size f rest + shown_size (shown_node f n)
  left-size within n rest = omega (arith, rest_size-append rest (node_rest within n), node-size within n)

module _ {F : Type 0} (k : ℕ) where
  all-three : (x y z : Piece F) → IsPieceBelow k x → IsPieceBelow k y → IsPieceBelow k z → All (IsPieceBelow k) (x ∷ y ∷ z ∷ [])
  all-three x y z a b c =
      All-cons (IsPieceBelow k) x (y ∷ z ∷ []) a (All-cons (IsPieceBelow k) y (z ∷ []) b (All-cons (IsPieceBelow k) z [] c (All-nil (IsPieceBelow k))))

  pair-below : (wrap : Bool) (left operator right : Piece F) → IsPieceBelow k left → IsPieceBelow k operator → IsPieceBelow k right → All (IsPieceBelow k) (pair_pieces wrap left operator right)
  pair-below true left operator right a b c = All-cons (IsPieceBelow k) Close (right ∷ operator ∷ left ∷ []) tt (all-three right operator left c b a)
  pair-below false left operator right a b c = all-three right operator left c b a

  node-below : (within : Binding) (n : SymbolicExpr (BaseLeaf F)) → OperandsBelow k n → All (IsPieceBelow k) (node_rest within n)
  node-below within (Leaf a) h = All-nil (IsPieceBelow k)
  node-below within (Add x y d) h = pair-below (wraps_sum within) (Operand x Loose) Plus (Operand y Summand) (h 0 x (omega arith)) tt (h 1 y (omega arith))
  node-below within (Sub x y d) h = pair-below (wraps_sum within) (Operand x Loose) Minus (Operand y Summand) (h 0 x (omega arith)) tt (h 1 y (omega arith))
  node-below within (Neg x d) h = All-cons (IsPieceBelow k) (Operand x Negated) [] (h 0 x (omega arith)) (All-nil (IsPieceBelow k))
  node-below within (Mul x y d) h = pair-below (wraps_product within) (Operand x Summand) Times (Operand y Factor) (h 0 x (omega arith)) tt (h 1 y (omega arith))

  -- the pieces that a node leaves refer to expressions below k
  pub left-below : (within : Binding) (n : SymbolicExpr (BaseLeaf F)) (rest : List (Piece F)) → OperandsBelow k n → All (IsPieceBelow k) rest → All (IsPieceBelow k) (rest ++ node_rest within n)
  left-below within n rest h a = All-append (IsPieceBelow k) rest (node_rest within n) a (node-below within n h)
