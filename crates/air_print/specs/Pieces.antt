-- The pieces of text that remain to be written.
use Rattle.std.specs.Prelude.{ℕ, ◌+◌, ◌<◌, Bool, if◌then◌else◌, List, [], ◌∷◌, ◌++◌, codes, ⊤}
use Rattle.air_field.specs.Modular.{Modular}
use Rattle.air_symbolic.specs.declared.leaves.base_leaf.BaseLeaf.{BaseLeaf}
use Rattle.air_symbolic.specs.declared.pools.expr.SymbolicExpr.{SymbolicExpr}
use Rattle.air_symbolic.specs.declared.pools.expr.SymbolicExpr.TheVariants.{Leaf, Add, Sub, Neg, Mul}
use Rattle.air_print.specs.declared.binding.Binding.{Binding}
use Rattle.air_print.specs.declared.binding.Binding.TheVariants.{Loose, Summand, Factor, Negated}
use Rattle.air_print.specs.declared.pieces.Piece.{Piece}
use Rattle.air_print.specs.declared.pieces.Piece.TheVariants.{Operand, Plus, Minus, Times, Close}
use Rattle.air_print.specs.Infix.{Shown, nothing, leaf, name, sum, difference, negative, product, infix_text, leaf_text, opening_text, wraps_sum, wraps_product}

-- the text of a piece, with expression i shown as f i
abbrev pub piece_text : {F : Type 0} {p : ℕ} → Modular F p → (ℕ → Shown (BaseLeaf F)) → Piece F → List ℕ
piece_text m f (Operand i within) = infix_text m within (f i)
piece_text m f Plus = codes " + "
piece_text m f Minus = codes " - "
piece_text m f Times = codes " * "
piece_text m f Close = codes ")"

-- the text of a stack of pieces; the last piece comes first
abbrev pub rest_text : {F : Type 0} {p : ℕ} → Modular F p → (ℕ → Shown (BaseLeaf F)) → List (Piece F) → List ℕ
rest_text m f [] = []
rest_text m f (piece ∷ rest) = rest_text m f rest ++ piece_text m f piece

-- two operands with an operator between them, in reverse
abbrev pub pair_pieces : {F : Type 0} → Bool → Piece F → Piece F → Piece F → List (Piece F)
pair_pieces wrap left operator right = (if wrap then Close ∷ [] else []) ++ right ∷ operator ∷ left ∷ []

-- the text with which a node begins
abbrev pub node_front : {F : Type 0} {p : ℕ} → Modular F p → Binding → SymbolicExpr (BaseLeaf F) → List ℕ
node_front m within (Leaf a) = leaf_text m within a
node_front m within (Add x y d) = opening_text (wraps_sum within)
node_front m within (Sub x y d) = opening_text (wraps_sum within)
node_front m within (Neg x d) = codes "-"
node_front m within (Mul x y d) = opening_text (wraps_product within)

-- the pieces after that, in reverse
abbrev pub node_rest : {F : Type 0} → Binding → SymbolicExpr (BaseLeaf F) → List (Piece F)
node_rest within (Leaf a) = []
node_rest within (Add x y d) = pair_pieces (wraps_sum within) (Operand x Loose) Plus (Operand y Summand)
node_rest within (Sub x y d) = pair_pieces (wraps_sum within) (Operand x Loose) Minus (Operand y Summand)
node_rest within (Neg x d) = Operand x Negated ∷ []
node_rest within (Mul x y d) = pair_pieces (wraps_product within) (Operand x Summand) Times (Operand y Factor)

-- an operand piece refers to an expression below n
abbrev pub IsPieceBelow : {F : Type 0} → ℕ → Piece F → Type 0
IsPieceBelow n (Operand i within) = i < n
IsPieceBelow n Plus = ⊤
IsPieceBelow n Minus = ⊤
IsPieceBelow n Times = ⊤
IsPieceBelow n Close = ⊤

-- a bound on the number of pieces that an expression yields
abbrev pub shown_size : {A : Type 0} → Shown A → ℕ
shown_size nothing = 1
shown_size (leaf a) = 1
shown_size (name k) = 1
shown_size (sum t u) = shown_size t + shown_size u + 3
shown_size (difference t u) = shown_size t + shown_size u + 3
shown_size (negative t) = shown_size t + 1
shown_size (product t u) = shown_size t + shown_size u + 3

abbrev pub piece_size : {F : Type 0} → (ℕ → Shown (BaseLeaf F)) → Piece F → ℕ
piece_size f (Operand i within) = shown_size (f i)
piece_size f Plus = 1
piece_size f Minus = 1
piece_size f Times = 1
piece_size f Close = 1

abbrev pub rest_size : {F : Type 0} → (ℕ → Shown (BaseLeaf F)) → List (Piece F) → ℕ
rest_size f [] = 0
rest_size f (piece ∷ rest) = piece_size f piece + rest_size f rest
