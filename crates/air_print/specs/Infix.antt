-- Expressions in infix notation.
use Rattle.std.specs.Prelude.{ℕ, ◌-◌, ◌*◌, Bool, true, false, nat_lt, ◌==◌, if◌then◌else◌, List, [], ◌++◌, Option, None, Some, codes, decimal, slice_index_or}
use Rattle.air_field.specs.Modular.{Modular}
use Rattle.air_core.specs.declared.variables.entry.BaseEntry.{BaseEntry}
use Rattle.air_core.specs.declared.variables.entry.BaseEntry.TheVariants.{Preprocessed, Main, Periodic, Public}
use Rattle.air_symbolic.specs.declared.leaves.base_leaf.BaseLeaf.{BaseLeaf}
use Rattle.air_symbolic.specs.Nodes.{in_turn}
use Rattle.air_symbolic.specs.declared.leaves.base_leaf.BaseLeaf.TheVariants.{Variable, IsFirstRow, IsLastRow, IsTransition, Constant}
use Rattle.air_symbolic.specs.declared.pools.expr.SymbolicExpr.{SymbolicExpr}
use Rattle.air_symbolic.specs.declared.pools.expr.SymbolicExpr.TheVariants.{Leaf, Add, Sub, Neg, Mul}
use Rattle.air_print.specs.declared.binding.Binding.{Binding}
use Rattle.air_print.specs.declared.binding.Binding.TheVariants.{Loose, Summand, Factor, Negated}

-- ---- shown expressions

-- An expression as it is shown: a name ends it. `nothing` is shown for a missing node.
pub data Shown (A : Type 0) : Type 0 where
  nothing : Shown A
  leaf : A → Shown A
  name : ℕ → Shown A
  sum : Shown A → Shown A → Shown A
  difference : Shown A → Shown A → Shown A
  negative : Shown A → Shown A
  product : Shown A → Shown A → Shown A

-- a node, with its operands shown by f
abbrev pub shown_node : {A : Type 0} → (ℕ → Shown A) → SymbolicExpr A → Shown A
shown_node f (Leaf a) = leaf a
shown_node f (Add x y d) = sum (f x) (f y)
shown_node f (Sub x y d) = difference (f x) (f y)
shown_node f (Neg x d) = negative (f x)
shown_node f (Mul x y d) = product (f x) (f y)

-- the name, if there is one; otherwise t
abbrev pub named_or : {A : Type 0} → Option ℕ → Shown A → Shown A
named_or None t = t
named_or (Some k) t = name k

-- expression i by its node, with each operand by its name if `named` gives it one
abbrev pub shown_at : {A : Type 0} → (ℕ → Option ℕ) → List (SymbolicExpr A) → ℕ → Shown A
shown_at named ns i = slice_index_or (in_turn nothing (λ f. shown_node (λ x. named_or (named x) (f x))) [] ns) i nothing

-- expression i as an operand or root: by its name, if it has one
abbrev pub shown_number : {A : Type 0} → (ℕ → Option ℕ) → List (SymbolicExpr A) → ℕ → Shown A
shown_number named ns i = named_or (named i) (shown_at named ns i)

-- ---- leaves

-- the name of a trace at the row o rows further on
abbrev pub rows_text : List ℕ → List ℕ → ℕ → List ℕ
rows_text here next o =
    if o == 0 then here else
    if o == 1 then next else here ++ (codes "@" ++ decimal o)

abbrev pub entry_text : BaseEntry → List ℕ
entry_text (Preprocessed o) = rows_text (codes "preprocessed") (codes "preprocessed_next") o
entry_text (Main o) = rows_text (codes "main") (codes "next") o
entry_text Periodic = codes "periodic"
entry_text Public = codes "public"

-- the canonical number n, or -(p - n) if n > p/2
abbrev pub constant_text : {F : Type 0} {p : ℕ} → Modular F p → F → List ℕ
constant_text {p = p} m c =
    if nat_lt p (2 * m.value c) then codes "-" ++ decimal (p - m.value c) else decimal (m.value c)

-- ---- parentheses

-- a sum or a difference needs parentheses, except before a plus or a minus
abbrev pub wraps_sum : Binding → Bool
wraps_sum Loose = false
wraps_sum Summand = true
wraps_sum Factor = true
wraps_sum Negated = true

-- a product needs parentheses after a times, and after a unary minus
abbrev pub wraps_product : Binding → Bool
wraps_product Loose = false
wraps_product Summand = false
wraps_product Factor = true
wraps_product Negated = true

-- a constant needs parentheses after a unary minus, since it may begin with a minus itself
abbrev pub wraps_constant : Binding → Bool
wraps_constant Loose = false
wraps_constant Summand = false
wraps_constant Factor = false
wraps_constant Negated = true

abbrev pub opening_text : Bool → List ℕ
opening_text wrap = if wrap then codes "(" else []

abbrev pub closing_text : Bool → List ℕ
closing_text wrap = if wrap then codes ")" else []

-- the text, in parentheses if needed
abbrev pub in_parentheses : Bool → List ℕ → List ℕ
in_parentheses wrap text = opening_text wrap ++ (text ++ closing_text wrap)

-- ---- texts

abbrev pub leaf_text : {F : Type 0} {p : ℕ} → Modular F p → Binding → BaseLeaf F → List ℕ
leaf_text m within (Variable v) = entry_text v.entry ++ (codes "[" ++ (decimal v.index ++ codes "]"))
leaf_text m within IsFirstRow = codes "is_first_row"
leaf_text m within IsLastRow = codes "is_last_row"
leaf_text m within IsTransition = codes "is_transition"
leaf_text m within (Constant c) = in_parentheses (wraps_constant within) (constant_text m c)

abbrev pub name_text : ℕ → List ℕ
name_text k = codes "%" ++ decimal k

-- Plus and minus have the same precedence, times binds closer, and all three associate to the left; unary minus binds closest.
abbrev pub infix_text : {F : Type 0} {p : ℕ} → Modular F p → Binding → Shown (BaseLeaf F) → List ℕ
infix_text m within nothing = []
infix_text m within (leaf a) = leaf_text m within a
infix_text m within (name k) = name_text k
infix_text m within (sum t u) = in_parentheses (wraps_sum within) (infix_text m Loose t ++ (codes " + " ++ infix_text m Summand u))
infix_text m within (difference t u) = in_parentheses (wraps_sum within) (infix_text m Loose t ++ (codes " - " ++ infix_text m Summand u))
infix_text m within (negative t) = codes "-" ++ infix_text m Negated t
infix_text m within (product t u) = in_parentheses (wraps_product within) (infix_text m Summand t ++ (codes " * " ++ infix_text m Factor u))
