-- The tree that a simplified operation answers: the first simplification that fits.
use Rattle.std.specs.Prelude.{◌≡◌, ℕ, ◌<◌, Bool, Option, None, Some, if◌then◌else◌, option_map}
use Rattle.air_field.specs.Ring.{CommRing, minus}
use Rattle.air_symbolic.specs.Leaves.{Leaves}
use Rattle.air_symbolic.specs.Trees.{Tree, add_tree, sub_tree, neg_tree, mul_tree, both}
use Rattle.air_symbolic.specs.Pools.{tree_at, constant_at, IsConst, Pool, size}
use Rattle.air_symbolic.specs.declared.pools.simplify.Simplified.{Simplified}
use Rattle.air_symbolic.specs.declared.pools.simplify.Simplified.TheVariants.{Constant, Left, Right, Negated}

-- What the operands' constants, if any, simplify an operation to; None if a node is needed. The operation gives its
-- left operand if the right one is zero, and `from_zero` if the left one is.
abbrev pub simplified_by_zero : {F : Type 0} → CommRing F → (F → F → Bool) → (F → F → F) → Simplified F → Option F → Option F → Option (Simplified F)
simplified_by_zero r eq op from_zero (Some a) (Some b) = Some (Constant (op a b))
simplified_by_zero r eq op from_zero (Some a) None = if eq a r.zero then Some from_zero else None
simplified_by_zero r eq op from_zero None (Some b) = if eq b r.zero then Some Left else None
simplified_by_zero r eq op from_zero None None = None

abbrev pub simplified_sum : {F : Type 0} → CommRing F → (F → F → Bool) → Option F → Option F → Option (Simplified F)
simplified_sum r eq = simplified_by_zero r eq r.add Right

abbrev pub simplified_difference : {F : Type 0} → CommRing F → (F → F → Bool) → Option F → Option F → Option (Simplified F)
simplified_difference r eq = simplified_by_zero r eq (minus r) Negated

abbrev pub simplified_product : {F : Type 0} → CommRing F → (F → F → Bool) → Option F → Option F → Option (Simplified F)
simplified_product r eq (Some a) (Some b) = Some (Constant (r.mul a b))
simplified_product r eq (Some a) None =
    if eq a r.zero then Some (Constant r.zero) else (if eq a r.one then Some Right else None)
simplified_product r eq None (Some b) =
    if eq b r.zero then Some (Constant r.zero) else (if eq b r.one then Some Left else None)
simplified_product r eq None None = None

abbrev pub simplified_negative : {F : Type 0} → CommRing F → Option F → Option (Simplified F)
simplified_negative r (Some a) = Some (Constant (r.neg a))
simplified_negative r None = None

-- v is what the simplification says of the operands t and u: a constant, one of them, or the negated right one
abbrev pub IsSimplifiedTo : {A F : Type 0} → Leaves A F → Option (Tree A) → Option (Tree A) → Simplified F → Option (Tree A) → Type 0
IsSimplifiedTo l t u (Constant c) v = IsConst l c v
IsSimplifiedTo l t u Left v = v ≡ t
IsSimplifiedTo l t u Right v = v ≡ u
IsSimplifiedTo l t u Negated v = v ≡ option_map neg_tree u

-- v is what the simplification says, or the node `plain` if there is none
abbrev pub IsSimplified : {A F : Type 0} → Leaves A F → Option (Tree A) → Option (Tree A) → Option (Tree A) → Option (Simplified F) → Option (Tree A) → Type 0
IsSimplified l t u plain (Some simplified) v = IsSimplifiedTo l t u simplified v
IsSimplified l t u plain None v = v ≡ plain

-- number i of the pool q is what the simplification says of the operands t and u
pub record HasSimplified {U A F : Type 0} (reads : U → Leaves A F) (q : Pool U A) (t u : Option (Tree A)) (simplified : Simplified F) (i : ℕ) : Type 0 where
  pub here : i < size q
  pub tree : IsSimplifiedTo (reads q.base) t u simplified (tree_at q i)

-- number i of the pool q is an operation on numbers x and y of the pool p: what it simplifies to, or else its node
pub record IsOperation {U A F : Type 0} (reads : U → Leaves A F) (p q : Pool U A)
    (node : Option (Tree A) → Option (Tree A) → Option (Tree A)) (simplify : Option F → Option F → Option (Simplified F)) (x y i : ℕ) : Type 0 where
  pub here : i < size q
  pub tree : IsSimplified (reads q.base) (tree_at p x) (tree_at p y) (node (tree_at p x) (tree_at p y)) (simplify (constant_at reads p x) (constant_at reads p y)) (tree_at q i)

module _ {U A F : Type 0} (reads : U → Leaves A F) (r : CommRing F) (eq : F → F → Bool) (p q : Pool U A) where
  abbrev pub IsSum : ℕ → ℕ → ℕ → Type 0
  IsSum x y = IsOperation reads p q (both add_tree) (simplified_sum r eq) x y

  abbrev pub IsDifference : ℕ → ℕ → ℕ → Type 0
  IsDifference x y = IsOperation reads p q (both sub_tree) (simplified_difference r eq) x y

  abbrev pub IsProduct : ℕ → ℕ → ℕ → Type 0
  IsProduct x y = IsOperation reads p q (both mul_tree) (simplified_product r eq) x y

  -- an operation on x only
  abbrev pub IsNegative : ℕ → ℕ → Type 0
  IsNegative x = IsOperation reads p q (λ t _. option_map neg_tree t) (λ o _. simplified_negative r o) x x

-- the product of x and y needs a node
abbrev pub NeedsNode : {U A F : Type 0} → (U → Leaves A F) → CommRing F → (F → F → Bool) → Pool U A → ℕ → ℕ → Type 0
NeedsNode reads r eq p x y = simplified_product r eq (constant_at reads p x) (constant_at reads p y) ≡ None
