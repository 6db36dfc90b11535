-- Terms: unshared, unfolded expressions over named leaves.
use Rattle.std.specs.Prelude.{ℕ, List, ⊤}

-- A leaf that isn't a constant.
pub data Leaf : Type 0 where
  preprocessed : ℕ → ℕ → Leaf
  main : ℕ → ℕ → Leaf
  periodic : ℕ → Leaf
  public : ℕ → Leaf
  first_row : Leaf
  last_row : Leaf
  transition : Leaf
  permutation : ℕ → ℕ → Leaf
  challenge : ℕ → Leaf
  permutation_value : ℕ → Leaf

pub data Term (F : Type 0) : Type 0 where
  leaf_term : Leaf → Term F
  const_term : F → Term F
  ext_const_term : List F → Term F
  add_term : Term F → Term F → Term F
  sub_term : Term F → Term F → Term F
  neg_term : Term F → Term F
  mul_term : Term F → Term F → Term F

-- the term with another term at each leaf
abbrev pub with_leaves : {F : Type 0} → (Leaf → Term F) → Term F → Term F
with_leaves s (leaf_term l) = s l
with_leaves s (const_term c) = const_term c
with_leaves s (ext_const_term cs) = ext_const_term cs
with_leaves s (add_term x y) = add_term (with_leaves s x) (with_leaves s y)
with_leaves s (sub_term x y) = sub_term (with_leaves s x) (with_leaves s y)
with_leaves s (neg_term x) = neg_term (with_leaves s x)
with_leaves s (mul_term x y) = mul_term (with_leaves s x) (with_leaves s y)

-- the leaf or term has only base leaves and base constants
abbrev pub IsBaseLeaf : Leaf → Type 0
IsBaseLeaf (preprocessed o i) = ⊤
IsBaseLeaf (main o i) = ⊤
IsBaseLeaf (periodic i) = ⊤
IsBaseLeaf (public i) = ⊤
IsBaseLeaf first_row = ⊤
IsBaseLeaf last_row = ⊤
IsBaseLeaf transition = ⊤
IsBaseLeaf (permutation o i) = ⊥
IsBaseLeaf (challenge i) = ⊥
IsBaseLeaf (permutation_value i) = ⊥

abbrev pub IsBase : {F : Type 0} → Term F → Type 0
IsBase (leaf_term l) = IsBaseLeaf l
IsBase (const_term c) = ⊤
IsBase (ext_const_term cs) = ⊥
IsBase (add_term t u) = IsBase t × IsBase u
IsBase (sub_term t u) = IsBase t × IsBase u
IsBase (neg_term t) = IsBase t
IsBase (mul_term t u) = IsBase t × IsBase u
