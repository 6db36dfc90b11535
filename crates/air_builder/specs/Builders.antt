-- A builder's view and the laws that every builder keeps.
use Rattle.std.specs.Prelude.{◌≡◌, ℕ, List, [], ◌++◌, Some, slice_get}
use Rattle.air_field.specs.Algebra.{AlgebraLaws}
use Rattle.air_field.specs.Term.{Leaf, first_row, last_row, transition, Term, leaf_term, const_term, sub_term, with_leaves}
use Rattle.air_field.specs.declared.errors.RingError.{RingError}
use Rattle.air_core.specs.declared.errors.AirError.{AirError}
use Rattle.air_core.specs.Errors.{air_error}
use Rattle.air_builder.specs.Refusals.{IsPastWindow, NamesLeaf, PartOf}
use Rattle.air_builder.specs.Assertion.{Assertion}

-- an element means a term in a builder: it does in the builder's ring, once each leaf is replaced by how the builder reads
-- it
abbrev pub Means : {S R E F : Type 0} → (R → E → Term F → Type 0) → (S → R) → (S → Leaf → Term F) → S → E → Term F → Type 0
Means means ring_of reads_as b x t = means (ring_of b) x (with_leaves (reads_as b) t)

-- the variable at each index i of a row means the term `at i`
abbrev pub RowReadsAs : {V F : Type 0} → (V → Term F → Type 0) → (ℕ → Term F) → List V → Type 0
RowReadsAs {V} means at row = (i : ℕ) (v : V) → slice_get row i ≡ Some v → means v (at i)

-- the variable means the term that the leaf reads as
abbrev pub VariableReadsAs : {V F : Type 0} → (V → Term F → Type 0) → (Leaf → Term F) → Leaf → V → Type 0
VariableReadsAs means reads_as l v = means v (reads_as l)

-- x - 1
abbrev pub less_one_term : {F : Type 0} → F → Term F → Term F
less_one_term one t = sub_term t (const_term one)

-- in the new builder z means the operation on the terms that x and y meant in the old one
abbrev pub MeansOfBoth : {S E F : Type 0} → (S → E → Term F → Type 0) → (Term F → Term F → Term F) → S → S → E → E → E → Type 0
MeansOfBoth {F = F} means op a b x y z = (t u : Term F) → means a x t → means a y u → means b z (op t u)

-- A builder's view: the ghost members of its ring, whose refusals are `ring_refuses`, and its own.
pub record BuilderView (S R E F : Type 0) : Type 1 where
  pub valid : R → Type 0
  pub has : R → E → Type 0
  pub means : R → E → Term F → Type 0
  pub extends : R → R → Type 0
  pub ring_refuses : RingError → Term F → Type 0
  pub ring_of : S → R
  pub with_ring : S → R → S
  pub reads_as : S → Leaf → Term F
  pub ready : S → Type 0
  pub kept : S → S → Type 0
  pub grew : S → S → List (Assertion F) → Type 0
  pub missing : S → Leaf → Type 0
  pub refuses : S → AirError → List (Assertion F) → Type 0

-- the laws of the builder's ring
abbrev pub RingLaws : {S R E F : Type 0} → BuilderView S R E F → Type 0
RingLaws view = AlgebraLaws view.valid view.has view.means view.extends view.ring_refuses

-- an element means a term in the builder
abbrev pub MeansIn : {S R E F : Type 0} → BuilderView S R E F → S → E → Term F → Type 0
MeansIn view = Means view.means view.ring_of view.reads_as

-- any list that contains the operation on the terms of x and y as a part may be refused with e
abbrev pub RefusesPartOfBoth : {S R E F : Type 0} → BuilderView S R E F → (Term F → Term F → Term F) → S → E → E → AirError → Type 0
RefusesPartOfBoth {F = F} view op a x y e = (t u : Term F) (ts : List (Assertion F)) → MeansIn view a x t → MeansIn view a y u
    → PartOf (op t u) ts → view.refuses a e ts

-- The laws of every builder. Growth joins; lending the ring grows nothing; what the ring had, it still has.
pub record BuilderLaws {S R E F : Type 0} (view : BuilderView S R E F) : Type 0 where
  -- growth by nothing, and by one list after another
  pub same : (a : S) → view.grew a a []
  pub joined : (a b c : S) (xs ys : List (Assertion F)) → view.grew a b xs → view.grew b c ys → view.grew a c (xs ++ ys)
  -- the lent ring: the one that comes back must extend it, and becomes the builder's
  pub ring_lent : (a : S) (r : R) → view.extends (view.ring_of a) r → view.grew a (view.with_ring a r) []
  pub ring_with : (a : S) (r : R) → view.ring_of (view.with_ring a r) ≡ r
  pub ring_valid : (a : S) → view.ready a → view.valid (view.ring_of a)
  -- preserved by growth: the ring's elements, how leaves read, which entries are missing
  pub by_growth : (a b : S) (xs : List (Assertion F)) → view.grew a b xs → view.kept a b
  pub kept_joined : (a b c : S) → view.kept a b → view.kept b c → view.kept a c
  pub ring_kept : (a b : S) → view.kept a b → view.extends (view.ring_of a) (view.ring_of b)
  pub reads_as_kept : (a b : S) → view.kept a b → view.reads_as b ≡ view.reads_as a
  pub ready_kept : (a b : S) → view.kept a b → view.ready a → view.ready b
  pub missing_kept : (a b : S) (l : Leaf) → view.kept a b → view.missing b l → view.missing a l
  pub missing_stays : (a b : S) (l : Leaf) → view.kept a b → view.missing a l → view.missing b l
  -- the entries that every builder has, or lacks
  pub past_window : (a : S) (o : ℕ) (l : Leaf) → IsPastWindow o l → view.missing a l
  pub has_first_row : (a : S) → view.missing a first_row → ⊥
  pub has_last_row : (a : S) → view.missing a last_row → ⊥
  pub has_transition : (a : S) → view.missing a transition → ⊥
  -- a list may be refused if a part of it may be, or if the ring or a missing entry refuses a part
  pub refuses_first : (a : S) (e : AirError) (xs ys : List (Assertion F))
      → view.refuses a e xs → view.refuses a e (xs ++ ys)
  pub refuses_then : (a b : S) (e : AirError) (xs ys : List (Assertion F))
      → view.grew a b xs → view.refuses b e ys → view.refuses a e (xs ++ ys)
  pub refuses_in_ring : (a : S) (e : RingError) (t : Term F) (ts : List (Assertion F))
      → view.ring_refuses e (with_leaves (view.reads_as a) t) → PartOf t ts → view.refuses a (air_error e) ts
  pub refuses_missing : (a : S) (e : AirError) (l : Leaf) (ts : List (Assertion F))
      → view.missing a l → NamesLeaf e l → PartOf (leaf_term l) ts → view.refuses a e ts
