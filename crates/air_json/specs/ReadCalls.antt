-- The answers of calls that read nodes into a pool.
use Rattle.std.specs.Prelude.{ℕ, ◌<◌, List, map, All, Option, Result, IfOk}
use Rattle.air_symbolic.specs.Leaves.{Leaves}
use Rattle.air_symbolic.specs.Trees.{Tree}
use Rattle.air_symbolic.specs.Numbered.{Numbers}
use Rattle.air_symbolic.specs.Pools.{IsPool, Grown, Pool, size}
use Rattle.air_json.specs.Results.{Gives}
use Rattle.air_json.specs.declared.errors.FlatError.{FlatError}

-- the numbers are in the pool
pub record AreOf {U A F : Type 0} (reads : U → Leaves A F) (p : Pool U A) (ids : List ℕ) : Type 0 where
  pub pool : IsPool reads p
  pub ids_in : All (λ i. i < size p) ids

-- The pool has grown, and the answer is a number of it with the tree `given`, or the fault `given`, or `Memory`. The
-- tree of a number is the one that `tree` gives.
pub record ReadsTree {U A S F : Type 0} (grows : U → U → Type 0) (reads : U → Leaves A F)
    (tree : Pool U A → ℕ → Option (Tree S)) (p q : Pool U A) (result : Result ℕ FlatError)
    (given : Result (Option (Tree S)) FlatError) : Type 0 where
  pub grown : Grown grows reads p q
  pub here : IfOk result (λ i. i < size q)
  pub read : Gives (tree q) result given

-- `ReadsTree` for one node: the number is an earlier one of the pool or, for a new tree, the next one
pub record ReadsNode {U A S F : Type 0} (grows : U → U → Type 0) (reads : U → Leaves A F)
    (tree : Pool U A → ℕ → Option (Tree S)) (p q : Pool U A) (result : Result ℕ FlatError)
    (given : Result (Option (Tree S)) FlatError) : Type 0 where
  pub grown : Grown grows reads p q
  pub here : IfOk result (λ i. i < size q)
  pub read : Gives (tree q) result given
  pub numbered : IfOk result (Numbers p q)

-- `ReadsTree` for a list of trees; `numbers` gives the numbers of the answer
pub record ReadsAll {U A S F X : Type 0} (grows : U → U → Type 0) (reads : U → Leaves A F)
    (tree : Pool U A → ℕ → Option (Tree S)) (numbers : X → List ℕ) (p q : Pool U A)
    (result : Result X FlatError) (given : Result (List (Option (Tree S))) FlatError) : Type 0 where
  pub grown : Grown grows reads p q
  pub here : IfOk result (λ ids. All (λ i. i < size q) (numbers ids))
  pub read : Gives (λ ids. map (tree q) (numbers ids)) result given
