-- Reading a list of nodes node by node.
use Rattle.std.specs.Prelude.{◌≡◌, ◌≢◌, ℕ, ◌<◌, ◌-◌, List, [], length, map, All, Option, Some, None, Result, Ok, Err, IfOk, IfErr, ok_or}
use Rattle.std.specs.List.{slice_get}
use Rattle.serde_json.specs.Data.{Data, Items}
use Rattle.serde_json.specs.View.{items_of}
use Rattle.air_symbolic.specs.Trees.{Tree}
use Rattle.air_json.specs.Results.{◌>>=◌}
use Rattle.air_json.specs.Nodes.{Kind}
use Rattle.air_json.specs.NodeLists.{AreNodes, FirstFault}
use Rattle.air_json.specs.declared.errors.FlatError.{FlatError}
use Rattle.air_json.specs.declared.errors.FlatError.TheVariants as faults
use Rattle.air_symbolic.specs.Numbered.{Numbered}
use Rattle.air_symbolic.specs.Pools.{Pool, size}

-- the reader's numbers, or the fault that it has met
abbrev pub numbers_or : List ℕ → Option FlatError → Result (List ℕ) FlatError
numbers_or ids None = Ok ids
numbers_or ids (Some f) = Err f

-- the last of the numbers
abbrev pub last_number : Result (List ℕ) FlatError → Result ℕ FlatError
last_number reader = reader >>= λ ids. ok_or (slice_get ids (length ids - 1)) faults.EmptyList

-- The reader has read the values ds. Either each is a node after those before it, and the reader has numbers of the
-- pool p with their trees, as `tree` gives them; or one isn't, and the reader has the first fault, or `Memory`.
pub record HasRead {U A S F : Type 0} (kind : Kind S F) (tree : Pool U A → ℕ → Option (Tree S))
    (p : Pool U A) (ds : List Data) (reader : Result (List ℕ) FlatError) : Type 0 where
  pub here : IfOk reader (λ ids. All (λ i. i < size p) ids)
  pub nodes : IfOk reader (λ ids. (ts : List (Tree S)) × (map (tree p) ids ≡ map Some ts)
      × AreNodes kind [] (items_of ds) ts)
  pub fault : IfErr reader (λ f. f ≢ faults.Memory → FirstFault kind [] (items_of ds) f)

-- While the reader read its nodes, the pool came from n nodes to m: each of the reader's numbers is an earlier one of
-- the pool or, for a new tree, the next one.
abbrev pub IsNumbered : ℕ → Result (List ℕ) FlatError → ℕ → Type 0
IsNumbered n reader m = IfOk reader (λ ids. Numbered n ids m)

-- The values ds are nodes, each after those before it. The pool p became q as they were made in it, one after another:
-- each node has the number of its tree in q, which is an earlier number or, for a new tree, the next one.
pub record ReadsInto {U A S F : Type 0} (kind : Kind S F) (tree : Pool U A → ℕ → Option (Tree S))
    (p q : Pool U A) (ds : Items) : Type 0 where
  pub ids : List ℕ
  pub trees : List (Tree S)
  pub nodes : AreNodes kind [] ds trees
  pub are : map (tree q) ids ≡ map Some trees
  pub numbered : Numbered (size p) ids (size q)
