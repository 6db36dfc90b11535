-- How a pool numbers trees: each tree once, in the order in which they are made first.
use Rattle.std.specs.Prelude.{◌≡◌, ℕ, ◌<◌, ◌+◌, ◌⊎◌, List, [], ◌∷◌, ◌++◌, Contains, Option, None}
use Rattle.air_symbolic.specs.Trees.{Tree}
use Rattle.air_symbolic.specs.Nodes.{in_turn, unfold_node}
use Rattle.air_symbolic.specs.Pools.{Pool, size}

-- The numbers of expressions that are made one after another in a pool, which has n nodes before and m nodes after:
-- each is an earlier number, or else it is the next one, and there is one more node.
abbrev pub Numbered : ℕ → List ℕ → ℕ → Type 0
Numbered n [] m = m ≡ n
Numbered n (i ∷ is) m = ((i < n) × Numbered n is m) ⊎ ((i ≡ n) × Numbered (n + 1) is m)

-- p becomes q as one expression is made, which has the number i
abbrev pub Numbers : {U A : Type 0} → Pool U A → Pool U A → ℕ → Type 0
Numbers p q i = Numbered (size p) (i ∷ []) (size q)

-- the trees of a pool's numbers, in order
abbrev pub trees_in : {U A : Type 0} → Pool U A → List (Option (Tree A))
trees_in p = in_turn None unfold_node [] p.nodes

-- `after` is `before`, followed by the elements of xs that aren't in `before`, each once, in the order in which they
-- occur first
abbrev pub GainsEach : {T : Type 0} → List T → List T → List T → Type 0
GainsEach before [] after = after ≡ before
GainsEach before (x ∷ xs) after =
    (Contains before x × GainsEach before xs after)
    ⊎ ((Contains before x → ⊥) × GainsEach (before ++ x ∷ []) xs after)
