-- The weights of the leaves that a caller can choose.
use Rattle.std.specs.Prelude.{ℕ, ◌≤◌, ◌^◌, ◌⊎◌, List, [], ◌∷◌}
use Rattle.air_field.specs.Term.{Leaf}
use Rattle.air_field.specs.Degree.{cached_weight, transition_weight, trace_weight}
use Rattle.air_symbolic.specs.declared.pools.weight.LeafWeight.{LeafWeight}
use Rattle.air_symbolic.specs.declared.pools.weight.LeafWeight.TheVariants.{Cached, Transition, Trace}

abbrev pub leaf_weight : LeafWeight → Leaf → ℕ
leaf_weight Cached = cached_weight
leaf_weight (Transition w) = transition_weight w
leaf_weight (Trace n periods) = trace_weight n periods.now

-- The number of turns for the degrees of a pool with n nodes, those of its base included: cached degrees are stated by
-- the nodes, and for other weights each node takes one turn.
abbrev pub turns_by : LeafWeight → ℕ → ℕ
turns_by Cached n = 0
turns_by (Transition w) n = n
turns_by (Trace m periods) n = n

-- one of the degrees exceeds `usize`
abbrev pub SomeOverflows : List ℕ → Type 0
SomeOverflows [] = ⊥
SomeOverflows (d ∷ ds) = (2 ^ 64 ≤ d) ⊎ SomeOverflows ds
