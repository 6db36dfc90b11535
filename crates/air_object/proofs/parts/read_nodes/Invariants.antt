use Rattle.std.proofs.Common.{◌≡◌, ℕ, ◌≤◌, List, length}
use Rattle.json.specs.Json.{items, value, parse_map}
use Rattle.serde_json.specs.Data.{Data}
use Rattle.serde_json.specs.Read.{of_items, converted}
use Rattle.air_json.specs.BaseLeaves.{base_kind, base_seen}
use Rattle.air_json.specs.ListReaders.{HasRead, IsNumbered}
use Rattle.air_json.specs.Unshared.{seen_at}
use Rattle.air_object.proofs.TokenLemmas.{data_before}
use Rattle.air_object.proofs.Trees.{GrownTo}
use Rattle.air_object.proofs.parts.read_nodes.Given as goal

abbrev pub decreases-items : goal.decreases-items
decreases-items g l = length l.reader

-- the nodes read so far and the remaining ones are all nodes
abbrev pub invariant-items : goal.invariant-items
invariant-items g l =
    (n : ℕ) × (length l.reader ≤ n) × (ds : List Data)
    × (converted of_items (items (value l.depth) (length l.initial.reader) l.initial.reader) ≡ parse_map (data_before ds) (converted of_items (items (value l.depth) n l.reader)))
    × (length l.reader ≤ length l.initial.reader)
    × GrownTo l.initial.pool l.pool
    × HasRead (base_kind g.F.PrimeField64.residues) (seen_at base_seen) l.pool ds l.list
    × IsNumbered (length l.initial.pool.nodes) l.list (length l.pool.nodes)
