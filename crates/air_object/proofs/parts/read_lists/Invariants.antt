use Rattle.std.proofs.Common.{◌≡◌, ℕ, ◌≤◌, List, [], length}
use Rattle.json.specs.Json.{items, value, parse_map}
use Rattle.serde_json.specs.Data.{Data}
use Rattle.serde_json.specs.Read.{of_items, converted}
use Rattle.serde_json.specs.View.{items_of}
use Rattle.air_object.specs.Gained.{GainsLists}
use Rattle.air_object.specs.Parts.{AreGiven}
use Rattle.air_object.specs.Readers.{each_from, tree}
use Rattle.air_object.proofs.TokenLemmas.{data_before}
use Rattle.air_object.proofs.parts.read_lists.Given as goal

abbrev pub decreases-items : goal.decreases-items
decreases-items g l = length l.reader

-- the lists read so far and the remaining ones are all lists
abbrev pub invariant-items : goal.invariant-items
invariant-items g l =
    (n : ℕ) × (length l.reader ≤ n) × (ds : List Data)
    × (converted of_items (items (value l.depth) (length l.initial.reader) l.initial.reader) ≡ parse_map (data_before ds) (converted of_items (items (value l.depth) n l.reader)))
    × (length l.reader ≤ length l.initial.reader)
    × AreGiven (each_from (tree g.F.PrimeField64.residues) [] (items_of ds)) (GainsLists g.F.PrimeField64.residues (items_of ds) []) l.constraints
