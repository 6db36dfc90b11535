use Rattle.std.proofs.Common.{◌≡◌, ℕ, ◌≤◌, List, [], length}
use Rattle.json.specs.Json.{items, value, parse_map}
use Rattle.serde_json.specs.Data.{Data}
use Rattle.serde_json.specs.Read.{of_items, converted}
use Rattle.serde_json.specs.View.{items_of}
use Rattle.air_json.specs.BaseLeaves.{element_at}
use Rattle.air_object.specs.Parts.{AreElements}
use Rattle.air_object.specs.Readers.{each_from}
use Rattle.air_object.proofs.TokenLemmas.{data_before}
use Rattle.air_object.proofs.parts.read_items.Given as goal

abbrev pub decreases-items : goal.decreases-items
decreases-items g l = length l.reader

-- the elements read so far and the remaining ones are all elements
abbrev pub invariant-items : goal.invariant-items
invariant-items g l =
    (n : ℕ) × (length l.reader ≤ n) × (ds : List Data)
    × (converted of_items (items (value l.depth) (length l.initial.reader) l.initial.reader) ≡ parse_map (data_before ds) (converted of_items (items (value l.depth) n l.reader)))
    × (length l.reader ≤ length l.initial.reader)
    × AreElements (each_from (element_at g.F.PrimeField64.residues 0) [] (items_of ds)) l.elements
