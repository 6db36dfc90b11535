use Rattle.std.proofs.Common.{◌≡◌, take, map}
use Rattle.serde_json.specs.View.{view}
use Rattle.air_object.specs.Writing.{elements_data}
use Rattle.air_object.proofs.writing.columns_value.Given as goal

abbrev pub invariant-loop-column : goal.invariant-loop-column
invariant-loop-column g l = map view l.items.items ≡ map (λ c. elements_data g.F.PrimeField64.residues c.items) (take l.column-index l.columns)
