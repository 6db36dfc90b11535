use Rattle.std.proofs.Common.{◌≡◌, [], drop, map}
use Rattle.serde_json.specs.View.{items_view}
use Rattle.air_object.specs.Readers.{each_from, elements}
use Rattle.air_object.proofs.elements.columns_of.Given as goal

abbrev pub invariant-loop-item : goal.invariant-loop-item
invariant-loop-item g l = each_from (elements g.F.PrimeField64.residues) (map (λ c. c.items) l.columns.items) (items_view (drop l.item-index l.items)) ≡ each_from (elements g.F.PrimeField64.residues) [] (items_view l.items)
