use Rattle.std.proofs.Common.{◌≡◌, [], drop}
use Rattle.serde_json.specs.View.{items_view}
use Rattle.air_json.specs.BaseLeaves.{element_at}
use Rattle.air_object.specs.Readers.{each_from}
use Rattle.air_object.proofs.elements.elements_of.Given as goal

-- the elements so far, followed by those of the remaining items, are the whole result
abbrev pub invariant-loop-item : goal.invariant-loop-item
invariant-loop-item g l = each_from (element_at g.F.PrimeField64.residues 0) l.elements.items (items_view (drop l.item-index l.items)) ≡ each_from (element_at g.F.PrimeField64.residues 0) [] (items_view l.items)
