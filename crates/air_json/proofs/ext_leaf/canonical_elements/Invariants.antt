use Rattle.std.proofs.Common.{◌≡◌, take, drop, map}
use Rattle.std.specs.List.{list_all}
use Rattle.air_json.specs.Coefficients.{is_canonical}
use Rattle.air_json.proofs.ext_leaf.canonical_elements.Given as goal

abbrev pub invariant-loop-number : goal.invariant-loop-number
invariant-loop-number g l = record {
  same : l.elements.items ≡ map g.F.PrimeField64.residues.class (take l.number-index l.numbers);
  left : list_all (is_canonical g.F.PrimeField64.ORDER_U64) (drop l.number-index l.numbers) ≡ list_all (is_canonical g.F.PrimeField64.ORDER_U64) l.numbers;
}
