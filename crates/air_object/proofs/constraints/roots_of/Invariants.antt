use Rattle.std.proofs.Common.{◌≡◌, [], drop, map}
use Rattle.serde_json.specs.View.{items_view}
use Rattle.air_symbolic.specs.Numbered.{trees_in}
use Rattle.air_symbolic.specs.Pools.{tree_at}
use Rattle.air_object.specs.Gained.{PoolTrees, GainsLists}
use Rattle.air_object.specs.Readers.{each_from, tree}
use Rattle.air_object.proofs.Trees.{GrownTo, AllIn}
use Rattle.air_object.proofs.constraints.roots_of.Given as goal

abbrev pub invariant-loop-item : goal.invariant-loop-item
invariant-loop-item g l = record {
  grown : GrownTo l.initial.pool l.pool;
  here : AllIn l.pool l.roots.items;
  read : each_from (tree g.F.PrimeField64.residues) (map (tree_at l.pool) l.roots.items) (items_view (drop l.item-index l.items)) ≡ each_from (tree g.F.PrimeField64.residues) [] (items_view l.items);
  -- whatever the rest gains after this, all gain from the beginning
  gained : (after : PoolTrees _) → GainsLists g.F.PrimeField64.residues (items_view (drop l.item-index l.items)) (trees_in l.pool) after → GainsLists g.F.PrimeField64.residues (items_view l.items) (trees_in l.initial.pool) after;
}
