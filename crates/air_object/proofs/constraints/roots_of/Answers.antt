use Rattle.std.proofs.Common.{map, sym, ap, subst}
use Rattle.std.proofs.lemmas.List.{map_push, drop_all}
use Rattle.serde_json.specs.View.{view, items_view}
use Rattle.air_symbolic.specs.Numbered.{trees_in}
use Rattle.air_symbolic.specs.Pools.{tree_at}
use Rattle.air_json.specs.declared.errors.FlatError.TheVariants.{Memory}
use Rattle.air_json.specs.laws.ReadCalls.{gives_up_all}
use Rattle.air_object.specs.Gained.{GainsLists}
use Rattle.air_object.specs.Readers.{tree}
use Rattle.air_object.proofs.Gains.{none_gain, gains_first}
use Rattle.air_object.proofs.Loop.{items_at, goes_on, ends, is_done}
use Rattle.air_object.proofs.Trees.{grown_on, all_in_push, trees_kept}
use Rattle.air_object.proofs.constraints.roots_of.Goals as goal

pub returns-in_err-root-clause-read : goal.returns-in_err-root-clause-read
returns-in_err-root-clause-read g c =
    gives_up_all c.in_err-root.field-0.0
    (grown_on g.F.PrimeField64.residues c.args.pool.now c.loop-item.pool c.root_from.new.pool c.loop-item.invariant.grown c.root_from.ensures.read.grown)
    c.from_residual.ensures.1
    (ends (tree g.F.PrimeField64.residues) c.args.items.now (map (tree_at c.loop-item.pool) c.loop-item.roots.items) c.loop-item.item-index c.item-item.result c.in_err-root.field-0.0 _ c.loop-item-test.true c.item-item.is c.in_err-root.ensures.read.read c.loop-item.invariant.read)

pub returns-in_err-push-clause-read : goal.returns-in_err-push-clause-read
returns-in_err-push-clause-read g c =
    gives_up_all Memory
    (grown_on g.F.PrimeField64.residues c.args.pool.now c.loop-item.pool c.root_from.new.pool c.loop-item.invariant.grown c.root_from.ensures.read.grown)
    c.from_residual-in_err-push.ensures.1 tt

pub loop-item-preserved : goal.loop-item-preserved
loop-item-preserved g c =
    let old = c.loop-item.pool in
    let new = c.root_from.new.pool in
    let roots = c.loop-item.roots.items in
    let kept = trees_kept g.F.PrimeField64.residues old new roots c.root_from.ensures.read.grown c.loop-item.invariant.here in
    record {
      grown = grown_on g.F.PrimeField64.residues c.args.pool.now old new c.loop-item.invariant.grown c.root_from.ensures.read.grown;
      here = rw c.in_ok-push.ensures.items (all_in_push g.F.PrimeField64.residues old new roots c.in_ok-root.root c.root_from.ensures.read.grown c.loop-item.invariant.here c.in_ok-root.ensures.read.here);
      read = rw (c.in_ok-push.ensures.items, map_push, kept) (goes_on (tree g.F.PrimeField64.residues) c.args.items.now (map (tree_at old) roots) c.loop-item.item-index c.item-item.result (tree_at new c.in_ok-root.root) _ c.loop-item-test.true c.item-item.is c.in_ok-root.ensures.read.read c.loop-item.invariant.read);
      gained = λ q h. c.loop-item.invariant.gained q (subst (λ ds. GainsLists g.F.PrimeField64.residues ds (trees_in old) q) (sym (items_at c.args.items.now c.loop-item.item-index c.item-item.result c.loop-item-test.true c.item-item.is))
          (gains_first g.F.PrimeField64.residues (view c.item-item.result) _ (trees_in old) (trees_in new) q c.in_ok-root.ensures.gained h));
    }

pub returns-clause-read : goal.returns-clause-read
returns-clause-read g c = record {
  grown = c.loop-item.invariant.grown;
  here = c.loop-item.invariant.here;
  read = is_done (tree g.F.PrimeField64.residues) c.args.items.now (map (tree_at c.loop-item.pool) c.loop-item.roots.items) c.loop-item.item-index _ c.loop-item-test.false c.loop-item.invariant.read;
}

pub returns-clause-gained : goal.returns-clause-gained
returns-clause-gained g c =
    let l = c.loop-item in
    let none = drop_all l.item-index c.args.items.now c.loop-item-test.false in
    l.invariant.gained (trees_in l.pool) (subst (λ ds. GainsLists g.F.PrimeField64.residues ds (trees_in l.pool) (trees_in l.pool)) (sym (ap items_view none)) (none_gain g.F.PrimeField64.residues (trees_in l.pool)))
